-- The canonical text of a plain model, read in free form, means that model.
use Rattle.std.proofs.Common.{◌≡◌, ℕ, ◌^◌, ◌<◌, ◌≤◌, ℤ, List, [], ◌∷◌, length, map, filter_map, Option, Some, None, refl, sym, ap, ◌∙◌, arith}
use Rattle.std.specs.Prelude.{find, option_map, nat_abs, neg_ℤ}
use Rattle.std.specs.List.{AllByRecursion}
use Rattle.exact_math.specs.Rational.{ℚ, whole, neg_ℚ}
use Rattle.exact_math.specs.IntegerRing.{linear}
use Rattle.exact_math.specs.RationalLaws.{same_from_cross}
use Rattle.exact_math.specs.RationalFloor.{whole_from_den}
use Rattle.int_model.specs.declared.model.Item.{Item}
use Rattle.int_model.specs.declared.model.Column.{Column}
use Rattle.int_model.specs.declared.model.Row.{Row}
use Rattle.int_model.specs.declared.model.Model.{Model}
use Rattle.mps_model.specs.Tables.{PairLine, Tables}
use Rattle.mps_model.specs.Sides.{Sides, side_in, number_beside, pairs_of, sided_rows, objective_row, sides_of, ranged_sides, constant_of}
use Rattle.mps_model.specs.Bounds.{column_names}
use Rattle.mps_model.specs.StatedModel.{items_of, objective_items, stated_row, stated}
use Rattle.mps_model.specs.Meaning.{first_column_fault}
use Rattle.mps_write.specs.PlainModels.{ArePlainItems, ArePlainSides, IsPlainRow, IsPlain}
use Rattle.mps_write.specs.CanonicalText.{row_right_side, row_range, NamedItems, items_of_row, all_items, factor_pair, side_pairs, range_pairs}
use Rattle.mps_write.proofs.NameLaws.{is_under, each_under, each_unmap, map_agrees}
use Rattle.mps_write.proofs.RowScans.{row_line, objective_line, sided_is}
use Rattle.mps_write.proofs.ColumnScans.{EachSaid}
use Rattle.mps_write.proofs.BoundScans.{all_bounds, bound_line}
use Rattle.mps_write.proofs.ItemsBack.{named_pair, items_back}
use Rattle.mps_write.proofs.SidesBack.{sided_name, sided_number, all_sided, sides_back, ranges_back, sides_made, both_sides}
use Rattle.mps_write.proofs.BoundsBack.{columns_back, columns_clear}
use Rattle.mps_write.proofs.PlainFacts.{IsRowName, both_each}
use Rattle.mps_write.proofs.GoodTables.{map_map, all_names, plain_rows, plain_columns, fresh_rows_alone, fresh_columns, fresh_named, fresh_sided, items_can, sides_can}

-- ---- the tables of the text

-- the tables say what the model has
pub record SayModel (model : Model) (tables : Tables) : Type 0 where
  pub rows : tables.rows ≡ objective_line ∷ map row_line model.rows
  pub names : column_names tables.columns ≡ map (λ (column : Column). column.name) model.columns
  pub factors : EachSaid (all_items model) tables.columns 0 model.columns
  pub sides : pairs_of tables.sides ≡ side_pairs model
  pub ranges : pairs_of tables.ranges ≡ range_pairs model.rows
  pub bounds : tables.bounds ≡ map bound_line (all_bounds model.columns)

each_for_all : {X Y : Type 0} (P : Y → X → Type 0) (xs : List X) → ((y : Y) → AllByRecursion (P y) xs) → AllByRecursion (λ x. (y : Y) → P y x) xs
each_for_all P [] all = tt
each_for_all P (x ∷ xs) all = (λ y. (all y).0, each_for_all P xs (λ y. (all y).1))

abbrev as_row : List ℕ → Option ℚ → Option ℚ → List Item → Row
as_row name lo hi items = record { name = name; lo = lo; hi = hi; items = items }

map_same : {X : Type 0} (xs : List X) → map (λ x. x) xs ≡ xs
map_same [] = refl
map_same (x ∷ xs) = ap (λ rest. x ∷ rest) (map_same xs)

neg_whole : (z : ℤ) → neg_ℚ (whole z) ≡ whole (neg_ℤ z)
unfolding whole neg_ℚ
neg_whole z = same_from_cross (neg_ℚ (whole z)) (whole (neg_ℤ z)) refl

twice : (z : ℤ) → neg_ℤ (neg_ℤ z) ≡ z
twice z = omega linear

same_model : {columns others : List Column} {rows more : List Row} {objective terms : List Item} {constant number : ℚ} → columns ≡ others → rows ≡ more → objective ≡ terms → constant ≡ number
    → ◌≡◌ {A = Model} (record { columns = columns; rows = rows; objective = objective; constant = constant }) (record { columns = others; rows = more; objective = terms; constant = number })
same_model p q r s = cc

module _ (model : Model) (plain : IsPlain model) (lines : List PairLine) (said : pairs_of lines ≡ side_pairs model) where
  -- the right sides of the objective and of the rows
  pub right_sides : AllByRecursion (λ x. side_in lines (sided_name x) ≡ whole (sided_number model x)) (all_sided model)
  right_sides =
      both_each (λ x. nat_abs (sided_number model x) < 2 ^ 127 → side_in lines (sided_name x) ≡ whole (sided_number model x))
      (λ x. IsRowName (all_names model) (sided_name x) × (nat_abs (sided_number model x) ≤ 2 ^ 96))
      (λ x. side_in lines (sided_name x) ≡ whole (sided_number model x)) (all_sided model)
      (λ x back can. back (omega (arith, can.1)))
      (sides_back model lines said (fresh_sided model plain)) (sides_can model plain)

  pub row_sides : AllByRecursion (λ (row : Row). side_in lines row.name ≡ whole (row_right_side row)) model.rows
  row_sides = each_unmap (λ x. side_in lines (sided_name x) ≡ whole (sided_number model x)) Some model.rows right_sides.1

module _ (model : Model) (plain : IsPlain model) (tables : Tables) (say : SayModel model tables) where
  all_under : AllByRecursion (λ (x : NamedItems). (j : ℕ) → find (is_under x.name) (filter_map (factor_pair j) (all_items model)) ≡ factor_pair j x) (all_items model)
  all_under =
      each_for_all (λ j (x : NamedItems). find (is_under x.name) (filter_map (factor_pair j) (all_items model)) ≡ factor_pair j x) (all_items model)
      (λ j. each_under (λ (x : NamedItems). x.name) (factor_pair j) (named_pair j) [] (all_items model) (fresh_named model plain))

  -- the terms of the objective and of the rows
  all_terms : AllByRecursion (λ (x : NamedItems). items_of tables x.name ≡ x.items) (all_items model)
  all_terms =
      both_each (λ (x : NamedItems). IsRowName (all_names model) x.name × ArePlainItems (length model.columns) x.items)
      (λ (x : NamedItems). (j : ℕ) → find (is_under x.name) (filter_map (factor_pair j) (all_items model)) ≡ factor_pair j x)
      (λ (x : NamedItems). items_of tables x.name ≡ x.items) (all_items model)
      (λ x can under. items_back (all_items model) model.columns tables say.names say.factors (fresh_columns model plain) x can.1 under)
      (items_can model plain) all_under

  row_terms : AllByRecursion (λ (row : Row). items_of tables row.name ≡ row.items) model.rows
  row_terms = each_unmap (λ (x : NamedItems). items_of tables x.name ≡ x.items) items_of_row model.rows all_terms.1

  -- ---- the rows

  row_back : (row : Row) → IsPlainRow (length model.columns) row → items_of tables row.name ≡ row.items → side_in tables.sides row.name ≡ whole (row_right_side row)
      → (ArePlainSides row.lo row.hi → number_beside (pairs_of tables.ranges) row.name ≡ option_map whole (row_range row)) → stated_row tables (row_line row) ≡ row
  row_back row can terms side range =
      let sides : sides_of tables (row_line row) ≡ both_sides row.lo row.hi =
      ap (λ b. ranged_sides (row_line row) b (number_beside (pairs_of tables.ranges) row.name)) side
      ∙ ap (ranged_sides (row_line row) (whole (row_right_side row))) (range can.sides)
      ∙ sides_made row.lo row.hi row.name can.sides
      in
      ap (λ (s : Sides). as_row row.name s.lo s.hi (items_of tables row.name)) sides ∙ ap (as_row row.name row.lo row.hi) terms

  rows_back : map (stated_row tables) (sided_rows tables.rows) ≡ model.rows
  rows_back =
      ap (λ rows. map (stated_row tables) (sided_rows rows)) say.rows
      ∙ ap (map (stated_row tables)) (sided_is model.rows)
      ∙ map_map (stated_row tables) row_line model.rows
      ∙ map_agrees (λ row. stated_row tables (row_line row)) (λ row. row) model.rows
      (both_each (λ (row : Row). IsPlainRow (length model.columns) row × (items_of tables row.name ≡ row.items))
      (λ (row : Row). (side_in tables.sides row.name ≡ whole (row_right_side row)) × (ArePlainSides row.lo row.hi → number_beside (pairs_of tables.ranges) row.name ≡ option_map whole (row_range row)))
      (λ row. stated_row tables (row_line row) ≡ row) model.rows
      (λ row has sides. row_back row has.0 has.1 sides.0 sides.1)
      (both_each (IsPlainRow (length model.columns)) (λ (row : Row). items_of tables row.name ≡ row.items) (λ (row : Row). IsPlainRow (length model.columns) row × (items_of tables row.name ≡ row.items)) model.rows
      (λ row can terms. (can, terms)) (plain_rows model plain) row_terms)
      (both_each (λ (row : Row). side_in tables.sides row.name ≡ whole (row_right_side row))
      (λ (row : Row). ArePlainSides row.lo row.hi → number_beside (pairs_of tables.ranges) row.name ≡ option_map whole (row_range row))
      (λ (row : Row). (side_in tables.sides row.name ≡ whole (row_right_side row)) × (ArePlainSides row.lo row.hi → number_beside (pairs_of tables.ranges) row.name ≡ option_map whole (row_range row))) model.rows
      (λ row side range. (side, range)) (row_sides model plain tables.sides say.sides) (ranges_back model.rows tables.ranges say.ranges (fresh_rows_alone model plain))))
      ∙ map_same model.rows

  -- ---- the objective and the model

  objective_back : objective_items tables (objective_row tables.rows) ≡ model.objective
  objective_back = ap (λ rows. objective_items tables (objective_row rows)) say.rows ∙ all_terms.0

  constant_back : constant_of tables (objective_row tables.rows) ≡ model.constant
  constant_back =
      ap (λ rows. constant_of tables (objective_row rows)) say.rows
      ∙ ap neg_ℚ (right_sides model plain tables.sides say.sides).0
      ∙ neg_whole (neg_ℤ model.constant.num)
      ∙ ap whole (twice model.constant.num)
      ∙ sym (whole_from_den model.constant plain.constant.is_whole)

  pub stated_back : stated None tables ≡ model
  unfolding stated
  stated_back =
      same_model (columns_back tables model.columns say.names say.bounds (fresh_columns model plain) (plain_columns model plain)) rows_back objective_back constant_back

  pub faultless_columns : first_column_fault None tables ≡ None
  faultless_columns = columns_clear tables model.columns say.names say.bounds (fresh_columns model plain) (plain_columns model plain)
