-- The lines of a canonical text are printed and short.
use Rattle.std.proofs.Common.{◌≡◌, ℕ, suc, ◌+◌, ◌*◌, ◌≤◌, true, List, [], ◌∷◌, ◌++◌, length, map, filter_map, Option, Some, None, refl, subst, length-append, arith}
use Rattle.std.specs.Prelude.{codes, option_to_list, neg_ℤ}
use Rattle.std.specs.List.{list_all, cons_option, AllByRecursion}
use Rattle.std.proofs.Math.Nat.{mul-le-mul_right}
use Rattle.std.proofs.lemmas.List.{length-map}
use Rattle.int_model.specs.declared.model.Column.{Column}
use Rattle.int_model.specs.declared.model.Model.{Model}
use Rattle.mps_model.specs.Tables.{Pair}
use Rattle.mps_fields.specs.Lines.{most_bytes}
use Rattle.mps_write.specs.PlainModels.{IsPlainColumn, IsPlain}
use Rattle.mps_write.specs.CanonicalText.{Fields, data_line, in_lines, section, section_of_some, objective_name, row_fields, row_table, NamedItems, items_of_row, all_items, factor_pair, or_zero, column_pairs, labelled, column_table, some_pair, side_pair, side_pairs, range_pair, range_pairs, unlabelled, bound_table, canonical_lines, canonical_text}
use Rattle.mps_write.proofs.LineTexts.{is_text_byte, data_line-text}
use Rattle.mps_write.proofs.NameLaws.{each_weaker, each-append, each-map}
use Rattle.mps_write.proofs.Scans.{AreFields}
use Rattle.mps_write.proofs.PairScans.{IsGoodPair, two_fields}
use Rattle.mps_write.proofs.ColumnScans.{three_fields}
use Rattle.mps_write.proofs.BoundScans.{all_bounds, fields_of_bound, IsGoodBound, bound_table_is}
use Rattle.mps_write.proofs.PlainFacts.{good_label}
use Rattle.mps_write.proofs.GoodTables.{all_names, plain_columns, row_fields_can, column_pairs_good, side_pairs_good, range_pairs_plain, bounds_good}

-- printed, and at most 233 bytes long
pub record IsFit (line : List ℕ) : Type 0 where
  pub printed : list_all is_text_byte line ≡ true
  pub few : length line ≤ 233

fit_data : (fields : Fields) → AreFields fields → IsFit (data_line fields)
fit_data fields can = record { printed = data_line-text fields can.runs; few = can.few }

fit_table : (table : List Fields) → AllByRecursion AreFields table → AllByRecursion IsFit (map data_line table)
fit_table table can = each-map IsFit data_line table (each_weaker AreFields (λ fields. IsFit (data_line fields)) table fit_data can)

fit_section : (heading : List ℕ) (table : List Fields) → IsFit heading → AllByRecursion AreFields table → AllByRecursion IsFit (section heading table)
fit_section heading table begun can = (begun, fit_table table can)

fit_some : (heading : List ℕ) (table : List Fields) → IsFit heading → AllByRecursion AreFields table → AllByRecursion IsFit (section_of_some heading table)
fit_some heading [] begun can = tt
fit_some heading (fields ∷ table) begun can = fit_section heading (fields ∷ table) begun can

module _ (model : Model) (plain : IsPlain model) where
  columns_fit : (j : ℕ) (columns : List Column) → AllByRecursion IsPlainColumn columns → AllByRecursion AreFields (column_table (all_items model) j columns)
  columns_fit j [] can = tt
  columns_fit j (column ∷ columns) can =
      each-append AreFields (map (labelled column.name) (column_pairs (all_items model) j)) (column_table (all_items model) (j + 1) columns)
      (each-map AreFields (labelled column.name) (column_pairs (all_items model) j)
      (each_weaker (IsGoodPair (all_names model)) (λ pair. AreFields (labelled column.name pair)) (column_pairs (all_items model) j)
      (λ pair good. three_fields (all_names model) column.name pair (good_label column can.0) good) (column_pairs_good model plain j)))
      (columns_fit (j + 1) columns can.1)

  pairs_fit : (pairs : List Pair) → AllByRecursion (IsGoodPair (all_names model)) pairs → AllByRecursion AreFields (map unlabelled pairs)
  pairs_fit pairs good = each-map AreFields unlabelled pairs (each_weaker (IsGoodPair (all_names model)) (λ pair. AreFields (unlabelled pair)) pairs (two_fields (all_names model)) good)

  bounds_fit : AllByRecursion AreFields (bound_table model.columns)
  bounds_fit =
      let names = map (λ (column : Column). column.name) model.columns in
      subst (AllByRecursion AreFields) (bound_table_is model.columns)
      (each-map AreFields fields_of_bound (all_bounds model.columns)
      (each_weaker (IsGoodBound names) (λ bound. AreFields (fields_of_bound bound)) (all_bounds model.columns) (λ bound good. good.fields) (bounds_good model plain names refl)))

  rows_fit : AllByRecursion AreFields (row_table model.rows)
  rows_fit = (record { runs = (refl, (refl, tt)); few = omega arith }, each-map AreFields row_fields model.rows (row_fields_can model plain))

  -- each line of the text
  pub lines_fit : AllByRecursion IsFit (canonical_lines model)
  lines_fit = (
    record { printed = refl; few = omega arith },
    each-append IsFit (section (codes "ROWS") (row_table model.rows)) _ (fit_section (codes "ROWS") (row_table model.rows) (record { printed = refl; few = omega arith }) rows_fit)
        (each-append IsFit (section (codes "COLUMNS") (column_table (all_items model) 0 model.columns)) _
        (fit_section (codes "COLUMNS") (column_table (all_items model) 0 model.columns) (record { printed = refl; few = omega arith }) (columns_fit 0 model.columns (plain_columns model plain)))
        (each-append IsFit (section (codes "RHS") (map unlabelled (side_pairs model))) _
        (fit_section (codes "RHS") (map unlabelled (side_pairs model)) (record { printed = refl; few = omega arith }) (pairs_fit (side_pairs model) (side_pairs_good model plain)))
        (each-append IsFit (section_of_some (codes "RANGES") (map unlabelled (range_pairs model.rows))) _
        (fit_some (codes "RANGES") (map unlabelled (range_pairs model.rows)) (record { printed = refl; few = omega arith }) (pairs_fit (range_pairs model.rows) (range_pairs_plain model plain)))
        (each-append IsFit (section (codes "BOUNDS") (bound_table model.columns)) (codes "ENDATA" ∷ [])
        (fit_section (codes "BOUNDS") (bound_table model.columns) (record { printed = refl; few = omega arith }) bounds_fit)
        (record { printed = refl; few = omega arith }, tt))))),
  )

  pub printed_lines : AllByRecursion (λ line. list_all is_text_byte line ≡ true) (canonical_lines model)
  printed_lines = each_weaker IsFit (λ line. list_all is_text_byte line ≡ true) (canonical_lines model) (λ line fit. fit.printed) lines_fit

-- ---- how long the text is

text_length : (lines : List (List ℕ)) → AllByRecursion IsFit lines → length (in_lines lines) ≤ 234 * length lines
text_length [] fit = omega arith
text_length (line ∷ lines) fit =
    omega (arith, length-append (line ++ 10 ∷ []) (in_lines lines), length-append line (10 ∷ []), fit.0.few, text_length lines fit.1)

filtered : {X Y : Type 0} (f : X → Option Y) (xs : List X) → length (filter_map f xs) ≤ length xs
filtered f [] = omega arith
filtered {X = X} {Y = Y} f (x ∷ xs) = by (filtered f xs) (f x)
  where
    by : length (filter_map f xs) ≤ length xs → (o : Option Y) → length (cons_option o (filter_map f xs)) ≤ suc (length xs)
    by le None = omega (arith, le)
    by le (Some y) = omega (arith, le)

zero_length : (pairs : List Pair) → length (or_zero pairs) ≤ length pairs + 1
zero_length [] = omega arith
zero_length (pair ∷ pairs) = omega arith

listed : {X : Type 0} (o : Option X) → length (option_to_list o) ≤ 1
listed None = omega arith
listed (Some x) = omega arith

columns_length : (named : List NamedItems) (j : ℕ) (columns : List Column) → length (column_table named j columns) ≤ (length named + 1) * length columns
columns_length named j [] = omega arith
columns_length named j (column ∷ columns) =
    let pairs = column_pairs named j in
    let here : length pairs ≤ length named + 1 = omega (arith, zero_length (filter_map (factor_pair j) named), filtered (factor_pair j) named) in
    let step : (length named + 1) * suc (length columns) ≡ (length named + 1) * length columns + (length named + 1) = omega arith in
    omega (arith, step, here, length-map pairs (labelled column.name), length-append (map (labelled column.name) pairs) (column_table named (j + 1) columns), columns_length named (j + 1) columns)

bounds_length : (columns : List Column) → length (bound_table columns) ≡ 2 * length columns
bounds_length [] = refl
bounds_length (column ∷ columns) = omega (arith, bounds_length columns)

some_length : (heading : List ℕ) (table : List Fields) → length (section_of_some heading table) ≤ length table + 1
some_length heading [] = omega arith
some_length heading (fields ∷ table) = omega (arith, length-map (fields ∷ table) data_line)

table_length : (heading : List ℕ) (table : List Fields) → length (section heading table) ≡ length table + 1
table_length heading table = omega (arith, length-map table data_line)

side_pairs_length : (model : Model) → length (side_pairs model) ≤ length model.rows + 1
side_pairs_length model =
    omega (
      arith,
      length-append (option_to_list (some_pair objective_name (neg_ℤ model.constant.num))) (filter_map side_pair model.rows),
      listed (some_pair objective_name (neg_ℤ model.constant.num)),
      filtered side_pair model.rows,
    )

-- how many lines a text has
lines_length : (model : Model) → length model.columns ≤ 256 → length model.rows ≤ 256 → length (canonical_lines model) ≤ 67500
lines_length model few_columns few_rows =
    let rows = section (codes "ROWS") (row_table model.rows) in
    let columns = section (codes "COLUMNS") (column_table (all_items model) 0 model.columns) in
    let sides = section (codes "RHS") (map unlabelled (side_pairs model)) in
    let ranges = section_of_some (codes "RANGES") (map unlabelled (range_pairs model.rows)) in
    let bounds = section (codes "BOUNDS") (bound_table model.columns) in
    let named : length (all_items model) ≡ length model.rows + 1 = omega (arith, length-map model.rows items_of_row) in
    let most : length (all_items model) + 1 ≤ 258 = omega (arith, named, few_rows) in
    let product : (length (all_items model) + 1) * length model.columns ≤ 258 * length model.columns = mul-le-mul_right (length model.columns) most in
    omega (
      arith,
      few_columns,
      few_rows,
      product,
      length-append rows (columns ++ (sides ++ (ranges ++ (bounds ++ codes "ENDATA" ∷ [])))),
      length-append columns (sides ++ (ranges ++ (bounds ++ codes "ENDATA" ∷ []))),
      length-append sides (ranges ++ (bounds ++ codes "ENDATA" ∷ [])),
      length-append ranges (bounds ++ codes "ENDATA" ∷ []),
      length-append bounds (codes "ENDATA" ∷ []),
      table_length (codes "ROWS") (row_table model.rows),
      length-map model.rows row_fields,
      table_length (codes "COLUMNS") (column_table (all_items model) 0 model.columns),
      columns_length (all_items model) 0 model.columns,
      table_length (codes "RHS") (map unlabelled (side_pairs model)),
      length-map (side_pairs model) unlabelled,
      side_pairs_length model,
      some_length (codes "RANGES") (map unlabelled (range_pairs model.rows)),
      length-map (range_pairs model.rows) unlabelled,
      filtered range_pair model.rows,
      table_length (codes "BOUNDS") (bound_table model.columns),
      bounds_length model.columns,
    )

-- the text is no longer than a text may be
pub canonical_length : (model : Model) → IsPlain model → length (canonical_text model) ≤ most_bytes
canonical_length model plain =
    omega (arith, text_length (canonical_lines model) (lines_fit model plain), lines_length model plain.few_columns plain.few_rows)
