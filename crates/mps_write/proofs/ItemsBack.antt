-- The factors of a canonical text make the terms of its model again.
use Rattle.std.proofs.Common.{◌≡◌, ◌≢◌, ℕ, ◌+◌, ℤ, pos, Bool, true, false, cond, List, [], ◌∷◌, ◌++◌, length, map, filter_map, Option, Some, None, IfSome, refl, sym, ap, ◌∙◌, append_assoc, length-append, arith}
use Rattle.std.specs.Prelude.{bytes_eq, find, option_map, option_and_then, nat_abs}
use Rattle.std.specs.List.{range_with_len, cons_option, position_or_len}
use Rattle.std.proofs.lemmas.Bool.{ne_eqb}
use Rattle.std.proofs.lemmas.Int.{ints}
use Rattle.std.proofs.lemmas.Option.{same_Some}
use Rattle.std.proofs.lemmas.List.{map-append, length-map}
use Rattle.exact_math.specs.Rational.{ℚ, whole}
use Rattle.int_model.specs.declared.model.Column.{Column}
use Rattle.mps_model.specs.Tables.{Pair, Tables}
use Rattle.mps_model.specs.Sides.{number_at, number_beside}
use Rattle.mps_model.specs.Bounds.{column_names}
use Rattle.mps_model.specs.StatedModel.{item_with, factor_at, item_at, items_of}
use Rattle.mps_write.specs.PlainModels.{IsPlainNumber, ArePlainItems}
use Rattle.mps_write.specs.CanonicalText.{objective_name, pair_of, factor_in, NamedItems, factor_pair, or_zero, column_pairs}
use Rattle.mps_write.proofs.NameLaws.{AreFresh, fresh_at, position-behind, is_under}
use Rattle.mps_write.proofs.ItemLaws.{item_of, items_rebuilt}
use Rattle.mps_write.proofs.ColumnScans.{EachSaid}
use Rattle.mps_write.proofs.PlainFacts.{plain_read, whole_read, factor_kept}

-- ---- the pairs of one column

-- the line of a column without a factor gives no term
zero_item : (j : ℕ) (name : List ℕ) (b : Bool) → option_and_then (item_with j) (option_map (λ (pair : Pair). number_at pair.number) (cond b (Some (pair_of objective_name (pos 0))) None)) ≡ None
unfolding whole
zero_item j name true = ap (item_with j) (whole_read (pos 0) (omega arith))
zero_item j name false = refl

without_zero : (j : ℕ) (name : List ℕ) (pairs : List Pair) → option_and_then (item_with j) (number_beside (or_zero pairs) name) ≡ option_and_then (item_with j) (number_beside pairs name)
without_zero j name [] = zero_item j name (bytes_eq objective_name name)
without_zero j name (pair ∷ pairs) = refl

not_zero : (z : ℤ) → z ≢ pos 0 → nat_abs z ≢ 0
not_zero z differ same = differ (omega (arith, ints, same))

factor_item : (j : ℕ) (name : List ℕ) (o : Option ℚ) → IfSome o (λ (factor : ℚ). IsPlainNumber factor × (factor.num ≢ pos 0))
    → option_and_then (item_with j) (option_map (λ (pair : Pair). number_at pair.number) (option_map (λ (factor : ℚ). pair_of name factor.num) o)) ≡ option_map (item_of j) o
factor_item j name None kept = refl
factor_item j name (Some factor) kept =
    ap (item_with j) (plain_read factor kept.0)
    ∙ ap (λ b. cond b None (Some (item_of j factor))) (ne_eqb (nat_abs factor.num) 0 (not_zero factor.num kept.1))

pub named_pair : (j : ℕ) (x : NamedItems) (pair : Pair) → factor_pair j x ≡ Some pair → pair.name ≡ x.name
named_pair j x pair e = by (factor_in j x.items) e
  where
    by : (o : Option ℚ) → option_map (λ (factor : ℚ). pair_of x.name factor.num) o ≡ Some pair → pair.name ≡ x.name
    by None e = cc
    by (Some factor) e = ap (λ (pair : Pair). pair.name) (sym (same_Some (pair_of x.name factor.num) pair e))

-- ---- the terms of one row, or of the objective

module _ (named : List NamedItems) (columns : List Column) (tables : Tables) (names_are : column_names tables.columns ≡ map (λ (column : Column). column.name) columns)
    (said : EachSaid named tables.columns 0 columns) (fresh : AreFresh [] (map (λ (column : Column). column.name) columns)) where
  module _ (x : NamedItems) (plain : ArePlainItems (length columns) x.items) (under : (j : ℕ) → find (is_under x.name) (filter_map (factor_pair j) named) ≡ factor_pair j x) where
    item_is : (j : ℕ) → option_and_then (item_with j) (number_beside (column_pairs named j) x.name) ≡ option_map (item_of j) (factor_in j x.items)
    item_is j =
        without_zero j x.name (filter_map (factor_pair j) named)
        ∙ ap (λ o. option_and_then (item_with j) (option_map (λ (pair : Pair). number_at pair.number) o)) (under j)
        ∙ factor_item j x.name (factor_in j x.items) (factor_kept j (length columns) x.items plain)

    place_is : (front rest : List Column) (column : Column) (j : ℕ) → front ++ column ∷ rest ≡ columns → length front ≡ j → position_or_len (bytes_eq column.name) (column_names tables.columns) ≡ j
    place_is front rest column j whole at =
        let name_of : Column → List ℕ = λ column. column.name in
        ap (position_or_len (bytes_eq column.name)) (names_are ∙ ap (map name_of) (sym whole) ∙ map-append name_of front (column ∷ rest))
        ∙ position-behind (map name_of front) (map name_of rest) column.name (fresh_at name_of [] columns front rest column whole fresh)
        ∙ length-map front name_of ∙ at

    items_on : (front rest : List Column) (j : ℕ) → front ++ rest ≡ columns → length front ≡ j → EachSaid named tables.columns j rest
        → filter_map (item_at tables x.name) (map (λ (column : Column). column.name) rest) ≡ filter_map (λ i. option_map (item_of i) (factor_in i x.items)) (range_with_len j (length rest))
    items_on front [] j whole at read = refl
    items_on front (column ∷ rest) j whole at read =
        let here : item_at tables x.name column.name ≡ option_map (item_of j) (factor_in j x.items) =
        ap (λ place. option_and_then (item_with place) (factor_at tables x.name column.name)) (place_is front rest column j whole at)
        ∙ ap (λ pairs. option_and_then (item_with j) (number_beside pairs x.name)) read.0
        ∙ item_is j
        in
        ap (λ o. cons_option o (filter_map (item_at tables x.name) (map (λ (column : Column). column.name) rest))) here
        ∙ ap (cons_option (option_map (item_of j) (factor_in j x.items)))
        (items_on (front ++ column ∷ []) rest (j + 1) (append_assoc front (column ∷ []) rest ∙ whole) (length-append front (column ∷ []) ∙ omega (arith, at)) read.1)

    -- the terms that the tables state are those of the model
    pub items_back : items_of tables x.name ≡ x.items
    items_back =
        ap (filter_map (item_at tables x.name)) names_are ∙ items_on [] columns 0 refl refl said ∙ items_rebuilt (length columns) x.items plain.distinct
