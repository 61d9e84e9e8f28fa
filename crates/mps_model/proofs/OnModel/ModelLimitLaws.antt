-- The items that tables state name columns in rising order, so that a model with few rows and columns keeps its limits.
use Rattle.std.proofs.Common.{◌≡◌, ℕ, suc, ◌<◌, ◌≤◌, length, drop, get_or, true, false, cond, List, [], ◌∷◌, map, Option, Some, None, refl, sym, ap, subst, ◌∙◌, arith, drop-cons, length-drop}
use Rattle.std.specs.Prelude.{ℤ, bytes_eq, filter_map, nat_abs, ◌==◌, option_and_then, All, AllPairs}
use Rattle.std.specs.List.{cons_option, position_or_len, IsDistinct}
use Rattle.std.proofs.lemmas.List.{length-map}
use Rattle.std.proofs.lemmas.List.Elements.{All-nil, All-cons, All-weaker, All-map}
use Rattle.std.proofs.lemmas.List.Kept.{AllPairs-cons}
use Rattle.std.proofs.lemmas.List.Sums.{position_or_len_is}
use Rattle.std.proofs.lemmas.Map.Keys.{apart_from_distinct}
use Rattle.exact_math.specs.Rational.{ℚ}
use Rattle.int_model.specs.declared.model.Item.{Item}
use Rattle.int_model.specs.declared.model.Row.{Row}
use Rattle.int_model.specs.IntegerRows.{IsDistinctBelow}
use Rattle.mps_model.specs.Tables.{Tables}
use Rattle.mps_model.specs.Sides.{sided_rows, objective_row}
use Rattle.mps_model.specs.Bounds.{column_names}
use Rattle.mps_model.specs.StatedModel.{factor_at, item_with, item_at, items_of, objective_items, stated_row, stated_column, stated}
use Rattle.mps_model.specs.ModelLimits.{KeepsLimits}
use Rattle.mps_model.specs.FirstPlaceLaws.{bytes_same, bytes_flip}
use Rattle.mps_model.specs.DistinctNameLaws.{column_names_distinct}

-- ---- the place of a name is its number, where names are distinct

place_of : (names : List (List ℕ)) (i : ℕ) → IsDistinct bytes_eq names → i < length names → position_or_len (bytes_eq (get_or names i [])) names ≡ i
place_of names i distinct within =
    position_or_len_is (bytes_eq (get_or names i [])) names i [] (omega arith)
    (λ k before. bytes_flip (get_or names i []) (get_or names k []) ∙ apart_from_distinct bytes_eq names k i [] distinct before within)
    (λ _. bytes_same (get_or names i []))

-- a list that stands behind the first i names begins with name i
starts : (names rest : List (List ℕ)) (name : List ℕ) (i : ℕ) → drop i names ≡ name ∷ rest → (i < length names) × (name ≡ get_or names i []) × (rest ≡ drop (suc i) names)
starts names rest name i e =
    let within : i < length names = omega (arith, length-drop i names, ap length e) in
    let parts = drop-cons names i [] within in
    (within, cc, cc)

-- ---- items by the places of their columns

-- the items from column number i on
record AreFrom (n i : ℕ) (items : List Item) : Type 0 where
  within : All (λ (item : Item). (i ≤ item.column) × (item.column < n)) items
  rising : AllPairs (λ (a b : Item). a.column < b.column) items

module _ (names : List (List ℕ)) (distinct : IsDistinct bytes_eq names) (item_for : List ℕ → Option Item)
    (placed : (name : List ℕ) (item : Item) → item_for name ≡ Some item → item.column ≡ position_or_len (bytes_eq name) names) where
  one_more : (i : ℕ) (name : List ℕ) (found : Option Item) (items : List Item) → item_for name ≡ found → i < length names → name ≡ get_or names i []
      → AreFrom (length names) (suc i) items → AreFrom (length names) i (cons_option found items)
  one_more i name None items is_found inside at from = record {
    within = All-weaker (λ (item : Item). (suc i ≤ item.column) × (item.column < length names)) (λ (item : Item). (i ≤ item.column) × (item.column < length names)) (λ item h. (omega arith, h.1)) items from.within;
    rising = from.rising;
  }
  one_more i name (Some item) items is_found inside at from =
      let column : item.column ≡ i = placed name item is_found ∙ ap (λ n. position_or_len (bytes_eq n) names) at ∙ place_of names i distinct inside in record {
        within = All-cons (λ (item : Item). (i ≤ item.column) × (item.column < length names)) item items (omega arith, omega arith)
            (All-weaker (λ (item : Item). (suc i ≤ item.column) × (item.column < length names)) (λ (item : Item). (i ≤ item.column) × (item.column < length names)) (λ item h. (omega arith, h.1)) items from.within);
        rising = AllPairs-cons (λ (a b : Item). a.column < b.column) item items
            (All-weaker (λ (item : Item). (suc i ≤ item.column) × (item.column < length names)) (λ (other : Item). item.column < other.column) (λ other h. omega arith) items from.within)
            from.rising;
      }

  from_place : (rest : List (List ℕ)) (i : ℕ) → drop i names ≡ rest → AreFrom (length names) i (filter_map item_for rest)
  from_place [] i e = record { within = All-nil (λ (item : Item). (i ≤ item.column) × (item.column < length names)); rising = λ a b d before inside. absurd (omega arith) }
  from_place (name ∷ rest) i e =
      let begin = starts names rest name i e in
      one_more i name (item_for name) (filter_map item_for rest) refl begin.0 begin.1 (from_place rest (suc i) (sym begin.2))

  placed_items : IsDistinctBelow (length names) (filter_map item_for names)
  placed_items =
      let all = from_place names 0 refl in
      record {
        in_range = All-weaker (λ (item : Item). (0 ≤ item.column) × (item.column < length names)) (λ (item : Item). item.column < length names) (λ item h. h.1) (filter_map item_for names) all.within;
        rising = all.rising;
      }

-- ---- the items of a row

column_of_item : (n : ℕ) (found : Option ℚ) (item : Item) → option_and_then (item_with n) found ≡ Some item → item.column ≡ n
column_of_item n None item e = cc
column_of_item n (Some factor) item e =
    elim (nat_abs factor.num == 0) as (λ b. cond b None (Some (record { column = n; factor = factor })) ≡ Some item → item.column ≡ n) [ true ↦ λ h. cc | false ↦ λ h. cc ] e

pub items_distinct : (tables : Tables) (row : List ℕ) → IsDistinctBelow (length (column_names tables.columns)) (items_of tables row)
items_distinct tables row =
    placed_items (column_names tables.columns) (column_names_distinct (column_names tables.columns) tables.columns refl) (item_at tables row)
    (λ name item e. column_of_item (position_or_len (bytes_eq name) (column_names tables.columns)) (factor_at tables row name) item e)

pub objective_distinct : (tables : Tables) (row : Option (List ℕ)) → IsDistinctBelow (length (column_names tables.columns)) (objective_items tables row)
objective_distinct tables None = record { in_range = All-nil (λ (item : Item). item.column < length (column_names tables.columns)); rising = λ a b d before inside. absurd (omega arith) }
objective_distinct tables (Some row) = items_distinct tables row

-- tables with few rows and columns state a model that keeps the limits
pub stated_keeps_limits : (given : Option ℤ) (tables : Tables) → length (column_names tables.columns) ≤ 256 → length (sided_rows tables.rows) ≤ 256
    → KeepsLimits (stated given tables)
unfolding stated
stated_keeps_limits given tables columns rows =
    let count = length-map (column_names tables.columns) (stated_column given tables) in
    record {
      few_columns = omega (arith, count);
      few_rows = omega (arith, length-map (sided_rows tables.rows) (stated_row tables));
      rows = subst (λ n. All (λ (row : Row). IsDistinctBelow n row.items) (map (stated_row tables) (sided_rows tables.rows))) (sym count)
          (All-map (λ (row : Row). IsDistinctBelow (length (column_names tables.columns)) row.items) (stated_row tables) (sided_rows tables.rows)
          (λ k d within. items_distinct tables (get_or (sided_rows tables.rows) k d).name));
      objective = subst (λ n. IsDistinctBelow n (objective_items tables (objective_row tables.rows))) (sym count) (objective_distinct tables (objective_row tables.rows));
    }
