-- Items whose columns rise are those that their factors give, column by column.
use Rattle.std.proofs.Common.{◌≡◌, ◌↔◌, ℕ, zero, suc, ◌+◌, ◌<◌, ◌≤◌, cond, eqb, List, [], ◌∷◌, length, get_or, drop, drop-cons, filter_map, Option, Some, None, refl, sym, ap, subst, ◌∙◌, arith}
use Rattle.std.specs.Prelude.{find, option_map, All, AllPairs}
use Rattle.std.specs.List.{range_with_len, cons_option, AllByRecursion}
use Rattle.std.proofs.lemmas.Bool.{ne_eqb, eq-eqb, cases_eq}
use Rattle.std.proofs.lemmas.List.Elements.{All-nil, All-cons}
use Rattle.std.proofs.lemmas.List.Kept.{AllPairs-cons}
use Rattle.std.proofs.Common.{⊎_elim}
use Rattle.exact_math.specs.Rational.{ℚ}
use Rattle.int_model.specs.declared.model.Item.{Item}
use Rattle.int_model.specs.IntegerRows.{IsDistinctBelow}
use Rattle.mps_write.proofs.NameLaws.{each}
use Rattle.mps_write.specs.CanonicalText.{factor_in}

-- the item of a factor, in column number j
abbrev pub item_of : ℕ → ℚ → Item
item_of j factor = record { column = j; factor = factor }

-- columns of items that rise from j on, below an end
abbrev pub Rise : ℕ → ℕ → List Item → Type 0
Rise j end [] = Unit {0}
Rise j end (item ∷ items) = (j ≤ item.column) × (item.column < end) × Rise ((item.column + 1)) end items

pub rise_later : (j k end : ℕ) (items : List Item) → Rise j end items → k ≤ j → Rise k end items
rise_later j k end [] rise le = tt
rise_later j k end (item ∷ items) rise le = (omega (arith, rise.0), rise.1, rise.2)

rise_from : (j end : ℕ) (items : List Item) → AllByRecursion (λ (item : Item). j ≤ item.column) items → AllByRecursion (λ (item : Item). item.column < end) items
    → AllPairs (λ (a b : Item). a.column < b.column) items → Rise j end items
rise_from j end [] low high rising = tt
rise_from j end (item ∷ items) low high rising = (
  low.0,
  high.0,
  rise_from ((item.column + 1)) end items (each (λ (other : Item). (item.column + 1) ≤ other.column) items (λ k d h. omega (arith, rising 0 (suc k) d (omega arith) (omega arith))))
      high.1 (λ a b d lt within. rising (suc a) (suc b) d (omega arith) (omega arith)),
)

all_from_zero : (items : List Item) → AllByRecursion (λ (item : Item). 0 ≤ item.column) items
all_from_zero [] = tt
all_from_zero (item ∷ items) = (omega arith, all_from_zero items)

distinct_rise : (n : ℕ) (items : List Item) → IsDistinctBelow n items → Rise 0 n items
distinct_rise n items distinct = rise_from 0 n items (all_from_zero items) (each (λ (item : Item). item.column < n) items distinct.in_range) distinct.rising

-- there is no factor before the first column
factor_before : (j k end : ℕ) (items : List Item) → Rise k end items → j < k → factor_in j items ≡ None
factor_before j k end [] rise before = refl
factor_before j k end (item ∷ items) rise before =
    ap (λ b. option_map (λ (item : Item). item.factor) (cond b (Some item) (find (λ (item : Item). eqb item.column j) items)))
    (ne_eqb item.column j (λ same. absurd (omega (arith, rise.0, same, before))))
    ∙ factor_before j ((item.column + 1)) end items rise.2 (omega (arith, rise.0, before))

factor_here : (item : Item) (items : List Item) (j : ℕ) → item.column ≡ j → factor_in j (item ∷ items) ≡ Some item.factor
factor_here item items j same = ap (λ b. option_map (λ (item : Item). item.factor) (cond b (Some item) (find (λ (item : Item). eqb item.column j) items))) (eq-eqb item.column j same)

factor_behind : (item : Item) (items : List Item) (j : ℕ) → item.column < j → factor_in j (item ∷ items) ≡ factor_in j items
factor_behind item items j before =
    ap (λ b. option_map (λ (item : Item). item.factor) (cond b (Some item) (find (λ (item : Item). eqb item.column j) items)))
    (ne_eqb item.column j (λ same. absurd (omega (arith, same, before))))

abbrev found : List Item → ℕ → Option Item
found items j = option_map (item_of j) (factor_in j items)

same_range : (f g : ℕ → Option Item) (j k low : ℕ) → low ≤ j → ((i : ℕ) → low ≤ i → f i ≡ g i) → filter_map f (range_with_len j k) ≡ filter_map g (range_with_len j k)
same_range f g j zero low le same = refl
same_range f g j (suc k) low le same = ap (λ o. cons_option o (filter_map f (range_with_len (j + 1) k))) (same j le) ∙ ap (cons_option (g j)) (same_range f g (j + 1) k low (omega arith) same)

onto_rest : (item : Item) (items : List Item) (j : ℕ) → item.column ≡ j → item_of j item.factor ≡ item
onto_rest item items j same = ap (λ column. item_of column item.factor) (sym same)

rebuilt : (j k : ℕ) (items : List Item) → Rise j (j + k) items → filter_map (found items) (range_with_len j k) ≡ items
rebuilt j zero [] rise = refl
rebuilt j zero (item ∷ items) rise = absurd (omega (arith, rise.0, rise.1))
rebuilt j (suc k) [] rise = rebuilt (j + 1) k [] tt
rebuilt j (suc k) (item ∷ items) rise =
    ⊎_elim (λ (here : item.column ≡ j).
    let end : j + suc k ≡ j + 1 + k = omega arith in
    ap (λ o. cons_option (option_map (item_of j) o) (filter_map (found (item ∷ items)) (range_with_len (j + 1) k))) (factor_here item items j here)
    ∙ ap (λ first. first ∷ filter_map (found (item ∷ items)) (range_with_len (j + 1) k)) (onto_rest item items j here)
    ∙ ap (λ rest. item ∷ rest)
    (same_range (found (item ∷ items)) (found items) (j + 1) k (j + 1) (omega arith)
    (λ i low. ap (option_map (item_of i)) (factor_behind item items i (omega (arith, here, low))))
    ∙ rebuilt (j + 1) k items (subst (λ e. Rise (j + 1) e items) end (rise_later (item.column + 1) (j + 1) (j + suc k) items rise.2 (omega (arith, here))))))
    (λ (other : item.column ≡ j → ⊥).
    let later : j < item.column = later_than j item.column rise.0 other in
    ap (λ o. cons_option (option_map (item_of j) o) (filter_map (found (item ∷ items)) (range_with_len (j + 1) k)))
    (factor_before j item.column (j + suc k) (item ∷ items) (omega arith, rise.1, rise.2) later)
    ∙ rebuilt (j + 1) k (item ∷ items) (omega (arith, later), omega (arith, rise.1), subst (λ e. Rise (item.column + 1) e items) (omega arith) rise.2))
    (cases_eq item.column j)
  where
    later_than : (j c : ℕ) → j ≤ c → (c ≡ j → ⊥) → j < c
    later_than j c le differ = omega (arith, le, differ)

-- items whose columns rise below n are found column by column
pub items_rebuilt : (n : ℕ) (items : List Item) → IsDistinctBelow n items → filter_map (λ j. option_map (item_of j) (factor_in j items)) (range_with_len 0 n) ≡ items
items_rebuilt n items distinct = rebuilt 0 n items (subst (λ e. Rise 0 e items) (omega arith) (distinct_rise n items distinct))

-- ---- items that rise, from a number of columns

rise_low : (j end : ℕ) (items : List Item) → Rise j end items → All (λ (item : Item). j ≤ item.column) items
rise_low j end [] rise = All-nil (λ (item : Item). j ≤ item.column)
rise_low j end (item ∷ items) rise =
    All-cons (λ (item : Item). j ≤ item.column) item items rise.0
    (λ k d h. omega (arith, rise.0, rise_low (item.column + 1) end items rise.2 k d h))

rise_high : (j end : ℕ) (items : List Item) → Rise j end items → All (λ (item : Item). item.column < end) items
rise_high j end [] rise = All-nil (λ (item : Item). item.column < end)
rise_high j end (item ∷ items) rise = All-cons (λ (item : Item). item.column < end) item items rise.1 (rise_high (item.column + 1) end items rise.2)

rise_pairs : (j end : ℕ) (items : List Item) → Rise j end items → AllPairs (λ (a b : Item). a.column < b.column) items
rise_pairs j end [] rise = λ a b d lt within. absurd (omega (arith, within))
rise_pairs j end (item ∷ items) rise =
    AllPairs-cons (λ (a b : Item). a.column < b.column) item items
    (λ k d h. omega (arith, rise_low (item.column + 1) end items rise.2 k d h))
    (rise_pairs (item.column + 1) end items rise.2)

-- items are distinct below n exactly where they rise
pub distinct_is_rise : (n : ℕ) (items : List Item) → IsDistinctBelow n items ↔ Rise 0 n items
distinct_is_rise n items = (distinct_rise n items, λ rise. record { in_range = rise_high 0 n items rise; rising = rise_pairs 0 n items rise })

-- the next of items that rise
pub rise_next : (least end i : ℕ) (items : List Item) (item : Item) → i < length items → item ≡ get_or items i item → Rise least end (drop i items) → (least ≤ item.column) × (item.column < end)
rise_next least end i items item within is rise =
    let next = subst (Rise least end) (drop-cons items i item within) rise in
    subst (λ (x : Item). (least ≤ x.column) × (x.column < end)) (sym is) (next.0, next.1)
