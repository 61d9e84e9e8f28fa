-- The coefficient of a column in a list of items whose columns rise.
use Rattle.std.proofs.Common.{◌≡◌, ◌≢◌, ◌⊎◌, inl, inr, ℕ, zero, suc, ◌+◌, ◌<◌, ◌≤◌, eqb, List, [], ◌∷◌, ◌++◌, map, length, get_or, ℤ, pos, refl, sym, ap, ◌∙◌, ⊎_elim, arith}
use Rattle.std.specs.List.{AllPairs}
use Rattle.std.proofs.lemmas.Bool.{cond-true, cond-false, eq-eqb, ne_eqb, cases_lt, cases_eq}
use Rattle.std.proofs.lemmas.List.{get_or_default, append_assoc, map_push}
use Rattle.std.proofs.lemmas.List.FromFn.{map-range_with_len_more, get_or-map-range_with_len}
use Rattle.exact_math.specs.Rational.{ℚ, whole, ◌+ℚ◌, ◌*ℚ◌}
use Rattle.exact_math.specs.RingLaws as Laws
use Rattle.exact_math.specs.RationalRing.{rationals}
use Rattle.exact_math.specs.RationalRing as ring
use Rattle.exact_math.specs.RationalLaws.{num_zero}
use Rattle.frac128.specs.Range.{ProductInRange}
use Rattle.int_model.specs.declared.model.Item.{Item}
use Rattle.int_model.specs.IntegerRows.{coefficient_of, coefficients_of, IsDistinctBelow}
use Rattle.int_model.specs.ItemFactors.{LeavesRangeAt}
use Rattle.int_model.proofs.LargeLaws.{coefficients_long}

-- the coefficient of a column, among those of n columns
pub coefficient-at : (n j : ℕ) (items : List Item) (d : ℚ) → j < n → get_or (coefficients_of n items) j d ≡ coefficient_of items j
coefficient-at n j items d h = get_or-map-range_with_len (coefficient_of items) 0 n j j d h (omega arith)

-- a first item in the column
coefficient_of-head : (item : Item) (items : List Item) (j : ℕ) → item.column ≡ j → coefficient_of (item ∷ items) j ≡ item.factor +ℚ coefficient_of items j
coefficient_of-head item items j e = ap (λ t. t +ℚ coefficient_of items j) (cond-true (eqb item.column j) item.factor (whole (pos 0)) (eq-eqb item.column j e))

-- a first item in another column
coefficient_of-tail : (item : Item) (items : List Item) (j : ℕ) → item.column ≢ j → coefficient_of (item ∷ items) j ≡ coefficient_of items j
coefficient_of-tail item items j n = ap (λ t. t +ℚ coefficient_of items j) (cond-false (eqb item.column j) item.factor (whole (pos 0)) (ne_eqb item.column j n)) ∙ Laws.zero_add rationals (coefficient_of items j)

-- a column that no item names has the coefficient 0
pub coefficient_of-absent : (items : List Item) (j : ℕ) → ((k : ℕ) (d : Item) → k < length items → (get_or items k d).column ≢ j) → coefficient_of items j ≡ whole (pos 0)
coefficient_of-absent [] j none = refl
coefficient_of-absent (item ∷ items) j none = coefficient_of-tail item items j (none zero item (omega arith)) ∙ coefficient_of-absent items j (λ k d h. none (suc k) d (omega arith))

-- a column that one item names has that item's factor
coefficient_of-single : (items : List Item) (at j : ℕ) (e : Item) → at < length items → (get_or items at e).column ≡ j → ((k : ℕ) (d : Item) → k < length items → k ≢ at → (get_or items k d).column ≢ j) → coefficient_of items j ≡ (get_or items at e).factor
coefficient_of-single [] at j e h is others = absurd (omega arith)
coefficient_of-single (item ∷ items) zero j e h is others = coefficient_of-head item items j is ∙ ap (λ t. item.factor +ℚ t) (coefficient_of-absent items j (λ k d l. others (suc k) d (omega arith) (λ s. omega arith))) ∙ ring.add_zero item.factor
coefficient_of-single (item ∷ items) (suc at) j e h is others =
    coefficient_of-tail item items j (others zero item (omega arith) (λ s. omega arith)) ∙ coefficient_of-single items at j e (omega arith) is (λ k d l n. others (suc k) d (omega arith) (λ s. n (omega arith)))

-- the column of the item at a place, whatever stands for an item past the end
pub column-same : (items : List Item) (k at : ℕ) (d e : Item) → k ≡ at → at < length items → (get_or items k d).column ≡ (get_or items at e).column
column-same items k at d e is h = rw is (ap (λ (item : Item). item.column) (get_or_default items at d e h))

-- where columns rise, another item is in another column
others_differ : (items : List Item) (at j : ℕ) (e : Item) → AllPairs (λ (a b : Item). a.column < b.column) items → at < length items → (get_or items at e).column ≡ j → (k : ℕ) (d : Item) → k < length items → k ≢ at → (get_or items k d).column ≢ j
others_differ items at j e rising h is k d l n q =
    ⊎_elim (λ b. omega (arith, rising k at d b h, column-same items at at d e refl h)) (λ b. omega (arith, rising at k d (omega (arith, n)) l, column-same items at at d e refl h)) (cases_lt k at)

-- the coefficient of an item's column is its factor
pub coefficient_of-item : (items : List Item) (at : ℕ) (e : Item) → AllPairs (λ (a b : Item). a.column < b.column) items → at < length items → coefficient_of items (get_or items at e).column ≡ (get_or items at e).factor
coefficient_of-item items at e rising h = coefficient_of-single items at (get_or items at e).column e h refl (others_differ items at (get_or items at e).column e rising h refl)

-- a column has an item, or none
find : (items : List Item) (j : ℕ) → ((at : ℕ) × (e : Item) × (at < length items) × ((get_or items at e).column ≡ j)) ⊎ ((k : ℕ) (d : Item) → k < length items → (get_or items k d).column ≢ j)
find [] j = inr (λ k d h e. absurd (omega arith))
find (item ∷ items) j = ⊎_elim (λ (e : item.column ≡ j). inl (zero, item, omega arith, e)) (λ (n : item.column ≢ j). ⊎_elim (λ f. inl (suc f.0, f.1, omega (arith, f.2), f.3)) (λ none. inr (later n none)) (find items j)) (cases_eq item.column j)
  where
    later : item.column ≢ j → ((k : ℕ) (d : Item) → k < length items → (get_or items k d).column ≢ j) → (k : ℕ) (d : Item) → k < length (item ∷ items) → (get_or (item ∷ items) k d).column ≢ j
    later n none zero d h = n
    later n none (suc k) d h = none k d (omega arith)

-- what holds of 0 and of each item's factor holds of each coefficient
pub of_coefficients : (P : ℚ → Type 0) (items : List Item) (j : ℕ) → AllPairs (λ (a b : Item). a.column < b.column) items → P (whole (pos 0)) → ((k : ℕ) (d : Item) → k < length items → P (get_or items k d).factor) → P (coefficient_of items j)
of_coefficients P items j rising none each = ⊎_elim
    (λ f. rw (sym (f.3)) (rw (coefficient_of-item items f.0 f.1 rising f.2) (each f.0 f.1 f.2)))
    (λ absent. rw (coefficient_of-absent items j absent) none)
    (find items j)

-- ---- the items before and after a column

-- the items before the place `at` are in columns below, and the others are not
pub record IsSplitAt (items : List Item) (column at : ℕ) : Type 0 where
  pub within : at ≤ length items
  pub below : (k : ℕ) (d : Item) → k < at → (get_or items k d).column < column
  pub above : (k : ℕ) (d : Item) → at ≤ k → k < length items → column ≤ (get_or items k d).column

-- the item at the place is in this column: the split moves past it
IsSplitAt-hit : (items : List Item) (column at : ℕ) (e : Item) → AllPairs (λ (a b : Item). a.column < b.column) items → IsSplitAt items column at → at < length items → (get_or items at e).column ≡ column → IsSplitAt items (column + 1) (at + 1)
IsSplitAt-hit items column at e rising s h is = record {
  within = omega arith;
  below = λ k d l. ⊎_elim (λ b. omega (arith, s.below k d b)) (λ b. omega (arith, column-same items k at d e (omega arith) h)) (cases_lt k at);
  above = λ k d a l. omega (arith, rising at k d (omega arith) l, column-same items at at d e refl h);
}

-- the item at the place is in a later column, or there is none: this column has no item
IsSplitAt-miss : (items : List Item) (column at : ℕ) → AllPairs (λ (a b : Item). a.column < b.column) items → IsSplitAt items column at → ((d : Item) → at < length items → (get_or items at d).column ≢ column) → IsSplitAt items (column + 1) at × (coefficient_of items column ≡ whole (pos 0))
IsSplitAt-miss items column at rising s other =
    let above : (k : ℕ) (d : Item) → at ≤ k → k < length items → column + 1 ≤ (get_or items k d).column = λ k d a l. ⊎_elim (λ e. omega (arith, rising at k d e l, s.above at d (omega arith) (omega arith))) (λ e. let same : k ≡ at = omega arith in rw same (omega (arith, s.above at d (omega arith) (omega arith), other d (omega arith)))) (cases_lt at k) in
    let none : (k : ℕ) (d : Item) → k < length items → (get_or items k d).column ≢ column = λ k d l q. ⊎_elim (λ b. omega (arith, s.below k d b)) (λ b. omega (arith, above k d b l)) (cases_lt k at) in
    (record { within = s.within; below = λ k d l. omega (arith, s.below k d l); above = above }, coefficient_of-absent items column none)

-- ---- numbers made of the coefficients, one column after another

-- the list has grown by a number for each column so far, and the items are split there
pub record IsFilledTo (f : ℚ → ℤ) (old now : List ℤ) (items : List Item) (column at : ℕ) : Type 0 where
  pub filled : now ≡ old ++ map f (coefficients_of column items)
  pub split : IsSplitAt items column at

-- one column more
coefficients_of-more : (n : ℕ) (items : List Item) → coefficients_of (n + 1) items ≡ coefficients_of n items ++ coefficient_of items n ∷ []
coefficients_of-more n items = map-range_with_len_more (coefficient_of items) 0 n n (omega arith)

filled-more : (f : ℚ → ℤ) (old now next : List ℤ) (items : List Item) (column : ℕ) (number : ℤ) → now ≡ old ++ map f (coefficients_of column items) → f (coefficient_of items column) ≡ number → next ≡ now ++ number ∷ [] → next ≡ old ++ map f (coefficients_of (column + 1) items)
filled-more f old now next items column number filled is pushed =
    pushed ∙ ap (λ t. t ++ number ∷ []) filled ∙ append_assoc old (map f (coefficients_of column items)) (number ∷ []) ∙ ap (λ t. old ++ t) (ap (λ t. map f (coefficients_of column items) ++ t ∷ []) (sym is) ∙ sym (map_push f (coefficients_of column items) (coefficient_of items column)) ∙ ap (map f) (sym (coefficients_of-more column items)))

-- the number of the item at the place was put
pub IsFilledTo-hit : (f : ℚ → ℤ) (old now next : List ℤ) (items : List Item) (column at : ℕ) (e : Item) → AllPairs (λ (a b : Item). a.column < b.column) items → IsFilledTo f old now items column at → at < length items → (get_or items at e).column ≡ column → next ≡ now ++ f (get_or items at e).factor ∷ [] → IsFilledTo f old next items (column + 1) (at + 1)
IsFilledTo-hit f old now next items column at e rising s h is pushed =
    let same : f (coefficient_of items column) ≡ f (get_or items at e).factor = ap (λ j. f (coefficient_of items j)) (sym is) ∙ ap f (coefficient_of-item items at e rising h) in
    record { filled = filled-more f old now next items column (f (get_or items at e).factor) s.filled same pushed; split = IsSplitAt-hit items column at e rising s.split h is }

-- the number of 0 was put
pub IsFilledTo-miss : (f : ℚ → ℤ) (old now next : List ℤ) (items : List Item) (column at : ℕ) → AllPairs (λ (a b : Item). a.column < b.column) items → IsFilledTo f old now items column at → ((d : Item) → at < length items → (get_or items at d).column ≢ column) → next ≡ now ++ f (whole (pos 0)) ∷ [] → IsFilledTo f old next items (column + 1) at
IsFilledTo-miss f old now next items column at rising s other pushed =
    let miss = IsSplitAt-miss items column at rising s.split other in
    record { filled = filled-more f old now next items column (f (whole (pos 0))) s.filled (ap f miss.1) pushed; split = miss.0 }

-- a product with 0 is 0
pub product_of_zero : (times : ℚ) → (times *ℚ whole (pos 0)).num ≡ pos 0
product_of_zero times = num_zero (times *ℚ whole (pos 0)) (Laws.mul_zero rationals times)

-- a product with an item's factor that is out of range is one with a coefficient
pub leaves_range_at : (times : ℚ) (n column : ℕ) (items : List Item) (at : ℕ) (item : Item) → IsDistinctBelow n items → column < n → at < length items → item ≡ get_or items at item → item.column ≡ column → (ProductInRange times item.factor → ⊥) → LeavesRangeAt times (coefficients_of n items)
leaves_range_at times n column items at item distinct h l is here leaves =
    let own : (get_or items at item).column ≡ column = ap (λ (item : Item). item.column) (sym is) ∙ here in
    let value : coefficient_of items column ≡ item.factor = ap (coefficient_of items) (sym own) ∙ coefficient_of-item items at item distinct.rising l ∙ ap (λ (item : Item). item.factor) (sym is) in
    (column, item.factor, omega (arith, coefficients_long n items), coefficient-at n column items item.factor h ∙ value, leaves)
