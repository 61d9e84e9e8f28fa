-- Sums over all slacks, and sums over the variables outside: the values beside the variables of a list without repetition add up to the same in both.
use Rattle.std.proofs.Common.{◌≡◌, ◌≢◌, ℕ, zero, suc, ◌+◌, ◌<◌, ◌≤◌, ◌⊎◌, inl, inr, List, [], ◌∷◌, length, map, get_or, refl, sym, ap, ap₂, subst, ◌∙◌, arith, Bool, true, false}
use Rattle.std.specs.Prelude.{◌==◌, if◌then◌else◌}
use Rattle.std.proofs.lemmas.Bool.{eqb-true, eqb-false, eq-eqb}
use Rattle.std.proofs.lemmas.List.{length-map}
use Rattle.exact_math.specs.Rational.{ℚ, ◌+ℚ◌, ◌*ℚ◌}
use Rattle.exact_math.specs.RationalRing.{rationals}
use Rattle.exact_math.specs.RingSolver.{ring, reads}
use Rattle.exact_math.specs.RingLaws as Laws
use Rattle.exact_vectors.specs.Vectors.{dot, add}
use Rattle.exact_vectors.specs.DotLaws as Dot
use Rattle.lp_dict.specs.Dictionaries.{none, numbers_from}
use Rattle.lp_solve.specs.Values.{value_of}
use Rattle.lp_solve.proofs.ValueLaws.{lt_or_le, unequal, value_of-same, value_of-other, value_of-cases}

-- 1 where the test holds
abbrev pub tick : Bool → ℕ
tick true = 1
tick false = 0

-- how often a variable stands in the list
abbrev pub occurrences : ℕ → List ℕ → ℕ
occurrences v [] = 0
occurrences v (k ∷ ks) = tick (k == v) + occurrences v ks

-- no variable stands twice
abbrev pub IsDistinct : List ℕ → Type 0
IsDistinct ks = (v : ℕ) → occurrences v ks ≤ 1

-- a variable of the list stands there once at least
pub occurs : (ks : List ℕ) (i v : ℕ) → i < length ks → get_or ks i 0 ≡ v → 0 < occurrences v ks
occurs [] i v h e = absurd (omega arith)
occurs (k ∷ ks) zero v h e = let once : tick (k == v) ≡ 1 = ap tick (eq-eqb k v e) in omega arith
occurs (k ∷ ks) (suc i) v h e = let rest : 0 < occurrences v ks = occurs ks i v (omega arith) e in omega arith

-- the others of a list without repetition have none
pub distinct_rest : (k : ℕ) (ks : List ℕ) → IsDistinct (k ∷ ks) → IsDistinct ks
distinct_rest k ks d v = let all : tick (k == v) + occurrences v ks ≤ 1 = d v in omega arith

-- the first is not among the others
pub first_absent : (k : ℕ) (ks : List ℕ) → IsDistinct (k ∷ ks) → occurrences k ks ≡ 0
first_absent k ks d =
    let once : tick (k == k) ≡ 1 = ap tick (eq-eqb k k refl) in
    let all : tick (k == k) + occurrences k ks ≤ 1 = d k in
    omega arith

-- a variable that is absent has the value 0
value_absent : (ks : List ℕ) (qs : List ℚ) (v : ℕ) → occurrences v ks ≡ 0 → value_of ks qs v ≡ none
value_absent ks qs v e = value_of-cases (λ q. q ≡ none) ks qs v refl (λ i lt f. let some : 0 < occurrences v ks = occurs ks i v lt f in absurd (omega arith))

-- the value at a place
pub value_at : (ks : List ℕ) (qs : List ℚ) (i : ℕ) → IsDistinct ks → i < length ks → length ks ≤ length qs → value_of ks qs (get_or ks i 0) ≡ get_or qs i none
value_at [] qs i d h e = absurd (omega arith)
value_at (k ∷ ks) [] i d h e = absurd (omega arith)
value_at (k ∷ ks) (q ∷ qs) zero d h e = value_of-same k q ks qs k refl
value_at (k ∷ ks) (q ∷ qs) (suc i) d h e =
    let inside : i < length ks = omega arith in
    let apart : k ≢ get_or ks i 0 = λ same. let some : 0 < occurrences k ks = occurs ks i k inside (sym same) in let zero_of : occurrences k ks ≡ 0 = first_absent k ks d in absurd (omega arith) in
    value_of-other k q ks qs (get_or ks i 0) apart ∙ value_at ks qs i (distinct_rest k ks d) inside (omega arith)

-- lists with the same items
pub same_items : {A : Type 0} (xs ys : List A) (d : A) → length xs ≡ length ys → ((i : ℕ) → i < length xs → get_or xs i d ≡ get_or ys i d) → xs ≡ ys
same_items [] [] d e h = refl
same_items [] (y ∷ ys) d e h = absurd (omega arith)
same_items (x ∷ xs) [] d e h = absurd (omega arith)
same_items (x ∷ xs) (y ∷ ys) d e h = ap₂ (λ a l. a ∷ l) (h 0 (omega arith)) (same_items xs ys d (omega arith) (λ i lt. h (suc i) (omega arith)))

-- ---- the exchange of sums

-- `q` at the variable `k`, 0 elsewhere
only : ℕ → ℚ → ℕ → ℚ
only k q v = if k == v then q else none

-- the values with one more variable in front
more_values : (k : ℕ) (q : ℚ) (ks : List ℕ) (qs : List ℚ) (numbers : List ℕ) → occurrences k ks ≡ 0 → map (value_of (k ∷ ks) (q ∷ qs)) numbers ≡ add rationals (map (only k q) numbers) (map (value_of ks qs) numbers)
unfolding only
more_values k q ks qs [] a = refl
more_values k q ks qs (v ∷ numbers) a = ap₂ (λ (x : ℚ) (l : List ℚ). x ∷ l) (go (k == v) refl) (more_values k q ks qs numbers a)
  where
    go : (b : Bool) → (k == v) ≡ b → (if k == v then q else value_of ks qs v) ≡ (if k == v then q else none) +ℚ value_of ks qs v
    go true e = rw e (sym (ap (λ t. q +ℚ t) (subst (λ w. value_of ks qs w ≡ none) (eqb-true k v e) (value_absent ks qs k a)) ∙ rationals.add_zero q))
    go false e = rw e (sym (Laws.zero_add rationals (value_of ks qs v)))

module _ (x : ℕ → ℚ) where
  -- a variable before all numbers gives nothing
  only_before : (k : ℕ) (q : ℚ) (first count : ℕ) → k < first → dot rationals (map (only k q) (numbers_from first count)) (map x (numbers_from first count)) ≡ none
  unfolding only
  only_before k q first zero h = refl
  only_before k q first (suc count) h =
      let apart : k ≢ first = omega arith in
      ap₂ (λ a b. a *ℚ x first +ℚ b) (ap (λ t. if t then q else none) (unequal k first apart)) (only_before k q (suc first) count (omega arith)) ∙ ring rationals (x first ∷ []) {x = none *ℚ x first +ℚ none} {y = none} (search reads depth 30) (search reads depth 30) refl

  -- a value of 0 gives nothing
  only_nothing : (k : ℕ) (numbers : List ℕ) → dot rationals (map (only k none) numbers) (map x numbers) ≡ none
  unfolding only
  only_nothing k [] = refl
  only_nothing k (v ∷ numbers) = ap₂ (λ a b. a *ℚ x v +ℚ b) (go (k == v)) (only_nothing k numbers) ∙ ring rationals (x v ∷ []) {x = none *ℚ x v +ℚ none} {y = none} (search reads depth 30) (search reads depth 30) refl
    where
      go : (b : Bool) → (if b then none else none) ≡ none
      go true = refl
      go false = refl

  -- a variable among the numbers gives its value once
  only_among : (k : ℕ) (q : ℚ) (first count : ℕ) → first ≤ k → k < first + count → dot rationals (map (only k q) (numbers_from first count)) (map x (numbers_from first count)) ≡ q *ℚ x k
  unfolding only
  only_among k q first zero low high = absurd (omega arith)
  only_among k q first (suc count) low high = go (k == first) refl (λ other. only_among k q (suc first) count other (omega arith))
    where
      go : (b : Bool) → (k == first) ≡ b → (suc first ≤ k → dot rationals (map (only k q) (numbers_from (suc first) count)) (map x (numbers_from (suc first) count)) ≡ q *ℚ x k) → (if k == first then q else none) *ℚ x first +ℚ dot rationals (map (only k q) (numbers_from (suc first) count)) (map x (numbers_from (suc first) count)) ≡ q *ℚ x k
      go true e rest =
          let same : k ≡ first = eqb-true k first e in
          ap₂ (λ a b. a *ℚ x first +ℚ b) (ap (λ t. if t then q else none) e) (only_before k q (suc first) count (omega arith)) ∙ rationals.add_zero (q *ℚ x first) ∙ ap (λ w. q *ℚ x w) (sym same)
      go false e rest =
          let apart : k ≢ first = eqb-false k first e in
          let other : suc first ≤ k = omega arith in
          ap₂ (λ a b. a *ℚ x first +ℚ b) (ap (λ t. if t then q else none) e) (rest other) ∙ ring rationals (q ∷ x first ∷ x k ∷ []) {x = none *ℚ x first +ℚ q *ℚ x k} {y = q *ℚ x k} (search reads depth 30) (search reads depth 30) refl

  -- no variables give nothing
  none_of_all : (qs : List ℚ) (numbers : List ℕ) → dot rationals (map (value_of [] qs) numbers) (map x numbers) ≡ none
  none_of_all qs [] = refl
  none_of_all qs (v ∷ numbers) = ap (λ b. none *ℚ x v +ℚ b) (none_of_all qs numbers) ∙ ring rationals (x v ∷ []) {x = none *ℚ x v +ℚ none} {y = none} (search reads depth 30) (search reads depth 30) refl

  -- the exchange: each variable of the list is among the numbers, or before them with the value 0
  pub exchange : (ks : List ℕ) (qs : List ℚ) (first count : ℕ) → IsDistinct ks → length ks ≤ length qs → ((i : ℕ) → i < length ks → get_or ks i 0 < first + count) → ((i : ℕ) → i < length ks → get_or ks i 0 < first → get_or qs i none ≡ none)
      → dot rationals (map (value_of ks qs) (numbers_from first count)) (map x (numbers_from first count)) ≡ dot rationals qs (map x ks)
  exchange [] qs first count d e within before = none_of_all qs (numbers_from first count) ∙ sym (Dot.dot-nil_right rationals qs)
  exchange (k ∷ ks) [] first count d e within before = absurd (omega arith)
  exchange (k ∷ ks) (q ∷ qs) first count d e within before =
      let numbers : List ℕ = numbers_from first count in
      let same : length (map (only k q) numbers) ≡ length (map (value_of ks qs) numbers) = length-map numbers (only k q) ∙ sym (length-map numbers (value_of ks qs)) in
      ap (λ l. dot rationals l (map x numbers)) (more_values k q ks qs numbers (first_absent k ks d))
      ∙ Dot.dot-add_left rationals (map (only k q) numbers) (map (value_of ks qs) numbers) (map x numbers) same
      ∙ ap₂ (λ a b. a +ℚ b) (alone (lt_or_le k first)) (exchange ks qs first count (distinct_rest k ks d) (omega arith) (λ i lt. within (suc i) (omega arith)) (λ i lt. before (suc i) (omega arith)))
    where
      alone : (k < first) ⊎ (first ≤ k) → dot rationals (map (only k q) (numbers_from first count)) (map x (numbers_from first count)) ≡ q *ℚ x k
      alone (inl low) =
          let zero_value : q ≡ none = before 0 (omega arith) low in
          ap (λ t. dot rationals (map (only k t) (numbers_from first count)) (map x (numbers_from first count))) zero_value ∙ only_nothing k (numbers_from first count) ∙ sym (ap (λ t. t *ℚ x k) zero_value ∙ Laws.zero_mul rationals (x k))
      alone (inr high) = only_among k q first count high (within 0 (omega arith))
