-- Forms that are one column's value, or minus it, factor by factor.
use Rattle.std.proofs.Common.{◌≡◌, ◌≢◌, ◌⊎◌, inl, inr, ℕ, zero, suc, ◌+◌, ◌<◌, ◌≤◌, Bool, true, false, List, [], ◌∷◌, length, get_or, set, ℤ, pos, negsuc, neg_ℤ, refl, sym, ap, ap₂, ◌∙◌, arith, ⊎_elim}
use Rattle.std.proofs.lemmas.Bool.{cases_lt}
use Rattle.exact_math.specs.Ring.{integers}
use Rattle.exact_math.specs.IntegerRing.{linear}
use Rattle.exact_vectors.specs.Vectors.{negate, zeros}
use Rattle.farkas_rows.specs.Inequalities.{unit}
use Rattle.plain_slices.specs.Shut.{IsColumn}
use Rattle.plain_slices.specs.Nodes.{signed_unit}

zeros-at : (n k : ℕ) → get_or (zeros integers n) k (pos 0) ≡ pos 0
zeros-at zero k = refl
zeros-at (suc n) zero = refl
zeros-at (suc n) (suc k) = zeros-at n k

-- 1 in its column
pub unit-same : (n j : ℕ) → j < n → get_or (unit n j) j (pos 0) ≡ pos 1
unit-same zero j h = absurd (omega arith)
unit-same (suc n) zero h = refl
unit-same (suc n) (suc j) h = unit-same n j (omega arith)

-- and 0 elsewhere
pub unit-other : (n j k : ℕ) → k ≢ j → get_or (unit n j) k (pos 0) ≡ pos 0
unit-other zero j k h = refl
unit-other (suc n) zero zero h = absurd (h refl)
unit-other (suc n) zero (suc k) h = zeros-at n k
unit-other (suc n) (suc j) zero h = refl
unit-other (suc n) (suc j) (suc k) h = unit-other n j k (λ e. h (ap suc e))

pub negate-at : (form : List ℤ) (k : ℕ) → get_or (negate integers form) k (pos 0) ≡ neg_ℤ (get_or form k (pos 0))
negate-at [] k = refl
negate-at (a ∷ form) zero = refl
negate-at (a ∷ form) (suc k) = negate-at form k

-- one of the two
pub column-signed : (negative : Bool) (n j : ℕ) → IsColumn n j (signed_unit negative n j)
column-signed true n j = inr refl
column-signed false n j = inl refl

pub column-same : (n j : ℕ) (form : List ℤ) → j < n → IsColumn n j form → (get_or form j (pos 0) ≡ pos 1) ⊎ (get_or form j (pos 0) ≡ negsuc 0)
column-same n j form h (inl e) = inl (ap (λ f. get_or f j (pos 0)) e ∙ unit-same n j h)
column-same n j form h (inr e) = inr (ap (λ f. get_or f j (pos 0)) e ∙ negate-at (unit n j) j ∙ ap neg_ℤ (unit-same n j h))

pub column-other : (n j k : ℕ) (form : List ℤ) → k ≢ j → IsColumn n j form → get_or form k (pos 0) ≡ pos 0
column-other n j k form h (inl e) = ap (λ f. get_or f k (pos 0)) e ∙ unit-other n j k h
column-other n j k form h (inr e) = ap (λ f. get_or f k (pos 0)) e ∙ negate-at (unit n j) k ∙ ap neg_ℤ (unit-other n j k h)

-- no form is of two columns
pub column-unique : (n j k : ℕ) (form : List ℤ) → j < n → IsColumn n j form → IsColumn n k form → k ≢ j → ⊥
column-unique n j k form h is_j is_k differ = ⊎_elim
    (λ (e : get_or form j (pos 0) ≡ pos 1). absurd (omega (linear, column-other n k j form (λ f. differ (sym f)) is_k)))
    (λ (e : get_or form j (pos 0) ≡ negsuc 0). absurd (omega (linear, column-other n k j form (λ f. differ (sym f)) is_k)))
    (column-same n j form h is_j)

-- a form without factors is zeros
only_zeros : (form : List ℤ) → ((k : ℕ) → k < length form → get_or form k (pos 0) ≡ pos 0) → form ≡ zeros integers (length form)
only_zeros [] h = refl
only_zeros (a ∷ form) h = ap₂ {A = ℤ} {B = List ℤ} {C = List ℤ} (λ x t. x ∷ t) (h 0 (omega arith)) (only_zeros form (λ k lt. h (suc k) (omega arith)))

-- a form with one factor
pub one_factor : (form : List ℤ) (j : ℕ) → j < length form → ((k : ℕ) → k < length form → k ≢ j → get_or form k (pos 0) ≡ pos 0) → form ≡ set (zeros integers (length form)) j (get_or form j (pos 0))
one_factor [] j h others = absurd (omega arith)
one_factor (a ∷ form) zero h others = ap {B = List ℤ} (λ t. a ∷ t) (only_zeros form (λ k lt. others (suc k) (omega arith) (omega arith)))
one_factor (a ∷ form) (suc j) h others = ap₂ {A = ℤ} {B = List ℤ} {C = List ℤ} (λ x t. x ∷ t) (others 0 (omega arith) (omega arith)) (one_factor form j (omega arith) (λ k lt ne. others (suc k) (omega arith) (omega arith)))

negated_zeros : (n : ℕ) → negate integers (zeros integers n) ≡ zeros integers n
negated_zeros zero = refl
negated_zeros (suc n) = ap {B = List ℤ} (λ t. pos 0 ∷ t) (negated_zeros n)

-- minus the column's value
pub negated_unit : (n j : ℕ) → set (zeros integers n) j (negsuc 0) ≡ negate integers (unit n j)
negated_unit zero j = refl
negated_unit (suc n) zero = ap {B = List ℤ} (λ t. negsuc 0 ∷ t) (sym (negated_zeros n))
negated_unit (suc n) (suc j) = ap {B = List ℤ} (λ t. pos 0 ∷ t) (negated_unit n j)

-- the one factor is 1 or -1
pub signed-of_factor : (form : List ℤ) (j : ℕ) (factor : ℤ) (negative : Bool) → form ≡ set (zeros integers (length form)) j factor → (factor ≡ pos 1) × (negative ≡ false) ⊎ (factor ≡ negsuc 0) × (negative ≡ true) → form ≡ signed_unit negative (length form) j
signed-of_factor form j factor negative e (inl h) = rw h.1 (e ∙ ap (set (zeros integers (length form)) j) h.0)
signed-of_factor form j factor negative e (inr h) = rw h.1 (e ∙ ap (set (zeros integers (length form)) j) h.0 ∙ negated_unit (length form) j)

-- zeros are no column's value
pub no_column-zeros : (n : ℕ) (form : List ℤ) → ((k : ℕ) → k < n → get_or form k (pos 0) ≡ pos 0) → (column : ℕ) → column < n → IsColumn n column form → ⊥
no_column-zeros n form zeros column h is = ⊎_elim
    (λ (e : get_or form column (pos 0) ≡ pos 1). absurd (omega (linear, zeros column h)))
    (λ (e : get_or form column (pos 0) ≡ negsuc 0). absurd (omega (linear, zeros column h)))
    (column-same n column form h is)

-- nor is a form with two factors
pub no_column-two : (n i j : ℕ) (form : List ℤ) → i < j → get_or form i (pos 0) ≢ pos 0 → get_or form j (pos 0) ≢ pos 0 → (column : ℕ) → column < n → IsColumn n column form → ⊥
no_column-two n i j form h at_i at_j column lt is = ⊎_elim
    (λ (below : i < column). at_i (column-other n column i form (omega arith) is))
    (λ (from : column ≤ i). at_j (column-other n column j form (omega arith) is))
    (cases_lt i column)

-- nor is one with another factor than 1 and -1
pub no_column-factor : (n i : ℕ) (form : List ℤ) → get_or form i (pos 0) ≢ pos 0 → get_or form i (pos 0) ≢ pos 1 → get_or form i (pos 0) ≢ negsuc 0 → (column : ℕ) → column < n → IsColumn n column form → ⊥
no_column-factor n i form zero_not one_not minus_not column lt is = ⊎_elim
    (λ (below : i < column). zero_not (column-other n column i form (omega arith) is))
    (λ (from : column ≤ i). ⊎_elim
    (λ (above : column < i). zero_not (column-other n column i form (omega arith) is))
    (λ (same : i ≤ column). let e : column ≡ i = omega arith in ⊎_elim
    (λ (one : get_or form column (pos 0) ≡ pos 1). one_not (ap (λ k. get_or form k (pos 0)) (sym e) ∙ one))
    (λ (minus : get_or form column (pos 0) ≡ negsuc 0). minus_not (ap (λ k. get_or form k (pos 0)) (sym e) ∙ minus))
    (column-same n column form lt is))
    (cases_lt column i))
    (cases_lt i column)

-- zeros before a place and after it
pub others_zero : (form : List ℤ) (j : ℕ) → ((k : ℕ) → 0 ≤ k → k < j → get_or form k (pos 0) ≡ pos 0) → ((k : ℕ) → j + 1 ≤ k → k < length form → get_or form k (pos 0) ≡ pos 0) → (k : ℕ) → k < length form → k ≢ j → get_or form k (pos 0) ≡ pos 0
others_zero form j before after k lt ne = ⊎_elim (λ (below : k < j). before k (omega arith) below) (λ (from : j ≤ k). after k (omega arith) lt) (cases_lt k j)
