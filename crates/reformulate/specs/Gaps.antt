-- Gaps: whole times of equalities that show that they have no integer solution (Schrijver, "Theory of Linear and Integer Programming", 1986, chapter 4).
use Rattle.std.specs.Prelude.{◌≡◌, ◌≢◌, ◌⊎◌, ℕ, ◌<◌, ◌^◌, ℤ, pos, neg_ℤ, ◌+ℤ◌, ◌-ℤ◌, ◌*ℤ◌, ◌≤ℤ◌, ◌<ℤ◌, List, [], length, map, get_or, set}
use Rattle.exact_math.specs.Ring.{integers}
use Rattle.exact_vectors.specs.Matrices.{combination}
use Rattle.exact_vectors.specs.Vectors.{dot, scale, zeros}
use Rattle.unimodular_pair.specs.Gathering.{common_divisor}
use Rattle.reformulate.specs.declared.equality.Equality.{Equality}
use Rattle.reformulate.specs.declared.gap.Gap.{Gap}

-- some item is not 0
pub record HasNonzero (g : List ℤ) : Type 0 where
  pub place : ℕ
  pub nonzero : get_or g place (pos 0) ≢ pos 0

-- the forms of equalities, and their sides
abbrev pub forms_of : List Equality → List (List ℤ)
forms_of equalities = map (λ (equality : Equality). equality.form) equalities

abbrev pub sides_of : List Equality → List ℤ
sides_of equalities = map (λ (equality : Equality). equality.side) equalities

-- so many times each equality, they sum up to this form and this side
pub record SumUp (n : ℕ) (equalities : List Equality) (times left : List ℤ) (right : ℤ) : Type 0 where
  pub as_many : length times ≡ length equalities
  pub form : combination integers n times (forms_of equalities) ≡ left
  pub side : dot integers times (sides_of equalities) ≡ right

-- the number, or the nearer end of -2^97 to 2^97 where it is past it
pub record IsNearest (number nearest : ℤ) : Type 0 where
  pub above : pos (2 ^ 97) <ℤ number → nearest ≡ pos (2 ^ 97)
  pub below : number <ℤ neg_ℤ (pos (2 ^ 97)) → nearest ≡ neg_ℤ (pos (2 ^ 97))
  pub between : neg_ℤ (pos (2 ^ 97)) ≤ℤ number → number ≤ℤ pos (2 ^ 97) → nearest ≡ number

-- the least whole number that is at least the quotient, so brought
pub record IsCeiling (side divisor lo : ℤ) : Type 0 where
  pub ceiling : ℤ
  pub above : (divisor *ℤ (ceiling -ℤ pos 1)) <ℤ side
  pub below : side ≤ℤ (divisor *ℤ ceiling)
  pub brought : IsNearest ceiling lo

-- the first equality whose form is not all 0
pub record IsFirst (equalities : List Equality) (place : ℕ) : Type 0 where
  pub there : place < length equalities
  pub factor : HasNonzero (get_or (forms_of equalities) place [])
  pub before : (k : ℕ) → k < place → HasNonzero (get_or (forms_of equalities) k []) → ⊥

-- each form is all 0
abbrev pub AreAllZero : List Equality → Type 0
AreAllZero equalities = (k : ℕ) → HasNonzero (get_or (forms_of equalities) k []) → ⊥

-- one of the times raised
abbrev pub raised : ℕ → ℤ → List ℤ → List ℤ
raised place more times = set times place (get_or times place (pos 0) +ℤ more)

-- The divisor is added to the time of the first equality whose form is not all 0, which is the gap's form. Where each form is all 0, nothing is added, and the
-- gap's form is all 0.
abbrev pub AddsDivisor : ℕ → List Equality → List ℤ → Gap → Type 0
AddsDivisor n equalities times gap =
    (AreAllZero equalities × (gap.times ≡ times) × (gap.form ≡ zeros integers n))
    ⊎ ((place : ℕ) × IsFirst equalities place × (gap.times ≡ raised place gap.divisor times) × (gap.form ≡ get_or (forms_of equalities) place []))

-- Times of common divisor 1 give a form of zeros and a side above 0. The divisor is one more than that side, and is added to one of them.
pub record IsRaised (n : ℕ) (equalities : List Equality) (gap : Gap) : Type 0 where
  pub times : List ℤ
  pub value : ℤ
  pub lowest : common_divisor times ≡ 1
  pub sum : SumUp n equalities times (zeros integers n) value
  pub positive : pos 0 <ℤ value
  pub divisor : gap.divisor ≡ value +ℤ pos 1
  pub added : AddsDivisor n equalities times gap

-- The times give so many times the form as the divisor says, which is above 0, and a side that the divisor does not divide. So the form, which has
-- whole values at whole points, would have to have a value that is not whole, and `lo` is the next whole number above it, or the nearer end of the
-- range. The form is not all 0 where some equality's form is not.
pub record IsGap (n : ℕ) (equalities : List Equality) (gap : Gap) : Type 0 where
  pub side : ℤ
  pub sum : SumUp n equalities gap.times (scale integers gap.divisor gap.form) side
  pub columns : length gap.form ≡ n
  pub positive : pos 0 <ℤ gap.divisor
  pub broken : (q : ℤ) → gap.divisor *ℤ q ≢ side
  pub ceiling : ℤ
  pub above : (gap.divisor *ℤ (ceiling -ℤ pos 1)) <ℤ side
  pub below : side <ℤ (gap.divisor *ℤ ceiling)
  pub lo : IsNearest ceiling gap.lo
  pub shown : (k : ℕ) → HasNonzero (get_or (forms_of equalities) k []) → HasNonzero gap.form
  pub lowest : (common_divisor gap.times ≡ 1) ⊎ IsRaised n equalities gap
