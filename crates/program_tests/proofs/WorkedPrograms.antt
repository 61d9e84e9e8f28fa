-- The systems of the tests meet the condition of the simplex, and their points are bounded.
use Rattle.std.proofs.Common.{◌≡◌, ℕ, ◌+◌, ◌^◌, ◌<◌, ℤ, pos, negsuc, nat_abs, ◌≤ℤ◌, List, [], ◌∷◌, length, refl, subst, arith, All}
use Rattle.std.proofs.lemmas.List.Elements.{All-nil, All-cons}
use Rattle.std.proofs.lemmas.Int.{ints}
use Rattle.exact_math.specs.Rational.{ℚ, whole, ◌+ℚ◌, ◌*ℚ◌, neg_ℚ, ◌≤ℚ◌}
use Rattle.exact_math.specs.RationalOrder as Order
use Rattle.exact_math.specs.RationalRing.{rationals}
use Rattle.exact_math.specs.RingSolver.{ring, reads}
use Rattle.frac128.specs.Range.{IsNarrow}
use Rattle.spaces.specs.Tables.{Table}
use Rattle.lp_dict.specs.Dictionaries.{none}
use Rattle.lp_dict.specs.Sizes.{MeetsCondition}
use Rattle.lp_dict.specs.Systems.{left_sides, wholes, IsPoint}
use Rattle.lp_solve.specs.Certificates.{IsBounded}

-- the sum of the sizes
abbrev total : List ℤ → ℕ
total [] = 0
total (z ∷ zs) = nat_abs z + total zs

all_narrow : (zs : List ℤ) → total zs < 2 ^ 127 → All IsNarrow zs
all_narrow [] h = All-nil IsNarrow
all_narrow (z ∷ zs) h = All-cons IsNarrow z zs (omega (arith, h)) (all_narrow zs (omega (arith, h)))

-- ---- x <= 0 and -x <= -1

abbrev pub contrary : Table ℤ
contrary = record { rows = 2; width = 1; items = pos 1 ∷ negsuc 0 ∷ [] }

-- the condition
pub contrary_condition : MeetsCondition contrary (pos 0 ∷ negsuc 0 ∷ []) (pos 1 ∷ [])
contrary_condition = record {
  as_many_limits = refl;
  as_many_factors = refl;
  size = omega arith;
  narrow_rows = all_narrow contrary.items (omega arith);
  narrow_limits = all_narrow (pos 0 ∷ negsuc 0 ∷ []) (omega arith);
  narrow_form = all_narrow (pos 1 ∷ []) (omega arith);
}

-- no number meets both
contrary_at : (a : ℚ) → (whole (pos 1) *ℚ a +ℚ none) ≤ℚ whole (pos 0) → (whole (negsuc 0) *ℚ a +ℚ none) ≤ℚ whole (negsuc 0) → ⊥
contrary_at a h k =
    let both = Order.add_le (whole (pos 1) *ℚ a +ℚ none) (whole (pos 0)) (whole (negsuc 0) *ℚ a +ℚ none) (whole (negsuc 0)) h k in
    let left : (whole (pos 1) *ℚ a +ℚ none) +ℚ (whole (negsuc 0) *ℚ a +ℚ none) ≡ whole (pos 0) = ring rationals (a ∷ []) (search reads depth 30) (search reads depth 30) refl in
    let right : whole (pos 0) +ℚ whole (negsuc 0) ≡ whole (negsuc 0) = ring rationals (a ∷ []) (search reads depth 30) (search reads depth 30) refl in
    let order : pos 0 ≤ℤ negsuc 0 = Order.le_from_whole (pos 0) (negsuc 0) (subst (λ z. z ≤ℚ whole (negsuc 0)) left (subst (λ z. ((whole (pos 1) *ℚ a +ℚ none) +ℚ (whole (negsuc 0) *ℚ a +ℚ none)) ≤ℚ z) right both)) in
    omega (arith, ints)

contrary_point : (y : List ℚ) → IsPoint 1 (left_sides contrary) (wholes (pos 0 ∷ negsuc 0 ∷ [])) y → ⊥
contrary_point [] p = absurd (omega (arith, p.coordinates))
contrary_point (a ∷ []) p = contrary_at a p.met.0 p.met.1.0
contrary_point (a ∷ (b ∷ y)) p = absurd (omega (arith, p.coordinates))

-- so they are bounded
pub contrary_bounded : IsBounded 1 (left_sides contrary) (wholes (pos 0 ∷ negsuc 0 ∷ []))
contrary_bounded = record { bound = none; within = λ y p. absurd (contrary_point y p) }

-- the same of a system that is equal to it
pub condition_from : (t : Table ℤ) (limits form : List ℤ) → t ≡ contrary → limits ≡ pos 0 ∷ negsuc 0 ∷ [] → form ≡ pos 1 ∷ [] → MeetsCondition t limits form
condition_from t limits form e f g = rw (e, f, g) contrary_condition

pub bounded_from : (t : Table ℤ) (limits form : List ℤ) → t ≡ contrary → limits ≡ pos 0 ∷ negsuc 0 ∷ [] → form ≡ pos 1 ∷ [] → IsBounded (length form) (left_sides t) (wholes limits)
bounded_from t limits form e f g = rw (e, f, g) contrary_bounded

-- ---- 3x + 2y <= 12, x + 2y <= 6, and both from 0 to 10

abbrev pub constraints : Table ℤ
constraints = record { rows = 6; width = 2; items = pos 3 ∷ pos 2 ∷ pos 1 ∷ pos 2 ∷ pos 1 ∷ pos 0 ∷ negsuc 0 ∷ pos 0 ∷ pos 0 ∷ pos 1 ∷ pos 0 ∷ negsuc 0 ∷ [] }

abbrev pub constraint_limits : List ℤ
constraint_limits = pos 12 ∷ pos 6 ∷ pos 10 ∷ pos 0 ∷ pos 10 ∷ pos 0 ∷ []

constraints_condition : MeetsCondition constraints constraint_limits (negsuc 4 ∷ negsuc 3 ∷ [])
constraints_condition = record {
  as_many_limits = refl;
  as_many_factors = refl;
  size = omega arith;
  narrow_rows = all_narrow constraints.items (omega arith);
  narrow_limits = all_narrow constraint_limits (omega arith);
  narrow_form = all_narrow (negsuc 4 ∷ negsuc 3 ∷ []) (omega arith);
}

-- a coordinate between a lower and an upper bound
between : (a upper lower : ℚ) → upper ≡ a → lower ≡ neg_ℚ a → upper ≤ℚ whole (pos 10) → lower ≤ℚ whole (pos 0) → (neg_ℚ (whole (pos 10)) ≤ℚ a) × (a ≤ℚ whole (pos 10))
between a upper lower e f h k =
    let above : neg_ℚ (whole (pos 0)) ≤ℚ neg_ℚ lower = Order.neg_le lower (whole (pos 0)) k in
    let same : neg_ℚ lower ≡ a = rw f (ring rationals (a ∷ []) (search reads depth 30) (search reads depth 30) refl) in
    let far : neg_ℚ (whole (pos 10)) ≤ℚ neg_ℚ (whole (pos 0)) = Order.neg_le (whole (pos 0)) (whole (pos 10)) (Order.whole_le (pos 0) (pos 10) (omega (arith, ints))) in
    (Order.le_trans (neg_ℚ (whole (pos 10))) (neg_ℚ (whole (pos 0))) a far (subst (λ z. neg_ℚ (whole (pos 0)) ≤ℚ z) same above), subst (λ z. z ≤ℚ whole (pos 10)) e h)

first_upper : (a b : ℚ) → whole (pos 1) *ℚ a +ℚ (whole (pos 0) *ℚ b +ℚ none) ≡ a
first_upper a b = ring rationals (a ∷ b ∷ []) (search reads depth 30) (search reads depth 30) refl

first_lower : (a b : ℚ) → whole (negsuc 0) *ℚ a +ℚ (whole (pos 0) *ℚ b +ℚ none) ≡ neg_ℚ a
first_lower a b = ring rationals (a ∷ b ∷ []) (search reads depth 30) (search reads depth 30) refl

second_upper : (a b : ℚ) → whole (pos 0) *ℚ a +ℚ (whole (pos 1) *ℚ b +ℚ none) ≡ b
second_upper a b = ring rationals (a ∷ b ∷ []) (search reads depth 30) (search reads depth 30) refl

second_lower : (a b : ℚ) → whole (pos 0) *ℚ a +ℚ (whole (negsuc 0) *ℚ b +ℚ none) ≡ neg_ℚ b
second_lower a b = ring rationals (a ∷ b ∷ []) (search reads depth 30) (search reads depth 30) refl

abbrev IsNear : ℚ → Type 0
IsNear v = (neg_ℚ (whole (pos 10)) ≤ℚ v) × (v ≤ℚ whole (pos 10))

constraints_near : (y : List ℚ) → IsPoint 2 (left_sides constraints) (wholes constraint_limits) y → All IsNear y
constraints_near [] p = absurd (omega (arith, p.coordinates))
constraints_near (a ∷ []) p = absurd (omega (arith, p.coordinates))
constraints_near (a ∷ (b ∷ [])) p =
    All-cons IsNear a (b ∷ []) (between a _ _ (first_upper a b) (first_lower a b) p.met.1.1.0 p.met.1.1.1.0)
    (All-cons IsNear b [] (between b _ _ (second_upper a b) (second_lower a b) p.met.1.1.1.1.0 p.met.1.1.1.1.1.0) (All-nil IsNear))
constraints_near (a ∷ (b ∷ (d ∷ y))) p = absurd (omega (arith, p.coordinates))

constraints_bounded : IsBounded 2 (left_sides constraints) (wholes constraint_limits)
constraints_bounded = record { bound = whole (pos 10); within = constraints_near }

pub constraints_condition_from : (t : Table ℤ) (limits form : List ℤ) → t ≡ constraints → limits ≡ constraint_limits → form ≡ negsuc 4 ∷ negsuc 3 ∷ [] → MeetsCondition t limits form
constraints_condition_from t limits form e f g = rw (e, f, g) constraints_condition

pub constraints_bounded_from : (t : Table ℤ) (limits form : List ℤ) → t ≡ constraints → limits ≡ constraint_limits → form ≡ negsuc 4 ∷ negsuc 3 ∷ [] → IsBounded (length form) (left_sides t) (wholes limits)
constraints_bounded_from t limits form e f g = rw (e, f, g) constraints_bounded
