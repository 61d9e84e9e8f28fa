-- The systems of the tests meet the condition of `width`: their points are bounded, and there is one.
use Rattle.std.proofs.Common.{◌≡◌, ℕ, ◌+◌, ◌^◌, ◌<◌, ℤ, pos, negsuc, nat_abs, ◌≤ℤ◌, List, [], ◌∷◌, length, refl, ap, sym, ◌∙◌, subst, arith, All}
use Rattle.std.proofs.lemmas.List.Elements.{All-nil, All-cons}
use Rattle.std.proofs.lemmas.Int.{ints}
use Rattle.std.specs.List.{AllZip}
use Rattle.exact_math.specs.Gcd.{gcd, gcd_within}
use Rattle.exact_math.specs.Rational.{ℚ, whole, frac, ◌+ℚ◌, ◌*ℚ◌, neg_ℚ, ◌≤ℚ◌}
use Rattle.exact_math.specs.RationalLaws.{whole-frac}
use Rattle.exact_math.specs.RationalOrder as Order
use Rattle.exact_math.specs.RationalRing.{rationals, mul_one}
use Rattle.exact_math.specs.RingSolver.{ring, reads}
use Rattle.exact_vectors.specs.Matrices.{times_vector}
use Rattle.frac128.specs.Range.{IsNarrow}
use Rattle.spaces.specs.Tables.{Table, rows_in}
use Rattle.lp_dict.specs.Dictionaries.{none}
use Rattle.lp_dict.specs.Sizes.{MeetsCondition}
use Rattle.lp_dict.specs.Systems.{left_sides, wholes, IsPoint}
use Rattle.norm_gauge.specs.Widths.{AreNarrow, HasBound, IsInhabited, polytope_of}

-- the sum of the sizes
abbrev total : List ℤ → ℕ
total [] = 0
total (z ∷ zs) = nat_abs z + total zs

all_narrow : (zs : List ℤ) → total zs < 2 ^ 127 → All IsNarrow zs
all_narrow [] h = All-nil IsNarrow
all_narrow (z ∷ zs) h = All-cons IsNarrow z zs (omega (arith, h)) (all_narrow zs (omega (arith, h)))

-- ---- the box from 0 to 2

abbrev IsNear : ℚ → Type 0
IsNear v = (neg_ℚ (whole (pos 2)) ≤ℚ v) × (v ≤ℚ whole (pos 2))

-- a coordinate between a lower and an upper bound
between : (a upper lower : ℚ) → upper ≡ a → lower ≡ neg_ℚ a → upper ≤ℚ whole (pos 2) → lower ≤ℚ whole (pos 0) → IsNear a
between a upper lower e f h k =
    let above : neg_ℚ (whole (pos 0)) ≤ℚ neg_ℚ lower = Order.neg_le lower (whole (pos 0)) k in
    let same : neg_ℚ lower ≡ a = rw f (ring rationals (a ∷ []) (search reads depth 30) (search reads depth 30) refl) in
    let far : neg_ℚ (whole (pos 2)) ≤ℚ neg_ℚ (whole (pos 0)) = Order.neg_le (whole (pos 0)) (whole (pos 2)) (Order.whole_le (pos 0) (pos 2) (omega (arith, ints))) in
    (Order.le_trans (neg_ℚ (whole (pos 2))) (neg_ℚ (whole (pos 0))) a far (subst (λ z. neg_ℚ (whole (pos 0)) ≤ℚ z) same above), subst (λ z. z ≤ℚ whole (pos 2)) e h)

-- both coordinates, by the four rows of the box
near : (a b : ℚ) → (whole (pos 1) *ℚ a +ℚ (whole (pos 0) *ℚ b +ℚ none)) ≤ℚ whole (pos 2) → (whole (negsuc 0) *ℚ a +ℚ (whole (pos 0) *ℚ b +ℚ none)) ≤ℚ whole (pos 0) → (whole (pos 0) *ℚ a +ℚ (whole (pos 1) *ℚ b +ℚ none)) ≤ℚ whole (pos 2) → (whole (pos 0) *ℚ a +ℚ (whole (negsuc 0) *ℚ b +ℚ none)) ≤ℚ whole (pos 0) → All IsNear (a ∷ b ∷ [])
near a b h k m n =
    All-cons IsNear a (b ∷ []) (between a _ _ (ring rationals (a ∷ b ∷ []) (search reads depth 30) (search reads depth 30) refl) (ring rationals (a ∷ b ∷ []) (search reads depth 30) (search reads depth 30) refl) h k)
    (All-cons IsNear b [] (between b _ _ (ring rationals (a ∷ b ∷ []) (search reads depth 30) (search reads depth 30) refl) (ring rationals (a ∷ b ∷ []) (search reads depth 30) (search reads depth 30) refl) m n) (All-nil IsNear))

-- ---- the point of two halves

half : ℚ
half = frac (pos 1) 2

half_some : whole (pos 0) ≤ℚ half
unfolding half
half_some = subst (λ z. z ≤ℚ half) (sym (whole-frac (pos 0))) (Order.le_frac (pos 0) (pos 1) 1 2 (omega arith) (omega arith) (omega (arith, ints)))

two_halves : half +ℚ half ≡ whole (pos 1)
unfolding half frac ◌+ℚ◌ whole gcd gcd_within
two_halves = refl

-- a row whose left side is `n` halves below its limit
below : (n : ℕ) (left limit h : ℚ) → whole (pos 0) ≤ℚ h → h +ℚ h ≡ whole (pos 1) → limit *ℚ (h +ℚ h) ≡ left +ℚ whole (pos n) *ℚ h → left ≤ℚ limit
below n left limit h some twice e =
    Order.le_from_difference left limit (whole (pos n) *ℚ h) (Order.mul_nonneg (whole (pos n)) h (Order.whole_le (pos 0) (pos n) (omega (arith, ints))) some) (sym (mul_one limit) ∙ ap (λ t. limit *ℚ t) (sym twice) ∙ e)

abbrev pub box : Table ℤ
box = record { rows = 4; width = 2; items = pos 1 ∷ pos 0 ∷ negsuc 0 ∷ pos 0 ∷ pos 0 ∷ pos 1 ∷ pos 0 ∷ negsuc 0 ∷ [] }

abbrev pub box_limits : List ℤ
box_limits = pos 2 ∷ pos 0 ∷ pos 2 ∷ pos 0 ∷ []

box_condition : MeetsCondition box box_limits (pos 1 ∷ pos 0 ∷ [])
box_condition = record {
  as_many_limits = refl;
  as_many_factors = refl;
  size = omega arith;
  narrow_rows = all_narrow box.items (omega arith);
  narrow_limits = all_narrow box_limits (omega arith);
  narrow_form = all_narrow (pos 1 ∷ pos 0 ∷ []) (omega arith);
}

box_near : (y : List ℚ) → IsPoint 2 (left_sides box) (wholes box_limits) y → All IsNear y
box_near [] p = absurd (omega (arith, p.coordinates))
box_near (a ∷ []) p = absurd (omega (arith, p.coordinates))
box_near (a ∷ (b ∷ [])) p = near a b p.met.0 p.met.1.0 p.met.1.1.0 p.met.1.1.1.0
box_near (a ∷ (b ∷ (d ∷ y))) p = absurd (omega (arith, p.coordinates))

box_bounded : HasBound (polytope_of box box_limits)
box_bounded = record { bound = whole (pos 2); within = box_near }

in_box : (h : ℚ) → whole (pos 0) ≤ℚ h → h +ℚ h ≡ whole (pos 1) → AllZip ◌≤ℚ◌ (times_vector rationals (left_sides box) (h ∷ h ∷ [])) (wholes box_limits)
in_box h some twice = (
  below 3 _ _ h some twice (ring rationals (h ∷ []) (search reads depth 30) (search reads depth 30) refl),
  (
    below 1 _ _ h some twice (ring rationals (h ∷ []) (search reads depth 30) (search reads depth 30) refl),
    (
      below 3 _ _ h some twice (ring rationals (h ∷ []) (search reads depth 30) (search reads depth 30) refl),
      (
        below 1 _ _ h some twice (ring rationals (h ∷ []) (search reads depth 30) (search reads depth 30) refl),
        tt,
      ),
    ),
  ),
)

box_inhabited : IsInhabited (polytope_of box box_limits)
box_inhabited = record { point = half ∷ half ∷ []; has = record { coordinates = refl; met = in_box half half_some two_halves } }

-- ---- the thin triangle 10x + y >= 2, x + 10y >= 2, 10x + 11y <= 19 in the box

abbrev pub triangle : Table ℤ
triangle = record { rows = 7; width = 2; items = negsuc 9 ∷ negsuc 0 ∷ negsuc 0 ∷ negsuc 9 ∷ pos 10 ∷ pos 11 ∷ pos 1 ∷ pos 0 ∷ negsuc 0 ∷ pos 0 ∷ pos 0 ∷ pos 1 ∷ pos 0 ∷ negsuc 0 ∷ [] }

abbrev pub triangle_limits : List ℤ
triangle_limits = negsuc 1 ∷ negsuc 1 ∷ pos 19 ∷ pos 2 ∷ pos 0 ∷ pos 2 ∷ pos 0 ∷ []

triangle_condition : MeetsCondition triangle triangle_limits (pos 1 ∷ pos 1 ∷ [])
triangle_condition = record {
  as_many_limits = refl;
  as_many_factors = refl;
  size = omega arith;
  narrow_rows = all_narrow triangle.items (omega arith);
  narrow_limits = all_narrow triangle_limits (omega arith);
  narrow_form = all_narrow (pos 1 ∷ pos 1 ∷ []) (omega arith);
}

triangle_near : (y : List ℚ) → IsPoint 2 (left_sides triangle) (wholes triangle_limits) y → All IsNear y
triangle_near [] p = absurd (omega (arith, p.coordinates))
triangle_near (a ∷ []) p = absurd (omega (arith, p.coordinates))
triangle_near (a ∷ (b ∷ [])) p = near a b p.met.1.1.1.0 p.met.1.1.1.1.0 p.met.1.1.1.1.1.0 p.met.1.1.1.1.1.1.0
triangle_near (a ∷ (b ∷ (d ∷ y))) p = absurd (omega (arith, p.coordinates))

triangle_bounded : HasBound (polytope_of triangle triangle_limits)
triangle_bounded = record { bound = whole (pos 2); within = triangle_near }

triangle_at : (h : ℚ) → whole (pos 0) ≤ℚ h → h +ℚ h ≡ whole (pos 1) → AllZip ◌≤ℚ◌ (times_vector rationals (left_sides triangle) (h ∷ h ∷ [])) (wholes triangle_limits)
triangle_at h some twice = (
  below 7 _ _ h some twice (ring rationals (h ∷ []) (search reads depth 30) (search reads depth 30) refl),
  (
    below 7 _ _ h some twice (ring rationals (h ∷ []) (search reads depth 30) (search reads depth 30) refl),
    (
      below 17 _ _ h some twice (ring rationals (h ∷ []) (search reads depth 30) (search reads depth 30) refl),
      in_box h some twice,
    ),
  ),
)

triangle_inhabited : IsInhabited (polytope_of triangle triangle_limits)
triangle_inhabited = record { point = half ∷ half ∷ []; has = record { coordinates = refl; met = triangle_at half half_some two_halves } }

-- ---- the same of systems that are equal to them

pub triangle_condition_from : (t : Table ℤ) (limits form : List ℤ) → t ≡ triangle → limits ≡ triangle_limits → form ≡ pos 1 ∷ pos 1 ∷ [] → MeetsCondition t limits form
triangle_condition_from t limits form e f g = rw (e, f, g) triangle_condition

pub triangle_bounded_from : (t : Table ℤ) (limits : List ℤ) → t ≡ triangle → limits ≡ triangle_limits → HasBound (polytope_of t limits)
triangle_bounded_from t limits e f = rw (e, f) triangle_bounded

pub triangle_inhabited_from : (t : Table ℤ) (limits : List ℤ) → t ≡ triangle → limits ≡ triangle_limits → IsInhabited (polytope_of t limits)
triangle_inhabited_from t limits e f = rw (e, f) triangle_inhabited

pub box_condition_from : (t : Table ℤ) (limits form : List ℤ) → t ≡ box → limits ≡ box_limits → form ≡ pos 1 ∷ pos 0 ∷ [] → MeetsCondition t limits form
box_condition_from t limits form e f g = rw (e, f, g) box_condition

pub box_bounded_from : (t : Table ℤ) (limits : List ℤ) → t ≡ box → limits ≡ box_limits → HasBound (polytope_of t limits)
box_bounded_from t limits e f = rw (e, f) box_bounded

pub box_inhabited_from : (t : Table ℤ) (limits : List ℤ) → t ≡ box → limits ≡ box_limits → IsInhabited (polytope_of t limits)
box_inhabited_from t limits e f = rw (e, f) box_inhabited

-- ---- the basis of one row (1, 1)

abbrev pub sum_row : Table ℤ
sum_row = record { rows = 1; width = 2; items = pos 1 ∷ pos 1 ∷ [] }

sum_row_narrow : AreNarrow (rows_in sum_row)
sum_row_narrow = All-cons (λ row. All IsNarrow row) (pos 1 ∷ pos 1 ∷ []) [] (all_narrow (pos 1 ∷ pos 1 ∷ []) (omega arith)) (All-nil (λ row. All IsNarrow row))

pub sum_row_narrow_from : (t : Table ℤ) → t ≡ sum_row → AreNarrow (rows_in t)
sum_row_narrow_from t e = rw e sum_row_narrow
