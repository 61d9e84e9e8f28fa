-- Worked values of the definitions on rational numbers, each by computation.
use Rattle.std.proofs.Common.{◌≡◌, pos, negsuc, refl, Greater}
use Rattle.exact_math.specs.Gcd.{gcd, gcd_within}
use Rattle.std.proofs.Common.{[], ◌∷◌}
use Rattle.exact_math.specs.RingSolver.{ring, reads}
use Rattle.exact_math.specs.RationalRing.{rationals}
use Rattle.exact_math.specs.Rational.{ℚ, whole, frac, ratio, ◌+ℚ◌, ◌*ℚ◌, inv_ℚ, rational_cmp, floor, ceil, round}

third_and_sixth : frac (pos 1) 3 +ℚ frac (pos 1) 6 ≡ frac (pos 1) 2
unfolding frac ◌+ℚ◌ gcd gcd_within
third_and_sixth = refl

half_of_even : frac (negsuc 7) 12 ≡ frac (negsuc 1) 3
unfolding frac gcd gcd_within
half_of_even = refl

minus_seven_halves : (floor (frac (negsuc 6) 2) ≡ negsuc 3) × (ceil (frac (negsuc 6) 2) ≡ negsuc 2)
unfolding frac gcd gcd_within
minus_seven_halves = (refl, refl)

inverse_of_negative : inv_ℚ (frac (negsuc 1) 3) ≡ frac (negsuc 2) 2
unfolding frac inv_ℚ ratio gcd gcd_within
inverse_of_negative = refl

product_to_one : frac (pos 170141183460469231731687303715884105727) 1 *ℚ frac (pos 1) 170141183460469231731687303715884105727 ≡ whole (pos 1)
unfolding frac ◌*ℚ◌ whole gcd gcd_within
product_to_one = refl

nearest : (round (frac (pos 7) 2) ≡ pos 4) × (round (frac (negsuc 6) 2) ≡ negsuc 2) × (round (frac (pos 10) 3) ≡ pos 3)
unfolding frac gcd gcd_within
nearest = (refl, refl, refl)

-- neighbours near 2^127, whose cross products are far above 128 bits
neighbours : rational_cmp (frac (pos 170141183460469231731687303715884105726) 170141183460469231731687303715884105727) (frac (pos 170141183460469231731687303715884105725) 170141183460469231731687303715884105726) ≡ Greater
unfolding frac rational_cmp gcd gcd_within
neighbours = refl

-- an identity by the solver for commutative rings
square_of_sum : (p q : ℚ) → (p +ℚ q) *ℚ (p +ℚ q) ≡ p *ℚ p +ℚ whole (pos 2) *ℚ (p *ℚ q) +ℚ q *ℚ q
square_of_sum p q = ring rationals (p ∷ q ∷ []) (search reads depth 30) (search reads depth 30) refl
