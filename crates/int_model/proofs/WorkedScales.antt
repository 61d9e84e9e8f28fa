-- Worked values: rows with rational coefficients and their integer rows.
use Rattle.std.proofs.Common.{◌≡◌, List, [], ◌∷◌, pos, negsuc, refl}
use Rattle.std.specs.Prelude.{Some, None}
use Rattle.exact_math.specs.Gcd.{gcd, gcd_within, lcm}
use Rattle.exact_math.specs.Rational.{ℚ, whole, frac, ◌*ℚ◌}
use Rattle.int_model.specs.Scale.{common_denominator, common_numerator, scale, scaled, FractionRow, integer_row}

-- 5/4 <= x/2 + 3y/2 <= 7/2
halves : FractionRow
halves = record { factors = frac (pos 1) 2 ∷ frac (pos 3) 2 ∷ []; low = Some (frac (pos 5) 4); high = Some (frac (pos 7) 2) }

-- is multiplied by 2
scale_of_halves : scale halves.factors ≡ whole (pos 2)
unfolding halves frac whole lcm gcd gcd_within
scale_of_halves = refl

-- 3 <= x + 3y <= 7
row_of_halves : integer_row halves ≡ record { factors = pos 1 ∷ pos 3 ∷ []; low = Some (pos 3); high = Some (pos 7) }
unfolding halves frac ◌*ℚ◌ lcm gcd gcd_within
row_of_halves = refl

-- 2x + 4y = 7
even_sum : FractionRow
even_sum = record { factors = whole (pos 2) ∷ whole (pos 4) ∷ []; low = Some (whole (pos 7)); high = Some (whole (pos 7)) }

-- 4 <= x + 2y <= 3: no whole numbers meet it
row_of_even_sum : integer_row even_sum ≡ record { factors = pos 1 ∷ pos 2 ∷ []; low = Some (pos 4); high = Some (pos 3) }
unfolding even_sum frac whole ◌*ℚ◌ lcm gcd gcd_within
row_of_even_sum = refl

-- 0x + 0y >= 1/2
zeros : FractionRow
zeros = record { factors = whole (pos 0) ∷ whole (pos 0) ∷ []; low = Some (frac (pos 1) 2); high = None }

-- keeps its coefficients
scale_of_zeros : scale zeros.factors ≡ whole (pos 1)
unfolding zeros whole lcm gcd gcd_within
scale_of_zeros = refl

-- and becomes 0x + 0y >= 1
row_of_zeros : integer_row zeros ≡ record { factors = pos 0 ∷ pos 0 ∷ []; low = Some (pos 1); high = None }
unfolding zeros frac whole ◌*ℚ◌ lcm gcd gcd_within
row_of_zeros = refl

-- 4x/5 - 2y/3: the denominators 5 and 3, the numerators 4 and 2
mixed : List ℚ
mixed = frac (pos 4) 5 ∷ frac (negsuc 1) 3 ∷ []

common_terms : (common_denominator mixed ≡ 15) × (common_numerator mixed ≡ 2)
unfolding mixed frac lcm gcd gcd_within
common_terms = (refl, refl)

-- 15/2 times that is 6x - 5y
scaled_mixed : scaled mixed ≡ pos 6 ∷ negsuc 4 ∷ []
unfolding mixed frac ◌*ℚ◌ lcm gcd gcd_within
scaled_mixed = refl
