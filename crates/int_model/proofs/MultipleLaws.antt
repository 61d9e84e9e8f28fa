-- Multiples and products with the scale: which of them are in range.
use Rattle.std.proofs.Common.{◌≡◌, ⊎_elim, ℕ, zero, suc, ◌^◌, ◌<◌, List, [], ◌∷◌, ◌++◌, length, get_or, ℤ, pos, nat_abs, sym, ap, subst, ◌∙◌, arith}
use Rattle.std.specs.Int.{◌∣◌}
use Rattle.std.proofs.Math.Nat.{div-le_self}
use Rattle.std.proofs.Math.ListN as lists
use Rattle.std.proofs.lemmas.Nat.Gcd.{dvd_trans, dvd_antisymm}
use Rattle.std.proofs.lemmas.Bool.{cases_lt}
use Rattle.std.proofs.lemmas.List.{get_or-map}
use Rattle.exact_math.specs.Gcd.{gcd}
use Rattle.exact_math.specs.GcdLaws.{gcd_dvd_left, gcd_dvd_right, dvd_gcd, gcd_comm}
use Rattle.exact_math.specs.Rational.{ℚ, whole, frac, ◌*ℚ◌}
use Rattle.exact_math.specs.RationalFloor.{whole_from_den}
use Rattle.exact_math.specs.LcmLaws.{dvd_lcm_left, dvd_lcm_right, whole_multiple}
use Rattle.frac128.specs.Range.{IsNarrow, InRange, ProductInRange}
use Rattle.whole_rows.specs.WholeRows.{IsHeavy}
use Rattle.int_model.specs.Scale.{common_denominator, common_numerator, over_or_one, scale, scaled}
use Rattle.int_model.specs.Large.{multiple}
use Rattle.int_model.proofs.ScaleLaws.{scaled-whole}

-- ---- common divisors and multiples

-- each denominator divides the common denominator
pub den_dvd_common : (a : List ℚ) (k : ℕ) (d : ℚ) → k < length a → (get_or a k d).den ∣ common_denominator a
den_dvd_common [] k d h = absurd (omega arith)
den_dvd_common (q ∷ a) zero d h = dvd_lcm_left q.den (common_denominator a)
den_dvd_common (q ∷ a) (suc k) d h =
    dvd_trans _ (den_dvd_common a k d (omega arith)) (dvd_lcm_right q.den (common_denominator a))

-- the common divisor of the numerators, and of one more
pub common_numerator-push : (a : List ℚ) (q : ℚ) → common_numerator (a ++ q ∷ []) ≡ gcd (common_numerator a) (nat_abs q.num)
common_numerator-push [] q = gcd_comm (nat_abs q.num) 0
common_numerator-push (p ∷ a) q =
    ap (gcd (nat_abs p.num)) (common_numerator-push a q) ∙ nested (nat_abs p.num) (common_numerator a) (nat_abs q.num)
  where
    nested : (x y z : ℕ) → gcd x (gcd y z) ≡ gcd (gcd x y) z
    nested x y z =
        let left = gcd x (gcd y z) in
        let right = gcd (gcd x y) z in
        dvd_antisymm (dvd_gcd (gcd x y) z left (dvd_gcd x y left (gcd_dvd_left x (gcd y z)) (dvd_trans _ (gcd_dvd_right x (gcd y z)) (gcd_dvd_left y z))) (dvd_trans _ (gcd_dvd_right x (gcd y z)) (gcd_dvd_right y z))) (dvd_gcd x (gcd y z) right (dvd_trans _ (gcd_dvd_left (gcd x y) z) (gcd_dvd_left x y)) (dvd_gcd y z right (dvd_trans _ (gcd_dvd_left (gcd x y) z) (gcd_dvd_right x y)) (gcd_dvd_right (gcd x y) z)))

-- ---- the range

-- a whole number
pub whole_in_range : (z : ℤ) → IsNarrow z → InRange (whole z)
unfolding whole
whole_in_range z h = record { num = h; den = omega arith }

-- a quotient
pub quotient_in_range : (m n : ℕ) → m < 2 ^ 127 → n < 2 ^ 127 → InRange (over_or_one m n)
unfolding frac
quotient_in_range m zero h l = whole_in_range (pos 1) (omega arith)
quotient_in_range m (suc n) h l = record {
  num = omega (arith, h, div-le_self m (gcd m (suc n)));
  den = omega (arith, l, div-le_self (suc n) (gcd m (suc n)));
}

-- a product that is a whole number, and out of range, is heavy
pub heavy_from_product : (p q : ℚ) (z : ℤ) → p *ℚ q ≡ whole z → (ProductInRange p q → ⊥) → IsHeavy (nat_abs z)
heavy_from_product p q z e h =
    ⊎_elim (λ narrow. absurd (h (subst InRange (sym e) (whole_in_range z narrow)))) (λ wide. omega (arith, wide)) (cases_lt (nat_abs z) (2 ^ 127))

-- ---- the products

-- a coefficient times the scale is the whole coefficient in its place
pub scaled_at : (a : List ℚ) (k : ℕ) (d : ℚ) (e : ℤ) → k < length a → scale a *ℚ get_or a k d ≡ whole (get_or (scaled a) k e)
scaled_at a k d e h =
    sym (get_or-map (λ q. scale a *ℚ q) a k d (whole e) h) ∙ sym (ap (λ l. get_or l k (whole e)) (scaled-whole a)) ∙ lists.get_or-map whole (scaled a) k e

-- a multiple by a number that the denominator divides
pub multiple_is : (m : ℕ) (q : ℚ) → q.den ∣ m → whole (pos m) *ℚ q ≡ whole (multiple m q)
multiple_is m q h = whole_from_den (whole (pos m) *ℚ q) (whole_multiple m q h)
