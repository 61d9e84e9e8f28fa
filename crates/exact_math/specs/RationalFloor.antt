-- The floor and the ceiling of a rational number against the order, and numbers that are whole.
use Rattle.std.proofs.Common.{◌≡◌, ℤ, pos, ◌+ℤ◌, ◌-ℤ◌, ◌*ℤ◌, ◌≤ℤ◌, refl, sym, subst}
use Rattle.exact_math.specs.Rational.{ℚ, whole, ◌≤ℚ◌, ◌<ℚ◌, floor, ceil, IsWhole}
use Rattle.exact_math.specs.IntegerRing.{linear}
use Rattle.exact_math.specs.QuotientLaws.{floor_div_below, floor_div_above, le_floor_div, ceil_div_above, ceil_div_le, ceil_div_below}
use Rattle.exact_math.specs.RationalLaws.{den_pos, same_from_cross}

-- the floor is at most the number ..
pub floor_le : (q : ℚ) → whole (floor q) ≤ℚ q
unfolding whole
floor_le q = record { le = omega (linear, floor_div_below q.num q.den (den_pos q)) }

-- .. and the next whole number is above it
pub lt_floor_next : (q : ℚ) → q <ℚ whole (floor q +ℤ pos 1)
unfolding whole
lt_floor_next q = record { lt = omega (linear, floor_div_above q.num q.den (den_pos q)) }

-- a whole number that is at most the number is at most its floor
pub le_floor : (z : ℤ) (q : ℚ) → whole z ≤ℚ q → z ≤ℤ floor q
unfolding whole
le_floor z q h =
    let s = h.le in
    le_floor_div q.num z q.den (den_pos q) (omega linear)

-- the number is at most the ceiling ..
pub le_ceil : (q : ℚ) → q ≤ℚ whole (ceil q)
unfolding whole
le_ceil q = record { le = omega (linear, ceil_div_above q.num q.den (den_pos q)) }

-- .. and the whole number before that is below it
pub ceil_lt_next : (q : ℚ) → whole (ceil q -ℤ pos 1) <ℚ q
unfolding whole
ceil_lt_next q = record { lt = omega (linear, ceil_div_below q.num q.den (den_pos q)) }

-- a whole number that the number is at most is at least the ceiling
pub ceil_le : (z : ℤ) (q : ℚ) → q ≤ℚ whole z → ceil q ≤ℤ z
unfolding whole
ceil_le z q h =
    let s = h.le in
    ceil_div_le q.num z q.den (den_pos q) (omega linear)

-- a number with the denominator 1 is its numerator
pub whole_from_den : (q : ℚ) → IsWhole q → q ≡ whole q.num
unfolding whole
whole_from_den q e = same_from_cross q (whole q.num) (subst (λ d. q.num *ℤ pos 1 ≡ q.num *ℤ pos d) (sym e) refl)

-- the terms of a whole number
pub whole-is : (z : ℤ) → IsWhole (whole z) × ((whole z).num ≡ z)
unfolding whole
whole-is z = (refl, refl)
