-- Rows with rational coefficients, and the integer row of each.
use Rattle.std.specs.Prelude.{ℕ, zero, suc, ℤ, pos, List, [], ◌∷◌, map, Option, IfSome, nat_abs}
use Rattle.std.specs.Option.{option_map}
use Rattle.exact_math.specs.Gcd.{gcd, lcm}
use Rattle.exact_math.specs.Rational.{ℚ, whole, frac, ◌*ℚ◌, ◌≤ℚ◌, floor, ceil}
use Rattle.exact_math.specs.RationalRing.{rationals}
use Rattle.exact_vectors.specs.Vectors.{dot}
use Rattle.whole_rows.specs.WholeRows.{WholeRow}

-- the greatest common divisor of whole numbers: of their sizes, and 0 where all are 0
abbrev pub common_divisor : List ℤ → ℕ
common_divisor [] = 0
common_divisor (c ∷ rest) = gcd (nat_abs c) (common_divisor rest)

-- the least common multiple of the denominators
abbrev pub common_denominator : List ℚ → ℕ
common_denominator [] = 1
common_denominator (q ∷ rest) = lcm q.den (common_denominator rest)

-- the greatest common divisor of the numerators
abbrev pub common_numerator : List ℚ → ℕ
common_numerator a = common_divisor (map (λ (q : ℚ). q.num) a)

-- the first number over the second, and 1 where that is 0
abbrev pub over_or_one : ℕ → ℕ → ℚ
over_or_one m zero = whole (pos 1)
over_or_one m (suc n) = frac (pos m) (suc n)

-- The positive number that makes the coefficients whole with greatest common divisor 1: the least common multiple of
-- the denominators over the greatest common divisor of the numerators. Where no coefficient is other than 0 it is 1.
abbrev pub scale : List ℚ → ℚ
scale a = over_or_one (common_denominator a) (common_numerator a)

-- the coefficients times the scale, as whole numbers
abbrev pub scaled : List ℚ → List ℤ
scaled a = map (λ q. (scale a *ℚ q).num) a

-- the sum of each coefficient times the value in its place lies between the sides; a side that is absent bounds nothing
pub record FractionRow : Type 0 where
  pub factors : List ℚ
  pub low : Option ℚ
  pub high : Option ℚ

-- the row's sum at whole numbers
abbrev pub sum_at : List ℚ → List ℤ → ℚ
sum_at a x = dot rationals a (map whole x)

-- whole numbers whose sum lies between the row's sides
abbrev pub MeetsFractionRow : FractionRow → List ℤ → Type 0
MeetsFractionRow row x = IfSome row.low (λ l. l ≤ℚ sum_at row.factors x) × IfSome row.high (λ h. sum_at row.factors x ≤ℚ h)

-- the row times its scale, the lower side then rounded up and the upper side down
abbrev pub integer_row : FractionRow → WholeRow
integer_row row = record {
  factors = scaled row.factors;
  low = option_map (λ l. ceil (scale row.factors *ℚ l)) row.low;
  high = option_map (λ h. floor (scale row.factors *ℚ h)) row.high;
}
