-- When points show a column to be wide.
use Rattle.std.specs.Prelude.{◌≡◌, ◌⊎◌, ℕ, ◌<◌, ℤ, pos, ◌<ℤ◌, List, length, get_or, slice_index_or}
use Rattle.exact_math.specs.Rational.{ℚ, ratio, whole, ◌-ℚ◌, ◌*ℚ◌, ◌≤ℚ◌}
use Rattle.node_point.specs.NodePoints.{Fractions}
use Rattle.unimodular_pair.specs.Gathering.{common_divisor}

-- one of the points, with a denominator above 0
pub record IsOneOf (points : List Fractions) (x : Fractions) : Type 0 where
  pub place : ℕ
  pub there : place < length points
  pub is : get_or points place x ≡ x
  pub positive : pos 0 <ℤ x.denominator

-- the value of a column
abbrev pub column_value : ℕ → Fractions → ℚ
column_value j x = ratio (slice_index_or x.numerators j (pos 0)) x.denominator

-- two of the points differ in the column by at least so many times the width
pub record AreApart (j : ℕ) (times : ℤ) (width : ℚ) (points : List Fractions) : Type 0 where
  pub high : Fractions
  pub low : Fractions
  pub one : IsOneOf points high
  pub other : IsOneOf points low
  pub apart : (whole times *ℚ width) ≤ℚ (column_value j high -ℚ column_value j low)

-- The greatest common divisor of the column's line is 0, or two of the points differ by at least so many times the width.
abbrev pub IsShownWide : ℕ → List ℤ → ℚ → List Fractions → Type 0
IsShownWide j line width points = (common_divisor line ≡ 0) ⊎ AreApart j (pos (common_divisor line)) width points
