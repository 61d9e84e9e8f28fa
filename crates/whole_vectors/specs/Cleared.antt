-- Common denominators of rational vectors.
use Rattle.std.specs.Prelude.{◌≡◌, ℕ, ◌<◌, ℤ, pos, List, map}
use Rattle.exact_math.specs.Rational.{ℚ, whole}
use Rattle.exact_math.specs.RationalRing.{rationals}
use Rattle.exact_vectors.specs.Vectors.{scale}

-- a number above 0 that makes each item of x whole, and those whole numbers
pub record Cleared (x : List ℚ) : Type 0 where
  pub denominator : ℕ
  pub numerators : List ℤ
  pub positive : 0 < denominator
  pub same : map whole numerators ≡ scale rationals (whole (pos denominator)) x
