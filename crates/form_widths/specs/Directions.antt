-- Directions of a region in the coordinates of a frame: primitive forms that are nearly as thin as any, and as thin as each free column.
use Rattle.std.specs.Prelude.{◌≡◌, ℕ, ◌-◌, ◌^◌, ◌<◌, ℤ, pos, List, [], length, get_or}
use Rattle.exact_math.specs.Rational.{ℚ}
use Rattle.exact_math.specs.Ring.{integers}
use Rattle.exact_vectors.specs.Vectors.{scale}
use Rattle.form_widths.specs.Widths.{IsNonzero, IsNoWiderThan, IsPrimitive}

-- A column whose values are a constant and a form on the coordinates, the lines being those forms: it is free, its form being a positive multiple of a
-- primitive one.
pub record IsFreeColumn (lines : List (List ℤ)) (column : ℕ) (form : List ℤ) : Type 0 where
  pub there : column < length lines
  pub divisor : ℕ
  pub positive : 0 < divisor
  pub line : get_or lines column [] ≡ scale integers (pos divisor) form
  pub primitive : IsPrimitive form

-- The region has a point. The form on its r coordinates, of which there is one at least, is primitive, at most 4^(r-1) times as wide as each whole form
-- other than 0, and at most as wide as each free column made primitive.
pub record IsDirection (region : List ℚ → Type 0) (r : ℕ) (lines : List (List ℤ)) (form : List ℤ) : Type 0 where
  pub some : 0 < r
  pub point : List ℚ
  pub has_point : region point
  pub coordinates : length form ≡ r
  pub primitive : IsPrimitive form
  pub thin : (other : List ℤ) → length other ≡ r → IsNonzero other → IsNoWiderThan (4 ^ (r - 1)) region form other
  pub columns : (column : ℕ) (other : List ℤ) → IsFreeColumn lines column other → IsNoWiderThan 1 region form other
