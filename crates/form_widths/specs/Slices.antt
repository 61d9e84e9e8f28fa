-- The slices of a form on a region: the whole numbers between the values that the form takes there.
use Rattle.std.specs.Prelude.{◌↔◌, ℤ, pos, ◌+ℤ◌, ◌-ℤ◌, ◌≤ℤ◌, ◌<ℤ◌, List}
use Rattle.exact_math.specs.Rational.{ℚ, whole, ◌≤ℚ◌, ◌<ℚ◌}
use Rattle.node_point.specs.RationalPoints.{form_value}

-- the form is at most `low` at one point of the region, and at least `high` at another
pub record Spans (region : List ℚ → Type 0) (form : List ℤ) (low high : ℤ) : Type 0 where
  pub low_point : List ℚ
  pub high_point : List ℚ
  pub low_there : region low_point
  pub high_there : region high_point
  pub at_low : form_value form low_point ≤ℚ whole low
  pub at_high : whole high ≤ℚ form_value form high_point

-- The numbers from `lo` on, `count` of them, are exactly the whole numbers that lie between two values of the form on the region.
abbrev pub AreSlices : (List ℚ → Type 0) → List ℤ → ℤ → ℤ → Type 0
AreSlices region form lo count = (w : ℤ) → Spans region form w w ↔ ((lo ≤ℤ w) × (w <ℤ (lo +ℤ count)))

-- at each point of the region the form is above `lo - 1` and below `lo + count`
abbrev pub StaysBetween : (List ℚ → Type 0) → List ℤ → ℤ → ℤ → Type 0
StaysBetween region form lo count = (x : List ℚ) → region x → (whole (lo -ℤ pos 1) <ℚ form_value form x) × (form_value form x <ℚ whole (lo +ℤ count))

-- where there are slices, the form is at most the first of them at some point, and at least the last of them at some point
abbrev pub ReachesEnds : (List ℚ → Type 0) → List ℤ → ℤ → ℤ → Type 0
ReachesEnds region form lo count = pos 1 ≤ℤ count → Spans region form lo ((lo +ℤ count) -ℤ pos 1)
