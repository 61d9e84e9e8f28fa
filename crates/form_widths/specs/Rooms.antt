-- Points with room about them in a region.
use Rattle.std.specs.Prelude.{ℕ, ◌<◌, pos, List, length, get_or, set}
use Rattle.exact_math.specs.Rational.{ℚ, whole, ◌+ℚ◌, neg_ℚ}

-- the point with one coordinate raised by the step
abbrev pub moved : List ℚ → ℕ → ℚ → List ℚ
moved p k step = set p k (get_or p k (whole (pos 0)) +ℚ step)

-- p stays in the region where any one of its coordinates is raised by `rho`, and where it is lowered by `rho`
abbrev pub HasRoom : (List ℚ → Type 0) → List ℚ → ℚ → Type 0
HasRoom region p rho = (k : ℕ) → k < length p → region (moved p k rho) × region (moved p k (neg_ℚ rho))
