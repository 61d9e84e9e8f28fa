-- The mean of points of a region, and the room that it has there.
use Rattle.std.specs.Prelude.{◌≡◌, ◌⊎◌, ℕ, ◌*◌, ◌<◌, ◌≤◌, pos, nat_abs, List, [], ◌∷◌, length, map, All}
use Rattle.exact_math.specs.Rational.{ℚ, whole, ◌*ℚ◌, ◌/ℚ◌, ◌≤ℚ◌}
use Rattle.exact_math.specs.RationalRing.{rationals}
use Rattle.exact_vectors.specs.Vectors.{add, scale, sum, zeros}
use Rattle.farkas_rows.specs.Inequalities.{Inequality}
use Rattle.form_widths.specs.Inequalities.{slack}

-- the sum of points of n coordinates
abbrev pub total : ℕ → List (List ℚ) → List ℚ
total n [] = zeros rationals n
total n (y ∷ points) = add rationals y (total n points)

-- their mean
abbrev pub mean : ℕ → List (List ℚ) → List ℚ
mean n points = scale rationals (whole (pos 1) /ℚ whole (pos (length points))) (total n points)

-- The factors are at most `reach` in size, and `room` is at most the sum of the inequality's slacks at the points, in parts of 1/scale.
pub record HasSlack (scale reach room : ℕ) (points : List (List ℚ)) (inequality : Inequality) : Type 0 where
  pub light : All (λ factor. nat_abs factor ≤ reach) inequality.factors
  pub enough : whole (pos room) ≤ℚ (whole (pos scale) *ℚ sum rationals (map (slack inequality) points))

-- the left side is the same at all points, or there is slack
abbrev pub LeavesRoom : ℕ → ℕ → ℕ → List (List ℚ) → Inequality → Type 0
LeavesRoom scale reach room points inequality = All (λ factor. factor ≡ pos 0) inequality.factors ⊎ HasSlack scale reach room points inequality

-- how far a coordinate of the mean may move
abbrev pub room_of : ℕ → ℕ → ℕ → List (List ℚ) → ℚ
room_of scale reach room points = whole (pos room) /ℚ whole (pos (length points * (scale * reach)))

-- The room that the inequality leaves by itself is at least `rho`.
pub record AllowsStep (scale : ℕ) (rho : ℚ) (points : List (List ℚ)) (inequality : Inequality) : Type 0 where
  pub reach : ℕ
  pub room : ℕ
  pub some : 0 < reach
  pub slack : HasSlack scale reach room points inequality
  pub within : rho ≤ℚ room_of scale reach room points

-- the left side is the same at all points, or the inequality leaves that room
abbrev pub LeavesStep : ℕ → ℚ → List (List ℚ) → Inequality → Type 0
LeavesStep scale rho points inequality = All (λ factor. factor ≡ pos 0) inequality.factors ⊎ AllowsStep scale rho points inequality
