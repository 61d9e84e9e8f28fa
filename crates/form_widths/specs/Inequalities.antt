-- Regions of the rational points that meet linear inequalities of whole numbers.
use Rattle.std.specs.Prelude.{◌≡◌, ℕ, ℤ, ◌-ℤ◌, List, length, map, All}
use Rattle.exact_math.specs.Ring.{integers}
use Rattle.exact_math.specs.Rational.{ℚ, whole, ◌+ℚ◌, ◌-ℚ◌, ◌≤ℚ◌}
use Rattle.exact_math.specs.RationalRing.{rationals}
use Rattle.exact_vectors.specs.Vectors.{add, dot}
use Rattle.exact_vectors.specs.Matrices.{combination, times_vector}
use Rattle.farkas_rows.specs.Inequalities.{Inequality}
use Rattle.node_point.specs.RationalPoints.{form_value}

-- the rational point meets the inequality
abbrev pub IsMetAt : List ℚ → Inequality → Type 0
IsMetAt x inequality = form_value inequality.factors x ≤ℚ whole inequality.limit

-- by how much the inequality's left side is below its limit at the point
abbrev pub slack : Inequality → List ℚ → ℚ
slack inequality x = whole inequality.limit -ℚ form_value inequality.factors x

-- x has n coordinates and meets each inequality
abbrev pub IsSolution : ℕ → List Inequality → List ℚ → Type 0
IsSolution n inequalities x = (length x ≡ n) × All (IsMetAt x) inequalities

-- the point x0 + K y: the lines are those of K, one for each item of the base x0
abbrev pub point_over : List ℤ → List (List ℤ) → List ℚ → List ℚ
point_over base lines y = add rationals (map whole base) (times_vector rationals (map (map whole) lines) y)

-- the inequality at x0 + K y as one in the r coordinates of y: (a K) y ≤ b - a x0
abbrev pub pulled : ℕ → List ℤ → List (List ℤ) → Inequality → Inequality
pulled r base lines inequality = record {
  factors = combination integers r inequality.factors lines;
  limit = inequality.limit -ℤ dot integers inequality.factors base;
}

-- y has r coordinates, and x0 + K y meets each inequality
abbrev pub IsSolutionOver : ℕ → List ℤ → List (List ℤ) → List Inequality → List ℚ → Type 0
IsSolutionOver r base lines inequalities y = (length y ≡ r) × All (IsMetAt (point_over base lines y)) inequalities

-- For each point y of the one region the other has a point x at which the form is, by `constant`, more than the pulled form at y.
abbrev pub HasMatches : (List ℚ → Type 0) → List ℤ → (List ℚ → Type 0) → List ℤ → ℤ → Type 0
HasMatches inner pulled_form region form constant =
    (y : List ℚ) → inner y → (x : List ℚ) × (region x × (form_value form x ≡ form_value pulled_form y +ℚ whole constant))
