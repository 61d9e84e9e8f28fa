-- What shows that a point of a system `G*y <= h` is least for a form, or that there is none.
use Rattle.std.specs.Prelude.{◌≡◌, ℕ, List, length}
use Rattle.std.specs.List.{All}
use Rattle.exact_math.specs.Rational.{ℚ, neg_ℚ, ◌≤ℚ◌, ◌<ℚ◌}
use Rattle.exact_math.specs.RationalRing.{rationals}
use Rattle.exact_vectors.specs.Vectors.{dot, negate, zeros}
use Rattle.exact_vectors.specs.Matrices.{combination}
use Rattle.exact_vectors.specs.Inequalities.{NotNegativeBy}
use Rattle.lp_dict.specs.Dictionaries.{none}
use Rattle.lp_dict.specs.Systems.{IsPoint}

-- the points of the system, of `n` coordinates each, are bounded
pub record IsBounded (n : ℕ) (rows : List (List ℚ)) (limits : List ℚ) : Type 0 where
  pub bound : ℚ
  pub within : (y : List ℚ) → IsPoint n rows limits y → All (λ v. (neg_ℚ bound ≤ℚ v) × (v ≤ℚ bound)) y

-- The point meets the system and has that value. The multipliers, one for each row and none below 0, add the rows up to minus the form and the limits
-- to minus the value: so no point has less.
pub record ShowsLeast (n : ℕ) (rows : List (List ℚ)) (limits form point : List ℚ) (value : ℚ) (multipliers : List ℚ) : Type 0 where
  pub meets : IsPoint n rows limits point
  pub at_point : value ≡ dot rationals form point
  pub as_many : length multipliers ≡ length rows
  pub not_negative : NotNegativeBy rationals ◌≤ℚ◌ multipliers
  pub factors : combination rationals n multipliers rows ≡ negate rationals form
  pub limit : dot rationals multipliers limits ≡ neg_ℚ value

-- The multipliers, one for each row and none below 0, add the rows up to 0 and the limits to a number below 0: so there is no point.
pub record ShowsEmpty (n : ℕ) (rows : List (List ℚ)) (limits multipliers : List ℚ) : Type 0 where
  pub as_many : length multipliers ≡ length rows
  pub not_negative : NotNegativeBy rationals ◌≤ℚ◌ multipliers
  pub factors : combination rationals n multipliers rows ≡ zeros rationals n
  pub limit : dot rationals multipliers limits <ℚ none
