-- Lines that bound a form: a combination of the inequalities of a region and of one end of the form that comes to 0 on the left and below 0 on the right.
use Rattle.std.specs.Prelude.{◌≡◌, ℕ, ℤ, neg_ℤ, List, ◌∷◌, length, map, All}
use Rattle.exact_math.specs.Ring.{integers}
use Rattle.exact_vectors.specs.Vectors.{dot, zeros}
use Rattle.exact_vectors.specs.Matrices.{combination}
use Rattle.exact_vectors.specs.Inequalities.{NotNegative}
use Rattle.farkas_rows.specs.Inequalities.{Inequality}

-- The inequalities with their multipliers, and the end with its own, come to 0 in each column, and their limits to minus the shortfall.
pub record FallsShort (columns : ℕ) (inequalities : List Inequality) (times : List ℤ) (end : Inequality) (end_times shortfall : ℤ) : Type 0 where
  pub dense : All (λ (inequality : Inequality). length inequality.factors ≡ columns) (end ∷ inequalities)
  pub not_negative : NotNegative times
  pub vanishes : combination integers columns (end_times ∷ times) (map (λ (inequality : Inequality). inequality.factors) (end ∷ inequalities)) ≡ zeros integers columns
  pub limits : dot integers (end_times ∷ times) (map (λ (inequality : Inequality). inequality.limit) (end ∷ inequalities)) ≡ neg_ℤ shortfall
