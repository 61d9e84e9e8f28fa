-- The system that is made of a node has the node's left and right sides over the rational numbers.
use Rattle.std.proofs.Common.{◌≡◌, ℤ, List, [], ◌∷◌, map, refl, ap, ◌∙◌}
use Rattle.std.specs.Prelude.{Option}
use Rattle.exact_math.specs.Rational.{ℚ, whole}
use Rattle.lp_dict.specs.Systems.{left_sides, wholes, whole_rows}
use Rattle.lp_dict.specs.declared.system.System.{System}
use Rattle.farkas_rows.specs.Inequalities.{Inequality}
use Rattle.reformulate.specs.Substitutions.{Substitution, dimension_of}
use Rattle.presolve_map.specs.ReducedRows.{ReducedRows}
use Rattle.farkas_lift.specs.NodeSystem.{node_system, IsSystemOf}
use Rattle.node_lines.specs.NodeSystems.{system_limits, system_rows}

rows_twice : (inequalities : List Inequality) → whole_rows (map (λ (inequality : Inequality). inequality.factors) inequalities) ≡ map (λ (inequality : Inequality). wholes inequality.factors) inequalities
rows_twice [] = refl
rows_twice (inequality ∷ inequalities) = ap (λ (l : List (List ℚ)). wholes inequality.factors ∷ l) (rows_twice inequalities)

limits_twice : (inequalities : List Inequality) → wholes (map (λ (inequality : Inequality). inequality.limit) inequalities) ≡ map (λ (inequality : Inequality). whole inequality.limit) inequalities
limits_twice [] = refl
limits_twice (inequality ∷ inequalities) = ap (λ (l : List ℚ). whole inequality.limit ∷ l) (limits_twice inequalities)

module _ (frame : Substitution) (work : ReducedRows) (cut : Option ℤ) (system : System) (is : IsSystemOf (dimension_of frame) (node_system frame work cut) system) where
  -- the left sides
  pub system_rows-are : left_sides system.rows ≡ system_rows frame work cut
  system_rows-are = ap whole_rows is.rows ∙ rows_twice (node_system frame work cut)

  -- the right sides
  pub system_limits-are : wholes system.limits ≡ system_limits frame work cut
  system_limits-are = ap wholes is.limits ∙ limits_twice (node_system frame work cut)
