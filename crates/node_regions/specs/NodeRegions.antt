-- The region of a node in the coordinates of a frame of its equalities: the rational points of its other inequalities.
use Rattle.std.specs.Prelude.{ℤ, List, map, Option}
use Rattle.exact_math.specs.Rational.{ℚ, whole}
use Rattle.lp_dict.specs.Systems.{wholes}
use Rattle.norm_gauge.specs.Widths.{Polytope, Has}
use Rattle.farkas_rows.specs.Inequalities.{Inequality}
use Rattle.reformulate.specs.Substitutions.{Substitution, dimension_of}
use Rattle.presolve_map.specs.ReducedRows.{ReducedRows}
use Rattle.farkas_lift.specs.NodeSystem.{node_system}

-- the rational points y that meet whole inequalities
abbrev pub polytope_in : List Inequality → Substitution → Polytope
polytope_in inequalities frame = record {
  coordinates = dimension_of frame;
  rows = map (λ (inequality : Inequality). wholes inequality.factors) inequalities;
  limits = map (λ (inequality : Inequality). whole inequality.limit) inequalities;
}

-- those of a node, below the cut where there is one
abbrev pub node_polytope : Substitution → ReducedRows → Option ℤ → Polytope
node_polytope frame rows cut = polytope_in (node_system frame rows cut) frame

-- y is one of them
abbrev pub IsInNode : Substitution → ReducedRows → Option ℤ → List ℚ → Type 0
IsInNode frame rows cut y = Has (node_polytope frame rows cut) y
