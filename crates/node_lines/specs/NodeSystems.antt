-- The system of a node over the rational numbers, and multipliers that show an end of a form to be empty.
use Rattle.std.specs.Prelude.{◌≡◌, ℤ, List, length, map, Option}
use Rattle.std.specs.List.{All}
use Rattle.exact_math.specs.Rational.{ℚ, whole, ◌+ℚ◌, ◌<ℚ◌}
use Rattle.exact_math.specs.Ring.{integers}
use Rattle.exact_vectors.specs.Vectors.{dot}
use Rattle.exact_vectors.specs.Matrices.{combination}
use Rattle.spaces.specs.Tables.{rows_in}
use Rattle.lp_dict.specs.Systems.{wholes}
use Rattle.lp_solve.specs.Certificates.{ShowsLeast}
use Rattle.whole_rows.specs.WholeRows.{WholeRows}
use Rattle.farkas_rows.specs.declared.path.Slice.{Slice}
use Rattle.farkas_rows.specs.Inequalities.{Inequality}
use Rattle.farkas_rows.specs.Refutes.{HasForms, IsDense}
use Rattle.reformulate.specs.Frames.{IsFrame}
use Rattle.reformulate.specs.Substitutions.{Substitution, columns_of, dimension_of}
use Rattle.presolve_map.specs.LiftedLines.{IsOverKept}
use Rattle.presolve_map.specs.ReducedRows.{ReducedRows, IsReduced}
use Rattle.farkas_lift.specs.NodeEqualities.{node_equalities, work_form}
use Rattle.farkas_lift.specs.NodeSystem.{node_system}

-- The work rows are what presolving leaves of the model, x0 + K y takes the whole y onto the integer solutions of the node's
-- equalities, and the forms of the slices that lead to the node have a factor for each column, 0 in each one that is not kept.
pub record IsFramedNode (model : WholeRows) (work : ReducedRows) (frame : Substitution) (path : List Slice) : Type 0 where
  pub reduced : IsReduced model work
  pub columns : columns_of frame ≡ length work.rows.box
  pub is_frame : IsFrame (node_equalities work path) frame
  pub forms : HasForms (length model.box) path
  pub kept : All (λ slice. IsOverKept model slice.form) path

-- the left sides of a node's system in the coordinates of the frame
abbrev pub system_rows : Substitution → ReducedRows → Option ℤ → List (List ℚ)
system_rows frame work cut = map (λ (inequality : Inequality). wholes inequality.factors) (node_system frame work cut)

-- and its right sides
abbrev pub system_limits : Substitution → ReducedRows → Option ℤ → List ℚ
system_limits frame work cut = map (λ (inequality : Inequality). whole inequality.limit) (node_system frame work cut)

-- The inequality at the end of a form has a factor for each column, 0 in each one that is not kept. In the coordinates of the
-- frame its left side is `form`, less a constant, and the multipliers show that the least value of that is above its right side.
pub record IsPastEnd (model : WholeRows) (work : ReducedRows) (frame : Substitution) (cut : Option ℤ) (multipliers : List ℚ) (end : Inequality) : Type 0 where
  pub form : List ℤ
  pub point : List ℚ
  pub value : ℚ
  pub least : ShowsLeast (dimension_of frame) (system_rows frame work cut) (system_limits frame work cut) (wholes form) point value multipliers
  pub dense : IsDense (length model.box) end
  pub kept : IsOverKept model end.factors
  pub is_form : work_form work end.factors ≡ combination integers (columns_of frame) form (rows_in frame.back)
  pub past : whole end.limit <ℚ (value +ℚ whole (dot integers (work_form work end.factors) frame.to_work.base))
