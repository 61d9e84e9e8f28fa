-- Why a node with a frame is split by single columns.
use Rattle.std.specs.Prelude.{◌≡◌, ◌⊎◌, ℕ, ◌<◌, ◌^◌, ℤ, pos, ◌+ℤ◌, ◌-ℤ◌, List, [], Option, Some, None, FitsSigned}
use Rattle.exact_math.specs.Rational.{ℚ, whole, floor, ceil, neg_ℚ, ◌+ℚ◌}
use Rattle.exact_math.specs.Ring.{integers}
use Rattle.exact_vectors.specs.Matrices.{combination}
use Rattle.exact_vectors.specs.Range.{StaysInRange}
use Rattle.exact_vectors.specs.Vectors.{dot, negate, zeros}
use Rattle.whole_rows.specs.WholeRows.{WholeRows, span}
use Rattle.farkas_rows.specs.declared.path.Slice.{Slice}
use Rattle.farkas_rows.specs.Inequalities.{Inequality, at_most}
use Rattle.form_widths.specs.Directions.{IsDirection}
use Rattle.spaces.specs.Maps.{ProductStays}
use Rattle.spaces.specs.Tables.{rows_in}
use Rattle.lp_dict.specs.Systems.{wholes}
use Rattle.lp_solve.specs.Outcomes.{ExcuseIs}
use Rattle.lp_solve.specs.declared.answer.LpExcuse.{LpExcuse}
use Rattle.lp_solve.specs.declared.answer.Solved.{Solved}
use Rattle.lp_solve.specs.declared.answer.Solved.TheVariants.{Least, Empty}
use Rattle.norm_gauge.specs.Gauges.{IsLeastAt, WidthExcuseIs}
use Rattle.norm_gauge.specs.Widths.{Has, IsInhabited, Polytope}
use Rattle.generalised_reduce.specs.Halts.{ThinStopIs}
use Rattle.generalised_reduce.specs.declared.answer.ThinStop.TheVariants as thin_stops
use Rattle.thin_forms.specs.Candidates.{IsCandidate}
use Rattle.reformulate.specs.Substitutions.{Substitution, columns_of}
use Rattle.presolve_map.specs.ReducedRows.{ReducedRows}
use Rattle.farkas_lift.specs.NodeEqualities.{work_form}
use Rattle.farkas_lift.specs.NodeSystem.{SystemStays}
use Rattle.node_lines.specs.NodeLines.{IsHeavyLine, LiftLeaves}
use Rattle.node_regions.specs.NodeFrames.{IsKeptForm}
use Rattle.node_regions.specs.NodeRegions.{node_polytope}
use Rattle.exact_nodes.specs.Programs.{IsEnded, IsSought, multipliers_of}
use Rattle.exact_nodes.specs.declared.excuse.Excuse.{Excuse}
use Rattle.exact_nodes.specs.declared.excuse.Excuse.TheVariants.{Frame, Lp, Thin, Lift, HeavyLine, HeavyForm, WideMap}
use Rattle.exact_nodes.specs.declared.halt.Halt.{Halt}
use Rattle.exact_nodes.specs.declared.halt.Halt.TheVariants as halts
use Rattle.node_lines.specs.declared.halt.LineHalt.{LineHalt}
use Rattle.node_lines.specs.declared.halt.LineHalt.TheVariants as line_halts
use mir.Syntax.{w128}

-- a direction of the node that is one of the candidates
abbrev pub IsChosenDirection : Polytope → List (List ℤ) → List ℤ → Type 0
IsChosenDirection p lines form = IsDirection (Has p) p.coordinates lines form × IsCandidate p lines form

-- d V, the form over the work columns that has the values of the form d on the coordinates, up to a constant
abbrev pub back_form : Substitution → List ℤ → List ℤ
back_form frame form = combination integers (columns_of frame) form (rows_in frame.back)

-- the same over all columns: 0 in those that presolving removes
pub record IsModelForm (rows : WholeRows) (work : ReducedRows) (frame : Substitution) (form model_form : List ℤ) : Type 0 where
  pub kept : IsKeptForm rows.box model_form
  pub same : work_form work model_form ≡ back_form frame form

-- ---- linear programs

-- such a program stops, or the gauge of a candidate under no rows does
abbrev pub IsProgramExcuse : Polytope → List (List ℤ) → LpExcuse → Type 0
IsProgramExcuse p lines excuse =
    ((form : List ℤ) × IsSought p lines form × ExcuseIs p.rows p.limits (wholes form) excuse)
    ⊎ ((form : List ℤ) × IsCandidate p lines form × WidthExcuseIs p [] (wholes form) excuse)

-- ---- lines

-- The inequality at the end of a form that an answer refutes, where the form has a least value on the node: the form over all
-- columns is at most the greatest whole number below it.
abbrev pub IsRefutedEnd : WholeRows → ReducedRows → Substitution → List ℤ → Solved → Option Inequality → Type 0
IsRefutedEnd rows work frame form (Empty multipliers) end = end ≡ None
IsRefutedEnd rows work frame form (Least point value multipliers) end =
    (model_form : List ℤ) × IsModelForm rows work frame form model_form
    × (end ≡ Some (at_most model_form (ceil (value +ℚ whole (dot integers (back_form frame form) frame.to_work.base)) -ℤ pos 1)))

-- the multipliers leave the range as they are carried back
pub record LeavesByLift (rows : WholeRows) (path : List Slice) (frame : Substitution) (work : ReducedRows) (p : Polytope) (basis : List (ℕ × ℕ)) : Type 0 where
  pub ended : IsEnded p (rows_in frame.to_work.lines) basis
  pub leaves : LiftLeaves rows work frame path (multipliers_of ended.solved)

-- their line weighs above 2 to the power 126
pub record IsHeavyByLine (rows : WholeRows) (path : List Slice) (best : Option ℤ) (frame : Substitution) (work : ReducedRows) (p : Polytope) (basis : List (ℕ × ℕ)) : Type 0 where
  pub ended : IsEnded p (rows_in frame.to_work.lines) basis
  pub end : Option Inequality
  pub refuted : IsRefutedEnd rows work frame ended.form ended.solved end
  pub heavy : IsHeavyLine rows work frame path end best (multipliers_of ended.solved)

-- ---- forms

-- the form over all columns of a direction weighs above 2 to the power 96
pub record IsHeavyDirection (rows : WholeRows) (frame : Substitution) (work : ReducedRows) (p : Polytope) (model_form : List ℤ) : Type 0 where
  pub heavy : 2 ^ 96 < span model_form rows.box
  pub form : List ℤ
  pub chosen : IsChosenDirection p (rows_in frame.to_work.lines) form
  pub same : IsModelForm rows work frame form model_form

-- The least whole value of the form at points of the node leaves `i128`; or the greatest one does, or the next whole number, from
-- which on the form has no value.
abbrev pub EndLeaves : Polytope → List ℤ → ℤ → Type 0
EndLeaves p form constant =
    ((point : List ℚ) × (value : ℚ) × (weights : List ℚ) × IsLeastAt p (wholes form) point value weights × ¬ (FitsSigned w128 (ceil value +ℤ constant)))
    ⊎ ((point : List ℚ) × (value : ℚ) × (weights : List ℚ) × IsLeastAt p (wholes (negate integers form)) point (neg_ℚ value) weights
    × ¬ (FitsSigned w128 (floor value +ℤ constant) × FitsSigned w128 ((floor value +ℤ constant) +ℤ pos 1)))

-- each entry of d V stays in `i128`, and its value at x0, with each product and each sum in index order
abbrev pub FormStays : Substitution → List ℤ → Type 0
FormStays frame form = ProductStays form frame.back × StaysInRange (pos 0) (back_form frame form) frame.to_work.base

-- they do not; or an end of the form leaves `i128`
abbrev pub FormLeaves : Substitution → Polytope → List ℤ → Type 0
FormLeaves frame p form = ¬ (FormStays frame form) ⊎ EndLeaves p form (dot integers (back_form frame form) frame.to_work.base)

-- the form is all 0, and a number of the node's system leaves its range; or it is a direction, and leaves it over the work columns
abbrev pub IsWideMap : Option ℤ → Substitution → ReducedRows → Polytope → List ℤ → Type 0
IsWideMap best frame work p form =
    ((form ≡ zeros integers p.coordinates) × ¬ (SystemStays frame work best))
    ⊎ (IsChosenDirection p (rows_in frame.to_work.lines) form × FormLeaves frame p form)

-- ---- all of them

-- The excuse holds of the node in the coordinates of this frame, over what presolving left, below the best value.
abbrev pub IsExcusedBy : WholeRows → List Slice → Option ℤ → Substitution → ReducedRows → Excuse → Type 0
IsExcusedBy rows path best frame work (Frame excuse) = ⊥
IsExcusedBy rows path best frame work (Lp excuse) = IsProgramExcuse (node_polytope frame work best) (rows_in frame.to_work.lines) excuse
IsExcusedBy rows path best frame work (Thin excuse) = IsInhabited (node_polytope frame work best) × ThinStopIs (node_polytope frame work best) (thin_stops.Excuse excuse)
IsExcusedBy rows path best frame work (Lift basis) = LeavesByLift rows path frame work (node_polytope frame work best) basis.pivots
IsExcusedBy rows path best frame work (HeavyLine basis) = IsHeavyByLine rows path best frame work (node_polytope frame work best) basis.pivots
IsExcusedBy rows path best frame work (HeavyForm form) = IsHeavyDirection rows frame work (node_polytope frame work best) form
IsExcusedBy rows path best frame work (WideMap form) = IsWideMap best frame work (node_polytope frame work best) form

-- ---- errors of the parts

-- the multipliers at these pivots make no line
abbrev pub halt_of : LineHalt → List (ℕ × ℕ) → Halt
halt_of line_halts.Wide pivots = halts.Excused (Lift (record { pivots = pivots }))
halt_of line_halts.Heavy pivots = halts.Excused (HeavyLine (record { pivots = pivots }))
halt_of line_halts.NoMemory pivots = halts.NoMemory
