-- When the multipliers of a node's system make no line.
use Rattle.std.specs.Prelude.{◌⊎◌, ℕ, ◌+◌, ◌*◌, ◌^◌, ℤ, pos, ◌<ℤ◌, List, [], ◌∷◌, ◌++◌, length, get_or, false, Option, Some, None, if◌then◌else◌}
use Rattle.std.specs.Ordering.{int_eq}
use Rattle.exact_math.specs.Rational.{ℚ, whole}
use Rattle.whole_rows.specs.WholeRows.{WholeRows}
use Rattle.row_lifting.specs.Lifting.{none}
use Rattle.row_lifting.specs.declared.stop.LiftStop.{LiftStop}
use Rattle.row_lifting.specs.declared.stop.LiftStop.TheVariants as lift_stops
use Rattle.spaces.specs.declared.map_stop.MapStop.{MapStop}
use Rattle.spaces.specs.declared.map_stop.MapStop.TheVariants as map_stops
use Rattle.farkas_rows.specs.declared.fracs.CutFrac.{CutFrac}
use Rattle.farkas_rows.specs.declared.fracs.FracUse.{FracUse}
use Rattle.farkas_rows.specs.declared.fracs.LineStop.{LineStop}
use Rattle.farkas_rows.specs.declared.fracs.LineStop.TheVariants as line_stops
use Rattle.farkas_rows.specs.declared.line.Line.{Line}
use Rattle.farkas_rows.specs.declared.path.Slice.{Slice}
use Rattle.farkas_rows.specs.Inequalities.{Inequality}
use Rattle.farkas_rows.specs.LeastLine.{IsLeastLine}
use Rattle.farkas_rows.specs.Refutes.{line_weight}
use Rattle.reformulate.specs.Substitutions.{Substitution}
use Rattle.presolve_map.specs.LiftedLines.{IsLiftedLine, LineStays}
use Rattle.presolve_map.specs.ReducedRows.{ReducedRows}
use Rattle.farkas_lift.specs.NodeLifting.{WeightsStay, lifted_uses}
use Rattle.farkas_lift.specs.NodeSides.{node_sides}
use Rattle.node_lines.specs.declared.halt.LineHalt.{LineHalt}
use Rattle.node_lines.specs.declared.halt.LineHalt.TheVariants.{Wide, Heavy, NoMemory}

-- the multiplier of the cut, which stands behind those of the other inequalities of the node; 0 where there is none
abbrev pub cut_multiplier : ReducedRows → List ℚ → ℚ
cut_multiplier work multipliers = get_or multipliers (length (node_sides work false)) none

-- the cut with its value so many times; none where that is 0
abbrev pub cut_part : Option ℤ → ℚ → Option CutFrac
cut_part None times = None
cut_part (Some value) times = if int_eq times.num (pos 0) then None else Some (record { value = value; times = times })

-- the number of the inequality at the end of a form: behind those of the rows, the columns and the slices
abbrev pub end_number : WholeRows → List Slice → ℕ
end_number model path = 2 * (length model.rows + length model.box + length path)

-- that inequality once
abbrev pub end_use : WholeRows → List Slice → FracUse
end_use model path = record { index = end_number model path; times = whole (pos 1) }

-- where there is such an end
abbrev pub end_uses : WholeRows → List Slice → Option Inequality → List FracUse
end_uses model path None = []
end_uses model path (Some inequality) = end_use model path ∷ []

-- A number leaves the range of fractions on the way from the multipliers of a node's system to those of the inequalities over the
-- work columns, or from these to those of the model's inequalities.
abbrev pub LiftLeaves : WholeRows → ReducedRows → Substitution → List Slice → List ℚ → Type 0
LiftLeaves model work frame path multipliers = ¬ (WeightsStay frame work path multipliers) ⊎ ¬ (LineStays model (cut_multiplier work multipliers) (lifted_uses model frame work path multipliers))

-- The multipliers of the model's inequalities that the multipliers of a node's system become, with the inequality at the end of a
-- form once, where there is one: the least whole line that is a multiple of these weighs above 2 to the power 126.
pub record IsHeavyLine (model : WholeRows) (work : ReducedRows) (frame : Substitution) (path : List Slice) (end : Option Inequality) (cut : Option ℤ) (multipliers : List ℚ) : Type 0 where
  pub items : List FracUse
  pub lifted : IsLiftedLine model (cut_multiplier work multipliers) (lifted_uses model frame work path multipliers) items
  pub heavy : (line : Line) → IsLeastLine (cut_part cut (cut_multiplier work multipliers)) (items ++ end_uses model path end) line → pos (2 ^ 126) <ℤ line_weight model path end line

-- ---- errors of the parts

abbrev pub halt_of_lift : LiftStop → LineHalt
halt_of_lift lift_stops.Wide = Wide
halt_of_lift lift_stops.NoMemory = NoMemory

abbrev pub halt_of_map : MapStop → LineHalt
halt_of_map map_stops.Wide = Wide
halt_of_map map_stops.NoMemory = NoMemory

abbrev pub halt_of_line : LineStop → LineHalt
halt_of_line line_stops.Heavy = Heavy
halt_of_line line_stops.NoMemory = NoMemory

-- `Wide` is answered only where this is so
abbrev pub HaltsWide : Type 0 → LineHalt → Type 0
HaltsWide Leaves Wide = Leaves
HaltsWide Leaves Heavy = ⊥
HaltsWide Leaves NoMemory = Unit {0}
