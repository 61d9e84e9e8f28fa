-- The inequalities of a node over the work columns, met by rational values of these.
use Rattle.std.specs.Prelude.{ℤ, List, length, Option, is_some, All}
use Rattle.exact_math.specs.Rational.{ℚ}
use Rattle.farkas_rows.specs.declared.path.Slice.{Slice}
use Rattle.form_widths.specs.Inequalities.{IsMetAt}
use Rattle.rational_frames.specs.RationalFrames.{SolvesOver}
use Rattle.presolve_map.specs.ReducedRows.{ReducedRows}
use Rattle.farkas_lift.specs.NodeEqualities.{node_equalities}
use Rattle.farkas_lift.specs.NodeSides.{inequality_of, node_sides}
use Rattle.farkas_lift.specs.NodeSystem.{cut_of}
use Rattle.farkas_lift.specs.declared.side.NodeSide.{NodeSide}

-- the values meet the inequality of a side, the cut having this value
abbrev pub MeetsSide : ReducedRows → ℤ → List ℚ → NodeSide → Type 0
MeetsSide work value w side = IsMetAt w (inequality_of work value side)

-- the values meet each equality of the node, and each of its other inequalities
pub record MeetsNode (work : ReducedRows) (path : List Slice) (cut : Option ℤ) (w : List ℚ) : Type 0 where
  pub solves : SolvesOver (length work.rows.box) (node_equalities work path) w
  pub sides : All (MeetsSide work (cut_of cut) w) (node_sides work (is_some cut))
