use Rattle.std.proofs.Common.{ℕ, ◌<◌, map}
use Rattle.std.specs.Prelude.{All}
use Rattle.farkas_lift.specs.NodeSides.{row_sides}
use Rattle.farkas_lift.specs.NodeSystem.{cut_of}
use Rattle.node_point.specs.RationalPoints.{coordinates}
use Rattle.shown_widths.specs.Steps.{SideLeaves}
use Rattle.shown_widths.proofs.room.rows_leave.Given as goal

abbrev pub invariant-loop-i : goal.invariant-loop-i
invariant-loop-i l = (k : ℕ) → k < l.i → All (SideLeaves l.trial.width l.node.frame.now.to_work (map coordinates l.trial.points.now) l.node.work.now (cut_of l.node.cut)) (row_sides l.node.work.now k)
