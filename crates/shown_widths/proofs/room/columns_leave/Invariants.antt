use Rattle.std.proofs.Common.{ℕ, ◌<◌, map}
use Rattle.std.specs.Prelude.{All}
use Rattle.farkas_lift.specs.NodeSides.{column_sides}
use Rattle.farkas_lift.specs.NodeSystem.{cut_of}
use Rattle.node_point.specs.RationalPoints.{coordinates}
use Rattle.shown_widths.specs.Steps.{SideLeaves}
use Rattle.shown_widths.proofs.room.columns_leave.Given as goal

abbrev pub invariant-loop-j : goal.invariant-loop-j
invariant-loop-j l = (k : ℕ) → k < l.j → All (SideLeaves l.trial.width l.node.frame.now.to_work (map coordinates l.trial.points.now) l.node.work.now (cut_of l.node.cut)) (column_sides k)
