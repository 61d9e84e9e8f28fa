use Rattle.std.proofs.Common.{ℕ, length, map, arith}
use Rattle.std.specs.Prelude.{All}
use Rattle.farkas_lift.proofs.JoinedLaws.{joined-All}
use Rattle.farkas_lift.specs.NodeSides.{column_sides}
use Rattle.farkas_lift.specs.NodeSystem.{cut_of}
use Rattle.node_point.specs.RationalPoints.{coordinates}
use Rattle.shown_widths.specs.Steps.{SideLeaves}
use Rattle.shown_widths.proofs.SideLaws.{upto_next}
use Rattle.shown_widths.proofs.room.columns_leave.Goals as goal

pub loop-j-init : goal.loop-j-init
loop-j-init c = λ k lt. absurd (omega arith)

pub loop-j-preserved : goal.loop-j-preserved
loop-j-preserved c =
    upto_next (λ (k : ℕ). All (SideLeaves c.args.trial.width c.args.node.frame.now.to_work (map coordinates c.args.trial.points.now) c.args.node.work.now (cut_of c.args.node.cut)) (column_sides k)) c.loop-j.j c.loop-j.invariant
    (c.column_leaves-shown.ensures c.if-not-shown.false)

pub returns : goal.returns
returns c = λ true.
    joined-All (SideLeaves c.args.trial.width c.args.node.frame.now.to_work (map coordinates c.args.trial.points.now) c.args.node.work.now (cut_of c.args.node.cut)) (column_sides) (length c.args.node.work.now.rows.box) (λ k lt. c.loop-j.invariant k (omega (arith, lt, c.loop-j-test.false, c.loop-j.auto.j-end, c.requires.width)))
