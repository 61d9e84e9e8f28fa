use Rattle.std.proofs.Common.{ℕ, length, map, arith}
use Rattle.std.specs.Prelude.{All}
use Rattle.farkas_lift.proofs.JoinedLaws.{joined-All}
use Rattle.farkas_lift.specs.NodeSides.{row_sides}
use Rattle.farkas_lift.specs.NodeSystem.{cut_of}
use Rattle.node_point.specs.RationalPoints.{coordinates}
use Rattle.shown_widths.specs.Steps.{SideLeaves}
use Rattle.shown_widths.proofs.SideLaws.{upto_next}
use Rattle.shown_widths.proofs.room.rows_leave.Goals as goal

pub loop-i-init : goal.loop-i-init
loop-i-init c = λ k lt. absurd (omega arith)

pub loop-i-preserved : goal.loop-i-preserved
loop-i-preserved c =
    upto_next (λ (k : ℕ). All (SideLeaves c.args.trial.width c.args.node.frame.now.to_work (map coordinates c.args.trial.points.now) c.args.node.work.now (cut_of c.args.node.cut)) (row_sides c.args.node.work.now k)) c.loop-i.i c.loop-i.invariant
    (c.in_ok-shown.ensures c.if-not-shown.false)

pub returns : goal.returns
returns c = λ true.
    joined-All (SideLeaves c.args.trial.width c.args.node.frame.now.to_work (map coordinates c.args.trial.points.now) c.args.node.work.now (cut_of c.args.node.cut)) (row_sides c.args.node.work.now) (length c.args.node.work.now.rows.rows) (λ k lt. c.loop-i.invariant k (omega (arith, lt, c.loop-i-test.false, c.loop-i.auto.i-end, c.rows-i-end.ensures.count)))
