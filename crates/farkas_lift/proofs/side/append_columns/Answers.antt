use Rattle.std.proofs.Common.{arith}
use Rattle.farkas_lift.specs.NodeSides.{column_sides}
use Rattle.farkas_lift.proofs.JoinedLaws.{next_part, last_part, two_more}
use Rattle.farkas_lift.proofs.side.append_columns.Goals as goal

pub loop-j-preserved : goal.loop-j-preserved
loop-j-preserved c = next_part column_sides c.loop-j.j _ _ _ c.loop-j.invariant (two_more _ _ _ _ _ c.in_ok-push.ensures.items c.in_ok-push-2.ensures.items)

pub returns : goal.returns
returns c = last_part column_sides c.loop-j.j c.args.columns _ _ (omega (arith, c.loop-j-test.false, c.loop-j.auto.j-end)) c.loop-j.invariant
