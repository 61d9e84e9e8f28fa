use Rattle.std.proofs.Common.{length, arith}
use Rattle.farkas_lift.specs.NodeLifting.{row_places}
use Rattle.farkas_lift.proofs.JoinedLaws.{next_part, last_part}
use Rattle.farkas_lift.proofs.place.append_rows.Goals as goal

pub loop-i-preserved : goal.loop-i-preserved
loop-i-preserved c = next_part (row_places c.args.rows.now) c.loop-i.i _ _ _ c.loop-i.invariant c.in_ok-append_row.ensures

pub returns : goal.returns
returns c = last_part (row_places c.args.rows.now) c.loop-i.i (length c.args.rows.now.rows.rows) _ _ (omega (arith, c.rows-i-end.ensures.count, c.loop-i-test.false, c.loop-i.auto.i-end)) c.loop-i.invariant
