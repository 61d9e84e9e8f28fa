use Rattle.thin_columns.proofs.SystemSteps.{allows_more}
use Rattle.thin_columns.proofs.slacks.rows_allow.Goals as goal

pub loop-i-preserved : goal.loop-i-preserved
loop-i-preserved c = allows_more c.args.system.now.rows c.args.system.now.limits c.args.step.now c.loop-i.i c.loop-i.invariant (c.in_ok-shown.ensures c.if-not-shown.false)
