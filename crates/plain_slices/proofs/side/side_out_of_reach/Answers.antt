use Rattle.std.proofs.Common.{rules}
use Rattle.plain_slices.proofs.SideLaws.{lower-out}
use Rattle.plain_slices.proofs.side.side_out_of_reach.Goals as goal

pub returns-then-is_some_and-2-clause-some : goal.returns-then-is_some_and-2-clause-some
returns-then-is_some_and-2-clause-some c = lower-out c.args.form.now c.args.low c.args.high c.args.bounds.now (search rules)
