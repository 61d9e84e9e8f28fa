use Rattle.std.proofs.Common.{sym, arith}
use Rattle.farkas_rows.proofs.SideLemmas.{sizes-of_column}
use Rattle.farkas_rows.proofs.side.Factors.size.Goals as goal

pub returns-in-Unit-clause-size : goal.returns-in-Unit-clause-size
returns-in-Unit-clause-size c = λ columns within.
    let one = sizes-of_column c.args.self.now columns _ c.in-Unit.is within in (omega (arith, one), sym one)
