use Rattle.std.proofs.Common.{◌^◌, ◌≤◌, pos, subst, arith}
use Rattle.std.specs.List.{All}
use Rattle.std.proofs.lemmas.List.{take_all}
use Rattle.std.proofs.lemmas.List.Elements.{All-more}
use Rattle.whole_rows.specs.WholeRows.{reach}
use Rattle.whole_rows.proofs.weights.first_heavy.Goals as goal

pub loop-j-preserved : goal.loop-j-preserved
loop-j-preserved c =
    All-more (λ bounds. reach bounds ≤ 2 ^ 96) c.args.columns.now c.loop-j.j (record { low = pos 0; high = pos 0 }) c.loop-j-test.true c.loop-j.invariant (omega arith)

pub returns-clause-none : goal.returns-clause-none
returns-clause-none c =
    subst (All (λ bounds. reach bounds ≤ 2 ^ 96)) (take_all c.loop-j.j c.args.columns.now c.loop-j-test.false) c.loop-j.invariant
