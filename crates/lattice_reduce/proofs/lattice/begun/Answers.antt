use Rattle.std.proofs.Common.{◌+◌, pos, length, ap, ◌∙◌}
use Rattle.lattice_reduce.proofs.CopySteps.{begun_settled}
use Rattle.spaces.specs.Tables.{filled}
use Rattle.unimodular_pair.specs.PairLaws.{length-identity}
use Rattle.lattice_reduce.proofs.lattice.begun.Goals as goal

pub returns-clause-settled : goal.returns-clause-settled
returns-clause-settled g c =
    let zero = c.in_ok-numbers.ensures ∙ ap (λ r. filled (r + 1) r (pos 0)) c.rows-count.ensures.count in
    begun_settled c.in_ok-copy.copy c.args.basis.now c.in_ok-numbers.numbers c.in_ok-copy.ensures.height c.in_ok-copy.ensures.width c.in_ok-copy.ensures.rows c.requires.few c.requires.independent zero

pub returns-clause-size : goal.returns-clause-size
returns-clause-size g c = ap (λ p. length p.u) c.in_ok-pair.ensures ∙ length-identity c.rows-count.result ∙ c.rows-count.ensures.count
