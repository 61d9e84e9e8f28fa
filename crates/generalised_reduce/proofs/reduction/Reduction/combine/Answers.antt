use Rattle.std.proofs.Common.{refl, add-one, subst₂, to_z-of_z, suc}
use Rattle.std.proofs.lemmas.Result.{err_from_is_err_and}
use Rattle.unimodular_pair.specs.Moves.{CombinationStays}
use Rattle.generalised_reduce.proofs.reduction.Reduction.combine.Goals as goal

pub returns-in_err-combine-clause-wide : goal.returns-in_err-combine-clause-wide
returns-in_err-combine-clause-wide c =
    let q = err_from_is_err_and c.from_residual.result c.from_residual.ensures.1 in
    let leaves : ¬ (CombinationStays (suc c.args.k) c.args.k c.args.factor c.args.self.now.pair) = subst₂ (λ t f. ¬ (CombinationStays t c.args.k f c.args.self.now.pair)) (add-one c.args.k) (to_z-of_z c.ranges.factor) c.in_err-combine.ensures.wide in
    rw (q.1, q.2) (c.in_err-combine.ensures.as_before, refl, leaves)
