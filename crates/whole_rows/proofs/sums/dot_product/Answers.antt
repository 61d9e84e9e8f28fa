use Rattle.std.proofs.Common.{rules, ◌<◌, length, pos, get_or, FitsSigned, arith}
use Rattle.std.specs.Int.{w128}
use Rattle.std.proofs.lemmas.Int.{to_z-of_z}
use Rattle.whole_rows.proofs.SumLemmas.{IsSumUpTo-more, product_fits, sum_fits}
use Rattle.whole_rows.proofs.sums.dot_product.Goals as goal

pub loop-i-preserved : goal.loop-i-preserved
loop-i-preserved c =
    let within : c.loop-i.i < length c.args.factors.now = omega (arith, c.requires.same_length) in
    let factor_fits : FitsSigned w128 (get_or c.args.factors.now c.loop-i.i (pos 0)) = search rules in
    let value_fits : FitsSigned w128 (get_or c.args.x.now c.loop-i.i (pos 0)) = search rules in
    let next = IsSumUpTo-more _ _ _ _ within c.loop-i-test.true c.loop-i.invariant in
    let product = product_fits _ _ _ _ within c.loop-i-test.true c.loop-i.invariant in
    let sum = sum_fits _ _ _ _ next in
    simp to_z-of_z next
