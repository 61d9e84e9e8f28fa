use Rattle.std.proofs.Common.{rules, ◌+◌, pos, FitsSigned, ap, ◌∙◌, arith}
use Rattle.std.specs.Int.{w128}
use Rattle.std.proofs.lemmas.Int.{to_z-of_z}
use Rattle.int_model.proofs.ItemLaws.{denominator_step, denominator_above, common_denominator-part}
use Rattle.int_model.proofs.scales.common_denominator.Goals as goal

pub lcm-requires-clause-a_positive : goal.lcm-requires-clause-a_positive
lcm-requires-clause-a_positive c =
    denominator_above c.args.items.now c.loop-item.item-index _ c.loop-item.invariant.value

pub returns-in_err-common : goal.returns-in_err-common
returns-in_err-common c =
    let den_fits : FitsSigned w128 c.den.result = search rules in
    let wide = simp to_z-of_z at c.in_err-common.ensures in
    let is = denominator_step c.args.items.now c.loop-item.item-index c.item-item.result _ c.den.result c.item-item.is c.loop-item-test.true c.loop-item.invariant.value c.den.ensures.value in
    rw c.from_residual.ensures (λ narrow. wide (omega (arith, narrow, is, common_denominator-part c.args.items.now (c.loop-item.item-index + 1))))

pub loop-item-preserved : goal.loop-item-preserved
loop-item-preserved c =
    let den_fits : FitsSigned w128 c.den.result = search rules in
    let fits : FitsSigned w128 c.in_ok-common.common = search rules in
    let found = simp to_z-of_z at c.in_ok-common.ensures in
    let is = denominator_step c.args.items.now c.loop-item.item-index c.item-item.result _ c.den.result c.item-item.is c.loop-item-test.true c.loop-item.invariant.value c.den.ensures.value in
    record {
      value = simp to_z-of_z (found.1 ∙ ap pos is);
      narrow = omega (arith, found.0, is);
    }
