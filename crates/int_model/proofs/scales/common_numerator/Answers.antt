use Rattle.std.proofs.Common.{rules, FitsSigned}
use Rattle.std.specs.Int.{w128}
use Rattle.std.proofs.lemmas.Int.{to_z-of_z}
use Rattle.int_model.proofs.ItemLaws.{numerator_step, numerator_narrow}
use Rattle.int_model.proofs.scales.common_numerator.Goals as goal

pub loop-item-preserved : goal.loop-item-preserved
loop-item-preserved c =
    let num_fits : FitsSigned w128 c.num.result = search rules in
    let fits : FitsSigned w128 c.gcd-common.result = search rules in
    let is = simp to_z-of_z at c.gcd-common.ensures in
    record {
      value = simp to_z-of_z (numerator_step c.args.items.now c.loop-item.item-index c.item-item.result _ c.num.result c.gcd-common.result c.item-item.is c.loop-item-test.true c.loop-item.invariant.value c.num.ensures.value is);
      narrow = numerator_narrow c.args.items.now c.loop-item.item-index c.item-item.result c.item-item.is c.loop-item-test.true c.loop-item.invariant.narrow c.num.ensures.narrow;
    }
