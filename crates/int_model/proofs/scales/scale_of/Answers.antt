use Rattle.std.proofs.Common.{rules, FitsSigned}
use Rattle.std.specs.Int.{w128}
use Rattle.std.proofs.lemmas.Int.{to_z-of_z}
use Rattle.int_model.specs.ItemFactors.{factors_in}
use Rattle.int_model.proofs.ItemLaws.{scale_is_made, scale_is_answered, row_scale_is, not_zero_bits}
use Rattle.int_model.proofs.scales.scale_of.Goals as goal

pub unwrap-requires : goal.unwrap-requires
unwrap-requires c =
    let den_fits : FitsSigned w128 c.in_ok-denominator.denominator = search rules in
    let num_fits : FitsSigned w128 c.common_numerator-numerator.result = search rules in
    let answered = simp to_z-of_z at c.new.ensures in
    scale_is_made (factors_in c.args.items.now) _ _ _ c.in_ok-denominator.ensures.0 c.in_ok-denominator.ensures.1 c.common_numerator-numerator.ensures.value c.common_numerator-numerator.ensures.narrow (not_zero_bits _ _ c.common_numerator-numerator.ensures.value c.if-numerator-eq0.false) answered

pub returns : goal.returns
returns c =
    let den_fits : FitsSigned w128 c.in_ok-denominator.denominator = search rules in
    let num_fits : FitsSigned w128 c.common_numerator-numerator.result = search rules in
    let answered = simp to_z-of_z at c.new.ensures in
    let some = not_zero_bits _ _ c.common_numerator-numerator.ensures.value c.if-numerator-eq0.false in
    (c.in_ok-denominator.ensures.0, simp to_z-of_z (row_scale_is (factors_in c.args.items.now) c.unwrap.result _ _ (scale_is_answered (factors_in c.args.items.now) _ _ _ _ c.in_ok-denominator.ensures.1 c.common_numerator-numerator.ensures.value some answered c.unwrap.ensures) c.in_ok-denominator.ensures.1 c.common_numerator-numerator.ensures.value some))
