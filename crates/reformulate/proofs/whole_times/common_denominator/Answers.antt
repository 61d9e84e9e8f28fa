use Rattle.std.proofs.Common.{rules, ◌≡◌, ◌^◌, ◌<◌, List, pos, get_or, nat_abs, FitsSigned, to_z, ap, subst, arith, ◌∙◌}
use Rattle.std.specs.Int.{w128}
use Rattle.std.proofs.lemmas.Int.{to_z-of_z}
use Rattle.std.proofs.lemmas.List.{take_all}
use Rattle.exact_math.specs.IntegerRing.{linear}
use Rattle.exact_math.specs.Rational.{ℚ}
use Rattle.reformulate.proofs.Denominators.{IsCommon, IsCommon-none, IsCommon-more, IsCommon-below, common-unique, above_zero, positive_is}
use Rattle.reformulate.proofs.ShownSteps.{small_size}
use Rattle.reformulate.proofs.whole_times.common_denominator.Goals as goal

pub loop-multiplier-init : goal.loop-multiplier-init
loop-multiplier-init c = record { positive = omega linear; common = IsCommon-none }

pub returns-in_err-common : goal.returns-in_err-common
returns-in_err-common c =
    let den_fits : FitsSigned w128 c.den.result = search rules in
    let wide = simp to_z-of_z at c.in_err-common.ensures in
    let den : c.den.result ≡ pos (get_or c.args.multipliers.now c.loop-multiplier.multiplier-index c.multiplier-item.result).den = c.den.ensures.value ∙ ap (λ (q : ℚ). pos q.den) c.multiplier-item.is in
    rw c.from_residual.ensures (λ small. wide (rw den (let below = IsCommon-below c.args.multipliers.now c.loop-multiplier.multiplier-index c.multiplier-item.result _ c.loop-multiplier-test.true c.loop-multiplier.invariant.common in omega (arith, below, small))))

pub loop-multiplier-preserved : goal.loop-multiplier-preserved
loop-multiplier-preserved c =
    let den_fits : FitsSigned w128 c.den.result = search rules in
    let fits : FitsSigned w128 c.in_ok-common.common = search rules in
    let found = simp to_z-of_z at c.in_ok-common.ensures in
    let den : c.den.result ≡ pos (get_or c.args.multipliers.now c.loop-multiplier.multiplier-index c.multiplier-item.result).den = c.den.ensures.value ∙ ap (λ (q : ℚ). pos q.den) c.multiplier-item.is in
    let more = IsCommon-more c.args.multipliers.now c.loop-multiplier.multiplier-index c.multiplier-item.result _ c.loop-multiplier-test.true c.loop-multiplier.invariant.common in
    simp to_z-of_z (rw (found.1, den) (record { positive = above_zero _ more.positive; common = more }))

pub returns : goal.returns
returns c =
    let inv = c.loop-multiplier.invariant in
    let z = to_z w128 c.loop-multiplier.common-bits in
    let all = take_all c.loop-multiplier.multiplier-index c.args.multipliers.now c.loop-multiplier-test.false in
    let is = common-unique c.args.multipliers.now (nat_abs z) (subst (λ (l : List ℚ). IsCommon l (nat_abs (to_z w128 c.loop-multiplier.common-bits))) all inv.common) in
    let fits : FitsSigned w128 (to_z w128 c.loop-multiplier.common-bits) = search rules in
    (subst (λ k. k < 2 ^ 127) is (small_size (to_z w128 c.loop-multiplier.common-bits) inv.positive fits), positive_is (to_z w128 c.loop-multiplier.common-bits) inv.positive ∙ ap pos is)
