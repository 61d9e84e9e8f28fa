use Rattle.std.proofs.Common.{rules, ◌≡◌, ◌++◌, ◌∷◌, [], nat_abs, FitsSigned, to_z-of_z}
use Rattle.std.specs.Int.{w128}
use Rattle.reformulate.proofs.ShownSteps.{positive_common, times-more, times_fit-more, times_all, times_stay}
use Rattle.reformulate.proofs.whole_times.whole_times.Goals as goal

pub whole_time-requires : goal.whole_time-requires
whole_time-requires c =
    let common_fits : FitsSigned w128 c.in-Some.common = search rules in
    simp to_z-of_z (positive_common c.args.multipliers.now c.in-Some.common c.in-Some.ensures.1)

pub loop-multiplier-preserved : goal.loop-multiplier-preserved
loop-multiplier-preserved c =
    let common_fits : FitsSigned w128 c.in-Some.common = search rules in
    let time_fits : FitsSigned w128 c.in-Some-whole_time.time = search rules in
    let found = simp to_z-of_z at c.in-Some-whole_time.ensures in
    let value = simp to_z-of_z at c.loop-multiplier.invariant.value in
    let in_range = simp to_z-of_z at c.loop-multiplier.invariant.in_range in
    let pushed : c.push.new.self.items ≡ c.loop-multiplier.times.items ++ c.in-Some-whole_time.time ∷ [] = simp to_z-of_z at c.in_ok-push.ensures.items in
    simp to_z-of_z (record {
      value = times-more c.args.negative (nat_abs c.in-Some.common) c.args.multipliers.now c.loop-multiplier.multiplier-index c.multiplier-item.result c.in-Some-whole_time.time c.loop-multiplier.times.items c.push.new.self.items c.loop-multiplier-test.true c.multiplier-item.is value found.1 pushed;
      in_range = times_fit-more c.args.negative (nat_abs c.in-Some.common) c.args.multipliers.now c.loop-multiplier.multiplier-index c.multiplier-item.result c.loop-multiplier-test.true c.multiplier-item.is in_range found.0;
    })

pub signed-requires : goal.signed-requires
signed-requires c =
    let common_fits : FitsSigned w128 c.in-Some.common = search rules in
    simp to_z-of_z (positive_common c.args.multipliers.now c.in-Some.common c.in-Some.ensures.1)

pub returns-clause-value : goal.returns-clause-value
returns-clause-value c =
    let common_fits : FitsSigned w128 c.in-Some.common = search rules in
    let sign_fits : FitsSigned w128 c.signed.result = search rules in
    let value = simp to_z-of_z at c.loop-multiplier.invariant.value in
    let sign = simp to_z-of_z at c.signed.ensures in
    let pushed : c.push-2.new.self.items ≡ c.loop-multiplier.times.items ++ c.signed.result ∷ [] = simp to_z-of_z at c.in_ok-push-2.ensures.items in
    times_all c.args.negative c.in-Some.common c.signed.result c.args.multipliers.now c.loop-multiplier.multiplier-index c.args.later c.loop-multiplier.times.items c.push-2.new.self.items c.pad.new.times.items c.in-Some.ensures.1 c.loop-multiplier-test.false value sign pushed c.in_ok-pad.ensures.value

pub returns-clause-in_range : goal.returns-clause-in_range
returns-clause-in_range c =
    let common_fits : FitsSigned w128 c.in-Some.common = search rules in
    let in_range = simp to_z-of_z at c.loop-multiplier.invariant.in_range in
    times_stay c.args.negative c.in-Some.common c.args.multipliers.now c.loop-multiplier.multiplier-index c.in-Some.ensures.0 c.in-Some.ensures.1 c.loop-multiplier-test.false in_range
