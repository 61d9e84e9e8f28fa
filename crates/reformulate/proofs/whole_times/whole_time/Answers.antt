use Rattle.std.proofs.Common.{rules, ◌≡◌, ◌^◌, ◌<◌, pos, neg_ℤ, ◌+ℤ◌, ◌<ℤ◌, int_div, nat_abs, FitsSigned, ap, ◌∙◌, subst, sym}
use Rattle.std.specs.Int.{w128}
use Rattle.std.specs.Prelude.{SomeIff}
use Rattle.std.proofs.lemmas.Int.{to_z-of_z, quot_fits}
use Rattle.exact_math.specs.IntegerLaws.{zero_add}
use Rattle.exact_math.specs.RationalLaws.{den_pos}
use Rattle.reformulate.specs.GapTimes.{time_of}
use Rattle.reformulate.proofs.Denominators.{above_zero}
use Rattle.reformulate.proofs.ShowingSteps.{answered_so, negative_number, positive_number, share_is}
use Rattle.reformulate.proofs.ShownSteps.{turned_fits}
use Rattle.reformulate.proofs.whole_times.whole_time.Goals as goal

pub returns-then-negative : goal.returns-then-negative
returns-then-negative c =
    let q = c.args.multiplier.now in
    let common_fits : FitsSigned w128 c.args.common = c.ranges.common in
    let den_fits : FitsSigned w128 c.den.result = search rules in
    let num_fits : FitsSigned w128 c.num.result = search rules in
    let quotient : FitsSigned w128 (int_div c.args.common c.den.result) = quot_fits w128 c.args.common c.den.result common_fits (subst (λ z. pos 0 <ℤ z) (sym c.den.ensures.value) (above_zero _ (den_pos c.args.multiplier.now))) in
    let answered = simp to_z-of_z at c.checked_mul.ensures in
    subst (λ b. SomeIff c.checked_mul.result (FitsSigned w128 (time_of b (nat_abs c.args.common) c.args.multiplier.now)) (time_of b (nat_abs c.args.common) c.args.multiplier.now)) (sym c.if-negative.true)
    (answered_so c.checked_mul.result c.num.result (int_div c.args.common c.den.result) _ _ (c.num.ensures.value ∙ negative_number q.num) (ap (int_div c.args.common) c.den.ensures.value ∙ share_is c.args.common q.den c.requires) answered)

pub returns-else-negative : goal.returns-else-negative
returns-else-negative c =
    let q = c.args.multiplier.now in
    let common_fits : FitsSigned w128 c.args.common = c.ranges.common in
    let den_fits : FitsSigned w128 c.den.result = search rules in
    let num_fits : FitsSigned w128 c.num-else-negative.result = search rules in
    let quotient : FitsSigned w128 (int_div c.args.common c.den.result) = quot_fits w128 c.args.common c.den.result common_fits (subst (λ z. pos 0 <ℤ z) (sym c.den.ensures.value) (above_zero _ (den_pos c.args.multiplier.now))) in
    let plain : pos 0 +ℤ neg_ℤ c.num-else-negative.result ≡ neg_ℤ c.num-else-negative.result = zero_add (neg_ℤ c.num-else-negative.result) in
    let neg_fits : FitsSigned w128 (pos 0 +ℤ neg_ℤ c.num-else-negative.result) = turned_fits c.num-else-negative.result (subst (λ z. nat_abs z < 2 ^ 127) (sym c.num-else-negative.ensures.value) c.num-else-negative.ensures.narrow) in
    let answered = simp to_z-of_z at c.checked_mul-else-negative.ensures in
    subst (λ b. SomeIff c.checked_mul-else-negative.result (FitsSigned w128 (time_of b (nat_abs c.args.common) c.args.multiplier.now)) (time_of b (nat_abs c.args.common) c.args.multiplier.now)) (sym c.if-negative.false)
    (answered_so c.checked_mul-else-negative.result (pos 0 +ℤ neg_ℤ c.num-else-negative.result) (int_div c.args.common c.den.result) _ _ (plain ∙ ap neg_ℤ c.num-else-negative.ensures.value ∙ positive_number q.num) (ap (int_div c.args.common) c.den.ensures.value ∙ share_is c.args.common q.den c.requires) answered)
