use Rattle.std.proofs.Common.{◌≡◌, ◌*◌, ◌^◌, ◌<◌, pos, ap, sym, ◌∙◌, arith}
use Rattle.std.specs.Int.{w128}
use Rattle.std.proofs.lemmas.Int.{to_z_pos}
use Rattle.exact_math.specs.Rational.{ℚ, whole, ◌*ℚ◌, ◌/ℚ◌, ◌≤ℚ◌}
use Rattle.exact_math.specs.RationalOrder.{le_trans}
use Rattle.thin_columns.specs.Steps.{IsStepOf}
use Rattle.thin_columns.proofs.StepSteps.{step_is_of, step_of_more, twice_some}
use Rattle.thin_columns.proofs.slacks.step_of.Goals as goal

pub div-requires : goal.div-requires
div-requires c =
    let power = c.power_of_four-power.result in
    let small : 2 * power < 2 ^ 127 = omega (arith, c.power_of_four-power.ensures.small) in
    let e : c.whole.result ≡ whole (pos (2 * power)) = c.whole.ensures ∙ ap whole (to_z_pos w128 (2 * power) small) in
    λ none. twice_some power c.power_of_four-power.ensures.positive (ap (λ (q : ℚ). q.num) (sym e) ∙ none)

pub returns : goal.returns
returns c =
    let power = c.power_of_four-power.result in
    let rounded = c.in_ok-width.width in
    let small : 2 * power < 2 ^ 127 = omega (arith, c.power_of_four-power.ensures.small) in
    let e : c.whole.result ≡ whole (pos (2 * power)) = c.whole.ensures ∙ ap whole (to_z_pos w128 (2 * power) small) in
    let few : c.args.count < 2 ^ 127 = omega (arith, c.ranges.count.fits) in
    let k : c.whole-2.result ≡ whole (pos c.args.count) = c.whole-2.ensures ∙ ap whole (to_z_pos w128 c.args.count few) in
    let not_negative : whole (pos 0) ≤ℚ rounded = le_trans _ c.args.width.now rounded c.requires.not_negative c.in_ok-width.ensures in
    let of : IsStepOf c.args.dimension c.args.count rounded c.in_ok-step.step =
    step_is_of c.args.dimension c.args.count power rounded c.in_ok-room.room c.in_ok-step.step c.power_of_four-power.ensures.positive c.power_of_four-power.ensures.most not_negative (c.in_ok-room.ensures.1 ∙ ap (λ q. rounded /ℚ q) e) (c.in_ok-step.ensures.1 ∙ ap (λ q. c.in_ok-room.room *ℚ q) k) in
    step_of_more c.args.dimension c.args.count c.args.width.now rounded c.in_ok-step.step c.in_ok-width.ensures of
