use Rattle.std.proofs.Common.{rules, FitsSigned, ◌≡◌, ℕ, ◌+◌, ◌*◌, ◌/◌, ◌^◌, ◌<◌, ◌≤◌, pos, nat_abs, ap, ap₂, sym, ◌∙◌, subst, arith}
use Rattle.std.specs.Int.{w128}
use Rattle.std.proofs.lemmas.Int.{to_z-of_z, to_z_pos}
use Rattle.exact_math.specs.Rational.{ratio, ◌≤ℚ◌}
use Rattle.thin_columns.proofs.StepSteps.{rounded_most}
use Rattle.thin_columns.proofs.slacks.rounded_up.Goals as goal

pub returns : goal.returns
returns c =
    let w = c.args.width.now in
    let u : ℕ = 281474976710656 in
    let size = c.unsigned_abs-size.result in
    let divisor = c.unsigned_abs-divisor.result in
    let num_fits : FitsSigned w128 c.num.result = search rules in
    let den_fits : FitsSigned w128 c.den.result = search rules in
    let size_is : size ≡ nat_abs w.num = c.unsigned_abs-size.ensures.value ∙ ap nat_abs (to_z-of_z w128 c.num.result num_fits) ∙ ap nat_abs c.num.ensures.value in
    let divisor_is : divisor ≡ w.den = c.unsigned_abs-divisor.ensures.value ∙ ap nat_abs (to_z-of_z w128 c.den.result den_fits) ∙ ap nat_abs c.den.ensures.value in
    let q : ℕ = size / 281474976710656 in
    let b : ℕ = divisor / 281474976710656 in
    let small : q + 1 < 2 ^ 127 = omega (arith, c.unsigned_abs-size.ensures.bound) in
    let low : b < 2 ^ 127 = omega (arith, c.unsigned_abs-divisor.ensures.bound) in
    let is : c.in_ok-rounded.rounded ≡ ratio (pos (q + 1)) (pos b) = c.in_ok-rounded.ensures.1 ∙ ap₂ ratio (to_z_pos w128 (q + 1) small) (to_z_pos w128 b low) in
    let some : 0 < b = omega (arith, c.if-divisor-lt-LONG.false) in
    let over : nat_abs w.num ≤ (q + 1) * u = omega (arith, size_is) in
    let under : b * u ≤ w.den = omega (arith, divisor_is) in
    subst (λ r. w ≤ℚ r) (sym is) (rounded_most w u q b c.requires some over under)
