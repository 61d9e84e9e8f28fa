use Rattle.std.proofs.Common.{rules, ◌≡◌, ℤ, pos, length, ◌*ℤ◌, ◌≤ℤ◌, ◌<ℤ◌, ap, ◌∙◌, subst, FitsSigned}
use Rattle.std.specs.Int.{w128}
use Rattle.std.proofs.lemmas.Int.{to_z-of_z}
use Rattle.exact_math.specs.IntegerLaws as Z
use Rattle.form_widths.specs.FixedPointLaws.{amount_within}
use Rattle.shown_widths.specs.Points.{bounded, form_of, gap_of}
use Rattle.shown_widths.specs.Steps.{parts}
use Rattle.shown_widths.proofs.side.slack_at.Goals as goal

pub returns : goal.returns
returns c =
    let x = c.args.point.now in
    let i = bounded (form_of (length x.numerators) c.args.left) c.args.bound in
    let gap_fits : FitsSigned w128 c.in_ok-gap_at.field-0 = search rules in
    let product_fits : FitsSigned w128 c.in_ok-gap.gap = search rules in
    let denominator_fits : FitsSigned w128 c.denominator-denominator.result = search rules in
    let fits : FitsSigned w128 c.floor.result = search rules in
    let product = simp to_z-of_z at c.in_ok-gap.ensures in
    let gap_is : c.in_ok-gap_at.field-0 ≡ gap_of i x = c.in_ok-gap_at.ensures in
    let scaled : c.in_ok-gap.gap ≡ pos parts *ℤ gap_of i x = product.1 ∙ ap (λ (z : ℤ). z *ℤ pos parts) gap_is ∙ Z.mul_comm (gap_of i x) (pos parts) in
    let floored = simp to_z-of_z at c.floor.ensures in
    let positive : pos 0 <ℤ c.denominator-denominator.result = search rules in
    let below : (c.floor.result *ℤ x.denominator) ≤ℤ c.in_ok-gap.gap = subst (λ (d : ℤ). (c.floor.result *ℤ d) ≤ℤ c.in_ok-gap.gap) c.denominator-denominator.ensures floored in
    simp to_z-of_z (amount_within i x parts c.floor.result (subst (λ (d : ℤ). pos 0 <ℤ d) c.denominator-denominator.ensures positive) (subst (λ (z : ℤ). (c.floor.result *ℤ x.denominator) ≤ℤ z) scaled below))
