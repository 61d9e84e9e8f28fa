use Rattle.std.proofs.Common.{rules, ℤ, length, ◌-ℤ◌, ◌*ℤ◌, ap, ap₂, ◌∙◌, sym, FitsSigned}
use Rattle.std.specs.Int.{w128}
use Rattle.std.proofs.lemmas.Int.{to_z-of_z}
use Rattle.shown_widths.specs.Points.{bounded, form_of, gap_of}
use Rattle.shown_widths.specs.declared.side.Bound.{Bound}
use Rattle.shown_widths.proofs.SlackLaws.{gap-at_least}
use Rattle.shown_widths.proofs.side.gap_at.Goals as goal

pub returns-in_ok-gap-in-AtLeast : goal.returns-in_ok-gap-in-AtLeast
returns-in_ok-gap-in-AtLeast c =
    let x = c.args.point.now in
    let form = form_of (length x.numerators) c.args.left in
    let side = c.in-AtLeast.side in
    let fits : FitsSigned w128 c.in_ok-gap-in-AtLeast.gap = search rules in
    let value_fits : FitsSigned w128 c.in_ok-value.value = search rules in
    let side_fits : FitsSigned w128 c.in-AtLeast.side = search rules in
    let denominator_fits : FitsSigned w128 c.denominator-denominator.result = search rules in
    let scaled_fits : FitsSigned w128 c.in_ok-checked_mul-in-AtLeast.field-0 = search rules in
    let gap = simp to_z-of_z at c.in_ok-gap-in-AtLeast.ensures in
    let scaled = simp to_z-of_z at c.in_ok-checked_mul-in-AtLeast.ensures in
    to_z-of_z w128 c.in_ok-gap-in-AtLeast.gap fits
    ∙ gap.1
    ∙ ap₂ ◌-ℤ◌ c.in_ok-value.ensures (scaled.1 ∙ ap (λ (d : ℤ). side *ℤ d) c.denominator-denominator.ensures)
    ∙ gap-at_least form side x
    ∙ ap (λ (b : Bound). gap_of (bounded form b) x) (sym c.in-AtLeast.is)
