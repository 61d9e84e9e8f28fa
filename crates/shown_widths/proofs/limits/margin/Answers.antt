use Rattle.std.proofs.Common.{rules, ◌≡◌, pos, neg_ℤ, ◌<ℤ◌, List, sym, ap, ap₂, ◌∙◌, subst, FitsSigned}
use Rattle.std.specs.Int.{w128}
use Rattle.std.specs.Prelude.{Option, IfSome}
use Rattle.std.proofs.lemmas.Int.{to_z-of_z}
use Rattle.exact_math.specs.Rational.{ℚ, ratio}
use Rattle.farkas_rows.specs.declared.path.Slice.{Slice}
use Rattle.form_widths.specs.NodeLines.{end_number, margin, shortfall, times_of}
use Rattle.shown_widths.specs.Limits.{limit_sum}
use Rattle.shown_widths.proofs.QuotientLaws.{quotient_is, holds_of}
use Rattle.shown_widths.proofs.limits.margin.Goals as goal

pub returns : goal.returns
returns c = λ inequality e refutes.
    let rows = c.args.rows.now in
    let path = c.args.path.now in
    let line = c.args.line.now in
    let sum_fits : FitsSigned w128 c.in_ok-limit_sum.field-0 = search rules in
    let short_fits : FitsSigned w128 c.in_ok-shortfall.shortfall = search rules in
    let times_fits : FitsSigned w128 c.in_ok-times.times = search rules in
    let end_fits : FitsSigned w128 c.args.end = search rules in
    let positive : pos 0 <ℤ c.in_ok-times.times = search rules in
    let times = c.in_ok-times.ensures inequality refutes in
    let sum = c.in_ok-limit_sum.ensures inequality (e ∙ sym (to_z-of_z w128 c.args.end end_fits)) ∙ ap (λ (slices : List Slice). limit_sum rows slices inequality line) c.items.ensures in
    let short = to_z-of_z w128 c.in_ok-shortfall.shortfall short_fits ∙ c.in_ok-shortfall.ensures.1 ∙ ap neg_ℤ (to_z-of_z w128 c.in_ok-limit_sum.field-0 sum_fits ∙ sum) in
    subst (λ (found : Option ℚ). IfSome found (λ past. past ≡ margin rows path inequality line)) (sym c.ok.ensures.value)
    (holds_of (λ past. past ≡ margin rows path inequality line) c.new.result _ _ c.new.ensures
    (ap₂ ratio short (to_z-of_z w128 c.in_ok-times.times times_fits ∙ times) ∙ sym (quotient_is (shortfall rows path inequality line) (times_of (end_number rows path) line) (subst (λ t. pos 0 <ℤ t) times positive))))
