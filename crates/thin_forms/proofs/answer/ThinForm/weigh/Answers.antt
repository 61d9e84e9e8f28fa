use Rattle.std.proofs.Common.{◌≡◌, ◌<◌, [], length, get_or, pos, arith, subst, sym, ◌∙◌}
use Rattle.std.specs.Prelude.{All, IfNone, IfSome}
use Rattle.exact_math.specs.Rational.{◌≤ℚ◌, ◌<ℚ◌}
use Rattle.exact_math.specs.RationalTests.{le_false, le_true}
use Rattle.frac128.specs.Range.{IsNarrow}
use Rattle.generalised_reduce.proofs.TestSteps.{ready_condition}
use Rattle.lp_dict.specs.Systems.{wholes}
use Rattle.norm_gauge.specs.Gauges.{WidthStopIs}
use Rattle.norm_gauge.specs.Widths.{polytope_of}
use Rattle.spaces.specs.Tables.{rows_in}
use Rattle.thin_forms.specs.Parts.{IsPrimitivePart}
use Rattle.thin_forms.proofs.PartSteps.{part_is_free, part_length}
use Rattle.thin_forms.proofs.RowSteps.{count_is, line_is, lines_narrow}
use Rattle.thin_forms.proofs.ChoiceSteps.{chosen_kept, chosen_new, chosen_none}
use Rattle.thin_forms.proofs.answer.ThinForm.weigh.Goals as goal

pub returns-in_default-clause-chosen : goal.returns-in_default-clause-chosen
returns-in_default-clause-chosen c =
    let p = polytope_of c.args.system.now.rows c.args.system.now.limits in
    let lines = rows_in c.args.lines.now in
    let line : c.row.result.now ≡ get_or lines c.args.j [] = c.row.ensures.value ∙ sym (line_is c.args.lines.now c.args.j c.requires.inside) in
    let none : All (λ factor. factor ≡ pos 0) c.row.result.now = subst (λ o. IfNone o (All (λ factor. factor ≡ pos 0) c.row.result.now)) c.in_default.is c.in_ok-form.ensures.none in
    chosen_none p lines c.args.j c.args.self.now.form c.args.self.now.gauge (subst (All (λ factor. factor ≡ pos 0)) line none) c.requires.chosen

pub width-requires-clause-condition : goal.width-requires-clause-condition
width-requires-clause-condition c =
    let form = c.in-Some.form in
    let part : IsPrimitivePart c.row.result.now form = subst (λ o. IfSome o (IsPrimitivePart c.row.result.now)) c.in-Some.is c.in_ok-form.ensures.part in
    let narrow : All IsNarrow form = subst (λ o. IfSome o (All IsNarrow)) c.in-Some.is c.in_ok-form.ensures.narrow in
    ready_condition c.args.system.now.rows c.args.system.now.limits form c.requires.ready (part_length c.row.result.now form part ∙ c.row.ensures.width ∙ c.requires.width) narrow

pub width-requires-clause-narrow_basis : goal.width-requires-clause-narrow_basis
width-requires-clause-narrow_basis c = lines_narrow c.args.lines.now c.requires.narrow

pub returns-then-le-clause-chosen : goal.returns-then-le-clause-chosen
returns-then-le-clause-chosen c =
    let p = polytope_of c.args.system.now.rows c.args.system.now.limits in
    let lines = rows_in c.args.lines.now in
    let form = c.in-Some.form in
    let line : c.row.result.now ≡ get_or lines c.args.j [] = c.row.ensures.value ∙ sym (line_is c.args.lines.now c.args.j c.requires.inside) in
    let part : IsPrimitivePart (get_or lines c.args.j []) form = subst (λ l. IsPrimitivePart l form) line (subst (λ o. IfSome o (IsPrimitivePart c.row.result.now)) c.in-Some.is c.in_ok-form.ensures.part) in
    let le : c.args.self.now.gauge.value ≤ℚ c.in-Ok.gauge.value = le_true c.args.self.now.gauge.value c.in-Ok.gauge.value (sym c.le.ensures ∙ c.if-le.true) in
    chosen_kept p lines c.args.j c.args.self.now.form form c.args.self.now.gauge c.in-Ok.gauge part c.in-Ok.ensures.gauge le c.requires.chosen

pub returns-else-le-clause-chosen : goal.returns-else-le-clause-chosen
returns-else-le-clause-chosen c =
    let p = polytope_of c.args.system.now.rows c.args.system.now.limits in
    let lines = rows_in c.args.lines.now in
    let form = c.in-Some.form in
    let line : c.row.result.now ≡ get_or lines c.args.j [] = c.row.ensures.value ∙ sym (line_is c.args.lines.now c.args.j c.requires.inside) in
    let alone : IsPrimitivePart c.row.result.now form = subst (λ o. IfSome o (IsPrimitivePart c.row.result.now)) c.in-Some.is c.in_ok-form.ensures.part in
    let long : length form ≡ p.coordinates = part_length c.row.result.now form alone ∙ c.row.ensures.width ∙ c.requires.width in
    let part : IsPrimitivePart (get_or lines c.args.j []) form = subst (λ l. IsPrimitivePart l form) line alone in
    let inside : c.args.j < length lines = omega (arith, count_is c.args.lines.now, c.requires.inside) in
    let less : c.in-Ok.gauge.value <ℚ c.args.self.now.gauge.value = le_false c.args.self.now.gauge.value c.in-Ok.gauge.value (sym c.le.ensures ∙ c.if-le.false) in
    let narrow : All IsNarrow form = subst (λ o. IfSome o (All IsNarrow)) c.in-Some.is c.in_ok-form.ensures.narrow in
    chosen_new p lines c.args.j c.args.self.now.form form c.args.self.now.gauge c.in-Ok.gauge inside long narrow part c.in-Ok.ensures.gauge less c.requires.chosen

pub returns-in-Err-Excuse-clause-stop : goal.returns-in-Err-Excuse-clause-stop
returns-in-Err-Excuse-clause-stop c =
    let p = polytope_of c.args.system.now.rows c.args.system.now.limits in
    let lines = rows_in c.args.lines.now in
    let form = c.in-Some.form in
    let line : c.row.result.now ≡ get_or lines c.args.j [] = c.row.ensures.value ∙ sym (line_is c.args.lines.now c.args.j c.requires.inside) in
    let part : IsPrimitivePart (get_or lines c.args.j []) form = subst (λ l. IsPrimitivePart l form) line (subst (λ o. IfSome o (IsPrimitivePart c.row.result.now)) c.in-Some.is c.in_ok-form.ensures.part) in
    let inside : c.args.j < length lines = omega (arith, count_is c.args.lines.now, c.requires.inside) in
    ((c.args.j, part_is_free lines c.args.j form inside part), subst (λ stop. WidthStopIs p [] (wholes form) stop) c.in-Err-Excuse.field-0-is c.in-Err-Excuse.ensures.stopped)
