use Rattle.std.proofs.Common.{◌≡◌, ◌<◌, [], length, get_or, pos, arith, subst, sym, ◌∙◌}
use Rattle.std.specs.Prelude.{All, IfNone, IfSome}
use Rattle.exact_math.specs.Rational.{◌≤ℚ◌, ◌<ℚ◌}
use Rattle.exact_math.specs.RationalTests.{le_false, le_true}
use Rattle.frac128.specs.Range.{IsNarrow}
use Rattle.generalised_reduce.proofs.TestSteps.{ready_condition}
use Rattle.norm_gauge.specs.Widths.{polytope_of}
use Rattle.spaces.specs.Tables.{rows_in}
use Rattle.thin_forms.specs.Parts.{IsPrimitivePart}
use Rattle.thin_forms.proofs.PartSteps.{part_length}
use Rattle.thin_forms.proofs.RowSteps.{count_is, line_is, lines_narrow}
use Rattle.thin_columns.specs.Columns.{ThinnestIs}
use Rattle.thin_columns.proofs.ColumnSteps.{thinnest_first, thinnest_kept, thinnest_none, thinnest_taken}
use Rattle.thin_columns.proofs.columns.weigh.Goals as goal

pub returns-in_default : goal.returns-in_default
returns-in_default c =
    let p = polytope_of c.args.system.now.rows c.args.system.now.limits in
    let lines = rows_in c.args.lines.now in
    let line : c.row.result.now ≡ get_or lines c.args.j [] = c.row.ensures.value ∙ sym (line_is c.args.lines.now c.args.j c.requires.inside) in
    let none : All (λ factor. factor ≡ pos 0) c.row.result.now = subst (λ o. IfNone o (All (λ factor. factor ≡ pos 0) c.row.result.now)) c.in_default.is c.in_ok-form.ensures.none in
    thinnest_none p lines c.args.j c.args.best (subst (All (λ factor. factor ≡ pos 0)) line none) c.requires.best

pub width-requires-clause-condition : goal.width-requires-clause-condition
width-requires-clause-condition c =
    let form = c.in-Some.form in
    let part : IsPrimitivePart c.row.result.now form = subst (λ o. IfSome o (IsPrimitivePart c.row.result.now)) c.in-Some.is c.in_ok-form.ensures.part in
    let narrow : All IsNarrow form = subst (λ o. IfSome o (All IsNarrow)) c.in-Some.is c.in_ok-form.ensures.narrow in
    ready_condition c.args.system.now.rows c.args.system.now.limits form c.requires.ready (part_length c.row.result.now form part ∙ c.row.ensures.width ∙ c.requires.width) narrow

pub width-requires-clause-narrow_basis : goal.width-requires-clause-narrow_basis
width-requires-clause-narrow_basis c = lines_narrow c.args.lines.now c.requires.narrow

pub returns-in_default-best : goal.returns-in_default-best
returns-in_default-best c =
    let p = polytope_of c.args.system.now.rows c.args.system.now.limits in
    let lines = rows_in c.args.lines.now in
    let form = c.in-Some.form in
    let line : c.row.result.now ≡ get_or lines c.args.j [] = c.row.ensures.value ∙ sym (line_is c.args.lines.now c.args.j c.requires.inside) in
    let alone : IsPrimitivePart c.row.result.now form = subst (λ o. IfSome o (IsPrimitivePart c.row.result.now)) c.in-Some.is c.in_ok-form.ensures.part in
    let long : length form ≡ p.coordinates = part_length c.row.result.now form alone ∙ c.row.ensures.width ∙ c.requires.width in
    let part : IsPrimitivePart (get_or lines c.args.j []) form = subst (λ l. IsPrimitivePart l form) line alone in
    let inside : c.args.j < length lines = omega (arith, count_is c.args.lines.now, c.requires.inside) in
    let narrow : All IsNarrow form = subst (λ o. IfSome o (All IsNarrow)) c.in-Some.is c.in_ok-form.ensures.narrow in
    thinnest_first p lines c.args.j form c.in_ok-gauge.gauge part c.in_ok-gauge.ensures.gauge inside long narrow (subst (ThinnestIs p lines c.args.j) c.in_default-best.is c.requires.best)

pub returns-then-le : goal.returns-then-le
returns-then-le c =
    let p = polytope_of c.args.system.now.rows c.args.system.now.limits in
    let lines = rows_in c.args.lines.now in
    let form = c.in-Some.form in
    let kept = c.in-Some-best.kept in
    let line : c.row.result.now ≡ get_or lines c.args.j [] = c.row.ensures.value ∙ sym (line_is c.args.lines.now c.args.j c.requires.inside) in
    let part : IsPrimitivePart (get_or lines c.args.j []) form = subst (λ l. IsPrimitivePart l form) line (subst (λ o. IfSome o (IsPrimitivePart c.row.result.now)) c.in-Some.is c.in_ok-form.ensures.part) in
    let le : kept.gauge.value ≤ℚ c.in_ok-gauge.gauge.value = le_true kept.gauge.value c.in_ok-gauge.gauge.value (sym c.le.ensures ∙ c.if-le.true) in
    thinnest_kept p lines c.args.j form c.in_ok-gauge.gauge part c.in_ok-gauge.ensures.gauge kept le (subst (ThinnestIs p lines c.args.j) c.in-Some-best.is c.requires.best)

pub returns-else-le : goal.returns-else-le
returns-else-le c =
    let p = polytope_of c.args.system.now.rows c.args.system.now.limits in
    let lines = rows_in c.args.lines.now in
    let form = c.in-Some.form in
    let kept = c.in-Some-best.kept in
    let line : c.row.result.now ≡ get_or lines c.args.j [] = c.row.ensures.value ∙ sym (line_is c.args.lines.now c.args.j c.requires.inside) in
    let alone : IsPrimitivePart c.row.result.now form = subst (λ o. IfSome o (IsPrimitivePart c.row.result.now)) c.in-Some.is c.in_ok-form.ensures.part in
    let long : length form ≡ p.coordinates = part_length c.row.result.now form alone ∙ c.row.ensures.width ∙ c.requires.width in
    let part : IsPrimitivePart (get_or lines c.args.j []) form = subst (λ l. IsPrimitivePart l form) line alone in
    let inside : c.args.j < length lines = omega (arith, count_is c.args.lines.now, c.requires.inside) in
    let less : c.in_ok-gauge.gauge.value <ℚ kept.gauge.value = le_false kept.gauge.value c.in_ok-gauge.gauge.value (sym c.le.ensures ∙ c.if-le.false) in
    let narrow : All IsNarrow form = subst (λ o. IfSome o (All IsNarrow)) c.in-Some.is c.in_ok-form.ensures.narrow in
    thinnest_taken p lines c.args.j form c.in_ok-gauge.gauge part c.in_ok-gauge.ensures.gauge inside long narrow kept less (subst (ThinnestIs p lines c.args.j) c.in-Some-best.is c.requires.best)
