use Rattle.std.proofs.Common.{◌≡◌, ◌-◌, ◌^◌, ◌<◌, [], length, get_or, ap, arith, rules, subst, sym, ◌∙◌, All}
use Rattle.form_widths.specs.Widths.{IsPrimitive}
use Rattle.frac128.specs.Range.{IsNarrow}
use Rattle.generalised_reduce.specs.MoveLaws.{form_is}
use Rattle.generalised_reduce.specs.Reduced.{IsWithinFactor, form_at, forms_of}
use Rattle.generalised_reduce.proofs.TestSteps.{row_is}
use Rattle.lp_dict.specs.Systems.{wholes}
use Rattle.norm_gauge.specs.Gauges.{IsGauge}
use Rattle.norm_gauge.specs.Widths.{polytope_of}
use Rattle.spaces.specs.Tables.{rows_in}
use Rattle.thin_forms.proofs.RowSteps.{first_row_primitive}
use Rattle.thin_forms.proofs.choice.first_row.Goals as goal

pub returns-in-Ok-clause-first : goal.returns-in-Ok-clause-first
returns-in-Ok-clause-first c =
    let m = c.in_ok-pair.field-0.pair in
    let rows : rows_in c.u.result.now ≡ m.u = search rules in
    let inside : 0 < c.u.result.now.rows = omega (arith, c.u.ensures.height, ap length rows, c.in_ok-pair.ensures.inverse.height_u, c.requires.ready.some, c.width-count.ensures.count) in
    record {
      moves = c.in_ok-pair.field-0.moves;
      basis = m;
      made = c.in_ok-pair.ensures.legal;
      reduced = c.in_ok-pair.ensures.reduced;
      first = c.of.ensures ∙ c.in-Ok.ensures.items ∙ row_is c.u.result.now m 0 c.row.result.now rows inside c.row.ensures.value;
    }

pub returns-in-Ok-clause-primitive : goal.returns-in-Ok-clause-primitive
returns-in-Ok-clause-primitive c =
    let m = c.in_ok-pair.field-0.pair in
    let rows : rows_in c.u.result.now ≡ m.u = search rules in
    let inside : 0 < c.u.result.now.rows = omega (arith, c.u.ensures.height, ap length rows, c.in_ok-pair.ensures.inverse.height_u, c.requires.ready.some, c.width-count.ensures.count) in
    let first : c.of.result ≡ get_or m.u 0 [] = c.of.ensures ∙ c.in-Ok.ensures.items ∙ row_is c.u.result.now m 0 c.row.result.now rows inside c.row.ensures.value in
    let some : 0 < c.width-count.result = omega (arith, c.requires.ready.some, c.width-count.ensures.count) in
    subst IsPrimitive (sym first) (first_row_primitive c.width-count.result m some c.in_ok-pair.ensures.inverse)

pub returns-in-Ok-clause-gauge : goal.returns-in-Ok-clause-gauge
returns-in-Ok-clause-gauge c =
    let p = polytope_of c.args.system.now.rows c.args.system.now.limits in
    let m = c.in_ok-pair.field-0.pair in
    let rows : rows_in c.u.result.now ≡ m.u = search rules in
    let inside : 0 < c.u.result.now.rows = omega (arith, c.u.ensures.height, ap length rows, c.in_ok-pair.ensures.inverse.height_u, c.requires.ready.some, c.width-count.ensures.count) in
    let there : 0 < length m.u = omega (arith, c.in_ok-pair.ensures.inverse.height_u, c.requires.ready.some, c.width-count.ensures.count) in
    let first : c.of.result ≡ get_or m.u 0 [] = c.of.ensures ∙ c.in-Ok.ensures.items ∙ row_is c.u.result.now m 0 c.row.result.now rows inside c.row.ensures.value in
    let gauge = c.swap_remove-gauge.result in
    let items : c.into_vec-gauges.result.items ≡ c.in_ok-pair.field-0.gauges = search rules in
    let known : gauge ≡ get_or c.in_ok-pair.field-0.gauges 0 gauge = c.swap_remove-gauge.ensures.value ∙ ap (λ l. get_or l 0 gauge) items in
    let some : 0 < length c.in_ok-pair.field-0.gauges = omega (arith, c.in_ok-pair.ensures.count, c.requires.ready.some, c.width-count.ensures.count) in
    let shown : IsGauge p [] (form_at (forms_of m) 0) gauge = subst (λ g. IsGauge p [] (form_at (forms_of m) 0) g) (sym known) (c.in_ok-pair.ensures.gauges 0 gauge some) in
    subst (λ form. IsGauge p [] form gauge) (sym (ap wholes first ∙ form_is m 0 there)) shown

pub returns-in-Ok-clause-thin : goal.returns-in-Ok-clause-thin
returns-in-Ok-clause-thin c =
    let p = polytope_of c.args.system.now.rows c.args.system.now.limits in
    let m = c.in_ok-pair.field-0.pair in
    let rows : rows_in c.u.result.now ≡ m.u = search rules in
    let inside : 0 < c.u.result.now.rows = omega (arith, c.u.ensures.height, ap length rows, c.in_ok-pair.ensures.inverse.height_u, c.requires.ready.some, c.width-count.ensures.count) in
    let there : 0 < length m.u = omega (arith, c.in_ok-pair.ensures.inverse.height_u, c.requires.ready.some, c.width-count.ensures.count) in
    let first : c.of.result ≡ get_or m.u 0 [] = c.of.ensures ∙ c.in-Ok.ensures.items ∙ row_is c.u.result.now m 0 c.row.result.now rows inside c.row.ensures.value in
    let thin : IsWithinFactor p (4 ^ (p.coordinates - 1)) (form_at (forms_of m) 0) = subst (λ r. IsWithinFactor p (4 ^ (r - 1)) (form_at (forms_of m) 0)) c.width-count.ensures.count c.in_ok-pair.ensures.thin in
    subst (IsWithinFactor p (4 ^ (p.coordinates - 1))) (sym (ap wholes first ∙ form_is m 0 there)) thin

pub returns-in-Ok-clause-narrow : goal.returns-in-Ok-clause-narrow
returns-in-Ok-clause-narrow c =
    let m = c.in_ok-pair.field-0.pair in
    let rows : rows_in c.u.result.now ≡ m.u = search rules in
    let inside : 0 < c.u.result.now.rows = omega (arith, c.u.ensures.height, ap length rows, c.in_ok-pair.ensures.inverse.height_u, c.requires.ready.some, c.width-count.ensures.count) in
    let there : 0 < length m.u = omega (arith, c.in_ok-pair.ensures.inverse.height_u, c.requires.ready.some, c.width-count.ensures.count) in
    let first : c.of.result ≡ get_or m.u 0 [] = c.of.ensures ∙ c.in-Ok.ensures.items ∙ row_is c.u.result.now m 0 c.row.result.now rows inside c.row.ensures.value in
    subst (All IsNarrow) (sym first) (c.in_ok-pair.ensures.narrow 0 [] there)
