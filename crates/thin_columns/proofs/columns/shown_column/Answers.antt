use Rattle.std.proofs.Common.{length, subst}
use Rattle.norm_gauge.specs.Widths.{polytope_of}
use Rattle.spaces.specs.Tables.{rows_in}
use Rattle.thin_columns.specs.Columns.{IsThinnest, ThinnestIs}
use Rattle.thin_columns.proofs.ColumnSteps.{gauge_nonneg, thinnest_direction}
use Rattle.thin_columns.proofs.columns.shown_column.Goals as goal

pub is_below_forms-requires-clause-not_negative : goal.is_below_forms-requires-clause-not_negative
is_below_forms-requires-clause-not_negative c =
    let p = polytope_of c.args.system.now.rows c.args.system.now.limits in
    let lines = rows_in c.args.lines.now in
    let thinnest : IsThinnest p lines (length lines) c.in-Some.field-0 = subst (ThinnestIs p lines (length lines)) c.in-Some.is c.in_ok-form.ensures in
    gauge_nonneg p c.in-Some.field-0.form c.in-Some.field-0.gauge thinnest.is_gauge

pub returns-then-shown-clause-direction : goal.returns-then-shown-clause-direction
returns-then-shown-clause-direction c =
    let p = polytope_of c.args.system.now.rows c.args.system.now.limits in
    let lines = rows_in c.args.lines.now in
    let thinnest : IsThinnest p lines (length lines) c.in-Some.field-0 = subst (ThinnestIs p lines (length lines)) c.in-Some.is c.in_ok-form.ensures in
    thinnest_direction p lines c.in-Some.field-0 c.requires.ready.some thinnest (c.in_ok-shown.ensures c.if-shown.true)
