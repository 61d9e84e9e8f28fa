use Rattle.std.proofs.Common.{ap, ◌∙◌}
use Rattle.std.proofs.lemmas.Result.{err_from_is_err_and}
use Rattle.lp_dict.specs.Systems.{wholes}
use Rattle.norm_gauge.specs.PairTableLaws.{wholes-negated}
use Rattle.norm_gauge.specs.Widths.{polytope_of}
use Rattle.norm_gauge.proofs.GaugeSteps.{stops_below, stops_above, gauge_of_ends, wide_ends}
use Rattle.norm_gauge.proofs.NarrowSteps.{opposite_condition}
use Rattle.norm_gauge.proofs.widths.width_of_ends.Goals as goal

pub returns-in_err-lower-clause-stopped : goal.returns-in_err-lower-clause-stopped
returns-in_err-lower-clause-stopped c =
    let p = err_from_is_err_and c.from_residual.result c.from_residual.ensures.1 in
    rw (p.1, p.2) (stops_below (polytope_of c.args.system.now.rows c.args.system.now.limits) (wholes c.args.form.now) c.in_err-lower.field-0.0 c.in_err-lower.ensures.stopped)

pub optimise-requires-2-clause-condition : goal.optimise-requires-2-clause-condition
optimise-requires-2-clause-condition c = opposite_condition c.args.system.now.rows c.args.system.now.limits c.args.form.now c.in_ok-other.other c.requires.condition c.in_ok-other.ensures

pub returns-in_err-upper-clause-stopped : goal.returns-in_err-upper-clause-stopped
returns-in_err-upper-clause-stopped c =
    let p = err_from_is_err_and c.from_residual-in_err-upper.result c.from_residual-in_err-upper.ensures.1 in
    rw (p.1, p.2) (stops_above (polytope_of c.args.system.now.rows c.args.system.now.limits) (wholes c.args.form.now) (wholes c.in_ok-other.other) c.in_err-upper.field-0.0 (ap wholes c.in_ok-other.ensures ∙ wholes-negated c.args.form.now) c.in_err-upper.ensures.stopped)

pub returns-in-Ok-clause-gauge : goal.returns-in-Ok-clause-gauge
returns-in-Ok-clause-gauge c =
    let lower = c.in_ok-lower.lower in
    let upper = c.in_ok-upper.upper in
    gauge_of_ends (polytope_of c.args.system.now.rows c.args.system.now.limits) (wholes c.args.form.now) (wholes c.in_ok-other.other) (ap wholes c.in_ok-other.ensures ∙ wholes-negated c.args.form.now) lower.point upper.point lower.multipliers upper.multipliers
    lower.value upper.value c.neg-greatest.result c.neg-greatest.ensures c.in_ok-lower.ensures.shown c.in_ok-upper.ensures.shown c.in-Ok.value c.in-Ok.ensures.1 c.in_ok-lower.ensures.least c.in_ok-upper.ensures.least

pub returns-in-Err-clause-stopped : goal.returns-in-Err-clause-stopped
returns-in-Err-clause-stopped c =
    let lower = c.in_ok-lower.lower in
    let upper = c.in_ok-upper.upper in
    wide_ends (polytope_of c.args.system.now.rows c.args.system.now.limits) (wholes c.args.form.now) (wholes c.in_ok-other.other) (ap wholes c.in_ok-other.ensures ∙ wholes-negated c.args.form.now) lower.point upper.point lower.multipliers upper.multipliers
    lower.value upper.value c.neg-greatest.result c.neg-greatest.ensures c.in_ok-lower.ensures.shown c.in_ok-upper.ensures.shown lower.pivots upper.pivots c.in_ok-lower.ensures.ended c.in_ok-upper.ensures.ended c.in-Err.ensures
