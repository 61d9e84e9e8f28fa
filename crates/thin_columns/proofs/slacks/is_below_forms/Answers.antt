use Rattle.std.proofs.Common.{ℕ, subst}
use Rattle.thin_columns.specs.Steps.{IsStepOf}
use Rattle.thin_columns.proofs.SystemSteps.{step_shows}
use Rattle.thin_columns.proofs.slacks.is_below_forms.Goals as goal

pub returns : goal.returns
returns c =
    let rows = c.args.system.now.rows in
    let step : IsStepOf rows.width c.sloping_rows-count.result c.args.width.now c.in_ok-step.step = subst (λ (r : ℕ). IsStepOf r c.sloping_rows-count.result c.args.width.now c.in_ok-step.step) c.width.ensures.count c.in_ok-step.ensures in
    λ shown. step_shows rows c.args.system.now.limits c.sloping_rows-count.result c.args.width.now c.in_ok-step.step c.requires.ready c.sloping_rows-count.ensures step (c.in_ok-shown.ensures shown)
