use Rattle.std.proofs.Common.{refl, Err}
use Rattle.root_gaps.proofs.EndLaws.{halts-handed, times-leave}
use Rattle.root_gaps.proofs.ends.end_lines.Goals as goal

pub returns-in_err-times-clause-halt : goal.returns-in_err-times-clause-halt
returns-in_err-times-clause-halt c =
    let wide = rw c.items.ensures at c.in_err-times.ensures.wide in
    halts-handed c.args.rows.now (Err c.in_err-times.field-0.0) c.from_residual.result c.in_err-times.field-0.0 refl c.from_residual.ensures.1 (λ e. times-leave c.args.rows.now c.args.work.now c.args.gap.now c.args.form.now c.requires.gap c.columns-columns.ensures.limits (wide e)) (λ e. absurd (c.in_err-times.ensures.never_heavy e))
