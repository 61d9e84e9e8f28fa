use Rattle.std.proofs.Common.{ℕ, ◌∷◌, [], get_or, pos, length, ap, ◌∙◌, arith}
use Rattle.farkas_lift.proofs.JoinedLaws.{joined-length, last_alone}
use Rattle.shown_widths.proofs.point.work_values.Goals as goal

pub returns-clause-value : goal.returns-clause-value
returns-clause-value c = last_alone (λ j. get_or c.args.values.now (get_or c.args.work.now.column_numbers j 0) (pos 0) ∷ []) c.loop-j.j (length c.args.work.now.rows.box) _ (omega (arith, c.loop-j-test.false, c.loop-j.auto.j-end, c.columns-columns.ensures.count)) c.loop-j.invariant

pub returns-clause-dense : goal.returns-clause-dense
returns-clause-dense c = ap length c.loop-j.invariant ∙ joined-length (λ (j : ℕ). get_or c.args.values.now (get_or c.args.work.now.column_numbers j 0) (pos 0)) c.loop-j.j ∙ omega (arith, c.loop-j-test.false, c.loop-j.auto.j-end, c.columns-columns.ensures.count)
