use Rattle.std.proofs.Common.{ℕ, pos, get_or, length, ap, ◌∙◌, arith}
use Rattle.farkas_lift.proofs.JoinedLaws.{joined-length}
use Rattle.farkas_lift.proofs.equalities.over_work.Goals as goal

pub returns-clause-dense : goal.returns-clause-dense
returns-clause-dense c =
    ap length c.of.ensures ∙ ap length c.loop-j.invariant ∙ joined-length (λ (j : ℕ). get_or c.args.slice.now.form (get_or c.args.rows.now.column_numbers j 0) (pos 0)) c.loop-j.j ∙ omega (arith, c.loop-j-test.false, c.loop-j.auto.j-end, c.columns-j-end.ensures.count)
