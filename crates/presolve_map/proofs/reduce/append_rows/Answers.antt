use Rattle.std.proofs.Common.{◌+◌, ◌<◌, length, sym, subst, ◌∙◌, arith}
use Rattle.presolve_map.specs.Reducing.{IsReducedTo}
use Rattle.presolve_map.proofs.ReduceLaws.{reduced-add, reduced-pass, reduced-all}
use Rattle.presolve_map.proofs.reduce.append_rows.Goals as goal
use Rattle.presolve_map.proofs.reduce.append_rows.Goals.{then-needed+in_ok-push_reduced, else-needed}

pub loop-i-preserved : goal.loop-i-preserved
loop-i-preserved c =
    let within : c.loop-i.i < length c.args.rows.now.rows = omega arith in
    elim c.if-needed.branch [
      | then-needed+in_ok-push_reduced w ↦ subst (IsReducedTo c.args.rows.now (c.loop-i.i + 1)) (sym (w.work-is ∙ w.in_ok-push_reduced.ensures)) (reduced-add c.args.rows.now c.loop-i.i c.loop-i.work c.loop-i.invariant within (sym c.is_needed-needed.ensures ∙ w.if-needed.true))
      | else-needed w ↦ subst (IsReducedTo c.args.rows.now (c.loop-i.i + 1)) (sym w.work-is) (reduced-pass c.args.rows.now c.loop-i.i c.loop-i.work c.loop-i.invariant within (sym c.is_needed-needed.ensures ∙ w.if-needed.false))
    ]

pub returns : goal.returns
returns c = reduced-all c.args.rows.now c.loop-i.i c.loop-i.work c.loop-i.invariant (omega arith)
