use Rattle.std.proofs.Common.{◌≡◌, ℕ, ◌+◌, inl, inr, [], ◌∷◌, length, get_or, sym, ap, subst, ◌∙◌, arith, length-append}
use Rattle.std.proofs.lemmas.List.{length-set}
use Rattle.std.proofs.lemmas.Result.{IfOk-from_err}
use Rattle.lp_dict.specs.Dictionaries.{Dictionary}
use Rattle.lp_dict.specs.Pivots.{pivoted}
use Rattle.lp_solve.specs.Rule.{AreLegal, IsNext, NextIsWide, after}
use Rattle.lp_solve.proofs.ReachedLaws.{next_can, after_more, legal_more}
use Rattle.lp_solve.proofs.RunSteps.{failed, made, ending_is}
use Rattle.lp_solve.proofs.solve.run.Goals as goal

pub loop-made-init : goal.loop-made-init
loop-made-init c =
    (subst (AreLegal c.args.dict.now) (sym c.requires.none_made) tt, ap (after c.args.dict.now) (sym c.requires.none_made), ap length c.requires.none_made, c.requires.rows, c.requires.columns)

pub next_step-requires-clause-rows : goal.next_step-requires-clause-rows
next_step-requires-clause-rows c = c.loop-made.invariant.3

pub next_step-requires-clause-columns : goal.next_step-requires-clause-columns
next_step-requires-clause-columns c = c.loop-made.invariant.4

pub overflow_cast-place : goal.overflow_cast-place
overflow_cast-place c = let can = next_can c.loop-made.dict c.in-Pivot.row c.in-Pivot.column c.in-Pivot.ensures in omega (arith, can.row_there, c.loop-made.invariant.3, c.requires.small)

pub overflow_cast-place-in-Pivot : goal.overflow_cast-place-in-Pivot
overflow_cast-place-in-Pivot c = let can = next_can c.loop-made.dict c.in-Pivot.row c.in-Pivot.column c.in-Pivot.ensures in omega (arith, can.column_there, c.loop-made.invariant.4, c.requires.small)

pub pivot-requires-clause-row_there : goal.pivot-requires-clause-row_there
pivot-requires-clause-row_there c = (next_can c.loop-made.dict c.in-Pivot.row c.in-Pivot.column c.in-Pivot.ensures).row_there

pub pivot-requires-clause-column_there : goal.pivot-requires-clause-column_there
pivot-requires-clause-column_there c = (next_can c.loop-made.dict c.in-Pivot.row c.in-Pivot.column c.in-Pivot.ensures).column_there

pub pivot-requires-clause-pivot : goal.pivot-requires-clause-pivot
pivot-requires-clause-pivot c = (next_can c.loop-made.dict c.in-Pivot.row c.in-Pivot.column c.in-Pivot.ensures).entry

pub returns-then-is_err-clause-legal : goal.returns-then-is_err-clause-legal
returns-then-is_err-clause-legal c = c.loop-made.invariant.0

pub returns-then-is_err-clause-ending : goal.returns-then-is_err-clause-ending
returns-then-is_err-clause-ending c =
    subst (λ t. NextIsWide t c.in-Pivot.row c.in-Pivot.column) c.loop-made.invariant.1 (inl (c.in-Pivot.ensures, failed c.pivot.result (sym c.is_err.ensures.value ∙ c.if-is_err.true) c.pivot.ensures.wide))

pub returns-in_err-push-in-Pivot-clause-legal : goal.returns-in_err-push-in-Pivot-clause-legal
returns-in_err-push-in-Pivot-clause-legal c = IfOk-from_err c.from_residual.result _ c.from_residual.ensures.0

pub returns-in_err-push-in-Pivot-clause-ending : goal.returns-in_err-push-in-Pivot-clause-ending
returns-in_err-push-in-Pivot-clause-ending c = IfOk-from_err c.from_residual.result _ c.from_residual.ensures.0

pub overflow_cast-result : goal.overflow_cast-result
overflow_cast-result c = omega (arith, c.in-WideQuotient.ensures.row_there, c.loop-made.invariant.3, c.requires.small)

pub overflow_cast-result-in-WideQuotient : goal.overflow_cast-result-in-WideQuotient
overflow_cast-result-in-WideQuotient c = omega (arith, c.in-WideQuotient.ensures.column.inside, c.loop-made.invariant.4, c.requires.small)

pub returns-in-WideQuotient-clause-legal : goal.returns-in-WideQuotient-clause-legal
returns-in-WideQuotient-clause-legal c = c.loop-made.invariant.0

pub returns-in-WideQuotient-clause-ending : goal.returns-in-WideQuotient-clause-ending
returns-in-WideQuotient-clause-ending c = subst (λ t. NextIsWide t c.in-WideQuotient.row c.in-WideQuotient.column) c.loop-made.invariant.1 (inr c.in-WideQuotient.ensures)

pub returns-in-NoPoint-clause-legal : goal.returns-in-NoPoint-clause-legal
returns-in-NoPoint-clause-legal c = c.loop-made.invariant.0

pub returns-in-NoPoint-clause-ending : goal.returns-in-NoPoint-clause-ending
returns-in-NoPoint-clause-ending c = (c.loop-made.invariant.1, c.in-NoPoint.ensures)

pub returns-in-Least-clause-legal : goal.returns-in-Least-clause-legal
returns-in-Least-clause-legal c = c.loop-made.invariant.0

pub returns-in-Least-clause-ending : goal.returns-in-Least-clause-ending
returns-in-Least-clause-ending c = (c.loop-made.invariant.1, c.in-Least.ensures)

pub loop-made-preserved : goal.loop-made-preserved
loop-made-preserved c =
    let old = c.args.dict.now in
    let now = c.loop-made.dict in
    let i : ℕ = c.in-Pivot.row in
    let j : ℕ = c.in-Pivot.column in
    let place : ℕ × ℕ = (i, j) in
    let turned = made c.pivot.result (sym c.is_err.ensures.value ∙ c.if-is_err.false) c.pivot.ensures.ok in
    let put = c.in_ok-push-in-Pivot.ensures.ok in (
      subst (AreLegal old) (sym put) (legal_more old c.loop-made.pivots place c.loop-made.invariant.0 (subst (λ t. IsNext t i j) c.loop-made.invariant.1 c.in-Pivot.ensures)),
      turned ∙ ap (λ t. pivoted t i j) c.loop-made.invariant.1 ∙ sym (after_more old c.loop-made.pivots place) ∙ ap (after old) (sym put),
      ap length put ∙ length-append c.loop-made.pivots (place ∷ []) ∙ ap (λ n. n + 1) c.loop-made.invariant.2,
      c.loop-made.invariant.3 ∙ sym (ap (λ (t : Dictionary). length t.basic) turned ∙ length-set now.basic i (get_or now.outside j 0)),
      c.loop-made.invariant.4 ∙ sym (ap (λ (t : Dictionary). length t.outside) turned ∙ length-set now.outside j (get_or now.basic i 0)),
    )

pub next_step-requires-2-clause-rows : goal.next_step-requires-2-clause-rows
next_step-requires-2-clause-rows c = c.loop-made.invariant.3

pub next_step-requires-2-clause-columns : goal.next_step-requires-2-clause-columns
next_step-requires-2-clause-columns c = c.loop-made.invariant.4

pub returns-clause-legal : goal.returns-clause-legal
returns-clause-legal c = c.loop-made.invariant.0

pub returns-clause-ending : goal.returns-clause-ending
returns-clause-ending c =
    let count : length c.loop-made.pivots ≡ 20000 = omega (arith, c.loop-made.invariant.2, c.loop-made-test.false, c.loop-made.auto._made-end) in
    ending_is c.args.dict.now c.loop-made.dict c.loop-made.pivots c.next_step-2.result c.ending_of.result c.loop-made.invariant.1 count c.next_step-2.ensures c.ending_of.ensures
