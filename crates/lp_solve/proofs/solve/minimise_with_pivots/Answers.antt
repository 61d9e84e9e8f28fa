use Rattle.std.proofs.Common.{refl, sym, subst, ◌∙◌, arith, length, []}
use Rattle.std.proofs.lemmas.Result.{IfOk-from_err, err_from_is_err_and}
use Rattle.lp_dict.specs.Systems.{left_sides, wholes}
use Rattle.lp_solve.specs.Endings.{EndingIs}
use Rattle.lp_solve.specs.Outcomes.{SolvedIs}
use Rattle.lp_solve.specs.Rule.{AreLegal, NextIsWide, IsDue, after}
use Rattle.lp_solve.specs.declared.solve.Ending.TheVariants.{Stuck, Optimal, Wide, Many}
use Rattle.lp_solve.proofs.SolveSteps.{reached_from, basic_count, outside_count, row_width, small_ok, solved_empty, solved_least, says_empty}
use Rattle.lp_solve.proofs.EndedLaws.{ends_empty, ends_least}
use Rattle.lp_solve.proofs.solve.minimise_with_pivots.Goals as goal

pub of-requires : goal.of-requires
of-requires c = c.requires.condition

pub returns-in_err-dict-clause-solved : goal.returns-in_err-dict-clause-solved
returns-in_err-dict-clause-solved c = IfOk-from_err c.from_residual.result _ c.from_residual.ensures.0

pub returns-in_err-dict-clause-empty : goal.returns-in_err-dict-clause-empty
returns-in_err-dict-clause-empty c = IfOk-from_err c.from_residual.result _ c.from_residual.ensures.0

pub returns-in_err-dict-clause-stopped : goal.returns-in_err-dict-clause-stopped
returns-in_err-dict-clause-stopped c = let p = err_from_is_err_and c.from_residual.result c.from_residual.ensures.1 in rw (p.1, p.2) tt

pub returns-in_err-row-clause-solved : goal.returns-in_err-row-clause-solved
returns-in_err-row-clause-solved c = IfOk-from_err c.from_residual-in_err-row.result _ c.from_residual-in_err-row.ensures.0

pub returns-in_err-row-clause-empty : goal.returns-in_err-row-clause-empty
returns-in_err-row-clause-empty c = IfOk-from_err c.from_residual-in_err-row.result _ c.from_residual-in_err-row.ensures.0

pub returns-in_err-row-clause-stopped : goal.returns-in_err-row-clause-stopped
returns-in_err-row-clause-stopped c = let p = err_from_is_err_and c.from_residual-in_err-row.result c.from_residual-in_err-row.ensures.1 in rw (p.1, p.2) tt

pub returns-in_err-solved-in-Stuck-clause-solved : goal.returns-in_err-solved-in-Stuck-clause-solved
returns-in_err-solved-in-Stuck-clause-solved c = IfOk-from_err c.from_residual-in_err-solved-in-Stuck.result _ c.from_residual-in_err-solved-in-Stuck.ensures.0

pub returns-in_err-solved-in-Stuck-clause-empty : goal.returns-in_err-solved-in-Stuck-clause-empty
returns-in_err-solved-in-Stuck-clause-empty c = IfOk-from_err c.from_residual-in_err-solved-in-Stuck.result _ c.from_residual-in_err-solved-in-Stuck.ensures.0

pub returns-in_err-solved-in-Stuck-clause-stopped : goal.returns-in_err-solved-in-Stuck-clause-stopped
returns-in_err-solved-in-Stuck-clause-stopped c = let p = err_from_is_err_and c.from_residual-in_err-solved-in-Stuck.result c.from_residual-in_err-solved-in-Stuck.ensures.1 in rw (p.1, p.2) tt

pub returns-in_err-solved-in-Optimal-clause-solved : goal.returns-in_err-solved-in-Optimal-clause-solved
returns-in_err-solved-in-Optimal-clause-solved c = IfOk-from_err c.from_residual-in_err-solved-in-Optimal.result _ c.from_residual-in_err-solved-in-Optimal.ensures.0

pub returns-in_err-solved-in-Optimal-clause-empty : goal.returns-in_err-solved-in-Optimal-clause-empty
returns-in_err-solved-in-Optimal-clause-empty c = IfOk-from_err c.from_residual-in_err-solved-in-Optimal.result _ c.from_residual-in_err-solved-in-Optimal.ensures.0

pub returns-in_err-solved-in-Optimal-clause-stopped : goal.returns-in_err-solved-in-Optimal-clause-stopped
returns-in_err-solved-in-Optimal-clause-stopped c = let p = err_from_is_err_and c.from_residual-in_err-solved-in-Optimal.result c.from_residual-in_err-solved-in-Optimal.ensures.1 in rw (p.1, p.2) tt

pub run-requires-clause-rows : goal.run-requires-clause-rows
run-requires-clause-rows c =
    let t = c.args.system.now.rows in
    let limits = c.args.system.now.limits in
    let form = c.args.form.now in
    c.rows-rows.ensures.count ∙ basic_count t limits form c.requires.condition c.rows-rows.ensures.size c.in_ok-dict.dict (reached_from t limits form c.requires.condition c.rows-rows.ensures.size c.in_ok-dict.dict c.in_ok-dict.dict [] c.in_ok-dict.ensures tt refl)

pub run-requires-clause-columns : goal.run-requires-clause-columns
run-requires-clause-columns c =
    let t = c.args.system.now.rows in
    let limits = c.args.system.now.limits in
    let form = c.args.form.now in
    c.width-columns.ensures.count ∙ outside_count t limits form c.requires.condition c.rows-rows.ensures.size c.in_ok-dict.dict (reached_from t limits form c.requires.condition c.rows-rows.ensures.size c.in_ok-dict.dict c.in_ok-dict.dict [] c.in_ok-dict.ensures tt refl)

pub run-requires-clause-small : goal.run-requires-clause-small
run-requires-clause-small c =
    let t = c.args.system.now.rows in
    let limits = c.args.system.now.limits in
    let form = c.args.form.now in
    omega (arith, small_ok t limits form c.requires.condition c.rows-rows.ensures.size, c.rows-rows.ensures.count, c.width-columns.ensures.count)

pub run-requires-clause-none_made : goal.run-requires-clause-none_made
run-requires-clause-none_made c = c.new-pivots.ensures

pub empty-requires-clause-rows : goal.empty-requires-clause-rows
empty-requires-clause-rows c =
    let t = c.args.system.now.rows in
    let limits = c.args.system.now.limits in
    let form = c.args.form.now in
    let end : EndingIs c.in_ok-dict.dict c.run.new.dict c.run.new.pivots (Stuck c.in-Stuck.row) = subst (EndingIs c.in_ok-dict.dict c.run.new.dict c.run.new.pivots) c.in-Stuck.is c.in_ok-row.ensures.ending in
    let now = reached_from t limits form c.requires.condition c.rows-rows.ensures.size c.in_ok-dict.dict c.run.new.dict c.run.new.pivots c.in_ok-dict.ensures c.in_ok-row.ensures.legal end.0 in
    c.rows-rows.ensures.count ∙ basic_count t limits form c.requires.condition c.rows-rows.ensures.size c.run.new.dict now

pub empty-requires-clause-columns : goal.empty-requires-clause-columns
empty-requires-clause-columns c =
    let t = c.args.system.now.rows in
    let limits = c.args.system.now.limits in
    let form = c.args.form.now in
    let end : EndingIs c.in_ok-dict.dict c.run.new.dict c.run.new.pivots (Stuck c.in-Stuck.row) = subst (EndingIs c.in_ok-dict.dict c.run.new.dict c.run.new.pivots) c.in-Stuck.is c.in_ok-row.ensures.ending in
    let now = reached_from t limits form c.requires.condition c.rows-rows.ensures.size c.in_ok-dict.dict c.run.new.dict c.run.new.pivots c.in_ok-dict.ensures c.in_ok-row.ensures.legal end.0 in
    c.width-columns.ensures.count ∙ outside_count t limits form c.requires.condition c.rows-rows.ensures.size c.run.new.dict now

pub empty-requires-clause-small : goal.empty-requires-clause-small
empty-requires-clause-small c =
    let t = c.args.system.now.rows in
    let limits = c.args.system.now.limits in
    let form = c.args.form.now in
    omega (arith, small_ok t limits form c.requires.condition c.rows-rows.ensures.size, c.rows-rows.ensures.count, c.width-columns.ensures.count)

pub empty-requires-clause-row_there : goal.empty-requires-clause-row_there
empty-requires-clause-row_there c =
    let t = c.args.system.now.rows in
    let limits = c.args.system.now.limits in
    let form = c.args.form.now in
    let end : EndingIs c.in_ok-dict.dict c.run.new.dict c.run.new.pivots (Stuck c.in-Stuck.row) = subst (EndingIs c.in_ok-dict.dict c.run.new.dict c.run.new.pivots) c.in-Stuck.is c.in_ok-row.ensures.ending in
    end.1.first.inside

pub empty-requires-clause-width : goal.empty-requires-clause-width
empty-requires-clause-width c =
    let t = c.args.system.now.rows in
    let limits = c.args.system.now.limits in
    let form = c.args.form.now in
    let end : EndingIs c.in_ok-dict.dict c.run.new.dict c.run.new.pivots (Stuck c.in-Stuck.row) = subst (EndingIs c.in_ok-dict.dict c.run.new.dict c.run.new.pivots) c.in-Stuck.is c.in_ok-row.ensures.ending in
    let now = reached_from t limits form c.requires.condition c.rows-rows.ensures.size c.in_ok-dict.dict c.run.new.dict c.run.new.pivots c.in_ok-dict.ensures c.in_ok-row.ensures.legal end.0 in
    row_width t limits form c.requires.condition c.rows-rows.ensures.size c.run.new.dict now c.in-Stuck.row (omega (arith, end.1.first.inside))

pub returns-in-Stuck-clause-solved : goal.returns-in-Stuck-clause-solved
returns-in-Stuck-clause-solved c =
    let t = c.args.system.now.rows in
    let limits = c.args.system.now.limits in
    let form = c.args.form.now in
    let end : EndingIs c.in_ok-dict.dict c.run.new.dict c.run.new.pivots (Stuck c.in-Stuck.row) = subst (EndingIs c.in_ok-dict.dict c.run.new.dict c.run.new.pivots) c.in-Stuck.is c.in_ok-row.ensures.ending in
    let now = reached_from t limits form c.requires.condition c.rows-rows.ensures.size c.in_ok-dict.dict c.run.new.dict c.run.new.pivots c.in_ok-dict.ensures c.in_ok-row.ensures.legal end.0 in
    subst (SolvedIs (left_sides t) (wholes limits) (wholes form)) (sym c.in_ok-solved-in-Stuck.ensures) (solved_empty t limits form c.requires.condition c.rows-rows.ensures.size c.run.new.dict now c.in-Stuck.row end.1)

pub returns-in-Stuck-clause-empty : goal.returns-in-Stuck-clause-empty
returns-in-Stuck-clause-empty c =
    let t = c.args.system.now.rows in
    let limits = c.args.system.now.limits in
    let form = c.args.form.now in
    let end : EndingIs c.in_ok-dict.dict c.run.new.dict c.run.new.pivots (Stuck c.in-Stuck.row) = subst (EndingIs c.in_ok-dict.dict c.run.new.dict c.run.new.pivots) c.in-Stuck.is c.in_ok-row.ensures.ending in
    let now = reached_from t limits form c.requires.condition c.rows-rows.ensures.size c.in_ok-dict.dict c.run.new.dict c.run.new.pivots c.in_ok-dict.ensures c.in_ok-row.ensures.legal end.0 in
    says_empty t limits form c.requires.condition c.rows-rows.ensures.size c.in_ok-solved-in-Stuck.solved (subst (SolvedIs (left_sides t) (wholes limits) (wholes form)) (sym c.in_ok-solved-in-Stuck.ensures) (solved_empty t limits form c.requires.condition c.rows-rows.ensures.size c.run.new.dict now c.in-Stuck.row end.1))

pub least-requires-clause-rows : goal.least-requires-clause-rows
least-requires-clause-rows c =
    let t = c.args.system.now.rows in
    let limits = c.args.system.now.limits in
    let form = c.args.form.now in
    let end : EndingIs c.in_ok-dict.dict c.run.new.dict c.run.new.pivots (Optimal) = subst (EndingIs c.in_ok-dict.dict c.run.new.dict c.run.new.pivots) c.in-Optimal.is c.in_ok-row.ensures.ending in
    let now = reached_from t limits form c.requires.condition c.rows-rows.ensures.size c.in_ok-dict.dict c.run.new.dict c.run.new.pivots c.in_ok-dict.ensures c.in_ok-row.ensures.legal end.0 in
    c.rows-rows.ensures.count ∙ basic_count t limits form c.requires.condition c.rows-rows.ensures.size c.run.new.dict now

pub least-requires-clause-columns : goal.least-requires-clause-columns
least-requires-clause-columns c =
    let t = c.args.system.now.rows in
    let limits = c.args.system.now.limits in
    let form = c.args.form.now in
    let end : EndingIs c.in_ok-dict.dict c.run.new.dict c.run.new.pivots (Optimal) = subst (EndingIs c.in_ok-dict.dict c.run.new.dict c.run.new.pivots) c.in-Optimal.is c.in_ok-row.ensures.ending in
    let now = reached_from t limits form c.requires.condition c.rows-rows.ensures.size c.in_ok-dict.dict c.run.new.dict c.run.new.pivots c.in_ok-dict.ensures c.in_ok-row.ensures.legal end.0 in
    c.width-columns.ensures.count ∙ outside_count t limits form c.requires.condition c.rows-rows.ensures.size c.run.new.dict now

pub least-requires-clause-small : goal.least-requires-clause-small
least-requires-clause-small c =
    let t = c.args.system.now.rows in
    let limits = c.args.system.now.limits in
    let form = c.args.form.now in
    omega (arith, small_ok t limits form c.requires.condition c.rows-rows.ensures.size, c.rows-rows.ensures.count, c.width-columns.ensures.count)

pub least-requires-clause-height : goal.least-requires-clause-height
least-requires-clause-height c =
    let t = c.args.system.now.rows in
    let limits = c.args.system.now.limits in
    let form = c.args.form.now in
    let end : EndingIs c.in_ok-dict.dict c.run.new.dict c.run.new.pivots (Optimal) = subst (EndingIs c.in_ok-dict.dict c.run.new.dict c.run.new.pivots) c.in-Optimal.is c.in_ok-row.ensures.ending in
    let now = reached_from t limits form c.requires.condition c.rows-rows.ensures.size c.in_ok-dict.dict c.run.new.dict c.run.new.pivots c.in_ok-dict.ensures c.in_ok-row.ensures.legal end.0 in
    now.shape.height

pub least-requires-clause-width : goal.least-requires-clause-width
least-requires-clause-width c =
    let t = c.args.system.now.rows in
    let limits = c.args.system.now.limits in
    let form = c.args.form.now in
    let end : EndingIs c.in_ok-dict.dict c.run.new.dict c.run.new.pivots (Optimal) = subst (EndingIs c.in_ok-dict.dict c.run.new.dict c.run.new.pivots) c.in-Optimal.is c.in_ok-row.ensures.ending in
    let now = reached_from t limits form c.requires.condition c.rows-rows.ensures.size c.in_ok-dict.dict c.run.new.dict c.run.new.pivots c.in_ok-dict.ensures c.in_ok-row.ensures.legal end.0 in
    row_width t limits form c.requires.condition c.rows-rows.ensures.size c.run.new.dict now (length c.run.new.dict.basic) (omega arith)

pub returns-in-Optimal-clause-solved : goal.returns-in-Optimal-clause-solved
returns-in-Optimal-clause-solved c =
    let t = c.args.system.now.rows in
    let limits = c.args.system.now.limits in
    let form = c.args.form.now in
    let end : EndingIs c.in_ok-dict.dict c.run.new.dict c.run.new.pivots (Optimal) = subst (EndingIs c.in_ok-dict.dict c.run.new.dict c.run.new.pivots) c.in-Optimal.is c.in_ok-row.ensures.ending in
    let now = reached_from t limits form c.requires.condition c.rows-rows.ensures.size c.in_ok-dict.dict c.run.new.dict c.run.new.pivots c.in_ok-dict.ensures c.in_ok-row.ensures.legal end.0 in
    subst (SolvedIs (left_sides t) (wholes limits) (wholes form)) (sym c.in_ok-solved-in-Optimal.ensures) (solved_least t limits form c.requires.condition c.rows-rows.ensures.size c.run.new.dict now c.requires.bounded end.1)

pub returns-in-Optimal-clause-empty : goal.returns-in-Optimal-clause-empty
returns-in-Optimal-clause-empty c =
    let t = c.args.system.now.rows in
    let limits = c.args.system.now.limits in
    let form = c.args.form.now in
    let end : EndingIs c.in_ok-dict.dict c.run.new.dict c.run.new.pivots (Optimal) = subst (EndingIs c.in_ok-dict.dict c.run.new.dict c.run.new.pivots) c.in-Optimal.is c.in_ok-row.ensures.ending in
    let now = reached_from t limits form c.requires.condition c.rows-rows.ensures.size c.in_ok-dict.dict c.run.new.dict c.run.new.pivots c.in_ok-dict.ensures c.in_ok-row.ensures.legal end.0 in
    says_empty t limits form c.requires.condition c.rows-rows.ensures.size c.in_ok-solved-in-Optimal.solved (subst (SolvedIs (left_sides t) (wholes limits) (wholes form)) (sym c.in_ok-solved-in-Optimal.ensures) (solved_least t limits form c.requires.condition c.rows-rows.ensures.size c.run.new.dict now c.requires.bounded end.1))

pub same-pivots : goal.same-pivots
same-pivots c = refl

pub same-pivots-in-Many : goal.same-pivots-in-Many
same-pivots-in-Many c = refl

pub returns-in-Wide-clause-stopped : goal.returns-in-Wide-clause-stopped
returns-in-Wide-clause-stopped c =
    let t = c.args.system.now.rows in
    let limits = c.args.system.now.limits in
    let form = c.args.form.now in
    let end : EndingIs c.in_ok-dict.dict c.run.new.dict c.run.new.pivots (Wide c.in-Wide.row c.in-Wide.column) = subst (EndingIs c.in_ok-dict.dict c.run.new.dict c.run.new.pivots) c.in-Wide.is c.in_ok-row.ensures.ending in
    (subst (λ d. AreLegal d c.run.new.pivots) c.in_ok-dict.ensures c.in_ok-row.ensures.legal, subst (λ d. NextIsWide (after d c.run.new.pivots) c.in-Wide.row c.in-Wide.column) c.in_ok-dict.ensures end)

pub returns-clause-stopped : goal.returns-clause-stopped
returns-clause-stopped c =
    let t = c.args.system.now.rows in
    let limits = c.args.system.now.limits in
    let form = c.args.form.now in
    let end : EndingIs c.in_ok-dict.dict c.run.new.dict c.run.new.pivots (Many) = subst (EndingIs c.in_ok-dict.dict c.run.new.dict c.run.new.pivots) c.in-Many.is c.in_ok-row.ensures.ending in
    (subst (λ d. AreLegal d c.run.new.pivots) c.in_ok-dict.ensures c.in_ok-row.ensures.legal, end.0, subst (λ d. IsDue (after d c.run.new.pivots)) c.in_ok-dict.ensures end.1)

pub returns-in_err-dict-clause-pivots : goal.returns-in_err-dict-clause-pivots
returns-in_err-dict-clause-pivots c = IfOk-from_err c.from_residual.result _ c.from_residual.ensures.0

pub returns-in_err-row-clause-pivots : goal.returns-in_err-row-clause-pivots
returns-in_err-row-clause-pivots c = IfOk-from_err c.from_residual-in_err-row.result _ c.from_residual-in_err-row.ensures.0

pub returns-in_err-solved-in-Stuck-clause-pivots : goal.returns-in_err-solved-in-Stuck-clause-pivots
returns-in_err-solved-in-Stuck-clause-pivots c = IfOk-from_err c.from_residual-in_err-solved-in-Stuck.result _ c.from_residual-in_err-solved-in-Stuck.ensures.0

pub returns-in_err-solved-in-Optimal-clause-pivots : goal.returns-in_err-solved-in-Optimal-clause-pivots
returns-in_err-solved-in-Optimal-clause-pivots c = IfOk-from_err c.from_residual-in_err-solved-in-Optimal.result _ c.from_residual-in_err-solved-in-Optimal.ensures.0

pub returns-in-Stuck-clause-pivots : goal.returns-in-Stuck-clause-pivots
returns-in-Stuck-clause-pivots c =
    let end : EndingIs c.in_ok-dict.dict c.run.new.dict c.run.new.pivots (Stuck c.in-Stuck.row) = subst (EndingIs c.in_ok-dict.dict c.run.new.dict c.run.new.pivots) c.in-Stuck.is c.in_ok-row.ensures.ending in
    ends_empty _ c.in_ok-dict.dict c.run.new.dict c.run.new.pivots c.in-Stuck.row c.in_ok-solved-in-Stuck.solved c.in_ok-dict.ensures c.in_ok-row.ensures.legal end.0 end.1 c.in_ok-solved-in-Stuck.ensures

pub returns-in-Optimal-clause-pivots : goal.returns-in-Optimal-clause-pivots
returns-in-Optimal-clause-pivots c =
    let end : EndingIs c.in_ok-dict.dict c.run.new.dict c.run.new.pivots (Optimal) = subst (EndingIs c.in_ok-dict.dict c.run.new.dict c.run.new.pivots) c.in-Optimal.is c.in_ok-row.ensures.ending in
    ends_least _ c.in_ok-dict.dict c.run.new.dict c.run.new.pivots c.in_ok-solved-in-Optimal.solved c.in_ok-dict.ensures c.in_ok-row.ensures.legal end.0 end.1 c.in_ok-solved-in-Optimal.ensures
