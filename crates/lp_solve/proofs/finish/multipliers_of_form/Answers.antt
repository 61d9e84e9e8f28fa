use Rattle.std.proofs.Common.{◌+◌, ◌≤◌, [], ◌∙◌, ap, arith, length, get_or}
use Rattle.lp_solve.specs.Values.{value_of}
use Rattle.lp_solve.proofs.FinishSteps.{value_next, values_all}
use Rattle.lp_solve.proofs.finish.multipliers_of_form.Goals as goal

pub loop-i-preserved : goal.loop-i-preserved
loop-i-preserved c =
    let d = c.args.dict.now in
    value_next (value_of d.outside (get_or d.rows (length d.basic) [])) (length d.outside) c.loop-i.i (c.args.columns + c.loop-i.i) c.loop-i.weights c.push.new.self c.outside_entry.result c.loop-i.invariant c.in_ok-push.ensures.ok (c.outside_entry.ensures ∙ ap (λ r. value_of d.outside (get_or d.rows r []) (c.args.columns + c.loop-i.i)) c.requires.rows) (ap (λ n. n + c.loop-i.i) c.requires.columns)

pub returns : goal.returns
returns c =
    let d = c.args.dict.now in
    let low : length d.basic ≤ c.loop-i.i = omega (arith, c.requires.rows) in
    let high : c.loop-i.i ≤ length d.basic = omega (arith, c.requires.rows) in
    values_all (value_of d.outside (get_or d.rows (length d.basic) [])) (length d.outside) c.loop-i.i (length d.basic) c.loop-i.weights c.loop-i.invariant low high
