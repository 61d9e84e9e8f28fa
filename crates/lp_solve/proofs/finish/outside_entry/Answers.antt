use Rattle.std.proofs.Common.{◌≢◌, [], ◌<◌, ◌≤◌, ◌∙◌, sym, arith, length, get_or}
use Rattle.lp_solve.proofs.ValueLaws.{value_found, value_passed, value_none}
use Rattle.lp_solve.proofs.finish.outside_entry.Goals as goal

pub loop-j-preserved : goal.loop-j-preserved
loop-j-preserved c =
    let d = c.args.dict.now in
    let row = get_or d.rows c.args.row [] in
    let here : c.loop-j.j < length d.outside = omega (arith, c.requires.columns) in
    let there : c.loop-j.j < length (get_or d.rows c.args.row []) = omega (arith, c.requires.width) in
    let apart : get_or d.outside c.loop-j.j 0 ≢ c.args.variable = λ e. c.if-outside-variable.false (c.outside.ensures ∙ e) in
    value_passed d.outside row c.args.variable c.loop-j.j here there apart ∙ c.loop-j.invariant

pub returns-then-outside-variable : goal.returns-then-outside-variable
returns-then-outside-variable c =
    let d = c.args.dict.now in
    let row = get_or d.rows c.args.row [] in
    let here : c.loop-j.j < length d.outside = omega (arith, c.requires.columns) in
    let there : c.loop-j.j < length (get_or d.rows c.args.row []) = omega (arith, c.requires.width) in
    c.entry.ensures ∙ sym (value_found d.outside row c.args.variable c.loop-j.j here there (sym c.outside.ensures ∙ c.if-outside-variable.true)) ∙ c.loop-j.invariant

pub returns : goal.returns
returns c =
    let d = c.args.dict.now in
    let low : length d.outside ≤ c.loop-j.j = omega (arith, c.requires.columns) in
    c.whole.ensures ∙ sym (value_none d.outside (get_or d.rows c.args.row []) c.args.variable c.loop-j.j low) ∙ c.loop-j.invariant
