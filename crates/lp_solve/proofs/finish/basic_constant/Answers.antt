use Rattle.std.proofs.Common.{◌≢◌, [], ◌<◌, ◌≤◌, ◌∙◌, sym, ap, arith, length, get_or}
use Rattle.exact_math.specs.RationalRing.{rationals}
use Rattle.exact_vectors.specs.MatrixLaws.{column-at}
use Rattle.lp_dict.specs.Dictionaries.{none}
use Rattle.lp_solve.specs.Values.{constants}
use Rattle.lp_solve.proofs.FinishSteps.{length-column}
use Rattle.lp_solve.proofs.ValueLaws.{value_found, value_passed, value_none}
use Rattle.lp_solve.proofs.finish.basic_constant.Goals as goal

pub loop-i-preserved : goal.loop-i-preserved
loop-i-preserved c =
    let d = c.args.dict.now in
    let here : c.loop-i.i < length d.basic = omega (arith, c.requires.rows) in
    let there : c.loop-i.i < length (constants d) = omega (arith, length-column d.rows (length d.outside), c.requires.height) in
    let apart : get_or d.basic c.loop-i.i 0 ≢ c.args.variable = λ e. c.if-basic-variable.false (c.basic.ensures ∙ e) in
    value_passed d.basic (constants d) c.args.variable c.loop-i.i here there apart ∙ c.loop-i.invariant

pub returns-then-basic-variable : goal.returns-then-basic-variable
returns-then-basic-variable c =
    let d = c.args.dict.now in
    let here : c.loop-i.i < length d.basic = omega (arith, c.requires.rows) in
    let row : c.loop-i.i < length d.rows = omega (arith, c.requires.height) in
    let there : c.loop-i.i < length (constants d) = omega (arith, length-column d.rows (length d.outside), c.requires.height) in
    c.entry.ensures ∙ ap (λ j. get_or (get_or d.rows c.loop-i.i []) j none) c.requires.columns ∙ sym (column-at rationals d.rows (length d.outside) c.loop-i.i [] none row)
    ∙ sym (value_found d.basic (constants d) c.args.variable c.loop-i.i here there (sym c.basic.ensures ∙ c.if-basic-variable.true)) ∙ c.loop-i.invariant

pub returns : goal.returns
returns c =
    let d = c.args.dict.now in
    let low : length d.basic ≤ c.loop-i.i = omega (arith, c.requires.rows) in
    c.whole.ensures ∙ sym (value_none d.basic (constants d) c.args.variable c.loop-i.i low) ∙ c.loop-i.invariant
