use Rattle.std.proofs.Common.{arith, length, ◌≤◌}
use Rattle.norm_gauge.specs.Widths.{polytope_of}
use Rattle.spaces.specs.Tables.{rows_in}
use Rattle.thin_forms.proofs.ChoiceSteps.{chosen_direction, chosen_first}
use Rattle.thin_forms.proofs.RowSteps.{count_is}
use Rattle.thin_forms.proofs.choice.thinnest.Goals as goal

pub loop-j-init : goal.loop-j-init
loop-j-init c =
    let p = polytope_of c.args.system.now.rows c.args.system.now.limits in
    let found = c.in_ok-best.ensures in
    chosen_first p (rows_in c.args.lines.now) c.in_ok-best.best.form c.in_ok-best.best.gauge found.first found.coordinates found.primitive found.narrow found.gauge found.thin

pub returns-clause-direction : goal.returns-clause-direction
returns-clause-direction c =
    let p = polytope_of c.args.system.now.rows c.args.system.now.limits in
    let lines = rows_in c.args.lines.now in
    let all : length lines ≤ c.loop-j.j = omega (arith, count_is c.args.lines.now, c.loop-j-test.false, c.rows-j-end.ensures.count) in
    chosen_direction p lines c.loop-j.j c.loop-j.best.form c.loop-j.best.gauge c.requires.ready.some all c.loop-j.invariant
