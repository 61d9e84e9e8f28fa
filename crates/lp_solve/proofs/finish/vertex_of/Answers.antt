use Rattle.std.proofs.Common.{◌≡◌, ◌+◌, ◌≤◌, arith, length}
use Rattle.lp_solve.specs.Values.{value_of, constants}
use Rattle.lp_solve.proofs.FinishSteps.{value_next, values_all}
use Rattle.lp_solve.proofs.finish.vertex_of.Goals as goal

pub loop-v-preserved : goal.loop-v-preserved
loop-v-preserved c =
    let d = c.args.dict.now in
    value_next (value_of d.basic (constants d)) 0 c.loop-v.v c.loop-v.v c.loop-v.point c.push.new.self c.basic_constant.result c.loop-v.invariant c.in_ok-push.ensures.ok c.basic_constant.ensures (let start : c.loop-v.v ≡ 0 + c.loop-v.v = omega arith in start)

pub returns : goal.returns
returns c =
    let d = c.args.dict.now in
    let low : length d.outside ≤ c.loop-v.v = omega (arith, c.requires.columns) in
    let high : c.loop-v.v ≤ length d.outside = omega (arith, c.requires.columns) in
    values_all (value_of d.basic (constants d)) 0 c.loop-v.v (length d.outside) c.loop-v.point c.loop-v.invariant low high
