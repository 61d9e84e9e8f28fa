use Rattle.std.proofs.Common.{◌+◌, ◌<◌, ◌≤◌, arith, length, refl, subst, sym}
use Rattle.lp_solve.proofs.FirstFound.{refuse}
use Rattle.lp_solve.proofs.SoonestFound.{SoonestSoFar, soonest_no, soonest_yes, soonest_all, soonest_inside}
use Rattle.lp_solve.proofs.search.soonest.Goals as goal
use Rattle.lp_solve.proofs.search.soonest.Goals.{then-limits+in_ok-growth, else-limits}

pub loop-i-preserved : goal.loop-i-preserved
loop-i-preserved c =
    elim c.if-limits.branch [
      | then-limits+in_ok-growth w ↦
          subst (SoonestSoFar c.args.dict.now c.args.column (c.loop-i.i + 1)) (sym w.best-is)
          (soonest_yes c.args.dict.now c.args.column c.loop-i.best c.loop-i.i w.in_ok-growth.growth w.sooner.result c.loop-i.invariant (w.if-limits.ensures.0 refl) w.in_ok-growth.ensures w.sooner.ensures)
      | else-limits w ↦
          subst (SoonestSoFar c.args.dict.now c.args.column (c.loop-i.i + 1)) (sym w.best-is)
          (soonest_no c.args.dict.now c.args.column c.loop-i.best c.loop-i.i c.loop-i.invariant (refuse w.if-limits.ensures.1))
    ]

pub sooner-requires-clause-best_there : goal.sooner-requires-clause-best_there
sooner-requires-clause-best_there c =
    let here : c.loop-i.i < length c.args.dict.now.basic = omega (arith, c.requires.rows) in
    soonest_inside c.args.dict.now c.args.column c.loop-i.best c.loop-i.i here c.loop-i.invariant

pub returns-in-Some : goal.returns-in-Some
returns-in-Some c =
    let low : length c.args.dict.now.basic ≤ c.loop-i.i = omega (arith, c.requires.rows) in
    let high : c.loop-i.i ≤ length c.args.dict.now.basic = omega (arith, c.requires.rows) in
    soonest_all c.args.dict.now c.args.column c.in-Some.limit c.loop-i.i low high (subst (SoonestSoFar c.args.dict.now c.args.column c.loop-i.i) c.in-Some.is c.loop-i.invariant)
