use Rattle.std.proofs.Common.{◌+◌, ◌<◌, ◌≤◌, arith, length, refl, subst, sym}
use Rattle.lp_solve.specs.Rule.{IsBelow}
use Rattle.lp_solve.proofs.FirstFound.{FirstSoFar, found_no, found_yes, found_all, found_inside, refuse}
use Rattle.lp_solve.proofs.search.first_below.Goals as goal
use Rattle.lp_solve.proofs.search.first_below.Goals.{then-is_below, else-is_below}

pub loop-i-preserved : goal.loop-i-preserved
loop-i-preserved c =
    elim c.if-is_below.branch [
      | then-is_below w ↦
          subst (FirstSoFar c.args.dict.now.basic (IsBelow c.args.dict.now) (c.loop-i.i + 1)) (sym w.best-is)
          (found_yes c.args.dict.now.basic (IsBelow c.args.dict.now) c.loop-i.best c.loop-i.i w.first_row.result c.loop-i.invariant (w.if-is_below.ensures.0 refl) w.first_row.ensures)
      | else-is_below w ↦
          subst (FirstSoFar c.args.dict.now.basic (IsBelow c.args.dict.now) (c.loop-i.i + 1)) (sym w.best-is)
          (found_no c.args.dict.now.basic (IsBelow c.args.dict.now) c.loop-i.best c.loop-i.i c.loop-i.invariant (refuse w.if-is_below.ensures.1))
    ]

pub first_row-requires-clause-best_there : goal.first_row-requires-clause-best_there
first_row-requires-clause-best_there c =
    let here : c.loop-i.i < length c.args.dict.now.basic = omega (arith, c.requires.rows) in
    found_inside c.args.dict.now.basic (IsBelow c.args.dict.now) c.loop-i.best c.loop-i.i here c.loop-i.invariant

pub returns : goal.returns
returns c =
    let low : length c.args.dict.now.basic ≤ c.loop-i.i = omega (arith, c.requires.rows) in
    let high : c.loop-i.i ≤ length c.args.dict.now.basic = omega (arith, c.requires.rows) in
    found_all c.args.dict.now.basic (IsBelow c.args.dict.now) c.loop-i.best c.loop-i.i low high c.loop-i.invariant
