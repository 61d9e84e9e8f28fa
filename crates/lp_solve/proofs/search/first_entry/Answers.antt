use Rattle.std.proofs.Common.{◌+◌, ◌<◌, ◌≤◌, arith, length, refl, subst, sym}
use Rattle.lp_solve.specs.Rule.{HasEntry}
use Rattle.lp_solve.proofs.FirstFound.{FirstSoFar, found_no, found_yes, found_all, found_inside, refuse}
use Rattle.lp_solve.proofs.search.first_entry.Goals as goal
use Rattle.lp_solve.proofs.search.first_entry.Goals.{then-has_entry, else-has_entry}

pub loop-i-preserved : goal.loop-i-preserved
loop-i-preserved c =
    elim c.if-has_entry.branch [
      | then-has_entry w ↦
          subst (FirstSoFar c.args.dict.now.basic (HasEntry c.args.dict.now c.args.column) (c.loop-i.i + 1)) (sym w.best-is)
          (found_yes c.args.dict.now.basic (HasEntry c.args.dict.now c.args.column) c.loop-i.best c.loop-i.i w.first_row.result c.loop-i.invariant (w.if-has_entry.ensures.0 refl) w.first_row.ensures)
      | else-has_entry w ↦
          subst (FirstSoFar c.args.dict.now.basic (HasEntry c.args.dict.now c.args.column) (c.loop-i.i + 1)) (sym w.best-is)
          (found_no c.args.dict.now.basic (HasEntry c.args.dict.now c.args.column) c.loop-i.best c.loop-i.i c.loop-i.invariant (refuse w.if-has_entry.ensures.1))
    ]

pub first_row-requires-clause-best_there : goal.first_row-requires-clause-best_there
first_row-requires-clause-best_there c =
    let here : c.loop-i.i < length c.args.dict.now.basic = omega (arith, c.requires.rows) in
    found_inside c.args.dict.now.basic (HasEntry c.args.dict.now c.args.column) c.loop-i.best c.loop-i.i here c.loop-i.invariant

pub returns : goal.returns
returns c =
    let low : length c.args.dict.now.basic ≤ c.loop-i.i = omega (arith, c.requires.rows) in
    let high : c.loop-i.i ≤ length c.args.dict.now.basic = omega (arith, c.requires.rows) in
    found_all c.args.dict.now.basic (HasEntry c.args.dict.now c.args.column) c.loop-i.best c.loop-i.i low high c.loop-i.invariant
