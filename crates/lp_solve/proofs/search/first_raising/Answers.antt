use Rattle.std.proofs.Common.{◌+◌, ◌<◌, ◌≤◌, arith, length, refl, subst, sym}
use Rattle.lp_solve.specs.Rule.{Raises}
use Rattle.lp_solve.proofs.FirstFound.{FirstSoFar, found_no, found_yes, found_all, found_inside, refuse}
use Rattle.lp_solve.proofs.search.first_raising.Goals as goal
use Rattle.lp_solve.proofs.search.first_raising.Goals.{then-raises, else-raises}

pub loop-j-preserved : goal.loop-j-preserved
loop-j-preserved c =
    elim c.if-raises.branch [
      | then-raises w ↦
          subst (FirstSoFar c.args.dict.now.outside (Raises c.args.dict.now c.args.row) (c.loop-j.j + 1)) (sym w.best-is)
          (found_yes c.args.dict.now.outside (Raises c.args.dict.now c.args.row) c.loop-j.best c.loop-j.j w.first_column.result c.loop-j.invariant (w.if-raises.ensures.0 refl) w.first_column.ensures)
      | else-raises w ↦
          subst (FirstSoFar c.args.dict.now.outside (Raises c.args.dict.now c.args.row) (c.loop-j.j + 1)) (sym w.best-is)
          (found_no c.args.dict.now.outside (Raises c.args.dict.now c.args.row) c.loop-j.best c.loop-j.j c.loop-j.invariant (refuse w.if-raises.ensures.1))
    ]

pub first_column-requires-clause-best_there : goal.first_column-requires-clause-best_there
first_column-requires-clause-best_there c =
    let here : c.loop-j.j < length c.args.dict.now.outside = omega (arith, c.requires.columns) in
    found_inside c.args.dict.now.outside (Raises c.args.dict.now c.args.row) c.loop-j.best c.loop-j.j here c.loop-j.invariant

pub returns : goal.returns
returns c =
    let low : length c.args.dict.now.outside ≤ c.loop-j.j = omega (arith, c.requires.columns) in
    let high : c.loop-j.j ≤ length c.args.dict.now.outside = omega (arith, c.requires.columns) in
    found_all c.args.dict.now.outside (Raises c.args.dict.now c.args.row) c.loop-j.best c.loop-j.j low high c.loop-j.invariant
