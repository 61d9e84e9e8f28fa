use Rattle.lp_solve.specs.Rule.{IsBelow}
use Rattle.lp_solve.proofs.FirstFound.{FirstSoFar}
use Rattle.lp_solve.proofs.search.first_below.Given as goal

abbrev pub invariant-loop-i : goal.invariant-loop-i
invariant-loop-i l = FirstSoFar l.dict.basic (IsBelow l.dict) l.i l.best
