use Rattle.lp_solve.specs.Rule.{IsFree}
use Rattle.lp_solve.proofs.FirstFound.{FirstSoFar}
use Rattle.lp_solve.proofs.search.first_free.Given as goal

abbrev pub invariant-loop-j : goal.invariant-loop-j
invariant-loop-j l = FirstSoFar l.dict.outside (IsFree l.dict) l.j l.best
