use Rattle.lp_solve.specs.Rule.{Raises}
use Rattle.lp_solve.proofs.FirstFound.{FirstSoFar}
use Rattle.lp_solve.proofs.search.first_raising.Given as goal

abbrev pub invariant-loop-j : goal.invariant-loop-j
invariant-loop-j l = FirstSoFar l.dict.outside (Raises l.dict l.row) l.j l.best
