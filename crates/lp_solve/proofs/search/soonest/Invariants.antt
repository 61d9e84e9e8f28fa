use Rattle.lp_solve.proofs.SoonestFound.{SoonestSoFar}
use Rattle.lp_solve.proofs.search.soonest.Given as goal

abbrev pub invariant-loop-i : goal.invariant-loop-i
invariant-loop-i l = SoonestSoFar l.dict l.column l.i l.best
