use Rattle.lp_solve.specs.Rule.{Lowers}
use Rattle.lp_solve.proofs.FirstFound.{FirstSoFar}
use Rattle.lp_solve.proofs.search.first_lowering.Given as goal

abbrev pub invariant-loop-j : goal.invariant-loop-j
invariant-loop-j l = FirstSoFar l.dict.outside (Lowers l.dict) l.j l.best
