use Rattle.lp_solve.specs.Rule.{HasEntry}
use Rattle.lp_solve.proofs.FirstFound.{FirstSoFar}
use Rattle.lp_solve.proofs.search.first_entry.Given as goal

abbrev pub invariant-loop-i : goal.invariant-loop-i
invariant-loop-i l = FirstSoFar l.dict.basic (HasEntry l.dict l.column) l.i l.best
