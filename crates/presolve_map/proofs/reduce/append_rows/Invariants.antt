use Rattle.presolve_map.specs.Reducing.{IsReducedTo}
use Rattle.presolve_map.proofs.reduce.append_rows.Given as goal

abbrev pub invariant-loop-i : goal.invariant-loop-i
invariant-loop-i l = IsReducedTo l.rows l.i l.work
