use Rattle.std.proofs.Common.{◌≡◌, drop, get_or, []}
use Rattle.lp_solve.specs.Values.{value_of}
use Rattle.lp_solve.proofs.finish.outside_entry.Given as goal

abbrev pub invariant-loop-j : goal.invariant-loop-j
invariant-loop-j l = value_of (drop l.j l.dict.outside) (drop l.j (get_or l.dict.rows l.row [])) l.variable ≡ value_of l.dict.outside (get_or l.dict.rows l.row []) l.variable
