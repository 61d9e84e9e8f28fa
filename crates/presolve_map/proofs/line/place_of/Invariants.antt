use Rattle.std.proofs.Common.{ℕ, ◌<◌, get_or}
use Rattle.presolve_map.specs.LiftedLines.{numbers_of}
use Rattle.presolve_map.proofs.line.place_of.Given as goal

abbrev pub invariant-loop-i : goal.invariant-loop-i
invariant-loop-i l = (k : ℕ) → k < l.i → get_or (numbers_of l.items) k 0 < l.number
