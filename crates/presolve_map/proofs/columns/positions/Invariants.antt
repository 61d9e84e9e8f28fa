use Rattle.std.proofs.Common.{◌≡◌, ◌++◌, drop}
use Rattle.presolve_map.specs.Selections.{positions}
use Rattle.presolve_map.proofs.columns.positions.Given as goal

abbrev pub invariant-loop-i : goal.invariant-loop-i
invariant-loop-i l = l.numbers.items ++ positions l.i (drop l.i l.flags) ≡ positions 0 l.flags
