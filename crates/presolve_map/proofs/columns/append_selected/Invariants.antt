use Rattle.std.proofs.Common.{◌≡◌, ◌++◌, drop}
use Rattle.presolve_map.specs.Selections.{select}
use Rattle.presolve_map.proofs.columns.append_selected.Given as goal

abbrev pub invariant-loop-i : goal.invariant-loop-i
invariant-loop-i g l = l.items.items ++ select (drop l.i l.flags) (drop l.i l.from) ≡ l.fn.items.items ++ select l.flags l.from
