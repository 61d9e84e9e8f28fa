use Rattle.std.proofs.Common.{◌≡◌, ◌++◌, take}
use Rattle.std.specs.Prelude.{flat_map}
use Rattle.spaces.specs.Tables.{rows_in}
use Rattle.norm_gauge.specs.PairTables.{difference_rows}
use Rattle.norm_gauge.proofs.pairs.append_differences.Given as goal

abbrev pub invariant-loop-k : goal.invariant-loop-k
invariant-loop-k l = l.items.items ≡ l.initial.items.items ++ flat_map difference_rows (take l.k (rows_in l.basis))
