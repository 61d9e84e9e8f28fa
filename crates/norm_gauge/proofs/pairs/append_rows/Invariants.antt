use Rattle.std.proofs.Common.{◌≡◌, ◌++◌, take}
use Rattle.std.specs.Prelude.{flat_map}
use Rattle.spaces.specs.Tables.{rows_in}
use Rattle.norm_gauge.specs.PairTables.{pair_row}
use Rattle.norm_gauge.proofs.pairs.append_rows.Given as goal

abbrev pub invariant-loop-k : goal.invariant-loop-k
invariant-loop-k l = l.items.items ≡ l.initial.items.items ++ flat_map (pair_row l.first l.second) (take l.k (rows_in l.rows))
