use Rattle.std.proofs.Common.{ℕ, ◌<◌}
use Rattle.std.specs.List.Sorted.{IsStrictlyIncreasing}
use Rattle.presolve_map.specs.LiftedLines.{numbers_of, ColumnStays, IsRemoved}
use Rattle.presolve_map.proofs.NumberedLaws.{IsLiftedTo}
use Rattle.presolve_map.proofs.line.lift_line.Given as goal

abbrev pub invariant-loop-column : goal.invariant-loop-column
invariant-loop-column l = record {
  lifted : IsLiftedTo l.rows l.times.cut l.times.items l.column l.lifted.items;
  rising : IsStrictlyIncreasing (numbers_of l.lifted.items);
  stays : (k : ℕ) → k < l.column → IsRemoved l.rows k → ColumnStays l.rows l.times.cut l.times.items k;
}
