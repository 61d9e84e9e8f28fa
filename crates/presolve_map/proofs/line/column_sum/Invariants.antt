use Rattle.std.proofs.Common.{◌≡◌, drop}
use Rattle.exact_math.specs.Rational.{◌+ℚ◌}
use Rattle.presolve_map.specs.LiftedLines.{total, column_sum, factor_in, ColumnStays, SumStays}
use Rattle.presolve_map.proofs.line.column_sum.Given as goal
use Rattle.std.specs.Prelude.{[], None}

abbrev pub invariant-loop-item : goal.invariant-loop-item
invariant-loop-item l = record {
  value : l.sum +ℚ total (factor_in l.rows [] None l.column) (drop l.item-index l.item-items) ≡ column_sum l.rows l.times.cut l.times.items l.column;
  stays : SumStays l.rows l.column l.sum (drop l.item-index l.item-items) → ColumnStays l.rows l.times.cut l.times.items l.column;
  stayed : ColumnStays l.rows l.times.cut l.times.items l.column → SumStays l.rows l.column l.sum (drop l.item-index l.item-items);
}
