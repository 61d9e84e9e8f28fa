use Rattle.std.proofs.Common.{take}
use Rattle.std.specs.List.{All}
use Rattle.whole_rows.specs.WholeRows.{MeetsRow}
use Rattle.whole_rows.proofs.dense_rows.DenseRows.meets_rows.Given as goal

abbrev pub invariant-loop-i : goal.invariant-loop-i
invariant-loop-i l = All (λ row. MeetsRow row l.x) (take l.i l.self.rows)
