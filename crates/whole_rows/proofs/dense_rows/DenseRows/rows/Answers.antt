use Rattle.std.proofs.Common.{arith}
use Rattle.whole_rows.proofs.FlatLemmas.{rows-whole_rows}
use Rattle.whole_rows.proofs.dense_rows.DenseRows.rows.Goals as goal

pub returns-clause-count : goal.returns-clause-count
returns-clause-count c = omega (arith, rows-whole_rows _ _ _ _ _ c.self.view_is)
