use Rattle.std.proofs.Common.{ℕ, ◌<◌}
use Rattle.whole_rows.specs.Ends.{ReachesSides}
use Rattle.whole_rows.specs.WholeRows.{row_at}
use Rattle.plain_slices.proofs.node.Node.line_of_rows.Given as goal

abbrev pub invariant-loop-i : goal.invariant-loop-i
invariant-loop-i l = (k : ℕ) → k < l.i → ReachesSides (row_at l.self.rows.now k).factors (row_at l.self.rows.now k).low (row_at l.self.rows.now k).high l.self.bounds.items
