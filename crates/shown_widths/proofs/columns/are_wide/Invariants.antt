use Rattle.std.proofs.Common.{ℕ, ◌<◌}
use Rattle.spaces.specs.Tables.{row_at}
use Rattle.shown_widths.specs.Columns.{IsShownWide}
use Rattle.shown_widths.proofs.columns.are_wide.Given as goal

abbrev pub invariant-loop-j : goal.invariant-loop-j
invariant-loop-j l = (k : ℕ) → k < l.j → IsShownWide k (row_at l.lines k) l.width l.points
