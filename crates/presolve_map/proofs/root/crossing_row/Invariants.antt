use Rattle.std.proofs.Common.{ℕ, ◌<◌}
use Rattle.whole_rows.specs.WholeRows.{row_at}
use Rattle.presolve_map.specs.Roots.{HasCrossingSides}
use Rattle.presolve_map.proofs.root.crossing_row.Given as goal

abbrev pub invariant-loop-i : goal.invariant-loop-i
invariant-loop-i l = (k : ℕ) → k < l.i → HasCrossingSides (row_at l.rows k) → ⊥
