use Rattle.std.specs.Prelude.{ℕ, ◌<◌}
use Rattle.thin_columns.specs.Steps.{RowAllows}
use Rattle.thin_columns.proofs.slacks.rows_allow.Given as goal

abbrev pub invariant-loop-i : goal.invariant-loop-i
invariant-loop-i l = (i : ℕ) → i < l.i → RowAllows l.system.rows l.system.limits l.step i
