use Rattle.std.proofs.Common.{◌≡◌}
use Rattle.range_dict.proofs.first.copy_rows.Given as goal

abbrev pub invariant-loop-i : goal.invariant-loop-i
invariant-loop-i l = record { height : l.to.rows ≡ l.fn.to.rows; width : l.to.width ≡ l.fn.to.width }
