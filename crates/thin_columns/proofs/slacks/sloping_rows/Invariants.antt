use Rattle.std.specs.Prelude.{◌≡◌, take}
use Rattle.spaces.specs.Tables.{rows_in}
use Rattle.thin_columns.specs.Sizes.{sloping}
use Rattle.thin_columns.proofs.slacks.sloping_rows.Given as goal

abbrev pub invariant-loop-i : goal.invariant-loop-i
invariant-loop-i l = l.count ≡ sloping (take l.i (rows_in l.rows))
