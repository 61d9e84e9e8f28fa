use Rattle.std.proofs.Common.{◌≡◌, map, take}
use Rattle.int_model.specs.IntegerRows.{rounded_bounds}
use Rattle.int_model.proofs.int_rows.box_of.Given as goal

abbrev pub invariant-loop-column : goal.invariant-loop-column
invariant-loop-column l = l.rounded.items ≡ map rounded_bounds (take l.column-index l.columns)
