use Rattle.std.proofs.Common.{◌≡◌, ◌++◌}
use Rattle.farkas_lift.specs.Joined.{joined}
use Rattle.farkas_lift.specs.NodeSides.{row_sides}
use Rattle.farkas_lift.proofs.side.append_rows.Given as goal

abbrev pub invariant-loop-i : goal.invariant-loop-i
invariant-loop-i l = l.sides.items ≡ l.fn.sides.items ++ joined (row_sides l.rows) l.i
