use Rattle.std.proofs.Common.{◌≡◌, ◌++◌}
use Rattle.farkas_lift.specs.Joined.{joined}
use Rattle.farkas_lift.specs.NodeSides.{column_sides}
use Rattle.farkas_lift.proofs.side.append_columns.Given as goal

abbrev pub invariant-loop-j : goal.invariant-loop-j
invariant-loop-j l = l.sides.items ≡ l.fn.sides.items ++ joined column_sides l.j
