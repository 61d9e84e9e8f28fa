use Rattle.std.proofs.Common.{◌≡◌, ◌++◌}
use Rattle.farkas_lift.specs.Joined.{joined}
use Rattle.farkas_lift.specs.NodeLifting.{column_places}
use Rattle.farkas_lift.proofs.place.append_columns.Given as goal

abbrev pub invariant-loop-j : goal.invariant-loop-j
invariant-loop-j l = l.places.items ≡ l.fn.places.items ++ joined (column_places l.model l.rows) l.j
