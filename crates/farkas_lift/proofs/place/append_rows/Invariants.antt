use Rattle.std.proofs.Common.{◌≡◌, ◌++◌}
use Rattle.farkas_lift.specs.Joined.{joined}
use Rattle.farkas_lift.specs.NodeLifting.{row_places}
use Rattle.farkas_lift.proofs.place.append_rows.Given as goal

abbrev pub invariant-loop-i : goal.invariant-loop-i
invariant-loop-i l = l.places.items ≡ l.fn.places.items ++ joined (row_places l.rows) l.i
