use Rattle.presolve_map.proofs.PlacedLaws.{IsPlacedTo}
use Rattle.presolve_map.proofs.placing.place_columns.Given as goal

abbrev pub invariant-loop-i : goal.invariant-loop-i
invariant-loop-i l = IsPlacedTo l.flags l.i l.place l.lines
