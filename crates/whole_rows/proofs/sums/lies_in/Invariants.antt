use Rattle.std.proofs.Common.{◌↔◌, drop}
use Rattle.whole_rows.specs.WholeRows.{LiesIn}
use Rattle.whole_rows.proofs.sums.lies_in.Given as goal

abbrev pub invariant-loop-i : goal.invariant-loop-i
invariant-loop-i l = LiesIn (drop l.i l.bounds) (drop l.i l.x) ↔ LiesIn l.bounds l.x
