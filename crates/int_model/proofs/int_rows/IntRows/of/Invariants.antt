use Rattle.int_model.proofs.IntegerRowLaws.{HoldsRows}
use Rattle.int_model.proofs.int_rows.IntRows.of.Given as goal

abbrev pub invariant-loop-i : goal.invariant-loop-i
invariant-loop-i l = HoldsRows l.model l.i l.whole
