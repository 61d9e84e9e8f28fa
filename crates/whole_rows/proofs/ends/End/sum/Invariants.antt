use Rattle.whole_rows.proofs.EndLemmas.{IsSumUpTo}
use Rattle.whole_rows.proofs.ends.End.sum.Given as goal

abbrev pub invariant-loop-i : goal.invariant-loop-i
invariant-loop-i l = IsSumUpTo l.self l.factors l.bounds l.i l.sum
