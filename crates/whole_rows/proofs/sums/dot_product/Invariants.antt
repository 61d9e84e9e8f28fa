use Rattle.whole_rows.proofs.SumLemmas.{IsSumUpTo}
use Rattle.whole_rows.proofs.sums.dot_product.Given as goal

abbrev pub invariant-loop-i : goal.invariant-loop-i
invariant-loop-i l = IsSumUpTo l.factors l.x l.i l.sum
