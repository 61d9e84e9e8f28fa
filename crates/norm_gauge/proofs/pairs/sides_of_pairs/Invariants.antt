use Rattle.std.proofs.Common.{◌≡◌, ◌++◌}
use Rattle.exact_math.specs.Ring.{integers}
use Rattle.exact_vectors.specs.Vectors.{zeros}
use Rattle.norm_gauge.proofs.pairs.sides_of_pairs.Given as goal

abbrev pub invariant-loop-row : goal.invariant-loop-row
invariant-loop-row l = l.items.items ≡ l.limits ++ (l.limits ++ zeros integers l._row)
