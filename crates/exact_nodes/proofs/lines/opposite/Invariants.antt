use Rattle.std.proofs.Common.{◌≡◌, take, All}
use Rattle.exact_math.specs.Ring.{integers}
use Rattle.exact_vectors.specs.Vectors.{negate}
use Rattle.frac128.specs.Range.{IsNarrow}
use Rattle.exact_nodes.proofs.lines.opposite.Given as goal

abbrev pub invariant-loop-j : goal.invariant-loop-j
invariant-loop-j l = record {
  done : l.items.items ≡ negate integers (take l.j l.factors);
  narrow : All IsNarrow l.items.items;
}
