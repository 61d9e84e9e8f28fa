use Rattle.std.proofs.Common.{◌≡◌, take}
use Rattle.exact_math.specs.Ring.{integers}
use Rattle.exact_vectors.specs.Vectors.{negate}
use Rattle.farkas_lift.proofs.side.negated.Given as goal

abbrev pub invariant-loop-j : goal.invariant-loop-j
invariant-loop-j l = l.turned.items ≡ negate integers (take l.j l.factors)
