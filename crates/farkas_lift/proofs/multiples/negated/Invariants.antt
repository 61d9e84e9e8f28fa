use Rattle.std.proofs.Common.{◌≡◌, take}
use Rattle.exact_math.specs.RationalRing.{rationals}
use Rattle.exact_vectors.specs.Vectors.{negate}
use Rattle.farkas_lift.proofs.multiples.negated.Given as goal

abbrev pub invariant-loop-entry : goal.invariant-loop-entry
invariant-loop-entry l = l.turned.items ≡ negate rationals (take l.entry-index l.row)
