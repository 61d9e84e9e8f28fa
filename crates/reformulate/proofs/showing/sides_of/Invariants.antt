use Rattle.std.proofs.Common.{◌≡◌, take}
use Rattle.reformulate.specs.Gaps.{sides_of}
use Rattle.reformulate.proofs.showing.sides_of.Given as goal

abbrev pub invariant-loop-equality : goal.invariant-loop-equality
invariant-loop-equality l = l.sides.items ≡ sides_of (take l.equality-index l.equalities)
