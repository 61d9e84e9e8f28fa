use Rattle.std.proofs.Common.{◌≡◌, take}
use Rattle.exact_math.specs.Ring.{integers}
use Rattle.exact_vectors.specs.Vectors.{scale}
use Rattle.thin_forms.proofs.parts.quotients.Given as goal

abbrev pub invariant-loop-j : goal.invariant-loop-j
invariant-loop-j l = scale integers l.divisor l.items ≡ take l.j l.factors
