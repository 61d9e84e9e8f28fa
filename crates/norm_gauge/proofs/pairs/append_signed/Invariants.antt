use Rattle.std.proofs.Common.{◌≡◌, ◌++◌, take}
use Rattle.exact_math.specs.Ring.{integers}
use Rattle.exact_vectors.specs.Vectors.{scale}
use Rattle.norm_gauge.proofs.pairs.append_signed.Given as goal

abbrev pub invariant-loop-factor : goal.invariant-loop-factor
invariant-loop-factor l = l.items.items ≡ l.initial.items.items ++ scale integers l.sign (take l.factor-index l.factors)
