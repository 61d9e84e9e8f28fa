use Rattle.std.proofs.Common.{◌≡◌, ◌++◌}
use Rattle.exact_math.specs.Ring.{integers}
use Rattle.exact_vectors.specs.Vectors.{zeros}
use Rattle.reformulate.proofs.whole_times.pad.Given as goal

abbrev pub invariant-loop-place : goal.invariant-loop-place
invariant-loop-place l = l.times.items ≡ l.initial.times.items ++ zeros integers l._place
