use Rattle.std.proofs.Common.{◌≡◌}
use Rattle.exact_math.specs.Gcd.{gcd}
use Rattle.frac128.proofs.euclid.gcd_by_division.Given as goal

abbrev pub invariant-loop-low : goal.invariant-loop-low
invariant-loop-low l = gcd l.high l.low ≡ gcd l.a l.b

abbrev pub decreases-loop-low : goal.decreases-loop-low
decreases-loop-low l = l.low
