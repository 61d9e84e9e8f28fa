use Rattle.std.proofs.Common.{◌≡◌, ◌%◌, ◌+◌, ◌<◌, ◌^◌}
use Rattle.exact_math.specs.Gcd.{gcd}
use Rattle.frac128.proofs.euclid.gcd_of_odd.Given as goal

abbrev pub invariant-loop-x : goal.invariant-loop-x
invariant-loop-x l = record {
  x_odd : l.x % 2 ≡ 1;
  y_odd : l.y % 2 ≡ 1;
  x_fits : l.x < 2 ^ 64;
  y_fits : l.y < 2 ^ 64;
  same : gcd l.x l.y ≡ gcd l.a l.b;
}

abbrev pub decreases-loop-x : goal.decreases-loop-x
decreases-loop-x l = l.x + l.y
