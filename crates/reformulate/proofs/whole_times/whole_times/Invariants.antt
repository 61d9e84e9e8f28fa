use Rattle.std.proofs.Common.{◌≡◌, nat_abs, map, take, FitsSigned}
use Rattle.std.specs.Int.{w128}
use Rattle.std.specs.List.{All}
use Rattle.exact_math.specs.Rational.{ℚ}
use Rattle.reformulate.specs.GapTimes.{time_of}
use Rattle.reformulate.proofs.whole_times.whole_times.Given as goal

abbrev pub invariant-loop-multiplier : goal.invariant-loop-multiplier
invariant-loop-multiplier l = record {
  value : l.times.items ≡ map (time_of l.negative (nat_abs l.common)) (take l.multiplier-index l.multipliers);
  in_range : All (λ (q : ℚ). FitsSigned w128 (time_of l.negative (nat_abs l.common) q)) (take l.multiplier-index l.multipliers);
}
