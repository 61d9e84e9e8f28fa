use Rattle.std.proofs.Common.{pos, nat_abs, take, ◌<ℤ◌}
use Rattle.reformulate.proofs.Denominators.{IsCommon}
use Rattle.reformulate.proofs.whole_times.common_denominator.Given as goal

abbrev pub invariant-loop-multiplier : goal.invariant-loop-multiplier
invariant-loop-multiplier l = record {
  positive : pos 0 <ℤ l.common;
  common : IsCommon (take l.multiplier-index l.multipliers) (nat_abs l.common);
}
