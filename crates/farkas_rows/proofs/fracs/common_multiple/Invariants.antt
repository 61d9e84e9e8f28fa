use Rattle.std.proofs.Common.{take}
use Rattle.std.specs.Prelude.{All}
use Rattle.exact_math.specs.Rational.{◌/ℚ◌}
use Rattle.frac128.specs.Range.{InRange}
use Rattle.farkas_rows.specs.declared.fracs.FracUse.{FracUse}
use Rattle.farkas_rows.specs.LeastLine.{IsCommon}
use Rattle.farkas_rows.proofs.fracs.common_multiple.Given as goal

abbrev pub invariant-loop-item : goal.invariant-loop-item
invariant-loop-item l = record {
  in_range : All (λ (item : FracUse). InRange (item.times /ℚ l.first)) (take l.item-index l.items);
  common : IsCommon (λ (item : FracUse). (item.times /ℚ l.first).den) (take l.item-index l.items) l.common;
}
