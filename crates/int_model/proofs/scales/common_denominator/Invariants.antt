use Rattle.std.proofs.Common.{◌≡◌, ◌<◌, ◌^◌, pos, take}
use Rattle.int_model.specs.Scale.{common_denominator}
use Rattle.int_model.specs.ItemFactors.{factors_in}
use Rattle.int_model.proofs.scales.common_denominator.Given as goal

abbrev pub invariant-loop-item : goal.invariant-loop-item
invariant-loop-item l = record { value : l.common ≡ pos (common_denominator (factors_in (take l.item-index l.items))); narrow : common_denominator (factors_in (take l.item-index l.items)) < 2 ^ 127 }
