use Rattle.std.proofs.Common.{◌≡◌, take, map}
use Rattle.std.specs.List.{AllZip}
use Rattle.farkas_rows.specs.declared.fracs.FracUse.{FracUse}
use Rattle.farkas_rows.specs.declared.line.Use.{Use}
use Rattle.farkas_rows.specs.LeastLine.{IsInRatio}
use Rattle.farkas_rows.proofs.fracs.whole_items.Given as goal

abbrev pub invariant-loop-item : goal.invariant-loop-item
invariant-loop-item l = record {
  numbers : map (λ (use_of : Use). use_of.index) l.uses ≡ map (λ (item : FracUse). item.index) (take l.item-index l.items);
  ratios : AllZip (λ (item : FracUse) (use_of : Use). IsInRatio l.common l.first item.times use_of.times) (take l.item-index l.items) l.uses;
}
