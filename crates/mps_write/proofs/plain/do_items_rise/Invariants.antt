use Rattle.std.proofs.Common.{◌↔◌, drop}
use Rattle.mps_write.proofs.ItemLaws.{Rise}
use Rattle.mps_write.proofs.plain.do_items_rise.Given as goal

-- the items rise as far as those that are left rise from the least column on
abbrev pub invariant-loop-item : goal.invariant-loop-item
invariant-loop-item l = Rise 0 l.columns l.items ↔ Rise l.least l.columns (drop l.item-index l.items)
