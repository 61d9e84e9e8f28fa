use Rattle.std.proofs.Common.{rules, ◌≡◌, pos, length}
use Rattle.std.specs.Prelude.{replicate}
use Rattle.whole_rows.proofs.FlatLemmas.{IsFlat-none}
use Rattle.whole_rows.proofs.dense_rows.DenseRows.new.Goals as goal

pub invariant_of-result : goal.invariant_of-result
invariant_of-result c =
    let light = rw c.deref.ensures.value at c.in_default.ensures.none in
    let zeros : c.in_ok-cost.cost.items ≡ replicate (length c.args.bounds.items) (pos 0) = search rules in
    rw (c.new.ensures.items, c.new-2.ensures.items, zeros) (IsFlat-none c.args.bounds.items c.requires light)
