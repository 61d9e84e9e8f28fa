use Rattle.std.proofs.Common.{◌≡◌}
use Rattle.proof_text.specs.declared.items.Item.TheVariants as items_of
use Rattle.tree_checker.proofs.LineLaws.{item_same}
use Rattle.tree_checker.proofs.closing.read_use.Goals as goal

pub returns-in_err-item : goal.returns-in_err-item
returns-in_err-item c = rw c.from_residual.ensures (λ item. c.in_err-item.ensures (items_of.Inequality item))

pub returns-in-Cut : goal.returns-in-Cut
returns-in-Cut c = λ item s.
    let same : items_of.Cut c.in-Cut.field-0 ≡ items_of.Inequality item = item_same c.args.word.now _ _ (rw c.in-Cut.is at c.in_ok-item.ensures) s in
    cc
