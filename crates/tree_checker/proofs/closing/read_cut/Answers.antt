use Rattle.std.proofs.Common.{◌≡◌}
use Rattle.proof_text.specs.declared.items.Item.TheVariants as items_of
use Rattle.tree_checker.proofs.LineLaws.{item_same}
use Rattle.tree_checker.proofs.closing.read_cut.Goals as goal

pub returns-in_err-cut : goal.returns-in_err-cut
returns-in_err-cut c = rw c.from_residual.ensures (λ cut. c.in_err-cut.ensures (items_of.Cut cut))

pub returns-in-Inequality : goal.returns-in-Inequality
returns-in-Inequality c = λ cut s.
    let same : items_of.Inequality c.in-Inequality.field-0 ≡ items_of.Cut cut = item_same c.args.word.now _ _ (rw c.in-Inequality.is at c.in_ok-cut.ensures) s in
    cc
