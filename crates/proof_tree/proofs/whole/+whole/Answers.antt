use Rattle.std.proofs.Common.{sym, ap, ◌∙◌, rules}
use Rattle.proof_tree.specs.declared.tree.PartSplit.{PartSplit}
use Rattle.proof_tree.specs.declared.tree.PartTree.TheViews.{the_lemmas}
use Rattle.proof_tree.specs.Counts.{open_runs}
use Rattle.proof_tree.specs.Whole.{IsWholeOf}
use Rattle.proof_tree.proofs.Wholes.{closed-each, open_runs-split, IsWholeOf-split, AllZip-push}
use Rattle.proof_tree.proofs.whole.+whole.Goals as goal

pub whole_tree-whole_forest-requires : goal.whole_tree-whole_forest-requires
whole_tree-whole_forest-requires t c = (
  search (rules, the_lemmas),
  closed-each _ (rw c.into_inner-cut.ensures (sym (open_runs-split c.in-Split.split) ∙ ap open_runs (sym c.in-Split.is) ∙ c.requires)),
)

pub whole_tree-returns-in_ok-new-in-Split : goal.whole_tree-returns-in_ok-new-in-Split
whole_tree-returns-in_ok-new-in-Split t c =
    rw c.in-Split.is
    (IsWholeOf-split c.in-Split.split c.in_ok-new-in-Split.field-0
    (rw c.in_ok-new-in-Split.ensures.ok (ap (λ (split : PartSplit). split.cut) (sym c.into_inner-cut.ensures)))
    (rw (c.in_ok-new-in-Split.ensures.ok, ← c.into_inner-cut.ensures) c.in_ok-children-in-Split.ensures))

pub whole_forest-loop-part-preserved : goal.whole_forest-loop-part-preserved
whole_forest-loop-part-preserved t c = rw c.in_ok-push.ensures.items (AllZip-push IsWholeOf _ _ c.in-Some.part c.in_ok-whole_tree.field-0 c.loop-part.invariant c.in_ok-whole_tree.ensures)
