use Rattle.std.proofs.Common.{List, ℕ, ◌++◌, sym, ap, ◌∙◌, append_assoc}
use Rattle.std.specs.Prelude.{flat_map}
use Rattle.proof_tree.specs.declared.tree.Split.{Split}
use Rattle.proof_tree.specs.declared.tree.Tree.{Tree}
use Rattle.proof_text.specs.Spelling.{in_lines, split_lines, tree_lines}
use Rattle.std.proofs.lemmas.Result.{err_from_is_err_and}
use Rattle.solve_cli.proofs.PutLaws.{put_as, put_then, put_stopped, next_child, lines-split}
use Rattle.solve_cli.proofs.proof.+put_tree.Goals as goal

abbrev child_bytes : Tree → List ℕ
child_bytes child = in_lines (tree_lines child)

pub returns-in_err-put_record-in-Split : goal.returns-in_err-put_record-in-Split
returns-in_err-put_record-in-Split g t c =
    let split = c.in-Split.split in
    let rest : List ℕ = flat_map child_bytes split.value.children.trees.items in
    let whole = ap child_bytes c.in-Split.is ∙ lines-split split ∙ ap (λ (s : Split). in_lines (split_lines s.cut) ++ rest) (sym c.deref.ensures) in
    let p = err_from_is_err_and c.from_residual.result c.from_residual.ensures.1 in
    rw (p.1, p.2) (put_as _ _ _ _ _ _ whole (put_stopped _ _ rest _ _ _ c.in_err-put_record-in-Split.ensures))

pub loop-child-init : goal.loop-child-init
loop-child-init g t c =
    let split = c.in-Split.split in
    let items = c.deref-child-items.ensures.value ∙ ap (λ (s : Split). s.children.trees.items) c.deref-in-Split.ensures in
    let front : List ℕ = in_lines (split_lines c.deref.result.now.cut) in (
      front,
      ap (λ xs. front ++ flat_map child_bytes xs) items
          ∙ ap (λ (s : Split). in_lines (split_lines s.cut) ++ flat_map child_bytes split.value.children.trees.items) c.deref.ensures
          ∙ sym (lines-split split) ∙ ap child_bytes (sym c.in-Split.is),
      c.in_ok-put_record-in-Split.ensures,
    )

pub returns-in_err-put_tree-in-Split : goal.returns-in_err-put_tree-in-Split
returns-in_err-put_tree-in-Split g t c =
    let inv = c.loop-child.invariant in
    let more = next_child child_bytes c.deref-child-items.result.now c.loop-child.child-index c.child-item.result inv.0 _ c.child-item.is c.loop-child-test.true inv.1 in
    let p = err_from_is_err_and c.from_residual-in_err-put_tree-in-Split.result c.from_residual-in_err-put_tree-in-Split.ensures.1 in
    rw (p.1, p.2) (put_as _ _ _ _ _ _ (sym more) (put_then _ _ _ _ _ _ _ inv.2 (put_stopped _ _ _ _ _ _ c.in_err-put_tree-in-Split.ensures)))

pub loop-child-preserved : goal.loop-child-preserved
loop-child-preserved g t c =
    let inv = c.loop-child.invariant in
    let more = next_child child_bytes c.deref-child-items.result.now c.loop-child.child-index c.child-item.result inv.0 _ c.child-item.is c.loop-child-test.true inv.1 in
    (inv.0 ++ child_bytes c.child-item.result, append_assoc inv.0 (child_bytes c.child-item.result) _ ∙ more, put_then _ _ _ _ _ _ _ inv.2 c.in_ok-put_tree-in-Split.ensures)
