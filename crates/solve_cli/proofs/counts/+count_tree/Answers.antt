use Rattle.std.proofs.Common.{◌+◌, ◌^◌, ◌<◌, sym, ap, ◌∙◌, arith}
use Rattle.std.specs.Prelude.{sum_by}
use Rattle.std.proofs.lemmas.List.Sums.{sum_by-drop_more}
use Rattle.proof_tree.specs.declared.tree.Split.{Split}
use Rattle.proof_tree.specs.Counts.{plain_of, records, plain_splits}
use Rattle.solve_cli.proofs.CountLaws.{records-split, plain-split, plain_le}
use Rattle.solve_cli.proofs.counts.+count_tree.Goals as goal

pub loop-child-init : goal.loop-child-init
loop-child-init t c =
    let items = c.deref-child-items.ensures.value ∙ ap (λ (split : Split). split.children.trees.items) c.deref-in-Split.ensures in record {
      nodes = ap (λ xs. 1 + sum_by records xs) items ∙ sym (records-split c.in-Split.split) ∙ ap records (sym c.in-Split.is);
      plain = ap (λ xs. c.plain_of.result + sum_by plain_splits xs) items
          ∙ ap (λ n. n + sum_by plain_splits c.in-Split.split.value.children.trees.items) (c.plain_of.ensures ∙ ap (λ (split : Split). plain_of split.cut.mark) c.deref.ensures)
          ∙ sym (plain-split c.in-Split.split) ∙ ap plain_splits (sym c.in-Split.is);
    }

pub overflow_add-counts-in-loop-child : goal.overflow_add-counts-in-loop-child
overflow_add-counts-in-loop-child t c =
    let few : plain_splits c.args.tree.now < 2 ^ 64 = omega (arith, plain_le c.args.tree.now, c.requires) in
    let more = sum_by-drop_more plain_splits c.deref-child-items.result.now c.loop-child.child-index c.child-item.result c.loop-child-test.true in
    let same = ap plain_splits c.child-item.is in
    record { fits = omega (arith, few, more, same, c.loop-child.invariant.plain, c.count_tree-below.ensures.plain) }
