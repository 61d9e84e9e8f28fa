use Rattle.std.proofs.Common.{◌+◌, ◌^◌, ◌<◌, sym, ap, ◌∙◌, arith}
use Rattle.std.specs.Prelude.{sum_by}
use Rattle.std.proofs.lemmas.List.Sums.{sum_by-drop_more}
use Rattle.proof_tree.specs.declared.tree.PartSplit.{PartSplit}
use Rattle.proof_tree.specs.Counts.{plain_of, records_of_part, plain_splits_of_part}
use Rattle.solve_cli.proofs.CountLaws.{records-part_split, plain-part_split, plain_le_part}
use Rattle.solve_cli.proofs.counts.+count_part.Goals as goal

pub loop-child-init : goal.loop-child-init
loop-child-init t c =
    let items = c.deref-child-items.ensures.value ∙ ap (λ (split : PartSplit). split.children.items) c.deref-in-Split.ensures in record {
      nodes = ap (λ xs. 1 + sum_by records_of_part xs) items ∙ sym (records-part_split c.in-Split.split) ∙ ap records_of_part (sym c.in-Split.is);
      plain = ap (λ xs. c.plain_of.result + sum_by plain_splits_of_part xs) items
          ∙ ap (λ n. n + sum_by plain_splits_of_part c.in-Split.split.value.children.items) (c.plain_of.ensures ∙ ap (λ (split : PartSplit). plain_of split.cut.mark) c.deref.ensures)
          ∙ sym (plain-part_split c.in-Split.split) ∙ ap plain_splits_of_part (sym c.in-Split.is);
    }

pub overflow_add-counts-in-loop-child : goal.overflow_add-counts-in-loop-child
overflow_add-counts-in-loop-child t c =
    let few : plain_splits_of_part c.args.part.now < 2 ^ 64 = omega (arith, plain_le_part c.args.part.now, c.requires) in
    let more = sum_by-drop_more plain_splits_of_part c.deref-child-items.result.now c.loop-child.child-index c.child-item.result c.loop-child-test.true in
    let same = ap plain_splits_of_part c.child-item.is in
    record { fits = omega (arith, few, more, same, c.loop-child.invariant.plain, c.count_part-below.ensures.plain) }
