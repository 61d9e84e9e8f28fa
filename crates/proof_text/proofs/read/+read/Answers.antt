use Rattle.std.proofs.Common.{◌≡◌, ◌+◌, ◌^◌, ◌≤◌, ℤ, pos, ◌+ℤ◌, ◌-ℤ◌, ◌<ℤ◌, [], ◌∷◌, ◌++◌, length, All, sym, ap, subst, ◌∙◌, arith, to_z, of_z}
use Rattle.std.specs.Prelude.{flat_map}
use Rattle.std.specs.Int.{w128}
use Rattle.std.proofs.lemmas.Int.{ints}
use Rattle.std.proofs.lemmas.Bool.{iff_false}
use Rattle.std.proofs.lemmas.List.Elements.{All-push}
use Rattle.proof_text.specs.Spelling.{tree_lines}
use Rattle.proof_text.specs.Printable.{IsPrintableTree}
use Rattle.proof_text.specs.Reads.{some_path, SpellsCut, SpellsTree}
use Rattle.proof_text.proofs.TreeReads.{no_line, not_closed, not_split, not_parted, parted, next_tree, tree_more, tree_takes, fewer, left_same, left_some, counted_more}
use Rattle.proof_text.proofs.SplitReads.{count_same}
use Rattle.proof_text.proofs.read.+read.Goals as goal

pub read_tree-returns-in_default : goal.read_tree-returns-in_default
read_tree-returns-in_default t c = no_line c.args.rows.now c.requires.limits c.args.depth c.args.lines.now c.in_default.ensures.0

pub read_tree-returns-in-None : goal.read_tree-returns-in-None
read_tree-returns-in-None t c =
    let letter = c.is_closing.ensures.0 c.if-is_closing.true in
    not_closed c.args.rows.now c.requires.limits c.args.depth c.args.lines.now c.in-Some.text.now c.next.new.self c.in-Some.ensures letter.0 letter.1 (rw c.in-None.is at c.in_ok-line.ensures)

pub read_tree-returns-in_default-2 : goal.read_tree-returns-in_default-2
read_tree-returns-in_default-2 t c =
    not_split c.args.rows.now c.requires.limits c.args.depth c.args.lines.now c.in-Some.text.now c.next.new.self c.in-Some.ensures (iff_false c.is_closing.ensures c.if-is_closing.false) (rw c.in_default-2.is at c.in_ok-cut.ensures)

pub read_tree-returns-in_default-3 : goal.read_tree-returns-in_default-3
read_tree-returns-in_default-3 t c =
    let cut : SpellsCut c.args.rows.now c.args.depth (c.in-Some.text.now ∷ c.next.new.self) c.read_cut.new.lines c.in-Some-3.cut = rw c.in-Some-3.is at c.in_ok-cut.ensures in
    not_parted c.args.rows.now c.requires.limits c.args.depth c.args.lines.now c.in-Some.text.now c.next.new.self c.in-Some.ensures c.in-Some-3.cut c.read_cut.new.lines (omega (arith, c.requires.room)) (iff_false c.is_closing.ensures c.if-is_closing.false) cut
    (rw (count_same c.in-Some-3.cut.count cut.printable.count) at (rw c.in_default-3.is at c.in_ok-trees.ensures))

pub read_tree-returns : goal.read_tree-returns
read_tree-returns t c =
    let cut : SpellsCut c.args.rows.now c.args.depth (c.in-Some.text.now ∷ c.next.new.self) c.read_cut.new.lines c.in-Some-3.cut = rw c.in-Some-3.is at c.in_ok-cut.ensures in
    parted c.args.rows.now c.requires.limits c.args.depth c.args.lines.now c.in-Some.text.now c.next.new.self c.in-Some.ensures c.in_ok-split.split c.in-Some-3.cut c.in-Some-4.trees c.read_cut.new.lines c.read_trees.new.lines c.in_ok-split.ensures.ok cut
    (rw (count_same c.in-Some-3.cut.count cut.printable.count) at (rw c.in-Some-4.is at c.in_ok-trees.ensures))

pub read_trees-returns-in_default : goal.read_trees-returns-in_default
read_trees-returns-in_default t c = λ trees rest s.
    let inv = c.loop-left.invariant in
    let counted : pos (length c.loop-left.trees.items) +ℤ to_z w128 c.loop-left.left-bits ≡ c.args.count = inv.counted ∙ count_same c.args.count c.requires.count in
    let few : c.args.depth + length (flat_map tree_lines c.loop-left.trees.items ++ c.loop-left.lines) ≤ 2 ^ 64 = omega (arith, c.requires.room, ap length inv.spelled) in
    let some : pos 0 <ℤ to_z w128 c.loop-left.left-bits = omega (arith, ints, c.loop-left-test.true) in
    let less = fewer c.loop-left.trees.items trees (to_z w128 c.loop-left.left-bits) c.args.count counted some s.counted in
    let next = next_tree c.args.rows.now c.requires.limits c.args.depth c.loop-left.trees.items trees c.loop-left.lines rest few inv.printable s.printable less (sym inv.spelled ∙ s.spelled) in
    let none = rw c.in_default.is at c.in_ok-tree.ensures in
    none next.0 next.1 next.2

pub read_trees-loop-left-smaller : goal.read_trees-loop-left-smaller
read_trees-loop-left-smaller t c = tree_takes c.args.rows.now c.requires.limits c.args.depth c.loop-left.lines c.read_tree.new.lines c.in-Some.tree (rw c.in-Some.is at c.in_ok-tree.ensures)

pub read_trees-loop-left-preserved : goal.read_trees-loop-left-preserved
read_trees-loop-left-preserved t c =
    let inv = c.loop-left.invariant in
    let read : SpellsTree c.args.rows.now c.args.depth c.loop-left.lines c.read_tree.new.lines c.in-Some.tree = rw c.in-Some.is at c.in_ok-tree.ensures in
    let pushed : c.push.new.self.items ≡ c.loop-left.trees.items ++ c.in-Some.tree ∷ [] = c.in_ok-push.ensures.items in
    let left : ℤ = to_z w128 c.loop-left.left-bits in
    let counted : pos (length c.loop-left.trees.items) +ℤ left ≡ c.args.count = inv.counted ∙ count_same c.args.count c.requires.count in
    let some : pos 0 <ℤ left = omega (arith, ints, c.loop-left-test.true) in
    let same : to_z w128 (of_z w128 (left -ℤ pos 1)) ≡ left -ℤ pos 1 = left_same c.loop-left.trees.items left c.args.count counted some c.requires.count.1 in
    record {
      spelled = rw pushed (tree_more c.args.rows.now c.requires.limits c.args.depth c.args.lines.now c.loop-left.lines c.read_tree.new.lines c.loop-left.trees.items c.in-Some.tree inv.spelled read);
      counted = rw (same, count_same c.args.count c.requires.count, pushed) (counted_more c.loop-left.trees.items c.in-Some.tree left c.args.count counted);
      positive = rw same (left_some left some);
      printable = subst (All (IsPrintableTree c.args.rows.now (some_path c.args.depth))) (sym pushed) (All-push (IsPrintableTree c.args.rows.now (some_path c.args.depth)) c.loop-left.trees.items c.in-Some.tree inv.printable read.printable);
    }
