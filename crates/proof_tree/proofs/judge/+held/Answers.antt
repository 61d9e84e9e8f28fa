use Rattle.std.proofs.Common.{◌≡◌, ◌^◌, ◌<◌, ◌≤◌, length, ◌+ℤ◌, refl, sym, ap, ◌∙◌, arith, to_z, of_z}
use Rattle.std.specs.Int.{w128}
use Rattle.std.proofs.lemmas.Int.{to_z-of_z, of_z-to_z}
use Rattle.std.proofs.lemmas.Bool.{eq-eqb}
use borrow.Author.Tests.{eqb-true}
use Rattle.std.proofs.lemmas.Result.{IfOk-weaker}
use Rattle.exact_math.specs.IntegerRing.{linear}
use Rattle.proof_tree.specs.Trees.{on_slice, IsShort, IsSplit, Holds}
use Rattle.proof_tree.proofs.Values.{next_value, lo_fits, count_fits, sum_fits}
use Rattle.proof_tree.proofs.Held.{Holds-short, Holds-children, Holds-split, HoldsList-next, HoldsList-and, drop_all}
use Rattle.proof_tree.proofs.judge.+held.Goals as goal

pub tree_holds-returns-then-items-columns-clause-holds : goal.tree_holds-returns-then-items-columns-clause-holds
tree_holds-returns-then-items-columns-clause-holds t c =
    ((λ e. absurd (cc)), (λ h. absurd (omega (arith, Holds-short c.args.rows.now c.args.last c.args.path.now c.args.tree.now h, c.if-items-columns.true, ap length c.items.ensures, c.columns.ensures.count))))

pub tree_holds-returns-else-not-is_split-clause-holds : goal.tree_holds-returns-else-not-is_split-clause-holds
tree_holds-returns-else-not-is_split-clause-holds t c =
    let short : IsShort c.args.rows.now c.args.path.now = omega (arith, c.if-items-columns.false, ap length c.items.ensures, c.columns.ensures.count) in
    let split : IsSplit c.args.rows.now c.args.last c.args.path.now c.in-Split.split.value.cut = rw c.deref.ensures at (c.if-not-is_split.ensures.0 refl) in
    IfOk-weaker c.children_hold.result _ _
    (λ yes w. (
      (λ e. rw c.in-Split.is (Holds-split c.args.rows.now c.args.last c.args.path.now c.in-Split.split short split (w.0 e))),
      (λ h. w.1 (Holds-children c.args.rows.now c.args.last c.args.path.now c.in-Split.split (rw c.in-Split.is at h))),
    ))
    (rw (c.deref-in-Split-3.ensures.value, c.deref-in-Split-2.ensures, c.deref-in-Split.ensures) at c.children_hold.ensures.hold)

pub children_hold-loop-tree-preserved : goal.children_hold-loop-tree-preserved
children_hold-loop-tree-preserved t c =
    let inv = c.loop-tree.invariant in
    let next = next_value c.args.cut.now.lo (to_z w128 c.loop-tree.beta-bits) c.loop-tree.tree-index c.requires.split.lo inv.beta (omega arith) in
    let way : c.tree_holds.new.path ≡ on_slice c.loop-tree.path c.loop-tree.form (to_z w128 c.loop-tree.beta-bits) = c.in_ok-held.ensures.path ∙ c.in_ok-go_down.ensures.path in
    let held : Holds c.args.rows.now c.args.last (on_slice c.args.path.now c.args.cut.now.form (to_z w128 c.loop-tree.beta-bits)) c.tree-item.result = rw (c.in_ok-go_down.ensures.path, inv.path, inv.form) at (c.in_ok-held.ensures.holds.0 c.if-not-held.false) in
    record {
      path = c.go_up.ensures.path _ _ _ way ∙ inv.path;
      form = c.go_up.ensures.form _ _ _ way ∙ inv.form;
      beta = omega (linear, next, inv.beta);
      rest =
          rw next (
            (λ h. inv.rest.0 (HoldsList-and c.args.rows.now c.args.last c.args.path.now c.args.cut.now.form (to_z w128 c.loop-tree.beta-bits) _ c.args.trees.now c.loop-tree.tree-index c.tree-item.result c.loop-tree-test.true (rw (← c.tree-item.is) held) h)),
            (λ h. (HoldsList-next c.args.rows.now c.args.last c.args.path.now c.args.cut.now.form (to_z w128 c.loop-tree.beta-bits) _ c.args.trees.now c.loop-tree.tree-index c.tree-item.result c.loop-tree-test.true (inv.rest.1 h)).1),
          );
    }

pub children_hold-returns-clause-hold : goal.children_hold-returns-clause-hold
children_hold-returns-clause-hold t c =
    let inv = c.loop-tree.invariant in
    let split = c.requires.split in
    let lo_is : to_z w128 (of_z w128 c.args.cut.now.lo) ≡ c.args.cut.now.lo = to_z-of_z w128 c.args.cut.now.lo (lo_fits c.args.cut.now.lo split.lo) in
    let count_is : to_z w128 (of_z w128 c.args.cut.now.count) ≡ c.args.cut.now.count = to_z-of_z w128 c.args.cut.now.count (count_fits c.args.cut.now.count split.count.0 split.count.1) in
    let sum_is : to_z w128 (of_z w128 (c.args.cut.now.lo +ℤ c.args.cut.now.count)) ≡ c.args.cut.now.lo +ℤ c.args.cut.now.count = to_z-of_z w128 (c.args.cut.now.lo +ℤ c.args.cut.now.count) (sum_fits c.args.cut.now.lo c.args.cut.now.count split.lo split.count.0 split.count.1) in
    let over : length c.args.trees.now ≤ c.loop-tree.tree-index = omega (arith, c.loop-tree-test.false) in
    let small : c.loop-tree.beta-bits < 2 ^ 128 = omega arith in
    rw (lo_is, count_is) (
      (λ e. inv.rest.0 (rw (drop_all c.args.trees.now c.loop-tree.tree-index over) (ap (to_z w128) (eqb-true _ _ e) ∙ sum_is))),
      (λ h.
          let at_end : to_z w128 c.loop-tree.beta-bits ≡ c.args.cut.now.lo +ℤ c.args.cut.now.count = rw (drop_all c.args.trees.now c.loop-tree.tree-index over) at (inv.rest.1 h) in
          eq-eqb _ _ (sym (of_z-to_z w128 c.loop-tree.beta-bits small) ∙ ap (of_z w128) at_end)),
    )
