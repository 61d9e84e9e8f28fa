use Rattle.std.proofs.Common.{◌≡◌, ◌↔◌, pos, ◌+ℤ◌, drop}
use Rattle.proof_tree.specs.Trees.{HoldsList}
use Rattle.proof_tree.proofs.judge.+held.Given as goal

abbrev pub invariant-children_hold-loop-tree : goal.invariant-children_hold-loop-tree
invariant-children_hold-loop-tree l =
    record {
      path : l.path ≡ l.initial.path;
      form : l.form ≡ l.cut.form;
      beta : l.beta ≡ l.cut.lo +ℤ pos l.tree-index;
      rest : HoldsList l.rows l.last l.initial.path l.cut.form l.beta (l.cut.lo +ℤ l.cut.count) (drop l.tree-index l.trees) ↔ HoldsList l.rows l.last l.initial.path l.cut.form l.cut.lo (l.cut.lo +ℤ l.cut.count) l.trees;
    }
