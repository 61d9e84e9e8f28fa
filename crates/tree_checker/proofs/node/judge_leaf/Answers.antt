use Rattle.std.proofs.Common.{◌∷◌, [], List, ℤ, Option, None, length, subst}
use Rattle.farkas_rows.specs.declared.path.Slice.{Slice}
use Rattle.tree_checker.specs.Lines.{IsFaultOn}
use Rattle.tree_checker.specs.Stages.{path_of}
use Rattle.tree_checker.proofs.NodeLaws.{leaf_fault}
use Rattle.tree_checker.proofs.node.judge_leaf.Goals as goal

pub returns-in-Some-clause-judged : goal.returns-in-Some-clause-judged
returns-in-Some-clause-judged c = λ claimed form e.
    let fault = c.in-Some.ensures in
    leaf_fault c.args.rows.now claimed c.args.splits.now.splits c.args.text.now c.requires.leaf.0 c.requires.leaf.1 c.in-Some.kind
    (subst (λ (last : Option ℤ). IsFaultOn c.args.rows.now last (path_of c.args.splits.now.splits) None (69 ∷ []) c.args.text.now c.in-Some.kind) e
    (subst (λ (path : List Slice). IsFaultOn c.args.rows.now c.args.last path None (69 ∷ []) c.args.text.now c.in-Some.kind) c.path.ensures.path fault))

pub returns-clause-range : goal.returns-clause-range
returns-clause-range c = c.step_behind.ensures.range (length c.args.rows.now.box)
