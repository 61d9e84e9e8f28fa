use Rattle.std.proofs.Common.{take, sym, ap, ◌∙◌, arith}
use Rattle.tree_checker.specs.Stages.{path_of}
use Rattle.tree_checker.specs.Stacks.{Stack}
use Rattle.tree_checker.proofs.StackLaws.{path-splits_of}
use Rattle.tree_checker.proofs.stack.OpenSplits.path.Goals as goal

pub returns-clause-path : goal.returns-clause-path
returns-clause-path c =
    let s = c.self.inside in
    ap (take s.depth) c.deref.ensures.value
    ∙ sym (path-splits_of s.slices.items s.ends.items s.depth (omega (arith, c.self.invariant.room, c.self.invariant.short)))
    ∙ ap (λ (stack : Stack). path_of stack.splits) c.self.view_is
