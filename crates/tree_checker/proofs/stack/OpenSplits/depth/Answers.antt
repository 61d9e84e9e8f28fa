use Rattle.std.proofs.Common.{length, sym, ap, ◌∙◌, arith}
use Rattle.tree_checker.specs.Stacks.{Stack}
use Rattle.tree_checker.proofs.StackLaws.{length-splits_of}
use Rattle.tree_checker.proofs.stack.OpenSplits.depth.Goals as goal

pub returns-clause-count : goal.returns-clause-count
returns-clause-count c =
    sym (length-splits_of c.self.inside.slices.items c.self.inside.ends.items c.self.inside.depth) ∙ ap (λ (s : Stack). length s.splits) c.self.view_is

pub returns-clause-room : goal.returns-clause-room
returns-clause-room c =
    omega (arith, length-splits_of c.self.inside.slices.items c.self.inside.ends.items c.self.inside.depth, ap (λ (s : Stack). length s.splits) c.self.view_is, ap (λ (s : Stack). s.columns) c.self.view_is, c.self.invariant.short)
