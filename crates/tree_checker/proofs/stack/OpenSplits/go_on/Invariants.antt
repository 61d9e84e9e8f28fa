use Rattle.std.proofs.Common.{◌≡◌}
use Rattle.proof_text.specs.declared.claim.Claim.{Claim}
use Rattle.tree_checker.specs.Stages.{behind}
use Rattle.tree_checker.specs.Stacks.{splits_of, IsStack}
use Rattle.tree_checker.proofs.stack.OpenSplits.go_on.Given as goal

-- what is behind the node is what is behind the splits that are left
abbrev pub invariant-loop-self : goal.invariant-loop-self
invariant-loop-self l = record {
  columns : l.self-inside.columns ≡ l.fn.self.columns;
  stack : IsStack l.self-inside.columns l.self-inside.slices.items l.self-inside.ends.items l.self-inside.depth;
  same : (claimed : Claim) → behind claimed l.fn.self.splits ≡ behind claimed (splits_of l.self-inside.slices.items l.self-inside.ends.items l.self-inside.depth);
}

abbrev pub decreases-loop-self : goal.decreases-loop-self
decreases-loop-self l = l.self-inside.depth
