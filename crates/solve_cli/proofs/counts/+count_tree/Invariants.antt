use Rattle.std.proofs.Common.{◌≡◌, ◌+◌, drop}
use Rattle.std.specs.Prelude.{sum_by}
use Rattle.proof_tree.specs.Counts.{records, plain_splits}
use Rattle.solve_cli.proofs.counts.+count_tree.Given as goal

abbrev pub invariant-loop-child : goal.invariant-loop-child
invariant-loop-child l = record {
  nodes : l.counts.nodes + sum_by records (drop l.child-index l.child-items) ≡ records l.tree;
  plain : l.counts.plain + sum_by plain_splits (drop l.child-index l.child-items) ≡ plain_splits l.tree;
}
