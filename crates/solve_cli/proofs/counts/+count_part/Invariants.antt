use Rattle.std.proofs.Common.{◌≡◌, ◌+◌, drop}
use Rattle.std.specs.Prelude.{sum_by}
use Rattle.proof_tree.specs.Counts.{records_of_part, plain_splits_of_part}
use Rattle.solve_cli.proofs.counts.+count_part.Given as goal

abbrev pub invariant-loop-child : goal.invariant-loop-child
invariant-loop-child l = record {
  nodes : l.counts.nodes + sum_by records_of_part (drop l.child-index l.child-items) ≡ records_of_part l.part;
  plain : l.counts.plain + sum_by plain_splits_of_part (drop l.child-index l.child-items) ≡ plain_splits_of_part l.part;
}
