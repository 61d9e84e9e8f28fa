use Rattle.std.proofs.Common.{◌≡◌, take}
use Rattle.plain_slices.specs.Nodes.{IsNarrowed}
use Rattle.plain_slices.proofs.node.Node.of.Given as goal

abbrev pub invariant-loop-e : goal.invariant-loop-e
invariant-loop-e l = record {
  rows : l.node.rows.now ≡ l.rows;
  path : l.node.path.now ≡ l.path;
  narrowed : IsNarrowed l.rows l.path (take l.e l.path) l.node.bounds.items l.node.sources.items;
}
