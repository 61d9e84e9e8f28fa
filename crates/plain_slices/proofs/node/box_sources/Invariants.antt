use Rattle.std.proofs.Common.{◌≡◌, length, map}
use Rattle.std.specs.List.{range_with_len}
use Rattle.plain_slices.specs.Nodes.{box_source}
use Rattle.plain_slices.proofs.node.box_sources.Given as goal

abbrev pub invariant-loop-column : goal.invariant-loop-column
invariant-loop-column l = l.sources.items ≡ map (box_source (length l.rows.rows)) (range_with_len 0 l.column)
