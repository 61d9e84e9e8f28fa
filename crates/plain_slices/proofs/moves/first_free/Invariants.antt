use Rattle.std.proofs.Common.{ℕ, ◌<◌, IsTrue}
use Rattle.plain_slices.specs.Nodes.{source_at}
use Rattle.plain_slices.proofs.moves.first_free.Given as goal

abbrev pub invariant-loop-column : goal.invariant-loop-column
invariant-loop-column l = (k : ℕ) → k < l.column → IsTrue (source_at l.sources k).is_fixed
