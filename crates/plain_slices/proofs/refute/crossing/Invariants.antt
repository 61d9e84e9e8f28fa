use Rattle.std.proofs.Common.{ℕ, ◌<◌, ◌≤ℤ◌}
use Rattle.plain_slices.specs.Nodes.{narrowed_at}
use Rattle.plain_slices.proofs.refute.crossing.Given as goal

abbrev pub invariant-loop-column : goal.invariant-loop-column
invariant-loop-column l = (k : ℕ) → k < l.column → (narrowed_at l.bounds k).low ≤ℤ (narrowed_at l.bounds k).high
