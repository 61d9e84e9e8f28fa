use Rattle.std.proofs.Common.{ℕ, ◌<◌, ◌≤◌, length, get_or}
use Rattle.plain_slices.specs.Items.{numbers_of}
use Rattle.plain_slices.proofs.items.place_of.Given as goal

abbrev pub invariant-loop-place : goal.invariant-loop-place
invariant-loop-place l = record {
  within : l.place ≤ length l.items;
  after : (k : ℕ) → l.place ≤ k → k < length l.items → l.number < get_or (numbers_of l.items) k 0;
}

abbrev pub decreases-loop-place : goal.decreases-loop-place
decreases-loop-place l = l.place
