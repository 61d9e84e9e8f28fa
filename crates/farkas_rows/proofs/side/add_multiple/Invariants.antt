use Rattle.std.proofs.Common.{◌≡◌, ℕ, ◌<◌, ◌≤◌, pos, ◌+ℤ◌, ◌*ℤ◌, get_or}
use Rattle.farkas_rows.proofs.side.add_multiple.Given as goal

abbrev pub invariant-loop-j : goal.invariant-loop-j
invariant-loop-j l = record {
  added : (k : ℕ) → k < l.j → get_or l.sums k (pos 0) ≡ get_or l.fn.sums k (pos 0) +ℤ l.times *ℤ get_or l.form k (pos 0);
  left : (k : ℕ) → l.j ≤ k → get_or l.sums k (pos 0) ≡ get_or l.fn.sums k (pos 0);
}
