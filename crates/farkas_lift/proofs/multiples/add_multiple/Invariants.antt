use Rattle.std.proofs.Common.{◌≡◌, ℕ, ◌<◌, ◌≤◌, get_or, pos}
use Rattle.exact_math.specs.Rational.{whole, ◌+ℚ◌, ◌*ℚ◌}
use Rattle.row_lifting.specs.Lifting.{none}
use Rattle.farkas_lift.specs.NodeLifting.{EntryStays}
use Rattle.farkas_lift.proofs.multiples.add_multiple.Given as goal

abbrev pub invariant-loop-j : goal.invariant-loop-j
invariant-loop-j l = record {
  left : (k : ℕ) → l.j ≤ k → get_or l.row k none ≡ get_or l.fn.row k none;
  done : (k : ℕ) → k < l.j → get_or l.row k none ≡ get_or l.fn.row k none +ℚ l.times *ℚ whole (get_or l.form k (pos 0));
  stays : (k : ℕ) → k < l.j → EntryStays (get_or l.fn.row k none) l.times (get_or l.form k (pos 0));
}
