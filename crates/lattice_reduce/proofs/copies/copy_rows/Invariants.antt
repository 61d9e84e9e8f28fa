use Rattle.std.proofs.Common.{◌≡◌, ℕ, ◌<◌, ◌*◌, [], length, get_or}
use Rattle.spaces.specs.Tables.{rows_in}
use Rattle.lattice_reduce.proofs.copies.copy_rows.Given as goal

abbrev pub invariant-loop-i : goal.invariant-loop-i
invariant-loop-i g l = record {
  height : l.into.rows ≡ l.initial.into.rows;
  width : l.into.width ≡ l.initial.into.width;
  size : length l.into.items ≡ l.into.rows * l.into.width;
  done : (j : ℕ) → j < l.i → get_or (rows_in l.into) j [] ≡ get_or (rows_in l.from) j [];
}
