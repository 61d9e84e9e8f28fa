use Rattle.std.proofs.Common.{◌≡◌, ℕ, ◌<◌, ◌*◌, [], length, get_or}
use Rattle.spaces.specs.Tables.{rows_in}
use Rattle.reformulate.proofs.matrices.copied.Given as goal

abbrev pub invariant-loop-i : goal.invariant-loop-i
invariant-loop-i g l = record {
  height : l.copy.rows ≡ l.grid.rows;
  width : l.copy.width ≡ l.grid.width;
  size : length l.copy.items ≡ l.copy.rows * l.copy.width;
  done : (j : ℕ) → j < l.i → get_or (rows_in l.copy) j [] ≡ get_or (rows_in l.grid) j [];
}
