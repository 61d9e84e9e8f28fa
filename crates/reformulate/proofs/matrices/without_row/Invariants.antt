use Rattle.std.proofs.Common.{◌≡◌, ℕ, ◌<◌, ◌+◌, ◌*◌, [], length, get_or}
use Rattle.std.specs.List.{remove}
use Rattle.spaces.specs.Tables.{rows_in}
use Rattle.reformulate.proofs.matrices.without_row.Given as goal

abbrev pub invariant-loop-i : goal.invariant-loop-i
invariant-loop-i g l = record {
  height : l.rest.rows + 1 ≡ l.grid.rows;
  width : l.rest.width ≡ l.grid.width;
  size : length l.rest.items ≡ l.rest.rows * l.rest.width;
  done : (j : ℕ) → j < l.i → get_or (rows_in l.rest) j [] ≡ get_or (remove (rows_in l.grid) l.place) j [];
}
