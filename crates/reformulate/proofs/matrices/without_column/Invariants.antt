use Rattle.std.proofs.Common.{◌≡◌, ℕ, ◌<◌, ◌+◌, ◌*◌, [], length, map, get_or}
use Rattle.std.specs.List.{remove}
use Rattle.spaces.specs.Tables.{rows_in}
use Rattle.reformulate.proofs.matrices.without_column.Given as goal

abbrev pub invariant-loop-i : goal.invariant-loop-i
invariant-loop-i g l = record {
  height : l.rest.rows ≡ l.grid.rows;
  width : l.rest.width + 1 ≡ l.grid.width;
  size : length l.rest.items ≡ l.rest.rows * l.rest.width;
  done : (j : ℕ) → j < l.i → get_or (rows_in l.rest) j [] ≡ get_or (map (λ row. remove row l.place) (rows_in l.grid)) j [];
}
