use Rattle.std.proofs.Common.{◌≡◌, ℕ, ◌<◌, ◌*◌, [], length, get_or}
use Rattle.exact_vectors.specs.Matrices.{transpose}
use Rattle.spaces.specs.Tables.{rows_in}
use Rattle.reformulate.proofs.matrices.transposed.Given as goal

abbrev pub invariant-loop-i : goal.invariant-loop-i
invariant-loop-i g l = record {
  height : l.turned.rows ≡ l.grid.width;
  width : l.turned.width ≡ l.grid.rows;
  size : length l.turned.items ≡ l.turned.rows * l.turned.width;
  done : (j : ℕ) → j < l.i → get_or (rows_in l.turned) j [] ≡ get_or (transpose l.grid.width (rows_in l.grid)) j [];
}
