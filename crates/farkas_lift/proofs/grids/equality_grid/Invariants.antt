use Rattle.std.proofs.Common.{◌≡◌, ℕ, ◌<◌, ◌*◌, [], length, get_or, map}
use Rattle.spaces.specs.Tables.{rows_in}
use Rattle.farkas_lift.proofs.grids.equality_grid.Given as goal

abbrev pub invariant-loop-i : goal.invariant-loop-i
invariant-loop-i l = record {
  height : l.grid.rows ≡ length l.equalities;
  width : l.grid.width ≡ l.columns;
  size : length l.grid.items ≡ l.grid.rows * l.grid.width;
  done : (j : ℕ) → j < l.i → get_or (rows_in l.grid) j [] ≡ get_or (map (λ equality. equality.form) l.equalities) j [];
}
