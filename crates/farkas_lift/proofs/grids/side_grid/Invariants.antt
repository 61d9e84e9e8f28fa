use Rattle.std.proofs.Common.{◌≡◌, ℕ, ◌<◌, ◌*◌, [], length, get_or}
use Rattle.spaces.specs.Tables.{rows_in}
use Rattle.farkas_lift.specs.NodeLifting.{side_forms}
use Rattle.farkas_lift.proofs.grids.side_grid.Given as goal

abbrev pub invariant-loop-i : goal.invariant-loop-i
invariant-loop-i l = record {
  height : l.grid.rows ≡ length l.sides;
  width : l.grid.width ≡ length l.rows.rows.box;
  size : length l.grid.items ≡ l.grid.rows * l.grid.width;
  done : (j : ℕ) → j < l.i → get_or (rows_in l.grid) j [] ≡ get_or (side_forms l.rows l.sides) j [];
}
