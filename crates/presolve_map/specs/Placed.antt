-- The matrix that places the kept columns among all.
use Rattle.std.specs.Prelude.{◌≡◌, ℤ, Bool, List, length}
use Rattle.spaces.specs.Tables.{Table, rows_in}
use Rattle.presolve_map.specs.Selections.{positions}
use Rattle.presolve_map.specs.Columns.{column_lines}

-- as many rows as flags, as wide as flags are set, and a line for each flag
pub record IsPlaced (flags : List Bool) (table : Table ℤ) : Type 0 where
  pub rows : table.rows ≡ length flags
  pub width : table.width ≡ length (positions 0 flags)
  pub lines : rows_in table ≡ column_lines (length (positions 0 flags)) 0 flags
