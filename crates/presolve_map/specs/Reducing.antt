-- Rows on the way to those that presolving leaves.
use Rattle.std.specs.Prelude.{◌≡◌, ℕ, ◌≤◌, ◌++◌, length, map, drop}
use Rattle.whole_rows.specs.WholeRows.{WholeRows}
use Rattle.presolve_map.specs.Selections.{select, positions}
use Rattle.presolve_map.specs.Columns.{kept, kept_columns, removed_part}
use Rattle.presolve_map.specs.ReducedRows.{ReducedRows, needed_flags, reduced_row}

-- the first `count` rows are done
pub record IsReducedTo (model : WholeRows) (count : ℕ) (work : ReducedRows) : Type 0 where
  pub box : work.rows.box ≡ kept model.box model.box
  pub few : length work.rows.rows ≤ count
  pub rows : work.rows.rows ++ map (reduced_row model.box) (select (needed_flags model.box (drop count model.rows)) (drop count model.rows)) ≡ map (reduced_row model.box) (select (needed_flags model.box model.rows) model.rows)
  pub cost : work.rows.cost ≡ kept model.box model.cost
  pub row_numbers : work.row_numbers ++ positions count (needed_flags model.box (drop count model.rows)) ≡ positions 0 (needed_flags model.box model.rows)
  pub column_numbers : work.column_numbers ≡ kept_columns model.box
  pub cost_constant : work.cost_constant ≡ removed_part model.box model.cost
