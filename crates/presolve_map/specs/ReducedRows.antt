-- What presolving leaves of whole rows over a box: the columns whose bounds differ, and the rows that the box can violate.
use Rattle.std.specs.Prelude.{◌≡◌, ℕ, Bool, false, ◌||◌, ℤ, ◌-ℤ◌, int_lt, List, map, Option, Some, None, option_map}
use Rattle.whole_rows.specs.declared.bounds.Bounds.{Bounds}
use Rattle.whole_rows.specs.declared.ends.End.TheVariants.{Least, Greatest}
use Rattle.whole_rows.specs.WholeRows.{WholeRow, WholeRows}
use Rattle.whole_rows.specs.Ends.{sum_at}
use Rattle.presolve_map.specs.Selections.{select, positions}
use Rattle.presolve_map.specs.Columns.{kept, kept_columns, removed_part}

-- Rows over some of the columns of a model: the number of each row and of each column in the model, and the part of the cost
-- in the columns that are not there.
pub record ReducedRows : Type 0 where
  pub rows : WholeRows
  pub row_numbers : List ℕ
  pub column_numbers : List ℕ
  pub cost_constant : ℤ

-- a value is below the lower side
abbrev pub falls_below : Option ℤ → ℤ → Bool
falls_below None value = false
falls_below (Some side) value = int_lt value side

-- a value is above the upper side
abbrev pub rises_above : Option ℤ → ℤ → Bool
rises_above None value = false
rises_above (Some side) value = int_lt side value

-- the least sum of the row over the box is below its lower side, or the greatest above its upper side
abbrev pub can_violate : List Bounds → WholeRow → Bool
can_violate box row = falls_below row.low (sum_at Least row.factors box) || rises_above row.high (sum_at Greatest row.factors box)

-- for each row, whether the box can violate it
abbrev pub needed_flags : List Bounds → List WholeRow → List Bool
needed_flags box rows = map (can_violate box) rows

-- a side without what the removed columns contribute
abbrev pub moved_side : ℤ → Option ℤ → Option ℤ
moved_side part side = option_map (λ (s : ℤ). s -ℤ part) side

-- the row over the columns that are kept
abbrev pub reduced_row : List Bounds → WholeRow → WholeRow
reduced_row box row = record {
  factors = kept box row.factors;
  low = moved_side (removed_part box row.factors) row.low;
  high = moved_side (removed_part box row.factors) row.high;
}

-- The rows `work` are those that the box of the model can violate, in order, over its columns whose bounds differ, in order.
pub record IsReduced (model : WholeRows) (work : ReducedRows) : Type 0 where
  pub box : work.rows.box ≡ kept model.box model.box
  pub rows : work.rows.rows ≡ map (reduced_row model.box) (select (needed_flags model.box model.rows) model.rows)
  pub cost : work.rows.cost ≡ kept model.box model.cost
  pub row_numbers : work.row_numbers ≡ positions 0 (needed_flags model.box model.rows)
  pub column_numbers : work.column_numbers ≡ kept_columns model.box
  pub cost_constant : work.cost_constant ≡ removed_part model.box model.cost
