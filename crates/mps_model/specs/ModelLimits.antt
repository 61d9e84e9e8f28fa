-- The limits that each model keeps which a text without fault states.
use Rattle.std.specs.Prelude.{◌≤◌, length, All}
use Rattle.int_model.specs.declared.model.Row.{Row}
use Rattle.int_model.specs.declared.model.Model.{Model}
use Rattle.int_model.specs.IntegerRows.{IsDistinctBelow}

-- at most 256 columns and 256 rows; in each row and in the objective an item names one of the columns, and columns rise
pub record KeepsLimits (model : Model) : Type 0 where
  pub few_columns : length model.columns ≤ 256
  pub few_rows : length model.rows ≤ 256
  pub rows : All (λ (row : Row). IsDistinctBelow (length model.columns) row.items) model.rows
  pub objective : IsDistinctBelow (length model.columns) model.objective
