-- The factors that rows have in the columns of COLUMNS in fixed and free MPS (IBM's MPSX and its successors), as the code keeps
-- them beside each row.
use Rattle.std.specs.Prelude.{◌≡◌, if◌then◌else◌, List, [], map}
use Rattle.mps_model.specs.declared.tables.factors.RowFactors.{RowFactors}
use Rattle.mps_model.specs.declared.tables.factors.FactorTable.{FactorTable}
use Rattle.mps_model.specs.Tables.{RowLine, ColumnLine}
use Rattle.mps_model.specs.StatedModel.{items_of}
use Rattle.mps_model.specs.ColumnTables.{columns_alone, last_beside, is_stated_row}

-- what lines of COLUMNS have beside a row: items are kept only of a row that the model states
abbrev pub factors_of : List RowLine → List ColumnLine → RowLine → RowFactors
factors_of rows lines row = record {
  last = last_beside lines row.name;
  is_stated = is_stated_row rows row;
  items = if is_stated_row rows row then items_of (columns_alone lines) row.name else [];
}

-- the table has the factors of these lines beside these rows
pub record KeepsFactors (rows : List RowLine) (lines : List ColumnLine) (table : FactorTable) : Type 0 where
  pub factors : table.rows.items ≡ map (factors_of rows lines) rows
