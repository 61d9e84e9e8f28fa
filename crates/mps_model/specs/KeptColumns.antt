-- The columns of COLUMNS in fixed and free MPS (IBM's MPSX and its successors), as the code keeps them.
use Rattle.std.specs.Prelude.{◌≡◌, ℕ, if◌then◌else◌, List, map, None}
use Rattle.mps_model.specs.declared.tables.columns.ColumnStart.{ColumnStart}
use Rattle.mps_model.specs.declared.tables.columns.ColumnTable.{ColumnTable}
use Rattle.mps_model.specs.Tables.{RowLine, ColumnLine}
use Rattle.mps_model.specs.Bounds.{last_of, column_names, is_open, is_between_markers}
use Rattle.mps_model.specs.Meaning.{first_line_of}
use Rattle.mps_model.specs.ColumnTables.{columns_alone, column_before}
use Rattle.mps_model.specs.FactorTables.{KeepsFactors}

-- where a column begins
abbrev pub start_of : List ColumnLine → List ℕ → ColumnStart
start_of lines column = record { line = first_line_of (columns_alone lines) column; is_between = is_between_markers lines column }

-- the table has the columns of these lines, and the factors of these rows in them
pub record KeepsColumns (rows : List RowLine) (lines : List ColumnLine) (table : ColumnTable) : Type 0 where
  pub names : table.names ≡ column_names lines
  pub starts : table.starts.items ≡ map (start_of lines) (column_names lines)
  pub opened : table.is_open ≡ is_open lines
  pub before : column_before lines ≡ (if table.goes_on then last_of (column_names lines) else None)
  pub factors : KeepsFactors rows lines table.factors
