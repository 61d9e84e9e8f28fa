-- What the reader keeps of all lines above, and what of that it needs to build the model.
use Rattle.std.specs.Prelude.{◌≡◌, ℕ, true, List, slice_get, Some}
use Rattle.std.specs.List.{HoldsAt}
use Rattle.mps_model.specs.declared.tables.columns.ColumnTable.{ColumnTable}
use Rattle.mps_model.specs.declared.tables.factors.RowFactors.{RowFactors}
use Rattle.mps_model.specs.declared.tables.sides.SideTable.{SideTable}
use Rattle.mps_model.specs.declared.tables.bounds.BoundTable.{BoundTable}
use Rattle.mps_model.specs.Tables.{RowLine, Tables}
use Rattle.mps_model.specs.Sides.{has_sides}
use Rattle.mps_model.specs.Bounds.{column_names}
use Rattle.mps_model.specs.StatedModel.{items_of}
use Rattle.mps_model.specs.RowFaults.{row_names}
use Rattle.mps_model.specs.KeptColumns.{KeepsColumns}
use Rattle.mps_model.specs.KeptSides.{KeepsPairs, KeepsRanges}
use Rattle.mps_model.specs.KeptBounds.{KeepsBounds}

-- the five tables of the code have what the definitions' tables have
pub record KeepsTables (tables : Tables) (rows : List RowLine) (columns : ColumnTable) (sides ranges : SideTable) (bounds : BoundTable) : Type 0 where
  pub rows_kept : rows ≡ tables.rows
  pub columns_kept : KeepsColumns tables.rows tables.columns columns
  pub sides_kept : KeepsPairs (row_names tables.rows) tables.sides sides
  pub ranges_kept : KeepsRanges tables.rows tables.sides tables.ranges ranges
  pub bounds_kept : KeepsBounds (column_names tables.columns) tables.bounds bounds

-- beside each row with sides stand the items that the tables state
abbrev pub HaveItems : Tables → List RowFactors → Type 0
HaveItems tables factors =
    (i : ℕ) (row : RowLine) → slice_get tables.rows i ≡ Some row → has_sides row ≡ true → HoldsAt (λ found. found.items ≡ items_of tables row.name) factors i
