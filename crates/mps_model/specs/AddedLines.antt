-- Tables with what one more data line says, at the end of the table of its section.
use Rattle.std.specs.Prelude.{◌++◌, Option, Some, option_to_list}
use Rattle.mps_fields.specs.Lines.{Line}
use Rattle.mps_model.specs.declared.layout.Layout.{Layout}
use Rattle.mps_model.specs.declared.lines.section.Section.{Section}
use Rattle.mps_model.specs.declared.lines.section.Section.TheVariants.{Rows as ROWS, Columns as COLUMNS, Rhs as RHS, Ranges as RANGES, Bounds as BOUNDS}
use Rattle.mps_model.specs.Tables.{RowLine, PairLine, ColumnLine, BoundLine, Tables, row_at, column_at, set_at, bound_at}

abbrev pub with_row : Tables → Option RowLine → Tables
with_row tables said = record {
  rows = tables.rows ++ option_to_list said;
  columns = tables.columns;
  sides = tables.sides;
  ranges = tables.ranges;
  bounds = tables.bounds;
}

abbrev pub with_column : Tables → Option ColumnLine → Tables
with_column tables said = record {
  rows = tables.rows;
  columns = tables.columns ++ option_to_list said;
  sides = tables.sides;
  ranges = tables.ranges;
  bounds = tables.bounds;
}

abbrev pub with_side : Tables → Option PairLine → Tables
with_side tables said = record {
  rows = tables.rows;
  columns = tables.columns;
  sides = tables.sides ++ option_to_list said;
  ranges = tables.ranges;
  bounds = tables.bounds;
}

abbrev pub with_range : Tables → Option PairLine → Tables
with_range tables said = record {
  rows = tables.rows;
  columns = tables.columns;
  sides = tables.sides;
  ranges = tables.ranges ++ option_to_list said;
  bounds = tables.bounds;
}

abbrev pub with_bound : Tables → Option BoundLine → Tables
with_bound tables said = record {
  rows = tables.rows;
  columns = tables.columns;
  sides = tables.sides;
  ranges = tables.ranges;
  bounds = tables.bounds ++ option_to_list said;
}

-- the line stands in this section
abbrev pub with_line : Layout → Line → Tables → Option Section → Tables
with_line layout line tables (Some ROWS) = with_row tables (row_at layout line)
with_line layout line tables (Some COLUMNS) = with_column tables (column_at layout line)
with_line layout line tables (Some RHS) = with_side tables (set_at layout line)
with_line layout line tables (Some RANGES) = with_range tables (set_at layout line)
with_line layout line tables (Some BOUNDS) = with_bound tables (bound_at layout line)
with_line layout line tables _ = tables
