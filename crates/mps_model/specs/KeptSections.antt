-- What the reader keeps of the data lines above, section by section.
use Rattle.std.specs.Prelude.{◌≡◌, ℕ, Bool, true, false, List, [], length, Option, None, Result, is_some, IfSome, IsSomeAnd}
use Rattle.std.specs.List.{list_any, last_or}
use Rattle.mps_fields.specs.Lines.{Line}
use Rattle.mps_model.specs.declared.layout.Layout.{Layout}
use Rattle.mps_model.specs.declared.lines.section.Section.{Section}
use Rattle.mps_model.specs.declared.lines.section.Section.TheVariants.{Columns as COLUMNS, Rhs as RHS, Ranges as RANGES, Bounds as BOUNDS}
use Rattle.mps_model.specs.declared.lines.data_fields.DataFields.{DataFields}
use Rattle.mps_model.specs.declared.line_stop.LineStop.{LineStop}
use Rattle.mps_model.specs.declared.tables.text_tables.TextTables.{TextTables}
use Rattle.mps_model.specs.SectionOrder.{is_same, sections_in}
use Rattle.mps_model.specs.Tables.{RowLine, PairLine, Tables, tables_of}
use Rattle.mps_model.specs.Bounds.{column_names}
use Rattle.mps_model.specs.RowFaults.{row_names}
use Rattle.mps_model.specs.LineFaults.{data_fault}
use Rattle.mps_model.specs.FieldCuts.{Cuts}
use Rattle.mps_model.specs.AddedLines.{with_line}
use Rattle.mps_model.specs.Judging.{Judges}
use Rattle.mps_model.specs.KeptSectionOrder.{are_in_order}
use Rattle.mps_model.specs.KeptColumns.{KeepsColumns}
use Rattle.mps_model.specs.KeptSides.{KeepsPairs, KeepsRanges}
use Rattle.mps_model.specs.KeptBounds.{KeepsBounds}

-- a table is new before its section comes, and keeps the section's lines from there on
pub record KeptFrom (came : Bool) (new kept : Type 0) : Type 0 where
  pub before : came ≡ false → new
  pub behind : came ≡ true → kept

-- a table of sides, of ranges or of bounds without a line, for whichever rows and columns
abbrev pub HasNoSides : TextTables → Type 0
HasNoSides kept = (names : List (List ℕ)) → KeepsPairs names [] kept.sides

abbrev pub HasNoRanges : TextTables → Type 0
HasNoRanges kept = (rows : List RowLine) (sides : List PairLine) → KeepsRanges rows sides [] kept.ranges

abbrev pub HasNoBounds : TextTables → Type 0
HasNoBounds kept = (names : List (List ℕ)) → KeepsBounds names [] kept.bounds

-- behind these sections the code's tables have what these tables have; the table of columns is there from COLUMNS on
pub record KeepsSections (sections : List Section) (tables : Tables) (kept : TextTables) : Type 0 where
  pub rows : kept.rows ≡ tables.rows
  pub has_columns : is_some kept.columns ≡ list_any (is_same COLUMNS) sections
  pub columns : IfSome kept.columns (KeepsColumns tables.rows tables.columns)
  pub sides : KeptFrom (list_any (is_same RHS) sections) (HasNoSides kept) (KeepsPairs (row_names tables.rows) tables.sides kept.sides)
  pub ranges : KeptFrom (list_any (is_same RANGES) sections) (HasNoRanges kept) (KeepsRanges tables.rows tables.sides tables.ranges kept.ranges)
  pub bounds : KeptFrom (list_any (is_same BOUNDS) sections) (HasNoBounds kept) (KeepsBounds (column_names tables.columns) tables.bounds kept.bounds)

-- the table of columns has a place for each row
abbrev pub IsSized : TextTables → Type 0
IsSized kept = IfSome kept.columns (λ columns. length columns.factors.rows.items ≡ length kept.rows)

-- the tables can be made a model: the columns are there
abbrev pub IsBuildable : TextTables → Type 0
IsBuildable kept = IsSomeAnd kept.columns (λ columns. length columns.factors.rows.items ≡ length kept.rows)

-- a call judges a data line in a section by its fields, and takes it into the tables
abbrev pub TakesLine : {A : Type 0} → Option Section → DataFields → TextTables → TextTables → Result A LineStop → Type 0
TakesLine section fields old new result =
    (layout : Layout) (line : Line) (above : List Line) → Cuts layout line fields
    → are_in_order [] (sections_in above) ≡ true → last_or None (sections_in above) ≡ section
    → KeepsSections (sections_in above) (tables_of layout above) old
    → Judges (data_fault layout (tables_of layout above) line section)
    (KeepsSections (sections_in above) (with_line layout line (tables_of layout above) section) new) result
