-- When a line of a model text has a fault, given the lines above it, and which: this project's profile of fixed and free
-- MPS (IBM's MPSX and its successors). What a rule needs of the lines above it finds in their tables.
use Rattle.std.specs.Prelude.{ℕ, Bool, true, false, not, ◌&&◌, ◌||◌, nat_lt, nat_le, ◌==◌, if◌then◌else◌, List, [], ◌∷◌, length, Option, Some, None}
use Rattle.std.specs.Option.{option_map_or}
use Rattle.std.specs.List.{list_all, last_or}
use Rattle.mps_fields.specs.Lines.{Line, is_data_line, is_section_line}
use Rattle.mps_fields.specs.FixedFields.{is_in_columns}
use Rattle.mps_model.specs.declared.layout.Layout.{Layout}
use Rattle.mps_model.specs.declared.layout.Layout.TheVariants.{Free, Fixed}
use Rattle.mps_model.specs.declared.fault.FaultKind.{FaultKind}
use Rattle.mps_model.specs.declared.fault.FaultKind.TheVariants as faults
use Rattle.mps_model.specs.declared.lines.section.Section.{Section}
use Rattle.mps_model.specs.declared.lines.section.Section.TheVariants.{Name as NAME, Rows as ROWS, Columns as COLUMNS, Rhs as RHS, Ranges as RANGES, Bounds as BOUNDS}
use Rattle.mps_model.specs.Sections.{free_texts, begins, section_at, is_content}
use Rattle.mps_model.specs.SectionOrder.{sections_in, is_in_order}
use Rattle.mps_model.specs.Tables.{is_marker, row_at, marker_at, entries_at, set_at, bound_kind_at, Tables, tables_of}
use Rattle.mps_model.specs.FaultRules.{first_holding}
use Rattle.mps_model.specs.RowFaults.{row_fault}
use Rattle.mps_model.specs.PairFaults.{pair_fault, range_fault, set_fault}
use Rattle.mps_model.specs.ColumnFaults.{marker_fault, column_fault, bound_fault}

-- printed ASCII, the blank and the tab
abbrev pub is_allowed_byte : ℕ → Bool
is_allowed_byte byte = (nat_le 32 byte && nat_le byte 126) || (byte == 9)

-- in fixed form a data line keeps to its columns
abbrev pub keeps_columns : Layout → List ℕ → Bool
keeps_columns Free line = true
keeps_columns Fixed line = not (is_data_line line) || is_in_columns line

-- another field follows the word of a section line, other than on NAME
abbrev pub has_more_fields : Line → Bool
has_more_fields line = not (begins NAME line) && nat_lt 1 (length (free_texts line.bytes))

abbrev pub section_fault : List Line → Line → Option FaultKind
section_fault above line = first_holding (
    (not (option_map_or (is_in_order (sections_in above)) (section_at line) false), faults.Section)
    ∷ (has_more_fields line, faults.FieldCount)
    ∷ [])

-- the fault of a data line in a section; before ROWS there is no place for one, and behind ENDATA no line is judged
abbrev pub data_fault : Layout → Tables → Line → Option Section → Option FaultKind
data_fault layout above line (Some ROWS) = row_fault above (row_at layout line)
data_fault layout above line (Some COLUMNS) =
    if is_marker layout line.bytes then marker_fault above (marker_at layout line) else column_fault above (entries_at layout line)
data_fault layout above line (Some RHS) = set_fault (pair_fault above.rows) above.sides (set_at layout line)
data_fault layout above line (Some RANGES) = set_fault (range_fault above) above.ranges (set_at layout line)
data_fault layout above line (Some BOUNDS) = bound_fault layout above line (bound_kind_at layout line)
data_fault layout above line _ = Some faults.Section

-- the fault of a line, if it has one, given the lines above it
unfoldable pub line_fault : Layout → List Line → Line → Option FaultKind
line_fault layout above line =
    if nat_lt 1024 (length line.bytes) then Some faults.LongLine
    else if not (is_content line) then None
    else if not (list_all is_allowed_byte line.bytes && keeps_columns layout line.bytes) then Some faults.Byte
    else if is_section_line line.bytes then section_fault above line
    else data_fault layout (tables_of layout above) line (last_or None (sections_in above))
