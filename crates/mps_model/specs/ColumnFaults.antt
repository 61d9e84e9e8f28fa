-- When a line of COLUMNS or of BOUNDS in fixed or free MPS (IBM's MPSX and its successors) has a fault, given the tables of the
-- lines above it.
use Rattle.std.specs.Prelude.{ℕ, Bool, false, not, ◌&&◌, nat_le, if◌then◌else◌, List, [], ◌∷◌, length, slice_get, Option, Some, None, option_map, codes, bytes_eq}
use Rattle.std.specs.Option.{option_map_or, option_or}
use Rattle.mps_fields.specs.Lines.{Line}
use Rattle.mps_fields.specs.Reading.{number_of}
use Rattle.mps_model.specs.declared.layout.Layout.{Layout}
use Rattle.mps_model.specs.declared.fault.FaultKind.{FaultKind}
use Rattle.mps_model.specs.declared.fault.FaultKind.TheVariants as faults
use Rattle.mps_model.specs.declared.lines.bound_kind.BoundKind.{BoundKind}
use Rattle.mps_model.specs.Tables.{PairLine, takes_value, BoundLine, bound_with, Tables}
use Rattle.mps_model.specs.Bounds.{last_of, lines_of_column, column_names, is_open, is_of_column}
use Rattle.mps_model.specs.FaultRules.{first_holding, is_among, is_not_number, is_wide_number}
use Rattle.mps_model.specs.PairFaults.{pairs_fault, pair_fault, pair_names, is_second_set}

-- a marker line has its word where markers are open or not
abbrev pub is_due_word : Bool → List ℕ → Bool
is_due_word opened word = bytes_eq word (if opened then codes "'INTEND'" else codes "'INTORG'")

abbrev pub marker_fault : Tables → Option (List ℕ) → Option FaultKind
marker_fault above None = Some faults.FieldCount
marker_fault above (Some word) = first_holding ((not (is_due_word (is_open above.columns) word), faults.Marker) ∷ [])

abbrev pub is_known_column : Tables → List ℕ → Bool
is_known_column above name = is_among (column_names above.columns) name

-- the line before it in COLUMNS is one of the same column
abbrev pub goes_on : Tables → List ℕ → Bool
goes_on above name = option_map_or (is_of_column name) (last_of above.columns) false

abbrev pub column_fault : Tables → Option PairLine → Option FaultKind
column_fault above None = Some faults.FieldCount
column_fault above (Some line) = option_or (first_holding (
    (is_known_column above line.label && not (goes_on above line.label), faults.Duplicate)
    ∷ (not (is_known_column above line.label) && nat_le 256 (length (column_names above.columns)), faults.TooManyColumns)
    ∷ [])) (pairs_fault (pair_fault above.rows) (pair_names (lines_of_column above.columns line.label)) line.pairs)

abbrev pub bound_line_fault : Tables → Option BoundLine → Option FaultKind
bound_line_fault above None = Some faults.FieldCount
bound_line_fault above (Some line) = first_holding (
    (is_second_set (option_map (λ first. first.set) (slice_get above.bounds 0)) line.set, faults.SecondSet)
    ∷ (not (is_known_column above line.column), faults.UnknownColumn)
    ∷ (takes_value line.kind && is_not_number (number_of line.value), faults.NotNumber)
    ∷ (takes_value line.kind && is_wide_number (number_of line.value), faults.WideNumber)
    ∷ [])

abbrev pub bound_fault : Layout → Tables → Line → Option BoundKind → Option FaultKind
bound_fault layout above line None = Some faults.BoundKind
bound_fault layout above line (Some kind) = bound_line_fault above (bound_with layout line kind)
