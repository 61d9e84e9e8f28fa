-- When a pair of row and number has a fault, and when a line of RHS or RANGES in fixed or free MPS (IBM's MPSX and its successors)
-- has one, given the tables of the lines above it.
use Rattle.std.specs.Prelude.{ℕ, Bool, false, not, List, [], ◌∷◌, map, find, slice_get, Option, Some, None, option_map, bytes_eq}
use Rattle.std.specs.Option.{option_map_or, option_or}
use Rattle.mps_fields.specs.Reading.{number_of}
use Rattle.mps_model.specs.declared.fault.FaultKind.{FaultKind}
use Rattle.mps_model.specs.declared.fault.FaultKind.TheVariants as faults
use Rattle.mps_model.specs.Tables.{RowLine, Pair, PairLine, Tables}
use Rattle.mps_model.specs.Sides.{number_at, is_free_row, pairs_of, side_of, range_step, sum_fits}
use Rattle.mps_model.specs.FaultRules.{first_holding, is_among, is_not_number, is_wide_number}
use Rattle.mps_model.specs.RowFaults.{row_names}

-- the rows that are taken already are those of the lines above in the same table, and of the line's first pair
unfoldable pub pairs_fault : (List (List ℕ) → Pair → Option FaultKind) → List (List ℕ) → List Pair → Option FaultKind
pairs_fault rule taken [] = None
pairs_fault rule taken (pair ∷ pairs) = option_or (rule taken pair) (pairs_fault rule (pair.name ∷ taken) pairs)

abbrev pub pair_fault : List RowLine → List (List ℕ) → Pair → Option FaultKind
pair_fault rows taken pair = first_holding (
    (not (is_among (row_names rows) pair.name), faults.UnknownRow)
    ∷ (is_not_number (number_of pair.number), faults.NotNumber)
    ∷ (is_wide_number (number_of pair.number), faults.WideNumber)
    ∷ (is_among taken pair.name, faults.Duplicate)
    ∷ [])

-- the row of a name
abbrev pub row_named : List RowLine → List ℕ → Option RowLine
row_named rows name = find (λ row. bytes_eq row.name name) rows

-- the side of a row that a range makes leaves the range of exact fractions
abbrev pub has_wide_side : Tables → Pair → RowLine → Bool
has_wide_side above pair row = not (sum_fits (side_of above pair.name) (range_step row (number_at pair.number)))

abbrev pub range_fault : Tables → List (List ℕ) → Pair → Option FaultKind
range_fault above taken pair = first_holding (
    (not (is_among (row_names above.rows) pair.name), faults.UnknownRow)
    ∷ (option_map_or is_free_row (row_named above.rows pair.name) false, faults.RangeOnObjective)
    ∷ (is_not_number (number_of pair.number), faults.NotNumber)
    ∷ (is_wide_number (number_of pair.number), faults.WideNumber)
    ∷ (option_map_or (has_wide_side above pair) (row_named above.rows pair.name) false, faults.WideNumber)
    ∷ (is_among taken pair.name, faults.Duplicate)
    ∷ [])

abbrev pub pair_names : List PairLine → List (List ℕ)
pair_names lines = map (λ pair. pair.name) (pairs_of lines)

-- the set name differs from that of the section's first line
abbrev pub is_second_set : Option (List ℕ) → List ℕ → Bool
is_second_set first set = option_map_or (λ name. not (bytes_eq name set)) first false

abbrev pub first_label : List PairLine → Option (List ℕ)
first_label lines = option_map (λ line. line.label) (slice_get lines 0)

abbrev pub set_fault : (List (List ℕ) → Pair → Option FaultKind) → List PairLine → Option PairLine → Option FaultKind
set_fault rule above None = Some faults.FieldCount
set_fault rule above (Some line) = option_or
    (first_holding ((is_second_set (first_label above) line.label, faults.SecondSet) ∷ []))
    (pairs_fault rule (pair_names above) line.pairs)
