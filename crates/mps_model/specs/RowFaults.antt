-- When a line of ROWS in fixed or free MPS (IBM's MPSX and its successors) has a fault, given the tables of the lines above it.
use Rattle.std.specs.Prelude.{ℕ, not, ◌&&◌, ◌||◌, nat_le, List, [], ◌∷◌, map, length, Option, Some, None}
use Rattle.mps_model.specs.declared.fault.FaultKind.{FaultKind}
use Rattle.mps_model.specs.declared.fault.FaultKind.TheVariants as faults
use Rattle.mps_model.specs.Tables.{RowLine, Tables}
use Rattle.mps_model.specs.Sides.{is_free_row, has_sides, sided_rows}
use Rattle.mps_model.specs.FaultRules.{first_holding, is_among}

abbrev pub row_names : List RowLine → List (List ℕ)
row_names rows = map (λ row. row.name) rows

abbrev pub row_fault : Tables → Option RowLine → Option FaultKind
row_fault above None = Some faults.FieldCount
row_fault above (Some row) = first_holding (
    (not (is_free_row row || has_sides row), faults.RowKind)
    ∷ (is_among (row_names above.rows) row.name, faults.Duplicate)
    ∷ (has_sides row && nat_le 256 (length (sided_rows above.rows)), faults.TooManyRows)
    ∷ [])
