-- What the reader keeps of the lines of RHS, or of RANGES, above: the number of each row, and the set name of the first line.
use Rattle.std.specs.Prelude.{◌≡◌, ℕ, ◌-◌, List, [], ◌∷◌, ◌++◌, length, map, replicate, slice_get, Option, Some, None, option_map, unwrap_or}
use Rattle.std.specs.Option.{option_copied}
use Rattle.exact_math.specs.Rational.{ℚ, ◌+ℚ◌}
use Rattle.mps_model.specs.declared.fault.FaultKind.{FaultKind}
use Rattle.mps_model.specs.declared.fault.FaultKind.TheVariants as faults
use Rattle.mps_model.specs.declared.tables.sides.SideTable.{SideTable}
use Rattle.mps_model.specs.declared.model.row_sides.RowSides.{RowSides}
use Rattle.mps_model.specs.Tables.{RowLine, Pair, PairLine}
use Rattle.mps_model.specs.Sides.{Sides, side_in, number_beside, pairs_of, range_step}
use Rattle.mps_model.specs.FaultRules.{first_holding}
use Rattle.mps_model.specs.PairFaults.{first_label, is_second_set}

-- what is judged of a line before its pairs: its fields, and its set name beside the section's first one
abbrev pub opening_fault : Option (List ℕ) → Option PairLine → Option FaultKind
opening_fault first None = Some faults.FieldCount
opening_fault first (Some line) = first_holding ((is_second_set first line.label, faults.SecondSet) ∷ [])

-- the number at a place, if it has one
abbrev pub number_in : List (Option ℚ) → ℕ → Option ℚ
number_in numbers place = unwrap_or (slice_get numbers place) None

-- the names of the rows in pairs
abbrev pub names_in : List Pair → List (List ℕ)
names_in pairs = map (λ pair. pair.name) pairs

-- the numbers of the first places, and none for the places behind them
abbrev pub padded : ℕ → List (Option ℚ) → List (Option ℚ)
padded count numbers = numbers ++ replicate (count - length numbers) None

-- the table has the number of each of these rows, and the first set name
pub record KeepsPairs (names : List (List ℕ)) (lines : List PairLine) (table : SideTable) : Type 0 where
  pub set : option_copied table.set ≡ first_label lines
  pub numbers : padded (length names) table.numbers.items ≡ map (number_beside (pairs_of lines)) names

-- the end to which a range, if there is one, goes from the side of a row
abbrev pub range_end : ℚ → RowLine → Option ℚ → Option ℚ
range_end side row range = option_map (λ r. side +ℚ range_step row r) range

-- the end of a row, if it has a range in these pairs, beside the side that lines of RHS give
abbrev pub end_in : List PairLine → List Pair → RowLine → Option ℚ
end_in sides pairs row = range_end (side_in sides row.name) row (number_beside pairs row.name)

-- the table has the end of each of these rows, and the first set name
pub record KeepsRanges (rows : List RowLine) (sides ranges : List PairLine) (table : SideTable) : Type 0 where
  pub set : option_copied table.set ≡ first_label ranges
  pub ends : padded (length rows) table.numbers.items ≡ map (end_in sides (pairs_of ranges)) rows

-- the sides of a row in the code
abbrev pub sides_view : RowSides → Sides
sides_view sides = record { lo = sides.lo; hi = sides.hi }
