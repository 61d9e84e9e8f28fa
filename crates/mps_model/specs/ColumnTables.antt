-- What a line of COLUMNS in fixed and free MPS (IBM's MPSX and its successors) needs of the lines above it: the column of the
-- line before, and the last column beside a row. And a line as it is taken, first by its column and then pair by pair.
use Rattle.std.specs.Prelude.{◌≡◌, ℕ, Bool, false, not, ◌&&◌, ◌||◌, nat_le, List, [], ◌∷◌, ◌++◌, length, filter, Option, option_map, option_and_then, bytes_eq}
use Rattle.std.specs.Option.{option_map_or}
use Rattle.std.specs.List.{position_or_len}
use Rattle.mps_model.specs.Tables.{RowLine, Pair, PairLine, ColumnLine, Tables}
use Rattle.mps_model.specs.Sides.{has_sides, objective_row}
use Rattle.mps_model.specs.Bounds.{last_of, entries_of, lines_of_column, column_names}
use Rattle.mps_model.specs.declared.fault.FaultKind.{FaultKind}
use Rattle.mps_model.specs.declared.fault.FaultKind.TheVariants as faults
use Rattle.mps_model.specs.FaultRules.{first_holding, is_among}
use Rattle.mps_model.specs.PairFaults.{pair_names}
use Rattle.mps_model.specs.ColumnFaults.{is_known_column, goes_on}

-- these lines of COLUMNS and no others
abbrev pub columns_alone : List ColumnLine → Tables
columns_alone lines = record { rows = []; columns = lines; sides = []; ranges = []; bounds = [] }

-- the column of the last line, where that is no marker line
abbrev pub column_before : List ColumnLine → Option (List ℕ)
column_before lines = option_map (λ line. line.label) (option_and_then entries_of (last_of lines))

-- the column has an entry beside the row
abbrev pub has_entry : List ColumnLine → List ℕ → List ℕ → Bool
has_entry lines row column = is_among (pair_names (lines_of_column lines column)) row

-- the place of the last column that has an entry beside the row
abbrev pub last_beside : List ColumnLine → List ℕ → Option ℕ
last_beside lines row =
    option_map (λ column. position_or_len (bytes_eq column) (column_names lines)) (last_of (filter (has_entry lines row) (column_names lines)))

-- the row has sides, or is the objective
abbrev pub is_stated_row : List RowLine → RowLine → Bool
is_stated_row rows row = has_sides row || option_map_or (bytes_eq row.name) (objective_row rows) false

-- a line before its pairs
abbrev pub bare_line : ℕ → List ℕ → PairLine
bare_line at label = record { at = at; label = label; pairs = [] }

-- a line with one more pair
abbrev pub with_pair : PairLine → Pair → PairLine
with_pair line pair = record { at = line.at; label = line.label; pairs = line.pairs ++ pair ∷ [] }

-- the fault of a line of a column for its name alone
abbrev pub label_fault : List ColumnLine → List ℕ → Option FaultKind
label_fault above label = first_holding (
    (is_known_column (columns_alone above) label && not (goes_on (columns_alone above) label), faults.Duplicate)
    ∷ (not (is_known_column (columns_alone above) label) && nat_le 256 (length (column_names above)), faults.TooManyColumns)
    ∷ [])

-- the last column has this name and this number, from 0
pub record IsLastColumn (lines : List ColumnLine) (label : List ℕ) (column : ℕ) : Type 0 where
  pub others : List (List ℕ)
  pub names : column_names lines ≡ others ++ label ∷ []
  pub number : length others ≡ column
