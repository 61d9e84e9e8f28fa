-- The canonical text of a plain model in free MPS (the successors of IBM's MPSX): one text for each model. Each data line
-- has one pair, without a set name, and each field stands behind one blank.
use Rattle.std.specs.Prelude.{◌==◌, ◌+◌, ℕ, if◌then◌else◌, List, [], ◌∷◌, ◌++◌, map, flat_map, filter_map, find, ℤ, pos, ◌-ℤ◌, neg_ℤ, Option, Some, None, option_map, option_to_list, codes}
use Rattle.std.specs.Ordering.{int_eq}
use Rattle.std.specs.Fmt.{signed_decimal}
use Rattle.exact_math.specs.Rational.{ℚ}
use Rattle.int_model.specs.declared.model.Item.{Item}
use Rattle.int_model.specs.declared.model.Column.{Column}
use Rattle.int_model.specs.declared.model.Row.{Row}
use Rattle.int_model.specs.declared.model.Model.{Model}
use Rattle.mps_model.specs.Tables.{Pair}

-- ---- lines and fields

-- the fields of a data line
abbrev pub Fields : Type 0
Fields = List (List ℕ)

-- each field behind a blank (the byte 32)
abbrev pub data_line : Fields → List ℕ
data_line fields = flat_map (λ field. 32 ∷ field) fields

-- the lines, each with a line feed (the byte 10) behind it
abbrev pub in_lines : List (List ℕ) → List ℕ
in_lines lines = flat_map (λ line. line ++ 10 ∷ []) lines

-- the line that begins a section, and its data lines
abbrev pub section : List ℕ → List Fields → List (List ℕ)
section heading table = heading ∷ map data_line table

-- a section that is left out where it has no data line
abbrev pub section_of_some : List ℕ → List Fields → List (List ℕ)
section_of_some heading [] = []
section_of_some heading (fields ∷ table) = section heading (fields ∷ table)

-- the name of the objective row
abbrev pub objective_name : List ℕ
objective_name = codes "COST"

-- ---- rows and their sides; the numbers of a plain model are whole

abbrev pub whole_side : Option ℚ → Option ℤ
whole_side side = option_map (λ (q : ℚ). q.num) side

-- E where the sides are equal, L where only the upper side is there, and G otherwise
abbrev pub kind_of : Option ℤ → Option ℤ → List ℕ
kind_of None high = codes "L"
kind_of (Some low) None = codes "G"
kind_of (Some low) (Some high) = if int_eq low high then codes "E" else codes "G"

-- the number of a row in RHS: the upper side of an L row, and the lower side of any other
abbrev pub right_side : Option ℤ → Option ℤ → ℤ
right_side (Some low) high = low
right_side None (Some high) = high
right_side None None = pos 0

-- the number of a row in RANGES: the upper less the lower side, where they differ
abbrev pub range_of : Option ℤ → Option ℤ → Option ℤ
range_of None high = None
range_of (Some low) None = None
range_of (Some low) (Some high) = if int_eq low high then None else Some (high -ℤ low)

abbrev pub row_kind : Row → List ℕ
row_kind row = kind_of (whole_side row.lo) (whole_side row.hi)

abbrev pub row_right_side : Row → ℤ
row_right_side row = right_side (whole_side row.lo) (whole_side row.hi)

abbrev pub row_range : Row → Option ℤ
row_range row = range_of (whole_side row.lo) (whole_side row.hi)

-- ---- the data lines of each section

-- ROWS: the objective, and the rows in order
abbrev pub row_fields : Row → Fields
row_fields row = row_kind row ∷ row.name ∷ []

abbrev pub row_table : List Row → List Fields
row_table rows = (codes "N" ∷ objective_name ∷ []) ∷ map row_fields rows

-- a name with a number in digits
abbrev pub pair_of : List ℕ → ℤ → Pair
pair_of name number = record { name = name; number = signed_decimal number }

-- the factor of column number j, where items have one
abbrev pub factor_in : ℕ → List Item → Option ℚ
factor_in j items = option_map (λ (item : Item). item.factor) (find (λ (item : Item). item.column == j) items)

-- the terms of the objective, or of a row, under its name
pub record NamedItems : Type 0 where
  pub name : List ℕ
  pub items : List Item

abbrev pub items_of_row : Row → NamedItems
items_of_row row = record { name = row.name; items = row.items }

-- the objective first, and then the rows in order
abbrev pub all_items : Model → List NamedItems
all_items model = (record { name = objective_name; items = model.objective }) ∷ map items_of_row model.rows

-- a row with its factor of column j, where it has one
abbrev pub factor_pair : ℕ → NamedItems → Option Pair
factor_pair j named = option_map (λ (factor : ℚ). pair_of named.name factor.num) (factor_in j named.items)

-- a column without a factor has one line, the objective with 0
abbrev pub or_zero : List Pair → List Pair
or_zero [] = pair_of objective_name (pos 0) ∷ []
or_zero (pair ∷ pairs) = pair ∷ pairs

-- what the lines of column j have behind its name
abbrev pub column_pairs : List NamedItems → ℕ → List Pair
column_pairs named j = or_zero (filter_map (factor_pair j) named)

-- COLUMNS: a line for each pair of each column, the first of which has the number j
abbrev pub labelled : List ℕ → Pair → Fields
labelled column pair = column ∷ pair.name ∷ pair.number ∷ []

abbrev pub column_table : List NamedItems → ℕ → List Column → List Fields
column_table named j [] = []
column_table named j (column ∷ columns) = map (labelled column.name) (column_pairs named j) ++ column_table named (j + 1) columns

-- a number other than 0 under its name
abbrev pub some_pair : List ℕ → ℤ → Option Pair
some_pair name number = if int_eq number (pos 0) then None else Some (pair_of name number)

abbrev pub side_pair : Row → Option Pair
side_pair row = some_pair row.name (row_right_side row)

-- RHS: minus the constant on the objective, and the right sides of the rows, as far as they are not 0
abbrev pub side_pairs : Model → List Pair
side_pairs model = option_to_list (some_pair objective_name (neg_ℤ model.constant.num)) ++ filter_map side_pair model.rows

-- RANGES
abbrev pub range_pair : Row → Option Pair
range_pair row = option_map (pair_of row.name) (row_range row)

abbrev pub range_pairs : List Row → List Pair
range_pairs rows = filter_map range_pair rows

-- a line without a set name
abbrev pub unlabelled : Pair → Fields
unlabelled pair = pair.name ∷ pair.number ∷ []

-- BOUNDS: the two bounds of each column
abbrev pub bound_fields : Column → List Fields
bound_fields column =
    (codes "LI" ∷ column.name ∷ signed_decimal column.lo.num ∷ [])
    ∷ (codes "UI" ∷ column.name ∷ signed_decimal column.hi.num ∷ []) ∷ []

abbrev pub bound_table : List Column → List Fields
bound_table columns = flat_map bound_fields columns

-- ---- the text

abbrev pub canonical_lines : Model → List (List ℕ)
canonical_lines model =
    codes "NAME SLICER"
    ∷ (section (codes "ROWS") (row_table model.rows)
    ++ (section (codes "COLUMNS") (column_table (all_items model) 0 model.columns)
    ++ (section (codes "RHS") (map unlabelled (side_pairs model))
    ++ (section_of_some (codes "RANGES") (map unlabelled (range_pairs model.rows))
    ++ (section (codes "BOUNDS") (bound_table model.columns)
    ++ codes "ENDATA" ∷ [])))))

abbrev pub canonical_text : Model → List ℕ
canonical_text model = in_lines (canonical_lines model)
