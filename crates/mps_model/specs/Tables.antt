-- What the data lines of each section say, apart from the layout: the lines of ROWS, COLUMNS, RHS, RANGES and BOUNDS of
-- fixed and free MPS (IBM's MPSX and its successors).
use Rattle.std.specs.Prelude.{ℕ, Bool, true, false, option_and_then, if◌then◌else◌, List, [], ◌∷◌, filter_map, find, Option, Some, None, option_map, unwrap_or, codes, bytes_eq}
use Rattle.std.specs.Option.{option_map_or}
use Rattle.mps_fields.specs.Lines.{Line}
use Rattle.mps_model.specs.declared.layout.Layout.{Layout}
use Rattle.mps_model.specs.declared.lines.section.Section.TheVariants.{Rows as ROWS, Columns as COLUMNS, Rhs as RHS, Ranges as RANGES, Bounds as BOUNDS}
use Rattle.mps_model.specs.Sections.{table_of}
use Rattle.mps_model.specs.declared.lines.bound_kind.BoundKind.{BoundKind}
use Rattle.mps_model.specs.declared.lines.bound_kind.BoundKind.TheVariants.{Lo as LO, Up as UP, Fx as FX, Fr as FR, Mi as MI, Pl as PL, Bv as BV, Li as LI, Ui as UI}
use Rattle.mps_model.specs.SixFields.{Fields, row_places, column_places, set_places, value_places, bare_places, marker_places, places, kind_text, mark_text}

-- a line of ROWS: a kind, which is to be N, E, L or G, and a name
pub record RowLine : Type 0 where
  pub kind : List ℕ
  pub name : List ℕ

abbrev pub row_said : Fields → Option RowLine
row_said (Some kind ∷ Some name ∷ None ∷ None ∷ None ∷ None ∷ []) = Some (record { kind = kind; name = name })
row_said fields = None

-- the name of a row, and the text of a number
pub record Pair : Type 0 where
  pub name : List ℕ
  pub number : List ℕ

-- one pair, or two
abbrev pub pairs_said : Fields → Option (List Pair)
pairs_said (Some name ∷ Some number ∷ None ∷ None ∷ []) = Some ((record { name = name; number = number }) ∷ [])
pairs_said (Some name ∷ Some number ∷ Some other ∷ Some size ∷ []) =
    Some ((record { name = name; number = number }) ∷ (record { name = other; number = size }) ∷ [])
pairs_said fields = None

-- a line of pairs: the label is a column in COLUMNS, and in RHS and RANGES a set name, which is empty where it is absent
pub record PairLine : Type 0 where
  pub at : ℕ
  pub label : List ℕ
  pub pairs : List Pair

abbrev pub column_said : ℕ → Fields → Option PairLine
column_said at (None ∷ Some column ∷ fields) = option_map (λ pairs. record { at = at; label = column; pairs = pairs }) (pairs_said fields)
column_said at fields = None

abbrev pub set_said : ℕ → Fields → Option PairLine
set_said at (None ∷ set ∷ fields) = option_map (λ pairs. record { at = at; label = unwrap_or set []; pairs = pairs }) (pairs_said fields)
set_said at fields = None

-- the word of a marker line
abbrev pub marker_said : Fields → Option (List ℕ)
marker_said (None ∷ Some name ∷ Some mark ∷ None ∷ Some word ∷ None ∷ []) = Some word
marker_said fields = None

-- a line of COLUMNS: a marker with its word, or a column's line
pub data ColumnLine : Type 0 where
  marker : List ℕ → ColumnLine
  entries : PairLine → ColumnLine

abbrev pub is_marker : Layout → List ℕ → Bool
is_marker layout line = option_map_or (bytes_eq (codes "'MARKER'")) (mark_text layout line) false

abbrev pub bound_word : BoundKind → List ℕ
bound_word LO = codes "LO"
bound_word UP = codes "UP"
bound_word FX = codes "FX"
bound_word FR = codes "FR"
bound_word MI = codes "MI"
bound_word PL = codes "PL"
bound_word BV = codes "BV"
bound_word LI = codes "LI"
bound_word UI = codes "UI"

abbrev pub bound_kinds : List BoundKind
bound_kinds = LO ∷ UP ∷ FX ∷ FR ∷ MI ∷ PL ∷ BV ∷ LI ∷ UI ∷ []

-- the kind that a word is
abbrev pub bound_kind_of : List ℕ → Option BoundKind
bound_kind_of word = find (λ kind. bytes_eq word (bound_word kind)) bound_kinds

-- UP, LO, FX, LI and UI take a value
abbrev pub takes_value : BoundKind → Bool
takes_value FR = false
takes_value MI = false
takes_value PL = false
takes_value BV = false
takes_value _ = true

-- a line of BOUNDS: a kind, a set name (empty where absent), a column, and the text of a value, which counts only where the kind takes one
pub record BoundLine : Type 0 where
  pub kind : BoundKind
  pub set : List ℕ
  pub column : List ℕ
  pub value : List ℕ

abbrev pub valued_said : BoundKind → Fields → Option BoundLine
valued_said kind (word ∷ set ∷ Some column ∷ Some value ∷ None ∷ None ∷ []) =
    Some (record { kind = kind; set = unwrap_or set []; column = column; value = value })
valued_said kind fields = None

abbrev pub bare_said : BoundKind → Fields → Option BoundLine
bare_said kind (word ∷ set ∷ Some column ∷ value ∷ None ∷ None ∷ []) =
    Some (record { kind = kind; set = unwrap_or set []; column = column; value = [] })
bare_said kind fields = None

-- what a data line says in each section
abbrev pub row_at : Layout → Line → Option RowLine
row_at layout line = row_said (places layout row_places line.bytes)

abbrev pub marker_at : Layout → Line → Option (List ℕ)
marker_at layout line = marker_said (places layout marker_places line.bytes)

abbrev pub entries_at : Layout → Line → Option PairLine
entries_at layout line = column_said line.number (places layout column_places line.bytes)

abbrev pub column_at : Layout → Line → Option ColumnLine
column_at layout line = if is_marker layout line.bytes then option_map marker (marker_at layout line) else option_map entries (entries_at layout line)

abbrev pub set_at : Layout → Line → Option PairLine
set_at layout line = set_said line.number (places layout set_places line.bytes)

abbrev pub bound_kind_at : Layout → Line → Option BoundKind
bound_kind_at layout line = option_and_then bound_kind_of (kind_text layout line.bytes)

abbrev pub bound_with : Layout → Line → BoundKind → Option BoundLine
bound_with layout line kind =
    if takes_value kind then valued_said kind (places layout value_places line.bytes)
    else bare_said kind (places layout bare_places line.bytes)

abbrev pub bound_at : Layout → Line → Option BoundLine
bound_at layout line = option_and_then (bound_with layout line) (bound_kind_at layout line)

-- what the data lines of the sections say, in order
pub record Tables : Type 0 where
  pub rows : List RowLine
  pub columns : List ColumnLine
  pub sides : List PairLine
  pub ranges : List PairLine
  pub bounds : List BoundLine

-- the tables of lines; a line that says nothing of its section's kind is in none
abbrev pub tables_of : Layout → List Line → Tables
tables_of layout lines = record {
  rows = filter_map (row_at layout) (table_of ROWS lines);
  columns = filter_map (column_at layout) (table_of COLUMNS lines);
  sides = filter_map (set_at layout) (table_of RHS lines);
  ranges = filter_map (set_at layout) (table_of RANGES lines);
  bounds = filter_map (bound_at layout) (table_of BOUNDS lines);
}
