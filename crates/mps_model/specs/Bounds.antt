-- The columns of a model: their order, which of them are integer, and their bounds, from COLUMNS with its marker lines and
-- BOUNDS as in fixed and free MPS (IBM's MPSX and its successors). In this project's profile a column that is not said
-- to be integer is continuous, a lower bound that no entry sets is 0, and an upper bound that no entry sets is none.
use Rattle.std.specs.Prelude.{ℕ, Bool, true, false, not, ◌||◌, List, [], ◌∷◌, map, filter, filter_map, ℤ, pos, Option, Some, None, option_map, unwrap_or, codes, bytes_eq}
use Rattle.std.specs.Option.{option_map_or, option_or}
use Rattle.std.specs.List.{list_any, last_or, before_first}
use Rattle.exact_math.specs.Rational.{ℚ, whole}
use Rattle.mps_model.specs.declared.lines.bound_kind.BoundKind.{BoundKind}
use Rattle.mps_model.specs.declared.lines.bound_kind.BoundKind.TheVariants.{Lo as LO, Up as UP, Fx as FX, Fr as FR, Mi as MI, Pl as PL, Bv as BV, Li as LI, Ui as UI}
use Rattle.mps_model.specs.Tables.{PairLine, ColumnLine, marker, entries, BoundLine, Tables}
use Rattle.mps_model.specs.Sides.{zero_ℚ, number_at}

-- the last of a list
abbrev pub last_of : {A : Type 0} → List A → Option A
last_of items = last_or None items

-- names without those that repeat an earlier one
unfoldable pub without_repeats : List (List ℕ) → List (List ℕ)
without_repeats [] = []
without_repeats (name ∷ names) = name ∷ filter (λ other. not (bytes_eq name other)) (without_repeats names)

abbrev pub entries_of : ColumnLine → Option PairLine
entries_of (marker word) = None
entries_of (entries line) = Some line

abbrev pub marker_of : ColumnLine → Option (List ℕ)
marker_of (marker word) = Some word
marker_of (entries line) = None

-- the lines of all columns, without the marker lines
abbrev pub entry_lines : List ColumnLine → List PairLine
entry_lines lines = filter_map entries_of lines

-- the lines of one column
abbrev pub lines_of_column : List ColumnLine → List ℕ → List PairLine
lines_of_column lines column = filter (λ line. bytes_eq line.label column) (entry_lines lines)

-- the columns, in the order of their first lines
abbrev pub column_names : List ColumnLine → List (List ℕ)
column_names lines = without_repeats (map (λ line. line.label) (entry_lines lines))

-- markers are open behind these lines: the last marker among them is an INTORG
abbrev pub is_open : List ColumnLine → Bool
is_open lines = option_map_or (bytes_eq (codes "'INTORG'")) (last_of (filter_map marker_of lines)) false

abbrev pub is_of_column : List ℕ → ColumnLine → Bool
is_of_column column line = option_map_or (λ found. bytes_eq found.label column) (entries_of line) false

-- a column stands between markers where they are open above its first line
abbrev pub is_between_markers : List ColumnLine → List ℕ → Bool
is_between_markers lines column = is_open (before_first (is_of_column column) lines)

-- what a bound of value v makes of the lower side: nothing, or no bound at all, or its number
abbrev pub lower_by : BoundKind → ℚ → Option (Option ℚ)
lower_by LO v = Some (Some v)
lower_by FX v = Some (Some v)
lower_by LI v = Some (Some v)
lower_by BV v = Some (Some zero_ℚ)
lower_by FR v = Some None
lower_by MI v = Some None
lower_by _ v = None

-- the same of the upper side
abbrev pub upper_by : BoundKind → ℚ → Option (Option ℚ)
upper_by UP v = Some (Some v)
upper_by FX v = Some (Some v)
upper_by UI v = Some (Some v)
upper_by BV v = Some (Some (whole (pos 1)))
upper_by FR v = Some None
upper_by PL v = Some None
upper_by _ v = None

-- BV, LI and UI make a column integer
abbrev pub makes_integer : BoundKind → Bool
makes_integer BV = true
makes_integer LI = true
makes_integer UI = true
makes_integer _ = false

-- the bounds of one column, in order
abbrev pub bounds_of : Tables → List ℕ → List BoundLine
bounds_of tables column = filter (λ line. bytes_eq line.column column) tables.bounds

-- what the entries that set the lower side say, in order, and the same of the upper side
abbrev pub lower_entries : Tables → List ℕ → List (Option ℚ)
lower_entries tables column = filter_map (λ line. lower_by line.kind (number_at line.value)) (bounds_of tables column)

abbrev pub upper_entries : Tables → List ℕ → List (Option ℚ)
upper_entries tables column = filter_map (λ line. upper_by line.kind (number_at line.value)) (bounds_of tables column)

-- the lower side: the last entry that sets it counts; 0 without one
abbrev pub lower_of : Tables → List ℕ → Option ℚ
lower_of tables column = unwrap_or (last_of (lower_entries tables column)) (Some zero_ℚ)

-- the upper side that the text gives: the last entry that sets it counts; none without one
abbrev pub stated_upper : Tables → List ℕ → Option ℚ
stated_upper tables column = unwrap_or (last_of (upper_entries tables column)) None

-- the upper side; where the text gives none it is the bound that was handed in, if there is one
abbrev pub upper_of : Option ℤ → Tables → List ℕ → Option ℚ
upper_of given tables column = option_or (stated_upper tables column) (option_map whole given)

-- a column is integer where it stands between markers, or where an entry of BOUNDS makes it so
abbrev pub is_integer : Tables → List ℕ → Bool
is_integer tables column = is_between_markers tables.columns column || list_any (λ line. makes_integer line.kind) (bounds_of tables column)
