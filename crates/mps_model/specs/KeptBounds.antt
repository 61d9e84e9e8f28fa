-- What the reader keeps of the lines of BOUNDS above: what the entries of each column say, and the set name of the first line.
use Rattle.std.specs.Prelude.{◌≡◌, ℕ, ◌<◌, false, ◌||◌, List, [], length, slice_index_or, slice_get, Option, None, option_map}
use Rattle.std.specs.Option.{option_or, option_copied}
use Rattle.std.specs.List.{list_any}
use Rattle.exact_math.specs.Rational.{ℚ}
use Rattle.mps_model.specs.declared.lines.bound_kind.BoundKind.{BoundKind}
use Rattle.mps_model.specs.declared.tables.bounds.ColumnBounds.{ColumnBounds}
use Rattle.mps_model.specs.declared.tables.bounds.BoundTable.{BoundTable}
use Rattle.mps_model.specs.Tables.{BoundLine, Tables}
use Rattle.mps_model.specs.Bounds.{last_of, lower_by, upper_by, makes_integer, bounds_of, lower_entries, upper_entries}

-- tables of which only BOUNDS has lines
abbrev pub only_bounds : List BoundLine → Tables
only_bounds lines = record { rows = []; columns = []; sides = []; ranges = []; bounds = lines }

-- what the lines say of one column
unfoldable pub said_of : List BoundLine → List ℕ → ColumnBounds
said_of lines column = record {
  lower = last_of (lower_entries (only_bounds lines) column);
  upper = last_of (upper_entries (only_bounds lines) column);
  is_integer = list_any (λ line. makes_integer line.kind) (bounds_of (only_bounds lines) column);
}

-- what is said of a column with one more entry, which sets a side or leaves it
abbrev pub with_entry : ColumnBounds → BoundKind → ℚ → ColumnBounds
with_entry said kind value = record {
  lower = option_or (lower_by kind value) said.lower;
  upper = option_or (upper_by kind value) said.upper;
  is_integer = said.is_integer || makes_integer kind;
}

-- the set name of the first of the lines
abbrev pub first_set : List BoundLine → Option (List ℕ)
first_set lines = option_map (λ line. line.set) (slice_get lines 0)

-- what is said of a column without an entry
abbrev pub nothing_said : ColumnBounds
nothing_said = record { lower = None; upper = None; is_integer = false }

-- the table has what the lines say of the columns of these names; past its end nothing is said
pub record KeepsBounds (names : List (List ℕ)) (lines : List BoundLine) (table : BoundTable) : Type 0 where
  pub set : option_copied table.set ≡ first_set lines
  pub columns : (i : ℕ) → i < length names → slice_index_or table.columns.items i nothing_said ≡ said_of lines (slice_index_or names i [])
