-- The model that a text without fault states, found in its tables by look-up, as in fixed and free MPS (IBM's MPSX and its
-- successors) in this project's profile: all columns are integer and bounded, and the first N row is made least.
use Rattle.std.specs.Prelude.{ℕ, ◌==◌, if◌then◌else◌, List, [], map, filter_map, nat_abs, ℤ, Option, Some, None, unwrap_or, option_and_then, bytes_eq}
use Rattle.std.specs.List.{position_or_len, before_first}
use Rattle.exact_math.specs.Rational.{ℚ}
use Rattle.int_model.specs.declared.model.Item.{Item}
use Rattle.int_model.specs.declared.model.Column.{Column}
use Rattle.int_model.specs.declared.model.Row.{Row}
use Rattle.int_model.specs.declared.model.Model.{Model}
use Rattle.mps_fields.specs.Lines.{Line}
use Rattle.mps_model.specs.declared.layout.Layout.{Layout}
use Rattle.mps_model.specs.declared.lines.section.Section.TheVariants.{Endata as ENDATA}
use Rattle.mps_model.specs.Sections.{begins, text_lines}
use Rattle.mps_model.specs.Tables.{RowLine, Tables, tables_of}
use Rattle.mps_model.specs.Sides.{zero_ℚ, number_beside, pairs_of, sided_rows, objective_row, sides_of, constant_of}
use Rattle.mps_model.specs.Bounds.{lines_of_column, column_names, lower_of, upper_of}

-- the number beside a row and a column
abbrev pub factor_at : Tables → List ℕ → List ℕ → Option ℚ
factor_at tables row column = number_beside (pairs_of (lines_of_column tables.columns column)) row

-- a factor other than 0 as an item of the column of this number
abbrev pub item_with : ℕ → ℚ → Option Item
item_with column factor = if nat_abs factor.num == 0 then None else Some (record { column = column; factor = factor })

-- the item of a row in a column, where its factor is other than 0
abbrev pub item_at : Tables → List ℕ → List ℕ → Option Item
item_at tables row column =
    option_and_then (item_with (position_or_len (bytes_eq column) (column_names tables.columns))) (factor_at tables row column)

-- the items of a row, in the order of the columns
abbrev pub items_of : Tables → List ℕ → List Item
items_of tables row = filter_map (item_at tables row) (column_names tables.columns)

-- the items of the objective; none without one
abbrev pub objective_items : Tables → Option (List ℕ) → List Item
objective_items tables None = []
objective_items tables (Some row) = items_of tables row

abbrev pub stated_row : Tables → RowLine → Row
stated_row tables row = record {
  name = row.name;
  lo = (sides_of tables row).lo;
  hi = (sides_of tables row).hi;
  items = items_of tables row.name;
}

-- a column with its bounds, which are as written: whole numbers between them are meant; a text without fault gives both
abbrev pub stated_column : Option ℤ → Tables → List ℕ → Column
stated_column given tables column = record {
  name = column;
  lo = unwrap_or (lower_of tables column) zero_ℚ;
  hi = unwrap_or (upper_of given tables column) zero_ℚ;
}

-- the model that tables state, with an upper bound for the columns that have none, if one is given
unfoldable pub stated : Option ℤ → Tables → Model
stated given tables = record {
  columns = map (stated_column given tables) (column_names tables.columns);
  rows = map (stated_row tables) (sided_rows tables.rows);
  objective = objective_items tables (objective_row tables.rows);
  constant = constant_of tables (objective_row tables.rows);
}

-- the lines before the end of the model
abbrev pub model_lines : List ℕ → List Line
model_lines text = before_first (begins ENDATA) (text_lines text)

-- the model that a text without fault states
unfoldable pub means : Layout → Option ℤ → List ℕ → Model
means layout given text = stated given (tables_of layout (model_lines text))
