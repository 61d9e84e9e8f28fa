-- Small texts of fixed and free MPS (IBM's MPSX and its successors) on which the definitions are worked, each the
-- smallest that shows its rule.
use Rattle.std.specs.Prelude.{Some, ℕ, List, [], ◌∷◌, ◌++◌, map, flat_map, ℤ, pos, Option, option_map, codes}
use Rattle.std.specs.List.{range_with_len}
use Rattle.exact_math.specs.Rational.{whole, ◌+ℚ◌, neg_ℚ}
use Rattle.mps_fields.specs.Computing as fields
use Rattle.mps_model.specs.Tables.{RowLine, ColumnLine, entries, Tables}
use Rattle.mps_model.specs.Bounds.{without_repeats}
use Rattle.mps_model.specs.StatedModel.{stated, means}
use Rattle.mps_model.specs.PairFaults.{pairs_fault}
use Rattle.mps_model.specs.LineFaults.{line_fault}
use Rattle.mps_model.specs.Meaning.{first_line_fault, fault_at, meaning}
use Rattle.int_model.specs.declared.model.Item.{Item}
use Rattle.int_model.specs.declared.model.Column.{Column}
use Rattle.int_model.specs.declared.model.Row.{Row}

-- to unfold this is to unfold all that the meaning of a text is computed with
unfoldable pub computed : Unit {0}
unfolding fields.computed ◌+ℚ◌ neg_ℚ without_repeats stated means pairs_fault line_fault first_line_fault fault_at meaning
computed = tt

-- a text of lines, each with a line feed behind it
abbrev pub text_of : List (List ℕ) → List ℕ
text_of lines = flat_map (λ line. line ++ 10 ∷ []) lines

-- a text of lines, each with a carriage return and a line feed behind it
abbrev pub returned_text_of : List (List ℕ) → List ℕ
returned_text_of lines = flat_map (λ line. line ++ 13 ∷ 10 ∷ []) lines

-- no rows and no columns
abbrev pub empty_model : List ℕ
empty_model = text_of (codes "NAME" ∷ codes "ROWS" ∷ codes "COLUMNS" ∷ codes "ENDATA" ∷ [])

-- 3x + 5y = 8, x and y from 0 to 10
abbrev pub two_coins : List ℕ
two_coins = text_of (codes "NAME T" ∷ codes "ROWS" ∷ codes " N cost" ∷ codes " E r" ∷ codes "COLUMNS" ∷ codes " x r 3" ∷ codes " y r 5"
    ∷ codes "RHS" ∷ codes " r 8" ∷ codes "BOUNDS" ∷ codes " UI x 10" ∷ codes " UI y 10" ∷ codes "ENDATA" ∷ [])

-- x/2 is to be least, where 2x + 3y is at least 4
abbrev pub sample : List ℕ
sample = text_of (codes "ROWS" ∷ codes " N c" ∷ codes " G r" ∷ codes "COLUMNS" ∷ codes " x c 0.5 r 2" ∷ codes " y r 3" ∷ codes "RHS"
    ∷ codes " r 4" ∷ codes "BOUNDS" ∷ codes " UI x 9" ∷ codes " BV y" ∷ codes "ENDATA" ∷ [])

-- one row of this kind with the side 5, and this line of RANGES
abbrev pub ranged : List ℕ → List ℕ → List ℕ
ranged row range = text_of (codes "ROWS" ∷ row ∷ codes "COLUMNS" ∷ codes " x r 1" ∷ codes "RHS" ∷ codes " r 5" ∷ codes "RANGES" ∷ range
    ∷ codes "BOUNDS" ∷ codes " BV x" ∷ codes "ENDATA" ∷ [])

-- a column x between markers, whose line is the sixth, and what follows COLUMNS
abbrev pub priced : List ℕ → List (List ℕ) → List ℕ
priced entry lines = text_of (codes "NAME P" ∷ codes "ROWS" ∷ codes " N c" ∷ codes "COLUMNS" ∷ codes " M1 'MARKER' 'INTORG'" ∷ entry
    ∷ codes " M2 'MARKER' 'INTEND'" ∷ (lines ++ codes "ENDATA" ∷ []))

-- a column in fixed form of this name (eight columns), between markers that the section ends
abbrev pub by_columns : List ℕ → List ℕ
by_columns name = returned_text_of (codes "ROWS" ∷ codes " E  R1" ∷ codes "COLUMNS" ∷ codes "    M         'MARKER'                 'INTORG'"
    ∷ (codes "    " ++ name ++ codes "  R1        71") ∷ codes "RHS" ∷ codes "    S         R1        125" ∷ codes "BOUNDS"
    ∷ (codes " UP B         " ++ name ++ codes "  1") ∷ codes "ENDATA" ∷ [])

-- a market split in fixed form: 71x1 + 94x2 + 86x3 = 125 and 37x1 + 41x2 + 83x3 = 80
abbrev pub split_fixed : List ℕ
split_fixed = returned_text_of (codes "NAME          SPLIT"
    ∷ codes "ROWS"
    ∷ codes " N  COST"
    ∷ codes " E  R1"
    ∷ codes " E  R2"
    ∷ codes "COLUMNS"
    ∷ codes "    MARK0     'MARKER'                 'INTORG'"
    ∷ codes "    X1        R1        71             R2        37"
    ∷ codes "    X2        R1        94             R2        41"
    ∷ codes "    X3        R1        86             R2        83"
    ∷ codes "    MARK1     'MARKER'                 'INTEND'"
    ∷ codes "RHS"
    ∷ codes "    RHS       R1        125            R2        80"
    ∷ codes "BOUNDS"
    ∷ codes " UP BND       X1        1"
    ∷ codes " UP BND       X2        1"
    ∷ codes " UP BND       X3        1"
    ∷ codes "ENDATA"
    ∷ [])

-- the same market split in free form, with a line for each number, and both bounds of each column
abbrev pub split_free : List ℕ
split_free = text_of (codes "NAME SLICER"
    ∷ codes "ROWS" ∷ codes " N COST" ∷ codes " E R1" ∷ codes " E R2"
    ∷ codes "COLUMNS"
    ∷ codes " X1 R1 71" ∷ codes " X1 R2 37" ∷ codes " X2 R1 94" ∷ codes " X2 R2 41" ∷ codes " X3 R1 86" ∷ codes " X3 R2 83"
    ∷ codes "RHS" ∷ codes " R1 125" ∷ codes " R2 80"
    ∷ codes "BOUNDS"
    ∷ codes " LI X1 0" ∷ codes " UI X1 1" ∷ codes " LI X2 0" ∷ codes " UI X2 1" ∷ codes " LI X3 0" ∷ codes " UI X3 1"
    ∷ codes "ENDATA"
    ∷ [])

-- the example in fixed form of docs/FORMATS.md, with a row of this name of seven bytes: x/2 - 3 is to be least, with markers and ranges
abbrev pub small_fixed : List ℕ → List ℕ
small_fixed name = text_of (codes "* a small model in fixed form"
    ∷ codes "NAME          SMALL"
    ∷ codes "ROWS"
    ∷ codes " N  c"
    ∷ (codes " E  " ++ name)
    ∷ codes " L  q"
    ∷ codes "COLUMNS"
    ∷ codes "    M1        'MARKER'                 'INTORG'"
    ∷ (codes "    x         c         0.5            " ++ name ++ codes "   1")
    ∷ codes "    x         q         1"
    ∷ codes "    M2        'MARKER'                 'INTEND'"
    ∷ (codes "    y         " ++ name ++ codes "   1")
    ∷ codes "RHS"
    ∷ (codes "    S         c         3              " ++ name ++ codes "   5")
    ∷ codes "RANGES"
    ∷ (codes "    R         " ++ name ++ codes "   -3             q         4")
    ∷ codes "BOUNDS"
    ∷ codes " UP B         x         9"
    ∷ codes " BV B         y"
    ∷ codes "ENDATA"
    ∷ [])

-- a bound in fixed form without a set name, of a kind that takes no value, with a value that is not read
abbrev pub unnamed_bound : List ℕ
unnamed_bound = text_of (codes "ROWS" ∷ codes " E  R1" ∷ codes "COLUMNS" ∷ codes "    X1        R1        1" ∷ codes "BOUNDS"
    ∷ codes " BV           X1        5" ∷ codes "ENDATA" ∷ [])

-- the item of a column
abbrev pub item : ℕ → ℕ → Item
item column factor = record { column = column; factor = whole (pos factor) }

-- an equation of this name over these items
abbrev pub equation : List ℕ → ℕ → List Item → Row
equation name side items = record { name = name; lo = Some (whole (pos side)); hi = Some (whole (pos side)); items = items }

-- a column from 0 to this bound
abbrev pub column_to : ℕ → List ℕ → Column
column_to hi name = record { name = name; lo = whole (pos 0); hi = whole (pos hi) }

-- two N rows, of which the first is the objective
abbrev pub two_free_rows : List ℕ
two_free_rows = text_of (codes "ROWS" ∷ codes " N c" ∷ codes " N d" ∷ codes "COLUMNS" ∷ codes " x c 1 d 7" ∷ codes "RHS" ∷ codes " S c 3 d 4"
    ∷ codes "BOUNDS" ∷ codes " BV x" ∷ codes "ENDATA" ∷ [])

-- v stands before the markers, w between them, x behind them; y behind an INTORG that the section ends
abbrev pub marked : List ℕ
marked = text_of (codes "ROWS" ∷ codes " N c" ∷ codes "COLUMNS" ∷ codes " v c 1" ∷ codes " A 'MARKER' 'INTORG'" ∷ codes " w c 1"
    ∷ codes " B 'MARKER' 'INTEND'" ∷ codes " x c 1" ∷ codes " A 'MARKER' 'INTORG'" ∷ codes " y c 1" ∷ codes "BOUNDS" ∷ codes " UI v 1"
    ∷ codes "ENDATA" ∷ [])

-- the row r with these sides, and x in it with the factor 1
abbrev pub row_between : Option ℤ → Option ℤ → List Row
row_between lo hi = (record {
  name = codes "r";
  lo = option_map whole lo;
  hi = option_map whole hi;
  items = item 0 1 ∷ [];
}) ∷ []

-- the one column of a model, with its bounds
abbrev pub column_between : List ℕ → ℤ → ℤ → List Column
column_between name lo hi = (record { name = name; lo = whole lo; hi = whole hi }) ∷ []

-- tables with nothing behind COLUMNS
abbrev pub tables_with : List RowLine → List ColumnLine → Tables
tables_with rows columns = record { rows = rows; columns = columns; sides = []; ranges = []; bounds = [] }

-- 256 columns, each with a name of one number and no pairs
abbrev pub many_columns : List ColumnLine
many_columns = map (λ n. entries (record { at = n; label = n ∷ []; pairs = [] })) (range_with_len 0 256)
