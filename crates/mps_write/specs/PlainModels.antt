-- Plain models: those that have a canonical text. Their numbers are whole and of at most 97 bits, and their names can
-- stand in a line of free MPS (the successors of IBM's MPSX).
use Rattle.std.specs.Prelude.{◌≢◌, ℕ, ◌^◌, ◌<◌, ◌≤◌, pos, List, length, All, AllPairs, Option, Some, None, nat_abs, codes}
use Rattle.exact_math.specs.Rational.{ℚ, ◌≤ℚ◌, IsWhole}
use Rattle.int_model.specs.declared.model.Item.{Item}
use Rattle.int_model.specs.declared.model.Column.{Column}
use Rattle.int_model.specs.declared.model.Row.{Row}
use Rattle.int_model.specs.declared.model.Model.{Model}
use Rattle.int_model.specs.IntegerRows.{IsDistinctBelow}

-- a whole number, at most 2^96 in size
pub record IsPlainNumber (q : ℚ) : Type 0 where
  pub is_whole : IsWhole q
  pub size : nat_abs q.num ≤ 2 ^ 96

-- printed ASCII other than the blank
abbrev pub IsNameByte : ℕ → Type 0
IsNameByte byte = (33 ≤ byte) × (byte ≤ 126)

-- 1 to 100 printed bytes
pub record IsPlainName (name : List ℕ) : Type 0 where
  pub some : 0 < length name
  pub few : length name ≤ 100
  pub printed : All IsNameByte name

-- a term with a factor other than 0
pub record IsPlainItem (item : Item) : Type 0 where
  pub number : IsPlainNumber item.factor
  pub some : item.factor.num ≢ pos 0

-- terms in rising order of the n columns
pub record ArePlainItems (n : ℕ) (items : List Item) : Type 0 where
  pub distinct : IsDistinctBelow n items
  pub terms : All IsPlainItem items

-- at least one side, and two sides do not cross
abbrev pub ArePlainSides : Option ℚ → Option ℚ → Type 0
ArePlainSides None None = ⊥
ArePlainSides None (Some hi) = IsPlainNumber hi
ArePlainSides (Some lo) None = IsPlainNumber lo
ArePlainSides (Some lo) (Some hi) = IsPlainNumber lo × IsPlainNumber hi × (lo ≤ℚ hi)

-- the bounds of a column may cross
pub record IsPlainColumn (column : Column) : Type 0 where
  pub name : IsPlainName column.name
  pub lo : IsPlainNumber column.lo
  pub hi : IsPlainNumber column.hi

-- a row over n columns, whose name is neither that of the objective nor the word of a marker line
pub record IsPlainRow (n : ℕ) (row : Row) : Type 0 where
  pub name : IsPlainName row.name
  pub no_objective : row.name ≢ codes "COST"
  pub no_marker : row.name ≢ codes "'MARKER'"
  pub sides : ArePlainSides row.lo row.hi
  pub items : ArePlainItems n row.items

-- at most 256 columns and 256 rows, all plain, with names of their own
pub record IsPlain (model : Model) : Type 0 where
  pub few_columns : length model.columns ≤ 256
  pub few_rows : length model.rows ≤ 256
  pub columns : All IsPlainColumn model.columns
  pub rows : All (IsPlainRow (length model.columns)) model.rows
  pub column_names : AllPairs (λ (a b : Column). a.name ≢ b.name) model.columns
  pub row_names : AllPairs (λ (a b : Row). a.name ≢ b.name) model.rows
  pub objective : ArePlainItems (length model.columns) model.objective
  pub constant : IsPlainNumber model.constant
