-- Reduced rows as the code keeps them: their left sides as whole rows without sides, and the sides beside them.
use Rattle.std.specs.Prelude.{◌≡◌, ℕ, ◌^◌, ◌≤◌, ℤ, List, [], ◌∷◌, ◌++◌, length, map, All}
use Rattle.whole_rows.specs.WholeRows.{WholeRow, WholeRows, size_of_side}
use Rattle.presolve_map.specs.declared.sides.WorkSides.{WorkSides}
use Rattle.presolve_map.specs.ReducedRows.{ReducedRows}

-- the row with these sides
abbrev pub with_sides : WholeRow → WorkSides → WholeRow
with_sides row sides = record { factors = row.factors; low = sides.low; high = sides.high }

-- each row with its sides
abbrev pub each_with_sides : List WholeRow → List WorkSides → List WholeRow
each_with_sides [] sides = []
each_with_sides (row ∷ rows) [] = []
each_with_sides (row ∷ rows) (s ∷ sides) = with_sides row s ∷ each_with_sides rows sides

-- the rows, with the numbers of the model's rows and columns
abbrev pub reduced_of : WholeRows → List WorkSides → List ℕ → ℤ → ReducedRows
reduced_of left sides columns constant = record {
  rows = record left { rows = each_with_sides left.rows sides };
  row_numbers = map (λ (s : WorkSides). s.number) sides;
  column_numbers = columns;
  cost_constant = constant;
}

-- sides of at most 2 to the power 97 in size
pub record IsSmallSides (sides : WorkSides) : Type 0 where
  pub low : size_of_side sides.low ≤ 2 ^ 97
  pub high : size_of_side sides.high ≤ 2 ^ 97

-- each row has its sides, and each column its number
pub record IsWork (left : WholeRows) (sides : List WorkSides) (columns : List ℕ) : Type 0 where
  pub sided : length sides ≡ length left.rows
  pub numbered : length columns ≡ length left.box
  pub small : All IsSmallSides sides

-- one row more, at the end, with its number
abbrev pub with_work_row : ReducedRows → WholeRow → ℕ → ReducedRows
with_work_row work row number = record work { rows = record work.rows { rows = work.rows.rows ++ row ∷ [] }; row_numbers = work.row_numbers ++ number ∷ [] }
