-- Whole rows that stand one after another in one list.
use Rattle.std.specs.Prelude.{◌≡◌, ℕ, ◌*◌, ℤ, List, [], ◌∷◌, length, map, take, drop}
use Rattle.whole_rows.specs.declared.bounds.Bounds.{Bounds}
use Rattle.whole_rows.specs.declared.sides.Sides.{Sides}
use Rattle.whole_rows.specs.WholeRows.{WholeRow, WholeRows, weight, IsWithinLimits}

-- the rows whose factors are those of the list, n for each pair of sides
abbrev pub rows_of : ℕ → List ℤ → List Sides → List WholeRow
rows_of n factors [] = []
rows_of n factors (sides ∷ rest) = record { factors = take n factors; low = sides.low; high = sides.high } ∷ rows_of n (drop n factors) rest

-- the bounds, the rows with a factor for each of them, and the costs
abbrev pub whole_rows : List Bounds → List ℤ → List Sides → List ℤ → WholeRows
whole_rows box factors sides cost = record { box = box; rows = rows_of (length box) factors sides; cost = cost }

-- the list has a factor for each row and column, the weights are those of the rows, and the limits hold
pub record IsFlat (box : List Bounds) (factors : List ℤ) (sides : List Sides) (cost : List ℤ) : Type 0 where
  pub filled : length factors ≡ length sides * length box
  pub weights : map (λ (side : Sides). side.weight) sides ≡ map (weight box) (rows_of (length box) factors sides)
  pub limits : IsWithinLimits (whole_rows box factors sides cost)
