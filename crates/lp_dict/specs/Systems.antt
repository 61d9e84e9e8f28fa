-- Systems of inequalities with whole entries, and their rational points.
use Rattle.std.specs.Prelude.{◌≡◌, ℕ, ℤ, List, [], ◌∷◌, length, map}
use Rattle.std.specs.List.{AllZip}
use Rattle.exact_math.specs.Rational.{ℚ, whole, ◌≤ℚ◌, ◌-ℚ◌}
use Rattle.exact_math.specs.RationalRing.{rationals}
use Rattle.exact_vectors.specs.Vectors.{dot}
use Rattle.exact_vectors.specs.Matrices.{rows_of, times_vector}
use Rattle.spaces.specs.Tables.{Table}

-- whole numbers as rational numbers
abbrev pub wholes : List ℤ → List ℚ
wholes v = map whole v

-- each row of a matrix of whole numbers, as rational numbers
abbrev pub whole_rows : List (List ℤ) → List (List ℚ)
whole_rows rows = map wholes rows

-- the rows G of the system `G*y <= h`
abbrev pub left_sides : Table ℤ → List (List ℚ)
left_sides rows = whole_rows (rows_of rows.width rows.rows rows.items)

-- how far the point `y` stays below each limit: `h - G*y`, row by row
abbrev pub slacks : List (List ℚ) → List ℚ → List ℚ → List ℚ
slacks [] limits y = []
slacks (row ∷ rows) [] y = []
slacks (row ∷ rows) (h ∷ limits) y = (h -ℚ dot rationals row y) ∷ slacks rows limits y

-- `y` has `n` coordinates and meets the system: no slack is below 0
pub record IsPoint (n : ℕ) (rows : List (List ℚ)) (limits y : List ℚ) : Type 0 where
  pub coordinates : length y ≡ n
  pub met : AllZip ◌≤ℚ◌ (times_vector rationals rows y) limits
