-- The columns that presolving keeps, those whose bounds differ, and what the others contribute.
use Rattle.std.specs.Prelude.{◌≡◌, ℕ, suc, Bool, true, false, not, ℤ, pos, List, [], ◌∷◌, length, map, if◌then◌else◌}
use Rattle.std.specs.Ordering.{int_eq}
use Rattle.exact_math.specs.Ring.{integers}
use Rattle.exact_vectors.specs.Vectors.{dot, zeros}
use Rattle.whole_rows.specs.declared.bounds.Bounds.{Bounds}
use Rattle.farkas_rows.specs.Inequalities.{unit}
use Rattle.spaces.specs.Maps.{AffineMap}
use Rattle.spaces.specs.Tables.{rows_in}
use Rattle.presolve_map.specs.Selections.{select, positions}

-- the column's bounds differ
abbrev pub is_open : Bounds → Bool
is_open bounds = not (int_eq bounds.low bounds.high)

-- for each column, whether its bounds differ
abbrev pub open_flags : List Bounds → List Bool
open_flags box = map is_open box

-- the items in the places of the columns that are kept
abbrev pub kept : {A : Type 0} → List Bounds → List A → List A
kept box xs = select (open_flags box) xs

-- the numbers of these columns, in order
abbrev pub kept_columns : List Bounds → List ℕ
kept_columns box = positions 0 (open_flags box)

-- the value of a column that is removed, and 0 for one that is kept
abbrev pub removed_value : Bounds → ℤ
removed_value bounds = if is_open bounds then pos 0 else bounds.low

-- one for each column
abbrev pub removed_values : List Bounds → List ℤ
removed_values box = map removed_value box

-- the part of a sum in the columns that are removed: each has one value
abbrev pub removed_part : List Bounds → List ℤ → ℤ
removed_part box factors = dot integers factors (removed_values box)

-- A line for each column: that of a kept column has a 1 in the place that the column has among the kept ones, from `place` on,
-- and 0 elsewhere; that of a removed column is all 0.
abbrev pub column_lines : ℕ → ℕ → List Bool → List (List ℤ)
column_lines width place [] = []
column_lines width place (true ∷ flags) = unit width place ∷ column_lines width (suc place) flags
column_lines width place (false ∷ flags) = zeros integers width ∷ column_lines width place flags

-- The map from values of the kept columns to values of all: each kept column has its value, and each removed one its only
-- value.
pub record IsColumnMap (box : List Bounds) (placing : AffineMap) : Type 0 where
  pub base : placing.base ≡ removed_values box
  pub width : placing.lines.width ≡ length (kept_columns box)
  pub height : placing.lines.rows ≡ length box
  pub lines : rows_in placing.lines ≡ column_lines (length (kept_columns box)) 0 (open_flags box)
