-- Forms on the columns that are kept, as forms on all columns.
use Rattle.std.specs.Prelude.{◌≡◌, ◌⊎◌, ℕ, ◌<◌, ℤ, List}
use Rattle.exact_math.specs.Ring.{integers}
use Rattle.exact_vectors.specs.Vectors.{zeros}
use Rattle.exact_vectors.specs.Matrices.{times_vector}
use Rattle.whole_rows.specs.declared.bounds.Bounds.{Bounds}
use Rattle.farkas_rows.specs.Inequalities.{unit}
use Rattle.spaces.specs.Maps.{AffineMap}
use Rattle.spaces.specs.Tables.{rows_in}
use Rattle.presolve_map.specs.Columns.{IsColumnMap}

-- each column of the map's first space is one column of its second, as it is of each map that presolving gives
abbrev pub MovesColumns : AffineMap → Type 0
MovesColumns placing = (box : List Bounds) × IsColumnMap box placing

-- the line of a column: all 0, or 1 at one place and 0 elsewhere
abbrev pub IsColumnLine : ℕ → List ℤ → Type 0
IsColumnLine width line = (line ≡ zeros integers width) ⊎ ((place : ℕ) × (place < width) × (line ≡ unit width place))

-- for each column the item of the form at the place where the column's line has its 1, and 0 where the line is all 0
abbrev pub lifted_form : AffineMap → List ℤ → List ℤ
lifted_form placing form = times_vector integers (rows_in placing.lines) form
