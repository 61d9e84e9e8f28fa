-- The inequalities of a node: those of the rows, of the box, of the slices that lead to it, and of the end of a split.
use Rattle.std.specs.Prelude.{ℕ, suc, ℤ, pos, ◌-ℤ◌, neg_ℤ, ◌≤ℤ◌, List, [], ◌∷◌, ◌++◌, length, flat_map, Option, Some, None, option_map, slice_index_or, slice_set}
use Rattle.exact_math.specs.Ring.{integers}
use Rattle.exact_vectors.specs.Vectors.{dot, negate, zeros}
use Rattle.whole_rows.specs.declared.bounds.Bounds.{Bounds}
use Rattle.whole_rows.specs.WholeRows.{WholeRow, WholeRows}
use Rattle.farkas_rows.specs.declared.path.Slice.{Slice}

-- the sum of each factor times the value in its place is at most the limit
pub record Inequality : Type 0 where
  pub factors : List ℤ
  pub limit : ℤ

-- the values x meet the inequality
abbrev pub IsMetBy : List ℤ → Inequality → Type 0
IsMetBy x inequality = dot integers inequality.factors x ≤ℤ inequality.limit

-- the form is at most the side
abbrev pub at_most : List ℤ → ℤ → Inequality
at_most form side = record { factors = form; limit = side }

-- the form is at least the side: minus the form is at most minus the side
abbrev pub at_least : List ℤ → ℤ → Inequality
at_least form side = record { factors = negate integers form; limit = neg_ℤ side }

-- the form that is one column's value: 1 there, and 0 in the other columns
abbrev pub unit : ℕ → ℕ → List ℤ
unit columns column = slice_set (zeros integers columns) column (pos 1)

-- the upper side of a row, and then its lower side
abbrev pub row_sides : WholeRow → List (Option Inequality)
row_sides row = option_map (at_most row.factors) row.high ∷ option_map (at_least row.factors) row.low ∷ []

-- the upper bound and then the lower bound of each column, the first of which has the number `column`
abbrev pub column_bounds : ℕ → ℕ → List Bounds → List (Option Inequality)
column_bounds columns column [] = []
column_bounds columns column (bounds ∷ box) = Some (at_most (unit columns column) bounds.high) ∷ Some (at_least (unit columns column) bounds.low) ∷ column_bounds columns (suc column) box

-- a slice is at most its value, and at least
abbrev pub slice_sides : Slice → List (Option Inequality)
slice_sides slice = Some (at_most slice.form slice.beta) ∷ Some (at_least slice.form slice.beta) ∷ []

-- the inequalities by their numbers, from 0: two for each row, two for each column, two for each slice, and that of the end
abbrev pub inequalities : WholeRows → List Slice → Option Inequality → List (Option Inequality)
inequalities rows path end = flat_map row_sides rows.rows ++ (column_bounds (length rows.box) 0 rows.box ++ (flat_map slice_sides path ++ end ∷ []))

-- the inequality of a number; none where a side is absent, or the number is too large
abbrev pub inequality_at : WholeRows → List Slice → Option Inequality → ℕ → Option Inequality
inequality_at rows path end number = slice_index_or (inequalities rows path end) number None

-- the values x have a smaller cut value than `value`
abbrev pub cut_inequality : WholeRows → ℤ → Inequality
cut_inequality rows value = at_most rows.cost (value -ℤ pos 1)

-- below the slices of a split whose first one has the value `lo`
abbrev pub below : List ℤ → ℤ → Inequality
below form lo = at_most form (lo -ℤ pos 1)

-- above the slices of a split, from the value `from` on
abbrev pub above : List ℤ → ℤ → Inequality
above form from = at_least form from
