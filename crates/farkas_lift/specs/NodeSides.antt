-- The inequalities of a node over its work columns that are none of its equalities, in order.
use Rattle.std.specs.Prelude.{ℕ, ◌<◌, ℤ, pos, ◌-ℤ◌, Bool, true, false, List, [], ◌∷◌, ◌++◌, length, Option, Some, None, IsSome, unwrap_or, ⊤}
use Rattle.whole_rows.specs.WholeRows.{WholeRow, row_at, bounds_at}
use Rattle.farkas_rows.specs.Inequalities.{Inequality, at_most, at_least, unit}
use Rattle.presolve_map.specs.ReducedRows.{ReducedRows}
use Rattle.farkas_lift.specs.Joined.{joined}
use Rattle.farkas_lift.specs.NodeEqualities.{common_side}
use Rattle.farkas_lift.specs.declared.side.NodeSide.{NodeSide}
use Rattle.farkas_lift.specs.declared.side.NodeSide.TheVariants.{RowAtMost, RowAtLeast, ColumnAtMost, ColumnAtLeast, Cut}

-- this side, where there is a value for it
abbrev pub side_with : NodeSide → Option ℤ → List NodeSide
side_with side None = []
side_with side (Some value) = side ∷ []

-- the upper and then the lower side of row `i`, where they are there; none where they are equal
abbrev pub sides_unless : Option ℤ → WholeRow → ℕ → List NodeSide
sides_unless None row i = side_with (RowAtMost i) row.high ++ side_with (RowAtLeast i) row.low
sides_unless (Some side) row i = []

abbrev pub row_sides : ReducedRows → ℕ → List NodeSide
row_sides rows i = let row = row_at rows.rows i in sides_unless (common_side row.low row.high) row i

-- the upper and then the lower bound of column `j`
abbrev pub column_sides : ℕ → List NodeSide
column_sides j = ColumnAtMost j ∷ ColumnAtLeast j ∷ []

-- the cut, where there is one
abbrev pub cut_side : Bool → List NodeSide
cut_side false = []
cut_side true = Cut ∷ []

-- The rows with different sides in order, each by its upper and then its lower side, where it is there; the columns in order,
-- each by its upper and then its lower bound; the cut, where there is one.
abbrev pub node_sides : ReducedRows → Bool → List NodeSide
node_sides rows has_cut = joined (row_sides rows) (length rows.rows.rows) ++ (joined column_sides (length rows.rows.box) ++ cut_side has_cut)

-- The inequality of a side. The cut has the value `value`; the columns that are not kept contribute their part to its cost.
abbrev pub inequality_of : ReducedRows → ℤ → NodeSide → Inequality
inequality_of rows value (RowAtMost i) = let row = row_at rows.rows i in at_most row.factors (unwrap_or row.high (pos 0))
inequality_of rows value (RowAtLeast i) = let row = row_at rows.rows i in at_least row.factors (unwrap_or row.low (pos 0))
inequality_of rows value (ColumnAtMost j) = at_most (unit (length rows.rows.box) j) (bounds_at rows.rows j).high
inequality_of rows value (ColumnAtLeast j) = at_least (unit (length rows.rows.box) j) (bounds_at rows.rows j).low
inequality_of rows value Cut = at_most rows.rows.cost ((value -ℤ pos 1) -ℤ rows.cost_constant)

-- its left side, which a cut's value has no part in
abbrev pub side_form : ReducedRows → NodeSide → List ℤ
side_form rows side = (inequality_of rows (pos 0) side).factors

-- the row or the column is there, and the row has this side
abbrev pub IsThere : ReducedRows → NodeSide → Type 0
IsThere rows (RowAtMost i) = (i < length rows.rows.rows) × IsSome (row_at rows.rows i).high
IsThere rows (RowAtLeast i) = (i < length rows.rows.rows) × IsSome (row_at rows.rows i).low
IsThere rows (ColumnAtMost j) = j < length rows.rows.box
IsThere rows (ColumnAtLeast j) = j < length rows.rows.box
IsThere rows Cut = ⊤
