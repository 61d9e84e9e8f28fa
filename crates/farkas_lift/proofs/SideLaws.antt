-- The inequalities of a node that are none of its equalities: that they are there, and how many.
use Rattle.std.proofs.Common.{ℕ, ◌+◌, ◌*◌, ◌<◌, ◌≤◌, Bool, true, false, ℤ, List, [], ◌∷◌, ◌++◌, length, refl, arith, All, length-append}
use Rattle.std.specs.Prelude.{Option, Some, None, IsSome}
use Rattle.std.proofs.lemmas.List.Elements.{All-nil, All-cons, All-append}
use Rattle.whole_rows.specs.WholeRows.{WholeRow, row_at}
use Rattle.presolve_map.specs.ReducedRows.{ReducedRows}
use Rattle.farkas_lift.specs.Joined.{joined}
use Rattle.farkas_lift.specs.NodeEqualities.{common_side, equality_with, row_equality}
use Rattle.farkas_lift.specs.NodeSides.{side_with, sides_unless, row_sides, column_sides, cut_side, node_sides, IsThere}
use Rattle.farkas_lift.specs.declared.side.NodeSide.{NodeSide}
use Rattle.farkas_lift.specs.declared.side.NodeSide.TheVariants.{RowAtMost, RowAtLeast, ColumnAtMost, ColumnAtLeast, Cut}
use Rattle.farkas_lift.proofs.JoinedLaws.{joined-All, joined-few}

-- ---- the sides that are taken out of the list are there

side_with-each : (P : NodeSide → Type 0) (side : NodeSide) (o : Option ℤ) → (IsSome o → P side) → All P (side_with side o)
side_with-each P side None h = All-nil P
side_with-each P side (Some v) h = All-cons P side [] (h refl) (All-nil P)

sides_unless-each : (rows : ReducedRows) (o : Option ℤ) (i : ℕ) → i < length rows.rows.rows → All (IsThere rows) (sides_unless o (row_at rows.rows i) i)
sides_unless-each rows None i h =
    All-append (IsThere rows) (side_with (RowAtMost i) (row_at rows.rows i).high) (side_with (RowAtLeast i) (row_at rows.rows i).low)
    (side_with-each (IsThere rows) (RowAtMost i) (row_at rows.rows i).high (λ is. (h, is))) (side_with-each (IsThere rows) (RowAtLeast i) (row_at rows.rows i).low (λ is. (h, is)))
sides_unless-each rows (Some side) i h = All-nil (IsThere rows)

cut_side-each : (rows : ReducedRows) (has_cut : Bool) → All (IsThere rows) (cut_side has_cut)
cut_side-each rows false = All-nil (IsThere rows)
cut_side-each rows true = All-cons (IsThere rows) Cut [] tt (All-nil (IsThere rows))

pub sides-there : (rows : ReducedRows) (has_cut : Bool) → All (IsThere rows) (node_sides rows has_cut)
sides-there rows has_cut =
    All-append (IsThere rows) (joined (row_sides rows) (length rows.rows.rows)) (joined column_sides (length rows.rows.box) ++ cut_side has_cut)
    (joined-All (IsThere rows) (row_sides rows) (length rows.rows.rows) (λ i lt. sides_unless-each rows (common_side (row_at rows.rows i).low (row_at rows.rows i).high) i lt))
    (All-append (IsThere rows) (joined column_sides (length rows.rows.box)) (cut_side has_cut)
    (joined-All (IsThere rows) column_sides (length rows.rows.box) (λ j lt. All-cons (IsThere rows) (ColumnAtMost j) (ColumnAtLeast j ∷ []) lt (All-cons (IsThere rows) (ColumnAtLeast j) [] lt (All-nil (IsThere rows)))))
    (cut_side-each rows has_cut))

-- ---- how many

side_with-few : (side : NodeSide) (o : Option ℤ) → length (side_with side o) ≤ 1
side_with-few side None = omega arith
side_with-few side (Some v) = omega arith

sides_unless-few : (o : Option ℤ) (row : WholeRow) (i : ℕ) → length (sides_unless o row i) ≤ 2
sides_unless-few None row i = omega (arith, length-append (side_with (RowAtMost i) row.high) (side_with (RowAtLeast i) row.low), side_with-few (RowAtMost i) row.high, side_with-few (RowAtLeast i) row.low)
sides_unless-few (Some side) row i = omega arith

cut_side-few : (has_cut : Bool) → length (cut_side has_cut) ≤ 1
cut_side-few false = omega arith
cut_side-few true = omega arith

pub sides-few : (rows : ReducedRows) (has_cut : Bool) → length (node_sides rows has_cut) ≤ 2 * length rows.rows.rows + 2 * length rows.rows.box + 1
sides-few rows has_cut =
    omega (
      arith,
      length-append (joined (row_sides rows) (length rows.rows.rows)) (joined column_sides (length rows.rows.box) ++ cut_side has_cut),
      length-append (joined column_sides (length rows.rows.box)) (cut_side has_cut),
      joined-few (row_sides rows) (length rows.rows.rows) 2 (λ i. sides_unless-few (common_side (row_at rows.rows i).low (row_at rows.rows i).high) (row_at rows.rows i) i),
      joined-few column_sides (length rows.rows.box) 2 (λ j. omega arith),
      cut_side-few has_cut,
    )

equality_with-few : (factors : List ℤ) (o : Option ℤ) → length (equality_with factors o) ≤ 1
equality_with-few factors None = omega arith
equality_with-few factors (Some side) = omega arith

pub row_equalities-few : (rows : ReducedRows) → length (joined (λ i. row_equality (row_at rows.rows i)) (length rows.rows.rows)) ≤ length rows.rows.rows
row_equalities-few rows = omega (arith, joined-few (λ i. row_equality (row_at rows.rows i)) (length rows.rows.rows) 1 (λ i. equality_with-few (row_at rows.rows i).factors (common_side (row_at rows.rows i).low (row_at rows.rows i).high)))
