use Rattle.std.proofs.Common.{◌≡◌, ◌++◌, length, map, take, All}
use Rattle.whole_rows.specs.WholeRows.{row_at}
use Rattle.farkas_lift.specs.Joined.{joined}
use Rattle.farkas_lift.specs.NodeEqualities.{row_equality, work_slice}
use Rattle.farkas_lift.proofs.equalities.node_equalities.Given as goal

abbrev pub invariant-loop-i : goal.invariant-loop-i
invariant-loop-i l = record {
  value : l.equalities ≡ joined (λ i. row_equality (row_at l.rows.rows i)) l.i;
  dense : All (λ equality. length equality.form ≡ length l.rows.rows.box) l.equalities;
}

abbrev pub invariant-loop-slice : goal.invariant-loop-slice
invariant-loop-slice l = record {
  value : l.equalities ≡ joined (λ i. row_equality (row_at l.rows.rows i)) (length l.rows.rows.rows) ++ map (work_slice l.rows) (take l.slice-index l.slice-items);
  dense : All (λ equality. length equality.form ≡ length l.rows.rows.box) l.equalities;
}
