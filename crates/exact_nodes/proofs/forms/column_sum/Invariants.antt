use Rattle.std.proofs.Common.{◌≡◌, ◌↔◌, pos, ◌+ℤ◌, drop}
use Rattle.exact_math.specs.Ring.{integers}
use Rattle.exact_vectors.specs.Matrices.{column}
use Rattle.exact_vectors.specs.Range.{StaysInRange}
use Rattle.exact_vectors.specs.Vectors.{dot}
use Rattle.spaces.specs.Tables.{rows_in}
use Rattle.exact_nodes.proofs.forms.column_sum.Given as goal

abbrev pub invariant-loop-k : goal.invariant-loop-k
invariant-loop-k l = record {
  same_range : StaysInRange (pos 0) l.factors (column integers (rows_in l.lines) l.place) ↔ StaysInRange l.sum (drop l.k l.factors) (drop l.k (column integers (rows_in l.lines) l.place));
  total : l.sum +ℤ dot integers (drop l.k l.factors) (drop l.k (column integers (rows_in l.lines) l.place)) ≡ dot integers l.factors (column integers (rows_in l.lines) l.place);
}
