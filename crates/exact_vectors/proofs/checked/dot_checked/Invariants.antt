use Rattle.std.proofs.Common.{◌≡◌, ◌↔◌, pos, ◌+ℤ◌}
use Rattle.std.specs.Iterator.Adapters.{zip_first, zip_second}
use Rattle.std.specs.Slice.Iter.{iter_rest}
use Rattle.exact_math.specs.Ring.{integers}
use Rattle.exact_vectors.proofs.checked.dot_checked.Given as goal
use Rattle.exact_vectors.specs.Range.{StaysInRange}
use Rattle.exact_vectors.specs.Vectors.{dot}

abbrev pub invariant-loop-p : goal.invariant-loop-p
invariant-loop-p l = record {
  same_range : StaysInRange (pos 0) l.a l.x ↔ StaysInRange l.sum (iter_rest (zip_first l.p-iterator)) (iter_rest (zip_second l.p-iterator));
  total : l.sum +ℤ dot integers (iter_rest (zip_first l.p-iterator)) (iter_rest (zip_second l.p-iterator)) ≡ dot integers l.a l.x;
}
