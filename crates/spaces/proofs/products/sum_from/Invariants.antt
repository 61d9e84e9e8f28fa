use Rattle.std.proofs.Common.{◌≡◌, ◌↔◌, ◌+ℤ◌}
use Rattle.std.specs.Iterator.Adapters.{zip_first, zip_second}
use Rattle.std.specs.Slice.Iter.{iter_rest}
use Rattle.exact_math.specs.Ring.{integers}
use Rattle.exact_vectors.specs.Range.{StaysInRange}
use Rattle.exact_vectors.specs.Vectors.{dot}
use Rattle.spaces.proofs.products.sum_from.Given as goal

abbrev pub invariant-loop-p : goal.invariant-loop-p
invariant-loop-p l = record {
  same_range : StaysInRange l.fn.base l.a l.x ↔ StaysInRange l.sum (iter_rest (zip_first l.p-iterator)) (iter_rest (zip_second l.p-iterator));
  total : l.sum +ℤ dot integers (iter_rest (zip_first l.p-iterator)) (iter_rest (zip_second l.p-iterator)) ≡ l.fn.base +ℤ dot integers l.a l.x;
}
