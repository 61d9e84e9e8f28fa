use Rattle.std.proofs.Common.{◌≡◌, ℕ, ◌<◌, pos, get_or, take}
use Rattle.exact_math.specs.Ring.{integers}
use Rattle.exact_vectors.specs.Matrices.{times_vector}
use Rattle.exact_vectors.specs.Range.{StaysInRange}
use Rattle.exact_vectors.specs.Vectors.{add}
use Rattle.spaces.specs.Tables.{row_at, rows_in}
use Rattle.spaces.proofs.products.image_items.Given as goal

abbrev pub invariant-loop-i : goal.invariant-loop-i
invariant-loop-i g l = record {
  done : l.items.items ≡ take l.i (add integers l.base (times_vector integers (rows_in l.lines) l.x));
  in_range : (k : ℕ) → k < l.i → StaysInRange (get_or l.base k (pos 0)) (row_at l.lines k) l.x;
}
