use Rattle.std.proofs.Common.{◌≡◌, ℕ, ◌*◌, ◌<◌, length, take}
use Rattle.exact_math.specs.Ring.{integers}
use Rattle.exact_vectors.specs.Matrices.{rows_of, times_matrix}
use Rattle.spaces.specs.Maps.{ProductStays}
use Rattle.spaces.specs.Tables.{row_at, rows_in}
use Rattle.spaces.proofs.products.product_items.Given as goal

abbrev pub invariant-loop-i : goal.invariant-loop-i
invariant-loop-i g l = record {
  size : length l.items.items ≡ l.i * l.right.width;
  done : rows_of l.right.width l.i l.items.items ≡ take l.i (times_matrix integers l.right.width (rows_in l.left) (rows_in l.right));
  in_range : (k : ℕ) → k < l.i → ProductStays (row_at l.left k) l.right;
}
