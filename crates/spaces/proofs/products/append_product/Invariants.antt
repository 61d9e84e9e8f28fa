use Rattle.std.proofs.Common.{◌≡◌, ℕ, ◌<◌, pos, ◌++◌, take}
use Rattle.exact_math.specs.Ring.{integers}
use Rattle.exact_vectors.specs.Matrices.{column, combination}
use Rattle.exact_vectors.specs.Range.{StaysInRange}
use Rattle.spaces.specs.Tables.{rows_in}
use Rattle.spaces.proofs.products.append_product.Given as goal

abbrev pub invariant-loop-j : goal.invariant-loop-j
invariant-loop-j g l = record {
  done : l.items.items ≡ l.fn.items.items ++ take l.j (combination integers l.lines.width l.factors (rows_in l.lines));
  in_range : (k : ℕ) → k < l.j → StaysInRange (pos 0) l.factors (column integers (rows_in l.lines) k);
}
