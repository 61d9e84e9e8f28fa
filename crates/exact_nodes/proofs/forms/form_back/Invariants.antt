use Rattle.std.proofs.Common.{◌≡◌, ℕ, ◌<◌, pos, [], ◌++◌, take}
use Rattle.exact_math.specs.Ring.{integers}
use Rattle.exact_vectors.specs.Matrices.{column, combination}
use Rattle.exact_vectors.specs.Range.{StaysInRange}
use Rattle.spaces.specs.Tables.{rows_in}
use Rattle.exact_nodes.proofs.forms.form_back.Given as goal

abbrev pub invariant-loop-j : goal.invariant-loop-j
invariant-loop-j l = record {
  done : l.items.items ≡ [] ++ take l.j (combination integers l.back.width l.form (rows_in l.back));
  in_range : (k : ℕ) → k < l.j → StaysInRange (pos 0) l.form (column integers (rows_in l.back) k);
}
