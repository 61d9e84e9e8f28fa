use Rattle.std.proofs.Common.{◌≡◌, ℕ, ◌<◌, pos, get_or}
use Rattle.exact_math.specs.Ring.{integers}
use Rattle.exact_vectors.specs.Matrices.{column}
use Rattle.spaces.specs.Tables.{rows_in}
use Rattle.reformulate.proofs.matrices.copy_column.Given as goal

abbrev pub invariant-loop-k : goal.invariant-loop-k
invariant-loop-k g l = (m : ℕ) → m < l.k → get_or l.items m (pos 0) ≡ get_or (column integers (rows_in l.grid) l.place) m (pos 0)
