use Rattle.std.proofs.Common.{◌≡◌, ℕ, ◌<◌, pos, get_or}
use Rattle.std.specs.List.{remove}
use Rattle.reformulate.proofs.matrices.copy_without.Given as goal

abbrev pub invariant-loop-k : goal.invariant-loop-k
invariant-loop-k l = (m : ℕ) → m < l.k → get_or l.items m (pos 0) ≡ get_or (remove l.row l.place) m (pos 0)
