use Rattle.std.proofs.Common.{◌≡◌, take}
use Rattle.proof_tree.proofs.judge.copy_of.Given as goal

abbrev pub invariant-loop-slice : goal.invariant-loop-slice
invariant-loop-slice l = (l.slice-items ≡ l.path) × (l.copy ≡ take l.slice-index l.path)
