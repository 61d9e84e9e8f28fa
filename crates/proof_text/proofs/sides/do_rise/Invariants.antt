use Rattle.std.proofs.Common.{ℕ, ◌+◌, ◌<◌, map, get_or}
use Rattle.farkas_rows.specs.declared.line.Use.{Use}
use Rattle.proof_text.proofs.sides.do_rise.Given as goal

abbrev pub invariant-loop-i : goal.invariant-loop-i
invariant-loop-i l = (k : ℕ) → k + 1 < l.i → get_or (map (λ (item : Use). item.index) l.items) k 0 < get_or (map (λ (item : Use). item.index) l.items) (k + 1) 0
