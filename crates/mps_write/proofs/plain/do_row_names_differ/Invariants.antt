use Rattle.std.proofs.Common.{◌≢◌, take}
use Rattle.std.specs.List.{AllPairs}
use Rattle.int_model.specs.declared.model.Row.{Row}
use Rattle.mps_write.proofs.plain.do_row_names_differ.Given as goal

-- the names so far differ
abbrev pub invariant-loop-place : goal.invariant-loop-place
invariant-loop-place l = AllPairs (λ (a b : Row). a.name ≢ b.name) (take l.place l.rows)
