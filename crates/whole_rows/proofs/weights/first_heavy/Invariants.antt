use Rattle.std.proofs.Common.{◌^◌, ◌≤◌, take}
use Rattle.std.specs.List.{All}
use Rattle.whole_rows.specs.WholeRows.{reach}
use Rattle.whole_rows.proofs.weights.first_heavy.Given as goal

abbrev pub invariant-loop-j : goal.invariant-loop-j
invariant-loop-j l = All (λ bounds. reach bounds ≤ 2 ^ 96) (take l.j l.columns)
