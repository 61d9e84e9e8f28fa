use Rattle.std.proofs.Common.{◌≡◌, ◌^◌, ◌≤◌, take}
use Rattle.whole_rows.specs.WholeRows.{span}
use Rattle.whole_rows.proofs.weights.span_of.Given as goal

abbrev pub invariant-loop-j : goal.invariant-loop-j
invariant-loop-j l = record { value : l.sum ≡ span (take l.j l.factors) l.columns; light : l.sum ≤ 2 ^ 96 }
