use Rattle.std.proofs.Common.{take}
use Rattle.std.specs.List.{All}
use Rattle.node_point.specs.Checks.{TellsRow}
use Rattle.node_point.proofs.parts.is_in_rows.Given as goal

abbrev pub invariant-loop-i : goal.invariant-loop-i
invariant-loop-i l = All (TellsRow l.denominator l.numerators) (take l.i l.rows.rows)
