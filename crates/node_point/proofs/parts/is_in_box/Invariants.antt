use Rattle.std.proofs.Common.{◌↔◌, drop}
use Rattle.std.specs.List.{AllZip}
use Rattle.node_point.specs.Checks.{TellsColumn}
use Rattle.node_point.proofs.parts.is_in_box.Given as goal

abbrev pub invariant-loop-j : goal.invariant-loop-j
invariant-loop-j l = AllZip (TellsColumn l.denominator) (drop l.j l.bounds) (drop l.j l.numerators) ↔ AllZip (TellsColumn l.denominator) l.bounds l.numerators
