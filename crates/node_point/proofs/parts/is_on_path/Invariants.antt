use Rattle.std.proofs.Common.{take}
use Rattle.std.specs.List.{All}
use Rattle.node_point.specs.Checks.{TellsSlice}
use Rattle.node_point.proofs.parts.is_on_path.Given as goal

abbrev pub invariant-loop-slice : goal.invariant-loop-slice
invariant-loop-slice l = All (TellsSlice l.denominator l.numerators) (take l.slice-index l.slices)
