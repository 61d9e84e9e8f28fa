use Rattle.std.proofs.Common.{◌↔◌, drop}
use Rattle.std.specs.List.{AllZip}
use Rattle.node_regions.specs.NodeFrames.{IsKeptFactor}
use Rattle.slice_branch.proofs.check.is_kept_form.Given as goal

abbrev pub invariant-loop-j : goal.invariant-loop-j
invariant-loop-j l = AllZip IsKeptFactor (drop l.j l.bounds) (drop l.j l.form) ↔ AllZip IsKeptFactor l.bounds l.form
