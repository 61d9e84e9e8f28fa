use Rattle.std.proofs.Common.{◌≡◌, ◌^◌, ◌≤◌, take}
use Rattle.std.specs.Prelude.{sum_by, unsigned_abs}
use Rattle.farkas_rows.proofs.side.size_of.Given as goal

abbrev pub invariant-loop-factor : goal.invariant-loop-factor
invariant-loop-factor l = (l.size ≡ sum_by unsigned_abs (take l.factor-index l.form)) × (l.size ≤ 2 ^ 126)
