use Rattle.std.proofs.Common.{◌≡◌, take}
use Rattle.reformulate.specs.Charts.{chart_of}
use Rattle.reformulate.specs.Framing.{Reach}
use Rattle.reformulate.specs.Substitutions.{columns_of, IsSubstitution}
use Rattle.reformulate.proofs.frame.Frame.of.Given as goal

abbrev pub invariant-loop-at : goal.invariant-loop-at
invariant-loop-at l = record {
  shaped : IsSubstitution l.frame;
  columns : columns_of l.frame ≡ l.width;
  reach : Reach l.width (take l.at l.equalities) (chart_of l.frame);
}
