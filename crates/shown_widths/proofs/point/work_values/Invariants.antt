use Rattle.std.proofs.Common.{◌≡◌, ◌∷◌, [], get_or, pos}
use Rattle.farkas_lift.specs.Joined.{joined}
use Rattle.shown_widths.proofs.point.work_values.Given as goal

abbrev pub invariant-loop-j : goal.invariant-loop-j
invariant-loop-j l = l.kept.items ≡ joined (λ j. get_or l.values (get_or l.work.column_numbers j 0) (pos 0) ∷ []) l.j
