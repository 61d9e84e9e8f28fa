use Rattle.std.proofs.Common.{◌≡◌, ◌∷◌, [], get_or, pos}
use Rattle.farkas_lift.specs.Joined.{joined}
use Rattle.farkas_lift.proofs.equalities.over_work.Given as goal

abbrev pub invariant-loop-j : goal.invariant-loop-j
invariant-loop-j l = l.factors.items ≡ joined (λ j. get_or l.slice.form (get_or l.rows.column_numbers j 0) (pos 0) ∷ []) l.j
