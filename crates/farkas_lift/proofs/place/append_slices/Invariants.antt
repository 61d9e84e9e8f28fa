use Rattle.std.proofs.Common.{◌≡◌, ◌+◌, ◌*◌, ◌++◌, ◌∷◌, []}
use Rattle.farkas_lift.specs.Joined.{joined}
use Rattle.farkas_lift.specs.declared.place.Place.TheVariants.{Equality}
use Rattle.farkas_lift.proofs.place.append_slices.Given as goal

abbrev pub invariant-loop-k : goal.invariant-loop-k
invariant-loop-k l = l.places.items ≡ l.fn.places.items ++ joined (λ k. Equality (2 * (l.before + k)) ∷ []) l.k
