use Rattle.std.proofs.Common.{ℕ, ◌<◌, [], get_or}
use Rattle.reformulate.specs.Gaps.{forms_of, HasNonzero}
use Rattle.reformulate.proofs.showing.first_form.Given as goal

abbrev pub invariant-loop-place : goal.invariant-loop-place
invariant-loop-place l = (k : ℕ) → k < l.place → HasNonzero (get_or (forms_of l.equalities) k []) → ⊥
