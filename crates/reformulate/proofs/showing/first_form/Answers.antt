use Rattle.std.proofs.Common.{[], get_or, subst, sym, ◌∙◌, List, ℤ, below_more}
use Rattle.std.proofs.lemmas.List.{get_or-map}
use Rattle.reformulate.proofs.ShowingSteps.{all_zero_form}
use Rattle.reformulate.proofs.TakingSteps.{none_there}
use Rattle.reformulate.specs.Gaps.{forms_of, HasNonzero}
use Rattle.reformulate.specs.declared.equality.Equality.{Equality}
use Rattle.reformulate.proofs.showing.first_form.Goals as goal

pub loop-place-preserved : goal.loop-place-preserved
loop-place-preserved c =
    let items : List ℤ = c.items-factors.result.now in
    let form = c.items-factors.ensures ∙ sym (get_or-map (λ (q : Equality). q.form) c.args.equalities.now c.loop-place.place c.index-equalities-place.result [] c.loop-place-test.true) in
    let none = none_there c.first_nonzero.result c.items-factors.result.now (sym c.if-is_some.ensures) c.first_nonzero.ensures.none in
    below_more (λ k. HasNonzero (get_or (forms_of c.args.equalities.now) k []) → ⊥) _ c.loop-place.invariant (λ h. all_zero_form c.items-factors.result.now none (subst HasNonzero (sym form) h))
