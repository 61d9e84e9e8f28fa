use Rattle.std.proofs.Common.{nat_abs, ◌<◌, ◌^◌, ◌∙◌, ap, sym, subst, FitsSigned}
use Rattle.std.specs.Int.{w128}
use Rattle.std.proofs.lemmas.Int.{to_z-of_z}
use Rattle.frac128.proofs.Terms.{terms_of, fits_from_narrow}
use Rattle.frac128.proofs.frac.Frac.size.Goals as goal

pub returns-clause-value : goal.returns-clause-value
returns-clause-value c =
    let fits : FitsSigned w128 c.self.inside.num = fits_from_narrow _ c.self.invariant.num_narrow in
    simp to_z-of_z at c.unsigned_abs.ensures.value ∙ ap nat_abs (sym (terms_of c.self.invariant c.self.view_is).0)

pub returns-clause-narrow : goal.returns-clause-narrow
returns-clause-narrow c =
    let fits : FitsSigned w128 c.self.inside.num = fits_from_narrow _ c.self.invariant.num_narrow in
    subst (λ k. k < 2 ^ 127) (sym (simp to_z-of_z at c.unsigned_abs.ensures.value)) c.self.invariant.num_narrow
