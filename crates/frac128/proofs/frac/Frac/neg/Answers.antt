use Rattle.std.proofs.Common.{◌∙◌, ◌<◌, ◌^◌, subst, FitsSigned, pos, ◌-ℤ◌}
use Rattle.std.specs.Int.{w128}
use Rattle.std.proofs.lemmas.Int.{to_z-of_z}
use Rattle.frac128.proofs.Terms.{neg_made, fits_from_narrow}
use Rattle.frac128.proofs.frac.Frac.neg.Goals as goal

pub of_terms-requires : goal.of_terms-requires
of_terms-requires c =
    let m = neg_made c.args.self.now c.num.result c.divisor.result c.num.ensures.value c.divisor.ensures.value c.num.ensures.narrow (subst (λ k. k < 2 ^ 127) c.divisor.ensures.value c.divisor.ensures.narrow) in
    let fits : FitsSigned w128 c.num.result = record { sfits = c.num.type_inv } in
    let fits' : FitsSigned w128 (pos 0 -ℤ c.num.result) = fits_from_narrow _ m.reduced.num_narrow in
    simp to_z-of_z m.reduced

pub returns : goal.returns
returns c =
    let m = neg_made c.args.self.now c.num.result c.divisor.result c.num.ensures.value c.divisor.ensures.value c.num.ensures.narrow (subst (λ k. k < 2 ^ 127) c.divisor.ensures.value c.divisor.ensures.narrow) in
    let fits : FitsSigned w128 c.num.result = record { sfits = c.num.type_inv } in
    let fits' : FitsSigned w128 (pos 0 -ℤ c.num.result) = fits_from_narrow _ m.reduced.num_narrow in
    simp to_z-of_z at c.of_terms.ensures.value ∙ m.value
