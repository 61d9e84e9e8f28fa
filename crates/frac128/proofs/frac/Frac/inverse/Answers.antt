use Rattle.std.proofs.Common.{◌∙◌, ◌<◌, ◌^◌, subst, FitsSigned}
use Rattle.std.specs.Int.{w128}
use Rattle.std.proofs.lemmas.Int.{to_z-of_z}
use Rattle.exact_math.specs.Rational.{inv_ℚ}
use Rattle.frac128.proofs.Terms.{Makes, inverse_made}
use Rattle.frac128.proofs.frac.Frac.inverse.Goals as goal

-- what `of_terms` is called with
made : (c : goal.After-unsigned_abs) → Makes (inv_ℚ c.args.self.now) c.signed.result c.unsigned_abs.result
made c =
    let fits : FitsSigned w128 c.num-num.result = record { sfits = c.num-num.type_inv } in
    inverse_made c.args.self.now c.num-num.result c.signed.result c.divisor.result c.unsigned_abs.result c.requires c.num-num.ensures.value c.divisor.ensures.value c.num-num.ensures.narrow (subst (λ k. k < 2 ^ 127) c.divisor.ensures.value c.divisor.ensures.narrow) (simp to_z-of_z at c.unsigned_abs.ensures.value) (simp to_z-of_z at c.signed.ensures)

pub of_terms-requires : goal.of_terms-requires
of_terms-requires c =
    let fits : FitsSigned w128 c.signed.result = record { sfits = c.signed.type_inv } in
    simp to_z-of_z (made c).reduced

pub returns : goal.returns
returns c =
    let fits : FitsSigned w128 c.signed.result = record { sfits = c.signed.type_inv } in
    simp to_z-of_z at c.of_terms.ensures.value ∙ (made c.before).value
