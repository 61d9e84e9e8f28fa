use Rattle.std.proofs.Common.{◌≡◌, ◌<◌, ◌^◌, ◌∙◌, int_lt, pos, refl, sym, ap₂, subst, FitsSigned}
use Rattle.std.specs.Int.{w128}
use Rattle.std.proofs.lemmas.Int.{to_z-of_z}
use Rattle.std.proofs.lemmas.Result.{err_from_is_err_and}
use Rattle.exact_math.specs.Rational.{◌*ℚ◌}
use Rattle.frac128.specs.Range.{InRange}
use Rattle.frac128.specs.Sign.{with_sign, differ}
use Rattle.frac128.proofs.Terms.{Makes, gcd_some, product_of, made_of, refused}
use Rattle.frac128.proofs.frac.Frac.mul_long.Goals as goal

pub quotient-requires : goal.quotient-requires
quotient-requires c = gcd_some _ _ _ c.gcd_of_sizes-left.ensures c.divisor-right_den.ensures.positive

pub quotient-requires-2 : goal.quotient-requires-2
quotient-requires-2 c = gcd_some _ _ _ c.gcd_of_sizes-right.ensures c.divisor-left_den.ensures.positive

pub quotient-requires-3 : goal.quotient-requires-3
quotient-requires-3 c = gcd_some _ _ _ c.gcd_of_sizes-right.ensures c.divisor-left_den.ensures.positive

pub quotient-requires-4 : goal.quotient-requires-4
quotient-requires-4 c = gcd_some _ _ _ c.gcd_of_sizes-left.ensures c.divisor-right_den.ensures.positive

pub returns-in_err-size : goal.returns-in_err-size
returns-in_err-size c =
    let p = err_from_is_err_and c.from_residual.result c.from_residual.ensures.1 in
    let t = product_of c.args.self.now c.args.other.now c.size-left_size.ensures.value c.size-right_size.ensures.value c.divisor-left_den.ensures.value c.divisor-right_den.ensures.value c.gcd_of_sizes-left.ensures c.gcd_of_sizes-right.ensures c.quotient.ensures c.quotient-2.ensures refl refl in
    refused c.from_residual.result _ _ p.0 p.1 (λ h. c.in_err-size.ensures (subst (λ k. k < 2 ^ 127) t.2 h.num))

pub returns-in_err-den : goal.returns-in_err-den
returns-in_err-den c =
    let p = err_from_is_err_and c.from_residual-in_err-den.result c.from_residual-in_err-den.ensures.1 in
    let t = product_of c.args.self.now c.args.other.now c.size-left_size.ensures.value c.size-right_size.ensures.value c.divisor-left_den.ensures.value c.divisor-right_den.ensures.value c.gcd_of_sizes-left.ensures c.gcd_of_sizes-right.ensures c.quotient.ensures c.quotient-2.ensures c.quotient-3.ensures c.quotient-4.ensures in
    refused c.from_residual-in_err-den.result _ _ p.0 p.1 (λ h. c.in_err-den.ensures (subst (λ k. k < 2 ^ 127) t.1 h.den))

-- what `of_terms` is called with
made : (c : goal.After-signed) → Makes (c.args.self.now *ℚ c.args.other.now) c.signed.result c.in_ok-den.den
made c =
    let q = c.args.self.now *ℚ c.args.other.now in
    let t = product_of c.args.self.now c.args.other.now c.size-left_size.ensures.value c.size-right_size.ensures.value c.divisor-left_den.ensures.value c.divisor-right_den.ensures.value c.gcd_of_sizes-left.ensures c.gcd_of_sizes-right.ensures c.quotient.ensures c.quotient-2.ensures c.quotient-3.ensures c.quotient-4.ensures in
    let narrow : InRange q = record { num = subst (λ k. k < 2 ^ 127) (sym t.2) c.in_ok-size.ensures.0; den = subst (λ k. k < 2 ^ 127) (sym t.1) c.in_ok-den.ensures.0 } in
    let negative_is : differ (int_lt c.args.self.now.num (pos 0)) (int_lt c.args.other.now.num (pos 0)) ≡ differ c.is_negative.result c.is_negative-2.result = ap₂ differ (sym c.is_negative.ensures) (sym c.is_negative-2.ensures) in
    let num_is : q.num ≡ c.signed.result = t.0 ∙ ap₂ with_sign negative_is (sym c.in_ok-size.ensures.1) ∙ sym c.signed.ensures in
    made_of q num_is (t.1 ∙ sym c.in_ok-den.ensures.1) narrow

pub of_terms-requires : goal.of_terms-requires
of_terms-requires c =
    let fits : FitsSigned w128 c.signed.result = record { sfits = c.signed.type_inv } in
    simp to_z-of_z (made c).reduced

pub returns : goal.returns
returns c =
    let fits : FitsSigned w128 c.signed.result = record { sfits = c.signed.type_inv } in
    let m = made c.before in
    (m.in_range, simp to_z-of_z at c.of_terms.ensures.value ∙ m.value)
