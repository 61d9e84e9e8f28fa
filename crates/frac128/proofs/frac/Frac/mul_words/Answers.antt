use Rattle.std.proofs.Common.{◌≡◌, ◌<◌, ◌*◌, ◌^◌, ◌∙◌, int_lt, pos, sym, ap₂, subst, FitsSigned}
use Rattle.std.specs.Int.{w128}
use Rattle.std.proofs.lemmas.Int.{to_z-of_z}
use Rattle.exact_math.specs.Rational.{◌*ℚ◌}
use Rattle.frac128.specs.Range.{InRange}
use Rattle.frac128.specs.Sign.{with_sign, differ}
use Rattle.frac128.proofs.Terms.{Makes, gcd_some, product_is, made_of, quotients_small}
use Rattle.frac128.proofs.frac.Frac.mul_words.Goals as goal

pub nonzero_div-left_size : goal.nonzero_div-left_size
nonzero_div-left_size c = gcd_some _ _ _ c.gcd_of_words-left.ensures c.divisor-right_den.ensures.positive

pub nonzero_div-right_size : goal.nonzero_div-right_size
nonzero_div-right_size c = gcd_some _ _ _ c.gcd_of_words-right.ensures c.divisor-left_den.ensures.positive

pub nonzero_div-left_den : goal.nonzero_div-left_den
nonzero_div-left_den c = gcd_some _ _ _ c.gcd_of_words-right.ensures c.divisor-left_den.ensures.positive

pub nonzero_div-right_den : goal.nonzero_div-right_den
nonzero_div-right_den c = gcd_some _ _ _ c.gcd_of_words-left.ensures c.divisor-right_den.ensures.positive

pub signed-requires : goal.signed-requires
signed-requires c =
    subst (λ k. k < 2 ^ 127) (sym (ap₂ ◌*◌ c.from.ensures c.from-2.ensures)) (quotients_small _ _ _ _ (subst (λ k. k < 2 ^ 63) (sym c.size-left_size.ensures.value) c.requires.left.num) (subst (λ k. k < 2 ^ 63) (sym c.size-right_size.ensures.value) c.requires.right.num))

-- what `of_terms` is called with
made : (c : goal.After-signed) → Makes (c.args.self.now *ℚ c.args.other.now) c.signed.result (c.from-3.result * c.from-4.result)
made c =
    let q = c.args.self.now *ℚ c.args.other.now in
    let t = product_is c.args.self.now c.args.other.now c.size-left_size.ensures.value c.size-right_size.ensures.value c.divisor-left_den.ensures.value c.divisor-right_den.ensures.value c.gcd_of_words-left.ensures c.gcd_of_words-right.ensures in
    let size_is = ap₂ ◌*◌ c.from.ensures c.from-2.ensures in
    let den_is = ap₂ ◌*◌ c.from-3.ensures c.from-4.ensures in
    let num_small = quotients_small _ _ c.gcd_of_words-left.result c.gcd_of_words-right.result (subst (λ k. k < 2 ^ 63) (sym c.size-left_size.ensures.value) c.requires.left.num) (subst (λ k. k < 2 ^ 63) (sym c.size-right_size.ensures.value) c.requires.right.num) in
    let den_small = quotients_small _ _ c.gcd_of_words-right.result c.gcd_of_words-left.result (subst (λ k. k < 2 ^ 63) (sym c.divisor-left_den.ensures.value) c.requires.left.den) (subst (λ k. k < 2 ^ 63) (sym c.divisor-right_den.ensures.value) c.requires.right.den) in
    let narrow : InRange q = record { num = subst (λ k. k < 2 ^ 127) (sym t.2) num_small; den = subst (λ k. k < 2 ^ 127) (sym t.1) den_small } in
    let negative_is : differ (int_lt c.args.self.now.num (pos 0)) (int_lt c.args.other.now.num (pos 0)) ≡ differ c.is_negative.result c.is_negative-2.result = ap₂ differ (sym c.is_negative.ensures) (sym c.is_negative-2.ensures) in
    let num_is : q.num ≡ c.signed.result = t.0 ∙ ap₂ with_sign negative_is (sym size_is) ∙ sym c.signed.ensures in
    made_of q num_is (t.1 ∙ sym den_is) narrow

pub of_terms-requires : goal.of_terms-requires
of_terms-requires c =
    let fits : FitsSigned w128 c.signed.result = record { sfits = c.signed.type_inv } in
    simp to_z-of_z (made c).reduced

pub returns-clause-in_range : goal.returns-clause-in_range
returns-clause-in_range c = (made c.before).in_range

pub returns-clause-value : goal.returns-clause-value
returns-clause-value c =
    let fits : FitsSigned w128 c.signed.result = record { sfits = c.signed.type_inv } in
    simp to_z-of_z at c.of_terms.ensures.value ∙ (made c.before).value
