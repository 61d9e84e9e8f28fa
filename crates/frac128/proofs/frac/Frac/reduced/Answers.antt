use Rattle.std.proofs.Common.{◌≡◌, ◌<◌, ◌∙◌, int_lt, pos, sym, ap, subst, FitsSigned}
use Rattle.std.specs.Int.{w128}
use Rattle.std.proofs.lemmas.Int.{to_z-of_z}
use Rattle.exact_math.specs.Gcd.{gcd}
use Rattle.exact_math.specs.Rational.{frac}
use Rattle.frac128.specs.Sign.{with_sign}
use Rattle.frac128.proofs.Terms.{Makes, gcd_some, reduced_is}
use Rattle.frac128.proofs.frac.Frac.reduced.Goals as goal
use Rattle.frac128.proofs.frac.Frac.reduced.Goals.{After-gcd_of_sizes-again}

-- the divisor that is taken out is the greatest of the two terms
again_is : (c : After-gcd_of_sizes-again) → c.gcd_of_sizes-again.result ≡ gcd c.unsigned_abs-size.result c.args.den
again_is c =
    let fits : FitsSigned w128 c.args.num = c.ranges.num in
    let is = simp to_z-of_z at c.unsigned_abs-size.ensures.value in
    c.gcd_of_sizes-again.ensures ∙ ap (λ n. gcd n c.args.common) is ∙ sym c.requires.common_divisors ∙ ap (λ n. gcd n c.args.den) (sym is)

again_pos : (c : After-gcd_of_sizes-again) → 0 < c.gcd_of_sizes-again.result
again_pos c = gcd_some _ _ _ (again_is c) c.requires.positive

-- where it is 1, the terms are lowest
pub of_terms-requires : goal.of_terms-requires
of_terms-requires c =
    let fits : FitsSigned w128 c.args.num = c.ranges.num in
    let is = simp to_z-of_z at c.unsigned_abs-size.ensures.value in
    simp to_z-of_z (record {
      positive = c.requires.positive;
      lowest = ap (λ n. gcd n c.args.den) (sym is) ∙ sym (again_is c.before) ∙ c.if-again-eq1.true;
      num_narrow = c.requires.num_narrow;
      den_narrow = c.requires.den_narrow;
    })

pub returns-then-again-eq1 : goal.returns-then-again-eq1
returns-then-again-eq1 c =
    let fits : FitsSigned w128 c.args.num = c.ranges.num in
    simp to_z-of_z at c.of_terms.ensures.value

pub quotient-requires : goal.quotient-requires
quotient-requires c = again_pos c.before

pub quotient-requires-2 : goal.quotient-requires-2
quotient-requires-2 c = again_pos c.before.before.before

-- what `of_terms` is called with
made : (c : goal.After-quotient-2) → Makes (frac c.args.num c.args.den) c.signed.result c.quotient-2.result
made c =
    let fits : FitsSigned w128 c.args.num = c.ranges.num in
    let size_is = ap (with_sign (int_lt c.args.num (pos 0))) c.quotient.ensures in
    subst (Makes (frac c.args.num c.args.den) c.signed.result) (sym c.quotient-2.ensures) (reduced_is c.args.num c.signed.result c.args.den _ _ c.requires.positive c.requires.num_narrow c.requires.den_narrow (simp to_z-of_z at c.unsigned_abs-size.ensures.value) (again_is c.before.before.before.before) (simp to_z-of_z at c.signed.ensures ∙ size_is))

pub of_terms-requires-2 : goal.of_terms-requires-2
of_terms-requires-2 c =
    let fits : FitsSigned w128 c.signed.result = record { sfits = c.signed.type_inv } in
    simp to_z-of_z (made c).reduced

pub returns : goal.returns
returns c =
    let fits : FitsSigned w128 c.signed.result = record { sfits = c.signed.type_inv } in
    simp to_z-of_z at c.of_terms-2.ensures.value ∙ (made c.before).value
