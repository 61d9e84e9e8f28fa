use Rattle.std.proofs.Common.{◌≡◌, ℤ, pos, List, [], ◌∷◌, refl, ap, rules, ◌∙◌}
use Rattle.exact_math.specs.Gcd.{gcd, gcd_within}
use Rattle.unimodular_pair.specs.Gathering.{common_divisor}
use Rattle.number_tests.proofs.pairs.a_form_is_completed.Goals as goal

-- 6, 10 and 15 have no divisor in common
primitive : common_divisor (pos 6 ∷ pos 10 ∷ pos 15 ∷ []) ≡ 1
unfolding gcd gcd_within
primitive = refl

pub complete-requires-clause-primitive : goal.complete-requires-clause-primitive
complete-requires-clause-primitive g c =
    let is : c.of-form.result ≡ pos 6 ∷ pos 10 ∷ pos 15 ∷ [] = search rules in
    ap common_divisor is ∙ primitive
