use Rattle.std.proofs.Common.{◌≡◌, pos, [], ◌∷◌, refl, ap, rules, ◌∙◌}
use Rattle.exact_math.specs.Gcd.{gcd, gcd_within}
use Rattle.unimodular_pair.specs.Gathering.{common_divisor}
use Rattle.number_tests.proofs.frames.a_slice_is_a_point.Goals as goal

-- 1 has no other divisor
primitive : common_divisor (pos 1 ∷ []) ≡ 1
unfolding gcd gcd_within
primitive = refl

pub complete-requires-clause-primitive : goal.complete-requires-clause-primitive
complete-requires-clause-primitive g c =
    let is : c.of-form.result ≡ pos 1 ∷ [] = search rules in
    ap common_divisor is ∙ primitive
