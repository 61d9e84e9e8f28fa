use Rattle.std.proofs.Common.{◌≡◌, ◌++◌, ◌∷◌, [], ℤ, List, pos, ◌-ℤ◌, neg_ℤ, sym, ap, ap₂, ◌∙◌, FitsSigned, arith}
use Rattle.std.specs.Int.{w128}
use Rattle.std.proofs.lemmas.Int.{ints, to_z-of_z}
use Rattle.std.proofs.lemmas.List.{map_more, take_all}
use Rattle.exact_math.specs.IntegerRing.{linear}
use Rattle.exact_math.specs.Ring.{integers}
use Rattle.exact_vectors.specs.Vectors.{negate}
use Rattle.farkas_lift.proofs.side.negated.Goals as goal

pub loop-j-preserved : goal.loop-j-preserved
loop-j-preserved c =
    let factor = c.light_factor.result in
    let fits : FitsSigned w128 c.light_factor.result = omega (arith, ints, c.light_factor.ensures.small) in
    let turned_fits : FitsSigned w128 (pos 0 -ℤ c.light_factor.result) = omega (arith, ints, c.light_factor.ensures.small) in
    let turned : pos 0 -ℤ c.light_factor.result ≡ neg_ℤ c.light_factor.result = omega linear in
    let pushed = simp to_z-of_z at c.in_ok-push.ensures.items in
    pushed ∙ ap₂ (λ (l : List ℤ) (z : ℤ). l ++ z ∷ []) c.loop-j.invariant (turned ∙ ap neg_ℤ c.light_factor.ensures.value) ∙ sym (map_more neg_ℤ c.args.factors.now c.loop-j.j (pos 0) c.loop-j-test.true)

pub returns : goal.returns
returns c = c.loop-j.invariant ∙ ap (negate integers) (take_all c.loop-j.j c.args.factors.now c.loop-j-test.false)
