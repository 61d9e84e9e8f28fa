use Rattle.std.proofs.Common.{rules, ◌≡◌, ◌+ℤ◌, ◌*ℤ◌, pos, length, FitsSigned, refl, subst}
use Rattle.std.specs.Int.{w128}
use Rattle.std.proofs.lemmas.Int.{to_z-of_z}
use Rattle.exact_math.specs.IntegerRing.{linear}
use Rattle.farkas_rows.specs.Inequalities.{cut_inequality}
use Rattle.farkas_rows.specs.Judgement.{IsWeight}
use Rattle.farkas_rows.specs.Refutes.{inequality_weight}
use Rattle.farkas_rows.proofs.judge.cut_weight.Goals as goal

pub returns-in-Some : goal.returns-in-Some
returns-in-Some c =
    let cut = c.in-Some.cut in
    let times_fits : FitsSigned w128 cut.times = search rules in
    let value_fits : FitsSigned w128 cut.value = search rules in
    let side = simp to_z-of_z at c.cut_side.ensures.side in
    let weight = rw side at (c.weight.ensures (length c.args.rows.now.box) c.cut_side.ensures.within) in
    let product = simp to_z-of_z at c.with_product.ensures in
    let size = pos (inequality_weight (cut_inequality c.args.rows.now cut.value)) in
    let sum : IsWeight (pos 0 +ℤ cut.times *ℤ size) c.with_product.result = product (pos 0) size (omega linear) (omega linear) (refl, omega linear) weight in
    let same : pos 0 +ℤ cut.times *ℤ size ≡ cut.times *ℤ size +ℤ pos 0 = omega linear in
    rw c.in-Some.is (subst (λ t. IsWeight t c.with_product.result) same sum)
