use Rattle.std.proofs.Common.{SFits, FitsSigned, pos, ◌+ℤ◌, ◌*ℤ◌, to_z-of_z, sym, ap, ap₂, subst, ◌∙◌}
use Rattle.std.specs.Int.{w128}
use Rattle.exact_math.specs.IntegerRing.{mul_comm}
use Rattle.lattice_reduce.proofs.OptionSteps.{some_under}
use Rattle.lattice_reduce.proofs.conditions.left_side.Goals as goal

pub returns : goal.returns
returns c =
    let fd : SFits w128 c.args.d = c.ranges.d in
    let ff : SFits w128 c.args.f = c.ranges.f in
    let fl : SFits w128 c.args.l = c.ranges.l in
    let p = simp to_z-of_z at c.in_ok-product.ensures in
    let s = simp to_z-of_z at c.in_ok-square.ensures in
    let fits_p : SFits w128 c.in_ok-product.product = subst (SFits w128) (sym p.1) p.0 in
    let fits_s : SFits w128 c.in_ok-square.square = subst (SFits w128) (sym s.1) s.0 in
    let t = simp to_z-of_z at c.in_ok-sum.ensures in
    let fits_t : SFits w128 c.in_ok-sum.sum = subst (SFits w128) (sym t.1) t.0 in
    let sum_is = ap₂ ◌+ℤ◌ p.1 s.1 in
    let is = mul_comm c.in_ok-sum.sum (pos 4) ∙ ap (λ z. pos 4 *ℤ z) (t.1 ∙ sum_is) in
    some_under _ _ _ _ _ (λ k. (p.0, s.0, subst (FitsSigned w128) sum_is t.0, subst (FitsSigned w128) is k)) (λ k. subst (FitsSigned w128) (sym is) k.3) is (simp to_z-of_z at c.checked_mul-3.ensures)
