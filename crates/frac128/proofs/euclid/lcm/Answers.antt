use Rattle.std.proofs.Common.{rules, ◌<◌, pos, ◌<ℤ◌, nat_abs, int_div, FitsSigned, sym, subst}
use Rattle.std.specs.Int.{w128}
use Rattle.std.proofs.lemmas.Int.{to_z-of_z, quot_fits}
use Rattle.exact_math.specs.Gcd.{gcd}
use Rattle.frac128.proofs.CommonMultiples.{lcm_answered, gcd_above, above_zero}
use Rattle.frac128.proofs.euclid.lcm.Goals as goal

pub nonzero_div-a : goal.nonzero_div-a
nonzero_div-a c =
    let a_fits : FitsSigned w128 c.args.a = c.ranges.a in
    let b_fits : FitsSigned w128 c.args.b = c.ranges.b in
    let is = simp to_z-of_z at c.gcd-common.ensures in
    let some : 0 < gcd (nat_abs c.args.a) (nat_abs c.args.b) = gcd_above c.args.a c.args.b c.requires.a_positive in
    let fits : FitsSigned w128 c.gcd-common.result = search rules in
    let quotient : FitsSigned w128 (int_div c.args.a c.gcd-common.result) = quot_fits w128 c.args.a c.gcd-common.result a_fits (subst (λ z. pos 0 <ℤ z) (sym is) (above_zero _ some)) in
    (rw is some, simp to_z-of_z quotient)

pub returns : goal.returns
returns c =
    let a_fits : FitsSigned w128 c.args.a = c.ranges.a in
    let b_fits : FitsSigned w128 c.args.b = c.ranges.b in
    let is = simp to_z-of_z at c.gcd-common.ensures in
    let some : 0 < gcd (nat_abs c.args.a) (nat_abs c.args.b) = gcd_above c.args.a c.args.b c.requires.a_positive in
    let fits : FitsSigned w128 c.gcd-common.result = search rules in
    let quotient : FitsSigned w128 (int_div c.args.a c.gcd-common.result) = quot_fits w128 c.args.a c.gcd-common.result a_fits (subst (λ z. pos 0 <ℤ z) (sym is) (above_zero _ some)) in
    let answered = simp to_z-of_z at c.checked_mul.ensures in
    lcm_answered c.checked_mul.result c.args.a c.args.b c.requires.a_positive c.requires.b_positive (rw is at answered)
