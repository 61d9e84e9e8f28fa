use Rattle.std.proofs.Common.{◌≡◌, ◌<◌, ◌^◌, pos, nat_abs, ap, ap₂, ◌∙◌, subst, sym, arith, FitsSigned}
use Rattle.std.specs.Int.{w128}
use Rattle.std.proofs.lemmas.Int.{ints, to_z-of_z, to_z_pos}
use Rattle.exact_math.specs.Gcd.{gcd}
use Rattle.exact_math.specs.GcdLaws.{gcd_below}
use Rattle.frac128.proofs.euclid.gcd.Goals as goal

found : (c : goal.After-gcd_of_sizes) → c.gcd_of_sizes.result ≡ gcd (nat_abs c.args.a) (nat_abs c.args.b)
found c =
    let a_fits : FitsSigned w128 c.args.a = c.ranges.a in
    let b_fits : FitsSigned w128 c.args.b = c.ranges.b in
    c.gcd_of_sizes.ensures ∙ ap₂ gcd (simp to_z-of_z at c.unsigned_abs.ensures.value) (simp to_z-of_z at c.unsigned_abs-2.ensures.value)

small : (c : goal.After-gcd_of_sizes) → c.gcd_of_sizes.result < 2 ^ 127
small c =
    subst (λ k. k < 2 ^ 127) (sym (found c)) (gcd_below (nat_abs c.args.a) (nat_abs c.args.b) (2 ^ 127) c.requires.a_narrow c.requires.b_narrow)

pub overflow_cast-result : goal.overflow_cast-result
overflow_cast-result c = let h = small c in omega (arith, ints)

pub returns : goal.returns
returns c = to_z_pos w128 c.gcd_of_sizes.result (small c) ∙ ap pos (found c)
