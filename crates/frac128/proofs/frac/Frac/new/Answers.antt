use Rattle.std.proofs.Common.{◌<◌, ◌∙◌, sym, subst, arith, FitsSigned}
use Rattle.std.specs.Int.{w128}
use Rattle.std.proofs.lemmas.Int.{to_z-of_z}
use Rattle.exact_math.specs.Rational.{ratio}
use Rattle.frac128.specs.Range.{InRange}
use Rattle.frac128.proofs.Terms.{Makes, abs_pos, gcd_some, ratio_is, made_of}
use Rattle.frac128.proofs.frac.Frac.new.Goals as goal
use Rattle.frac128.proofs.frac.Frac.new.Goals.{then-size-ge-LIMIT-via-then-size-ge-LIMIT, then-size-ge-LIMIT-via-else-size-ge-LIMIT+then-divisor-ge-LIMIT}

common_pos : (c : goal.After-gcd_of_sizes-common) → 0 < c.gcd_of_sizes-common.result
common_pos c =
    let fits : FitsSigned w128 c.args.den = c.ranges.den in
    gcd_some _ _ _ c.gcd_of_sizes-common.ensures (subst (λ k. 0 < k) (sym (simp to_z-of_z at c.unsigned_abs-divisor.ensures.value)) (abs_pos c.args.den c.requires))

pub quotient-size-requires : goal.quotient-size-requires
quotient-size-requires c = common_pos c

pub quotient-divisor-requires : goal.quotient-divisor-requires
quotient-divisor-requires c = common_pos c.before

pub returns-then-size-ge-LIMIT : goal.returns-then-size-ge-LIMIT
returns-then-size-ge-LIMIT c = λ h.
    let fits : FitsSigned w128 c.args.den = c.ranges.den in
    let fits' : FitsSigned w128 c.args.num = c.ranges.num in
    let t = ratio_is c.args.num c.args.den c.requires (simp to_z-of_z at c.unsigned_abs-size.ensures.value) (simp to_z-of_z at c.unsigned_abs-divisor.ensures.value) c.gcd_of_sizes-common.ensures c.quotient-size.ensures c.quotient-divisor.ensures in
    let num = h.num in
    let den = h.den in
    elim c.then-size-ge-LIMIT.branch [ then-size-ge-LIMIT-via-then-size-ge-LIMIT w ↦ omega arith | then-size-ge-LIMIT-via-else-size-ge-LIMIT+then-divisor-ge-LIMIT w ↦ omega arith ]

-- what `of_terms` is called with
made : (c : goal.After-signed) → Makes (ratio c.args.num c.args.den) c.signed.result c.quotient-divisor.result
made c =
    let fits : FitsSigned w128 c.args.den = c.ranges.den in
    let fits' : FitsSigned w128 c.args.num = c.ranges.num in
    let q = ratio c.args.num c.args.den in
    let t = ratio_is c.args.num c.args.den c.requires (simp to_z-of_z at c.unsigned_abs-size.ensures.value) (simp to_z-of_z at c.unsigned_abs-divisor.ensures.value) c.gcd_of_sizes-common.ensures c.quotient-size.ensures c.quotient-divisor.ensures in
    let narrow : InRange q = record { num = omega (arith, t.2); den = omega (arith, t.1) } in
    made_of q (t.0 ∙ sym (simp to_z-of_z at c.signed.ensures)) t.1 narrow

pub of_terms-requires : goal.of_terms-requires
of_terms-requires c =
    let fits : FitsSigned w128 c.signed.result = record { sfits = c.signed.type_inv } in
    simp to_z-of_z (made c).reduced

pub returns : goal.returns
returns c =
    let fits : FitsSigned w128 c.signed.result = record { sfits = c.signed.type_inv } in
    let m = made c.before in
    (m.in_range, simp to_z-of_z at c.of_terms.ensures.value ∙ m.value)
