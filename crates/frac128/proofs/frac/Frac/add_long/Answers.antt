use Rattle.std.proofs.Common.{◌<◌, ◌^◌, ◌∙◌, refl, sym, ap₂, subst, FitsSigned}
use Rattle.std.specs.Int.{w128}
use Rattle.std.proofs.lemmas.Int.{to_z-of_z}
use Rattle.std.proofs.lemmas.Result.{err_from_is_err_and}
use Rattle.exact_math.specs.Gcd.{gcd}
use Rattle.frac128.proofs.Terms.{gcd_some, parts_of, refused, multiple_is, multiple_is_not, sum_is_narrow, sum_is_wide, fits_from_narrow}
use Rattle.frac128.proofs.Lowering.{MakesSum, makes_sum}
use Rattle.frac128.proofs.frac.Frac.add_long.Goals as goal

pub quotient-left-requires : goal.quotient-left-requires
quotient-left-requires c = gcd_some _ _ _ c.gcd_of_sizes-common.ensures c.divisor-right_den.ensures.positive

pub quotient-right-requires : goal.quotient-right-requires
quotient-right-requires c = gcd_some _ _ _ c.gcd_of_sizes-common.ensures c.divisor-right_den.ensures.positive

pub returns-in_err-first : goal.returns-in_err-first
returns-in_err-first c =
    let p = err_from_is_err_and c.from_residual.result c.from_residual.ensures.1 in
    let parts = parts_of c.args.self.now c.args.other.now c.num.ensures.value refl c.divisor-left_den.ensures.value c.divisor-right_den.ensures.value c.gcd_of_sizes-common.ensures c.quotient-left.ensures c.quotient-right.ensures in
    refused c.from_residual.result _ _ p.0 p.1 (λ h. multiple_is_not c.num.result _ c.quotient-right.result c.num.type_inv parts.0 c.in_err-first.ensures h.first)

pub returns-in_err-second : goal.returns-in_err-second
returns-in_err-second c =
    let p = err_from_is_err_and c.from_residual-in_err-second.result c.from_residual-in_err-second.ensures.1 in
    let parts = parts_of c.args.self.now c.args.other.now c.num.ensures.value c.num-2.ensures.value c.divisor-left_den.ensures.value c.divisor-right_den.ensures.value c.gcd_of_sizes-common.ensures c.quotient-left.ensures c.quotient-right.ensures in
    refused c.from_residual-in_err-second.result _ _ p.0 p.1 (λ h. multiple_is_not c.num-2.result _ c.quotient-left.result c.num-2.type_inv parts.1 c.in_err-second.ensures h.second)

pub returns-in_err-num : goal.returns-in_err-num
returns-in_err-num c =
    let p = err_from_is_err_and c.from_residual-in_err-num.result c.from_residual-in_err-num.ensures.1 in
    let parts = parts_of c.args.self.now c.args.other.now c.num.ensures.value c.num-2.ensures.value c.divisor-left_den.ensures.value c.divisor-right_den.ensures.value c.gcd_of_sizes-common.ensures c.quotient-left.ensures c.quotient-right.ensures in
    let first = multiple_is c.num.result c.in_ok-first.first _ c.quotient-right.result c.num.type_inv parts.0 c.in_ok-first.ensures in
    let second = multiple_is c.num-2.result c.in_ok-second.second _ c.quotient-left.result c.num-2.type_inv parts.1 c.in_ok-second.ensures in
    refused c.from_residual-in_err-num.result _ _ p.0 p.1 (λ h. sum_is_wide c.in_ok-first.first c.in_ok-second.second _ _ first second c.in_err-num.ensures h.sum)

pub returns-in_err-den : goal.returns-in_err-den
returns-in_err-den c =
    let p = err_from_is_err_and c.from_residual-in_err-den.result c.from_residual-in_err-den.ensures.1 in
    let parts = parts_of c.args.self.now c.args.other.now c.num.ensures.value c.num-2.ensures.value c.divisor-left_den.ensures.value c.divisor-right_den.ensures.value c.gcd_of_sizes-common.ensures c.quotient-left.ensures c.quotient-right.ensures in
    refused c.from_residual-in_err-den.result _ _ p.0 p.1 (λ h. c.in_err-den.ensures (subst (λ k. k < 2 ^ 127) (sym parts.2) h.den))

-- the four numbers fit, and make the sum
made : (c : goal.In_ok-den) → MakesSum c.args.self.now c.args.other.now c.in_ok-num.num c.in_ok-den.den c.gcd_of_sizes-common.result
made c =
    let p = c.args.self.now in
    let q = c.args.other.now in
    let parts = parts_of p q c.num.ensures.value c.num-2.ensures.value c.divisor-left_den.ensures.value c.divisor-right_den.ensures.value c.gcd_of_sizes-common.ensures c.quotient-left.ensures c.quotient-right.ensures in
    let first = multiple_is c.num.result c.in_ok-first.first _ c.quotient-right.result c.num.type_inv parts.0 c.in_ok-first.ensures in
    let second = multiple_is c.num-2.result c.in_ok-second.second _ c.quotient-left.result c.num-2.type_inv parts.1 c.in_ok-second.ensures in
    let total = sum_is_narrow c.in_ok-first.first c.in_ok-second.second c.in_ok-num.num _ _ first second c.in_ok-num.ensures in
    let common_is = c.gcd_of_sizes-common.ensures ∙ ap₂ gcd c.divisor-left_den.ensures.value c.divisor-right_den.ensures.value in
    let small = subst (λ k. k < 2 ^ 127) (sym c.in_ok-den.ensures.1) c.in_ok-den.ensures.0 in
    subst (λ n. MakesSum p q n c.in_ok-den.den c.gcd_of_sizes-common.result) (sym total.0) (makes_sum p q refl refl (c.in_ok-den.ensures.1 ∙ parts.2) common_is first.1 second.1 total.1 small)

pub reduced-requires : goal.reduced-requires
reduced-requires c =
    let m = made c in
    let fits : FitsSigned w128 c.in_ok-num.num = fits_from_narrow _ m.narrow in
    record {
      positive = m.positive;
      num_narrow = simp to_z-of_z m.narrow;
      den_narrow = m.small;
      common_divisors = simp to_z-of_z m.divisors;
    }

pub returns : goal.returns
returns c =
    let m = made c.before in
    let fits : FitsSigned w128 c.in_ok-num.num = fits_from_narrow _ m.narrow in
    (m.in_range, simp to_z-of_z at c.reduced.ensures ∙ m.value)
