use Rattle.std.proofs.Common.{rules, ◌≡◌, ◌<◌, length, pos, ◌*ℤ◌, ◌+ℤ◌, get_or, ap, FitsSigned, to_z, arith}
use Rattle.std.specs.Int.{w128}
use Rattle.std.proofs.lemmas.Int.{to_z-of_z}
use Rattle.whole_rows.proofs.EndLemmas.{product_at, IsSumUpTo-more, product_fits as fits_at_product, sum_fits as fits_at_sum}
use Rattle.whole_rows.proofs.ends.End.sum.Goals as goal

pub overflow_mul-sum : goal.overflow_mul-sum
overflow_mul-sum c =
    let within : c.loop-i.i < length c.args.factors.now = omega (arith, c.requires.same_length) in
    let factor_fits : FitsSigned w128 (get_or c.args.factors.now c.loop-i.i (pos 0)) = search rules in
    let value_fits : FitsSigned w128 c.value.result = search rules in
    let value = simp to_z-of_z at c.value.ensures in
    let product : get_or c.args.factors.now c.loop-i.i (pos 0) *ℤ c.value.result ≡ product_at c.args.self c.args.factors.now c.args.bounds.now c.loop-i.i = ap (λ t. get_or c.args.factors.now c.loop-i.i (pos 0) *ℤ t) value in
    let product_fits : FitsSigned w128 (get_or c.args.factors.now c.loop-i.i (pos 0) *ℤ c.value.result) = rw product (fits_at_product _ _ _ _ _ within c.loop-i-test.true c.loop-i.invariant) in
    simp to_z-of_z product_fits

pub overflow_add-sum : goal.overflow_add-sum
overflow_add-sum c =
    let within : c.loop-i.i < length c.args.factors.now = omega (arith, c.requires.same_length) in
    let factor_fits : FitsSigned w128 (get_or c.args.factors.now c.loop-i.i (pos 0)) = search rules in
    let value_fits : FitsSigned w128 c.value.result = search rules in
    let value = simp to_z-of_z at c.value.ensures in
    let product : get_or c.args.factors.now c.loop-i.i (pos 0) *ℤ c.value.result ≡ product_at c.args.self c.args.factors.now c.args.bounds.now c.loop-i.i = ap (λ t. get_or c.args.factors.now c.loop-i.i (pos 0) *ℤ t) value in
    let product_fits : FitsSigned w128 (get_or c.args.factors.now c.loop-i.i (pos 0) *ℤ c.value.result) = rw product (fits_at_product _ _ _ _ _ within c.loop-i-test.true c.loop-i.invariant) in
    let next = IsSumUpTo-more _ _ _ _ _ within c.loop-i-test.true c.loop-i.invariant in
    let sum_fits : FitsSigned w128 (to_z w128 c.loop-i.sum-bits +ℤ get_or c.args.factors.now c.loop-i.i (pos 0) *ℤ c.value.result) = rw product (fits_at_sum _ _ _ _ _ next) in
    simp to_z-of_z sum_fits

pub loop-i-preserved : goal.loop-i-preserved
loop-i-preserved c =
    let within : c.loop-i.i < length c.args.factors.now = omega (arith, c.requires.same_length) in
    let factor_fits : FitsSigned w128 (get_or c.args.factors.now c.loop-i.i (pos 0)) = search rules in
    let value_fits : FitsSigned w128 c.value.result = search rules in
    let value = simp to_z-of_z at c.value.ensures in
    let product : get_or c.args.factors.now c.loop-i.i (pos 0) *ℤ c.value.result ≡ product_at c.args.self c.args.factors.now c.args.bounds.now c.loop-i.i = ap (λ t. get_or c.args.factors.now c.loop-i.i (pos 0) *ℤ t) value in
    let product_fits : FitsSigned w128 (get_or c.args.factors.now c.loop-i.i (pos 0) *ℤ c.value.result) = rw product (fits_at_product _ _ _ _ _ within c.loop-i-test.true c.loop-i.invariant) in
    let next = IsSumUpTo-more _ _ _ _ _ within c.loop-i-test.true c.loop-i.invariant in
    let sum_fits : FitsSigned w128 (to_z w128 c.loop-i.sum-bits +ℤ get_or c.args.factors.now c.loop-i.i (pos 0) *ℤ c.value.result) = rw product (fits_at_sum _ _ _ _ _ next) in
    simp to_z-of_z (rw product next)
