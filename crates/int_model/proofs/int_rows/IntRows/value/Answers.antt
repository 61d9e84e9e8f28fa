use Rattle.std.proofs.Common.{rules, ◌∙◌, ◌+ℤ◌, ◌*ℤ◌, ap, FitsSigned, arith}
use Rattle.std.specs.Int.{w128}
use Rattle.std.specs.Result.{is_ok}
use Rattle.std.proofs.lemmas.Int.{fits_signed_from_abs, to_z-of_z}
use Rattle.std.proofs.lemmas.Result.{Ok-from_Ok_iff, OkIff-at_ok}
use Rattle.int_model.proofs.ValueLaws.{IsSmallValue, small_value, value_found}
use Rattle.int_model.proofs.int_rows.IntRows.value.Goals as goal
use Rattle.int_model.proofs.int_rows.IntRows.value.Goals.{After-cut_value}

-- the value's parts are small
small : (c : After-cut_value) → IsSmallValue c.self.inside.terms c.cut_value.result
small c = small_value _ c.self.inside.terms c.args.self.now c.args.x.now c.cut_value.result c.self.view_is c.self.invariant c.requires.in_box c.cut_value.ensures

pub overflow_mul-sum : goal.overflow_mul-sum
overflow_mul-sum c =
    let is = small (goal.at.overflow_mul-sum c).After-cut_value in
    let factor_fits : FitsSigned w128 c.self.inside.terms.factor = search rules in
    let cut_fits : FitsSigned w128 c.cut_value.result = search rules in
    simp to_z-of_z (fits_signed_from_abs w128 (c.self.inside.terms.factor *ℤ c.cut_value.result) (omega (arith, is.product)))

pub overflow_add-sum : goal.overflow_add-sum
overflow_add-sum c =
    let is = small (goal.at.overflow_add-sum c).After-cut_value in
    let factor_fits : FitsSigned w128 c.self.inside.terms.factor = search rules in
    let constant_fits : FitsSigned w128 c.self.inside.terms.constant = search rules in
    let cut_fits : FitsSigned w128 c.cut_value.result = search rules in
    let product_fits : FitsSigned w128 (c.self.inside.terms.factor *ℤ c.cut_value.result) = fits_signed_from_abs w128 (c.self.inside.terms.factor *ℤ c.cut_value.result) (omega (arith, is.product)) in
    simp to_z-of_z (fits_signed_from_abs w128 (c.self.inside.terms.constant +ℤ c.self.inside.terms.factor *ℤ c.cut_value.result) (omega (arith, is.sum)))

pub unwrap-requires : goal.unwrap-requires
unwrap-requires c =
    let is = small (goal.at.unwrap-requires c).After-cut_value in
    let factor_fits : FitsSigned w128 c.self.inside.terms.factor = search rules in
    let constant_fits : FitsSigned w128 c.self.inside.terms.constant = search rules in
    let divisor_fits : FitsSigned w128 c.self.inside.terms.divisor = search rules in
    let cut_fits : FitsSigned w128 c.cut_value.result = search rules in
    let product_fits : FitsSigned w128 (c.self.inside.terms.factor *ℤ c.cut_value.result) = fits_signed_from_abs w128 (c.self.inside.terms.factor *ℤ c.cut_value.result) (omega (arith, is.product)) in
    let sum_fits : FitsSigned w128 (c.self.inside.terms.constant +ℤ c.self.inside.terms.factor *ℤ c.cut_value.result) = fits_signed_from_abs w128 (c.self.inside.terms.constant +ℤ c.self.inside.terms.factor *ℤ c.cut_value.result) (omega (arith, is.sum)) in
    ap is_ok (Ok-from_Ok_iff c.new.result _ _ (simp to_z-of_z at c.new.ensures) is.range)

pub returns : goal.returns
returns c =
    let is = small (goal.at.returns c).After-cut_value in
    let factor_fits : FitsSigned w128 c.self.inside.terms.factor = search rules in
    let constant_fits : FitsSigned w128 c.self.inside.terms.constant = search rules in
    let divisor_fits : FitsSigned w128 c.self.inside.terms.divisor = search rules in
    let cut_fits : FitsSigned w128 c.cut_value.result = search rules in
    let product_fits : FitsSigned w128 (c.self.inside.terms.factor *ℤ c.cut_value.result) = fits_signed_from_abs w128 (c.self.inside.terms.factor *ℤ c.cut_value.result) (omega (arith, is.product)) in
    let sum_fits : FitsSigned w128 (c.self.inside.terms.constant +ℤ c.self.inside.terms.factor *ℤ c.cut_value.result) = fits_signed_from_abs w128 (c.self.inside.terms.constant +ℤ c.self.inside.terms.factor *ℤ c.cut_value.result) (omega (arith, is.sum)) in
    (OkIff-at_ok c.new.result _ _ c.unwrap.result (simp to_z-of_z at c.new.ensures) c.unwrap.ensures).1 ∙ value_found _ c.self.inside.terms c.args.self.now c.args.x.now c.cut_value.result c.self.view_is c.self.invariant c.cut_value.ensures
