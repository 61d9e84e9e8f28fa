use Rattle.std.proofs.Common.{rules, ◌≡◌, ◌<◌, ◌^◌, ◌+◌, ◌*◌, pos, nat_abs, FitsSigned}
use Rattle.std.specs.Int.{w128}
use Rattle.std.proofs.lemmas.Int.{to_z-of_z}
use Rattle.int_model.specs.Scale.{common_denominator, common_numerator}
use Rattle.int_model.specs.IntegerRows.{objective_of, integer_rows, cost}
use Rattle.whole_rows.specs.WholeRows.{span}
use Rattle.int_model.specs.ObjectiveValues.{value_factor}
use Rattle.int_model.specs.Large.{objective_numbers, multiple}
use Rattle.int_model.proofs.ObjectiveLaws as laws
use Rattle.int_model.proofs.objective.terms_of.Goals as goal
use Rattle.int_model.proofs.objective.terms_of.Goals.{In_ok-divisor, In_ok-factor, In_ok-sum}

-- the divisor is the common denominator of the objective's numbers
divisor : (c : In_ok-divisor) → c.args.scale.now.denominator ≡ pos (common_denominator (objective_of c.args.model.now)) → (common_denominator (objective_numbers c.args.model.now) < 2 ^ 127) × (c.in_ok-divisor.divisor ≡ pos (common_denominator (objective_numbers c.args.model.now)))
divisor c is =
    let den_fits : FitsSigned w128 c.den.result = search rules in
    let fits : FitsSigned w128 c.args.scale.now.denominator = search rules in
    laws.divisor_found c.args.model.now c.den.result c.args.scale.now.denominator c.in_ok-divisor.divisor c.den.ensures.value is (simp to_z-of_z at c.in_ok-divisor.ensures)

-- the constant times the divisor
constant : (c : In_ok-factor) → c.in_ok-divisor.divisor ≡ pos (common_denominator (objective_numbers c.args.model.now)) → c.num-constant.result ≡ multiple (common_denominator (objective_numbers c.args.model.now)) c.args.model.now.constant
constant c is =
    let fits : FitsSigned w128 c.in_ok-divisor.divisor = search rules in
    laws.constant_found c.args.model.now c.in_ok-divisor.divisor c.num-constant.result c.in-Ok.multiple is (simp to_z-of_z at (rw c.whole.ensures at c.in-Ok.ensures.1)) c.num-constant.ensures.value

-- the factor
factor : (c : In_ok-factor) → c.args.scale.now.denominator ≡ pos (common_denominator (objective_of c.args.model.now)) → c.in_ok-divisor.divisor ≡ pos (common_denominator (objective_numbers c.args.model.now)) → c.in_ok-factor.factor ≡ pos (value_factor (common_denominator (objective_numbers c.args.model.now)) (common_denominator (objective_of c.args.model.now)) (common_numerator (objective_of c.args.model.now)))
factor c is_denominator is_divisor =
    let divisor_fits : FitsSigned w128 c.in_ok-divisor.divisor = search rules in
    let denominator_fits : FitsSigned w128 c.args.scale.now.denominator = search rules in
    let numerator_fits : FitsSigned w128 c.args.scale.now.numerator = search rules in
    laws.factor_found c.args.model.now c.in_ok-divisor.divisor c.args.scale.now.denominator c.args.scale.now.numerator c.in_ok-factor.factor is_divisor is_denominator c.requires.numerator (simp to_z-of_z at c.in_ok-factor.ensures)

-- the costs' span, and the constant's size
spans : (c : In_ok-sum) → c.args.span ≡ span (cost c.args.model.now) (integer_rows c.args.model.now).whole.box
spans c = c.requires.span

first : (c : In_ok-sum) → c.in_ok-sum.sum ≡ 0 + nat_abs c.num-constant.result * 1
first c =
    let fits : FitsSigned w128 c.num-constant.result = search rules in
    simp to_z-of_z at c.in_ok-sum.ensures.1

pub returns-clause-terms : goal.returns-clause-terms
returns-clause-terms c =
    let factor_fits : FitsSigned w128 c.in_ok-factor.factor = search rules in
    let divisor_fits : FitsSigned w128 c.in_ok-divisor.divisor = search rules in
    let constant_fits : FitsSigned w128 c.num-constant.result = search rules in
    let is = c.requires.denominator in
    let over = divisor (goal.at.returns-clause-terms c).In_ok-divisor is in
    let is_constant = constant (goal.at.returns-clause-terms c).In_ok-factor over.1 in
    let is_factor = factor (goal.at.returns-clause-terms c).In_ok-factor is over.1 in
    let total = laws.total_found c.args.model.now c.num-constant.result c.in_ok-factor.factor c.in_ok-sum.sum c.args.span is_constant is_factor (first (goal.at.returns-clause-terms c).In_ok-sum) (spans (goal.at.returns-clause-terms c).In_ok-sum) (simp to_z-of_z at c.in_ok-with_term.ensures.0) in
    simp to_z-of_z (laws.makes_values c.args.model.now (record { constant = c.num-constant.result; factor = c.in_ok-factor.factor; divisor = c.in_ok-divisor.divisor }) over.1 is_constant is_factor over.0 total)
