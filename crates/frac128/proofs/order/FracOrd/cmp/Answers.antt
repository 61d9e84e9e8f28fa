use Rattle.std.proofs.Common.{sym, ap₂, ◌∙◌, int_cmp, FitsSigned}
use Rattle.std.specs.Int.{w128}
use Rattle.std.proofs.lemmas.Int.{to_z-of_z}
use Rattle.frac128.proofs.Comparisons.{by_nums, both_positive, both_negative, negative_below, positive_above}
use Rattle.frac128.proofs.order.FracOrd.cmp.Goals as goal

pub returns-in-true-true : goal.returns-in-true-true
returns-in-true-true c =
    c.compare_quotients.ensures ∙ both_negative c.args.self.now c.args.other.now _ _ _ _ c.size-in-true-true.ensures.value c.size.ensures.value c.divisor-in-true-true-2.ensures.value c.divisor-in-true-true.ensures.value (sym c.in-true-true.ensures) (sym c.in-true-true.ensures')

pub returns-in-false-false : goal.returns-in-false-false
returns-in-false-false c =
    c.compare_quotients-in-false-false.ensures ∙ both_positive c.args.self.now c.args.other.now _ _ _ _ c.size-in-false-false.ensures.value c.size-in-false-false-2.ensures.value c.divisor-in-false-false.ensures.value c.divisor-in-false-false-2.ensures.value (sym c.in-false-false.ensures) (sym c.in-false-false.ensures')

pub returns-in-true-false : goal.returns-in-true-false
returns-in-true-false c =
    negative_below c.args.self.now c.args.other.now (sym c.in-true-false.ensures) (sym c.in-true-false.ensures')

pub returns-in-false-true : goal.returns-in-false-true
returns-in-false-true c =
    positive_above c.args.self.now c.args.other.now (sym c.in-false-true.ensures) (sym c.in-false-true.ensures')

pub returns-then-divisor : goal.returns-then-divisor
returns-then-divisor c =
    let left_fits : FitsSigned w128 c.num.result = record { sfits = c.num.type_inv } in
    let right_fits : FitsSigned w128 c.num-then-divisor.result = record { sfits = c.num-then-divisor.type_inv } in
    simp to_z-of_z at c.cmp.ensures ∙ ap₂ int_cmp c.num.ensures.value c.num-then-divisor.ensures.value ∙ by_nums c.args.self.now c.args.other.now (sym c.divisor.ensures.value ∙ c.if-divisor.true ∙ c.divisor-2.ensures.value)
