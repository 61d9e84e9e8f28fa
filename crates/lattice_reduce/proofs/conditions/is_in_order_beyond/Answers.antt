use Rattle.std.proofs.Common.{pos, ◌*ℤ◌, SFits, rules, to_z-of_z, ap, ◌∙◌}
use Rattle.std.specs.Int.{w128}
use Rattle.lattice_reduce.proofs.BoundSteps.{le_of_test, order_divided, square_within, sum_as_difference, test_of_le}
use Rattle.lattice_reduce.proofs.conditions.is_in_order_beyond.Goals as goal

pub returns : goal.returns
returns c q exact small =
    let fd : SFits w128 c.args.d = c.ranges.d in
    let fe : SFits w128 c.args.e = c.ranges.e in
    let ff : SFits w128 c.args.f = c.ranges.f in
    let fl : SFits w128 c.args.l = c.ranges.l in
    let fs : SFits w128 c.args.square = c.ranges.square in
    let fo : SFits w128 c.in_ok-opposite.opposite = search rules in
    let fq : SFits w128 c.in_ok-quotient.quotient = search rules in
    let fleft : SFits w128 c.in_ok-left.left = search rules in
    let fright : SFits w128 c.in_ok-right.right = search rules in
    let digits = simp to_z-of_z at c.digits_of-size.ensures.size in
    let opposite = simp to_z-of_z at c.in_ok-opposite.ensures in
    let left = simp to_z-of_z at c.in_ok-left.ensures in
    let right = simp to_z-of_z at c.in_ok-right.ensures in
    let told = simp to_z-of_z at c.in_ok-quotient.ensures in
    let quotient = told q (exact ∙ sum_as_difference c.args.d c.args.f c.args.l c.in_ok-opposite.opposite opposite.1) (square_within q c.args.d c.args.square c.args.square c.digits_of-size.result c.digits_of-size.result small digits digits) in
    let core = order_divided c.args.d c.args.e c.args.f c.args.l q c.in_ok-left.left c.in_ok-right.right c.requires exact left.1 (right.1 ∙ ap (λ z. z *ℤ pos 4) quotient) in
    simp to_z-of_z (λ t. core.0 (le_of_test c.in_ok-left.left c.in_ok-right.right t), λ h. test_of_le c.in_ok-left.left c.in_ok-right.right (core.1 h))
