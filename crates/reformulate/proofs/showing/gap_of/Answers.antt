use Rattle.std.proofs.Common.{rules, ◌∙◌, ap₂, FitsSigned, to_z-of_z}
use Rattle.std.specs.Int.{w128}
use Rattle.exact_math.specs.Ring.{integers}
use Rattle.exact_vectors.specs.Vectors.{dot}
use Rattle.reformulate.specs.Gaps.{sides_of}
use Rattle.reformulate.proofs.ShownSteps.{ceiling_is}
use Rattle.reformulate.proofs.showing.gap_of.Goals as goal

pub returns-clause-lo : goal.returns-clause-lo
returns-clause-lo c =
    let side_fits : FitsSigned w128 c.in-Some.side = search rules in
    let divisor_fits : FitsSigned w128 c.args.divisor = c.ranges.divisor in
    let ceiling_fits : FitsSigned w128 c.ceiling.result = search rules in
    let lo_fits : FitsSigned w128 c.nearest-lo.result = search rules in
    let above = simp to_z-of_z at c.ceiling.ensures.above in
    let below = simp to_z-of_z at c.ceiling.ensures.below in
    let brought = simp to_z-of_z at c.nearest-lo.ensures in
    let number = c.in-Some.ensures.1 ∙ ap₂ (dot integers) c.as_slice.ensures.value (c.as_slice-2.ensures.value ∙ c.in_ok-sides.ensures.value) in
    simp to_z-of_z (ceiling_is c.in-Some.side (dot integers c.args.times.items (sides_of c.args.equalities.now)) c.args.divisor c.ceiling.result c.nearest-lo.result number above below brought)
