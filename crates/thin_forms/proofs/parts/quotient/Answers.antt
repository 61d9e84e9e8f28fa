use Rattle.std.proofs.Common.{int_div, FitsSigned, to_z-of_z}
use Rattle.std.specs.Int.{w128}
use Rattle.std.proofs.lemmas.Int.{quot_fits}
use Rattle.thin_forms.proofs.PartSteps.{quotient_whole}
use Rattle.thin_forms.proofs.parts.quotient.Goals as goal

pub returns : goal.returns
returns c =
    let factor_fits : FitsSigned w128 c.args.factor = c.ranges.factor in
    let divisor_fits : FitsSigned w128 c.args.divisor = c.ranges.divisor in
    let quotient_fits : FitsSigned w128 (int_div c.args.factor c.args.divisor) = quot_fits w128 c.args.factor c.args.divisor factor_fits c.requires.positive in
    simp to_z-of_z (quotient_whole c.args.factor c.args.divisor c.requires.positive c.requires.divides)
