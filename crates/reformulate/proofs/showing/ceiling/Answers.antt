use Rattle.std.proofs.Common.{int_div, FitsSigned, to_z-of_z}
use Rattle.std.specs.Int.{w128}
use Rattle.std.proofs.lemmas.Int.{quot_fits}
use Rattle.reformulate.proofs.ShowingSteps.{ceiling_above}
use Rattle.reformulate.proofs.showing.ceiling.Goals as goal

pub returns-else-number-divisor-gt0-clause-above : goal.returns-else-number-divisor-gt0-clause-above
returns-else-number-divisor-gt0-clause-above c =
    let number_fits : FitsSigned w128 c.args.number = c.ranges.number in
    let divisor_fits : FitsSigned w128 c.args.divisor = c.ranges.divisor in
    let quotient_fits : FitsSigned w128 (int_div c.args.number c.args.divisor) = quot_fits w128 c.args.number c.args.divisor number_fits c.requires in
    simp to_z-of_z (ceiling_above c.args.number c.args.divisor c.requires)
