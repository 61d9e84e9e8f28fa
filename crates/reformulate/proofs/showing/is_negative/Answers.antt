use Rattle.std.proofs.Common.{rules, ◌≡◌, pos, FitsSigned, to_z-of_z}
use Rattle.std.specs.Int.{w128}
use Rattle.reformulate.proofs.ShownSteps.{sign_by_test}
use Rattle.reformulate.proofs.showing.is_negative.Goals as goal

pub returns-then-miss-eq0 : goal.returns-then-miss-eq0
returns-then-miss-eq0 c =
    let rest_fits : FitsSigned w128 c.args.miss.now.rest = search rules in
    let zero : c.args.miss.now.value ≡ pos 0 = search rules in
    simp to_z-of_z (sign_by_test c.args.miss.now zero c.requires)
