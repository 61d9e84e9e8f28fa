use Rattle.std.proofs.Common.{FitsSigned, SFits, pos, rules, slice_index_or, to_z-of_z}
use Rattle.std.specs.Int.{w128}
use Rattle.thin_forms.proofs.parts.quotients.Goals as goal

pub quotient-item-requires-clause-divides : goal.quotient-item-requires-clause-divides
quotient-item-requires-clause-divides c =
    let divisor_fits : FitsSigned w128 c.args.divisor = c.ranges.divisor in
    let item_fits : SFits w128 (slice_index_or c.args.factors.now c.loop-j.j (pos 0)) = search rules in
    simp to_z-of_z (c.requires.common c.loop-j.j (pos 0) c.loop-j-test.true)
