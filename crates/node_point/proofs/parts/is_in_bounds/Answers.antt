use Rattle.std.proofs.Common.{rules, FitsSigned}
use Rattle.std.specs.Int.{w128}
use Rattle.std.proofs.lemmas.Int.{to_z-of_z}
use Rattle.node_point.proofs.parts.is_in_bounds.Goals as goal

pub returns-then-is_at_least : goal.returns-then-is_at_least
returns-then-is_at_least c =
    let fits_value : FitsSigned w128 c.args.value = search rules in
    let fits_denominator : FitsSigned w128 c.args.denominator = search rules in
    let fits_low : FitsSigned w128 c.args.bounds.low = search rules in
    let fits_high : FitsSigned w128 c.args.bounds.high = search rules in
    let low = simp to_z-of_z at (c.is_at_least.ensures.0 c.if-is_at_least.true) in
    let high = simp to_z-of_z at c.is_at_most.ensures in
    (λ h. record { low_side = low; high_side = high.0 h }, λ h. high.1 h.high_side)
