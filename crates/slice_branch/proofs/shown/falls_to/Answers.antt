use Rattle.std.proofs.Common.{rules, ◌≡◌, refl, sym, arith, FitsSigned, to_z, of_z}
use Rattle.std.specs.Int.{w128}
use Rattle.std.proofs.lemmas.Int.{to_z-of_z}
use Rattle.slice_branch.proofs.shown.falls_to.Goals as goal

pub returns-then-is_at_most_at : goal.returns-then-is_at_most_at
returns-then-is_at_most_at c =
    let number_fits : FitsSigned w128 c.args.number = search rules in
    let number_is : to_z w128 (of_z w128 c.args.number) ≡ c.args.number = to_z-of_z w128 c.args.number number_fits in
    λ _. (c.loop-point.point-index, c.point-item.result, omega arith, sym c.point-item.is, rw number_is at (c.if-is_at_most_at.ensures refl))
