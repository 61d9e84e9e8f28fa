use Rattle.std.proofs.Common.{refl, rules, FitsSigned, to_z, of_z, ◌≡◌}
use Rattle.std.specs.Int.{w128}
use Rattle.std.proofs.lemmas.Int.{to_z-of_z}
use Rattle.slice_branch.proofs.PlaceLaws.{direction_splits}
use Rattle.slice_branch.proofs.check.split_of.Goals as goal

pub returns-clause-splits : goal.returns-clause-splits
returns-clause-splits c =
    let lo_fits : FitsSigned w128 c.args.direction.lo = search rules in
    let count_fits : FitsSigned w128 c.args.direction.count = search rules in
    let lo_is : to_z w128 (of_z w128 c.args.direction.lo) ≡ c.args.direction.lo = to_z-of_z w128 c.args.direction.lo lo_fits in
    let count_is : to_z w128 (of_z w128 c.args.direction.count) ≡ c.args.direction.count = to_z-of_z w128 c.args.direction.count count_fits in
    rw (lo_is, count_is) (direction_splits c.args.rows.now c.args.path.now c.args.best c.args.direction c.requires.small (c.if-not-has_closed_ends.ensures refl))
