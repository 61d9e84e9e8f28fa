use Rattle.std.proofs.Common.{rules, ◌≡◌, refl, FitsSigned, to_z, of_z}
use Rattle.std.specs.Int.{w128}
use Rattle.std.proofs.lemmas.Int.{to_z-of_z}
use Rattle.slice_branch.proofs.ShownLaws.{kept_shown, slices_shown}
use Rattle.slice_branch.proofs.work.sliced.Goals as goal

pub returns-clause-kept : goal.returns-clause-kept
returns-clause-kept c =
    let kept = rw (c.bounds.ensures.value, c.items-form.ensures) at (c.if-not-is_kept_form.ensures.0 refl) in
    kept_shown c.args.task.rows.now c.args.direction.form c.split_of.result kept c.split_of.ensures.form

pub returns-clause-slices : goal.returns-clause-slices
returns-clause-slices c =
    let task = c.args.task in
    let d = c.args.direction in
    let lo_fits : FitsSigned w128 d.lo = search rules in
    let lo_is : to_z w128 (of_z w128 d.lo) ≡ d.lo = to_z-of_z w128 d.lo lo_fits in
    let count_fits : FitsSigned w128 d.count = search rules in
    let count_is : to_z w128 (of_z w128 d.count) ≡ d.count = to_z-of_z w128 d.count count_fits in
    let show = rw (lo_is, count_is, c.items-form.ensures) at (c.if-not-show_ends.ensures refl) in
    slices_shown task.rows.now task.path.now task.best c.args.points.now d.form d.lo d.count c.split_of.result
    c.bounds.ensures.limits c.requires.forms c.requires.points show
    c.split_of.ensures.splits c.split_of.ensures.form c.split_of.ensures.lo c.split_of.ensures.count
