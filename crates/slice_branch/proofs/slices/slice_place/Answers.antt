use Rattle.std.proofs.Common.{rules, ◌≡◌, refl, subst, FitsSigned, to_z, of_z}
use Rattle.std.specs.Int.{w128}
use Rattle.std.proofs.lemmas.Int.{to_z-of_z}
use Rattle.node_slices.specs.SliceNodes.{IsSliceAnswer, IsSlicedNode}
use Rattle.slice_branch.proofs.PlainPlaceLaws.{plain_slice}
use Rattle.slice_branch.proofs.slices.slice_place.Goals as goal

pub returns-in_ok-programs-in-Framed : goal.returns-in_ok-programs-in-Framed
returns-in_ok-programs-in-Framed c = λ path is.
    let value = c.args.value in
    let value_fits : FitsSigned w128 value = search rules in
    let value_is : to_z w128 (of_z w128 value) ≡ value = to_z-of_z w128 value value_fits in
    let answer = rw value_is at (c.in_ok-sliced.ensures path) in
    let found = subst (IsSliceAnswer c.args.model.now.rows.now c.args.node.now.frame c.args.form.now value path) c.in-Framed.is (answer is) in
    (refl, found.0, found.1)

pub returns-in-Excused : goal.returns-in-Excused
returns-in-Excused c =
    let value = c.args.value in
    let value_fits : FitsSigned w128 value = search rules in
    let value_is : to_z w128 (of_z w128 value) ≡ value = to_z-of_z w128 value value_fits in
    let answer = rw value_is at c.in_ok-sliced.ensures in
    let stop = c.in-Excused.excuse in
    plain_slice c.args.model.now.rows.now c.args.node.now (record { form = c.args.form.now; beta = value }) stop (λ path. IsSlicedNode c.args.model.now.rows.now c.args.node.now.frame c.args.form.now value path) c.plain_place.result
    (λ path is. subst (IsSliceAnswer c.args.model.now.rows.now c.args.node.now.frame c.args.form.now value path) c.in-Excused.is (answer path is)) c.plain_place.ensures
