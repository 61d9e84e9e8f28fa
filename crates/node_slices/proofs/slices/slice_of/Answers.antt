use Rattle.std.proofs.Common.{[], get_or, length, rules, ap, ◌∙◌, arith, ◌≡◌, FitsSigned, to_z, of_z}
use Rattle.std.specs.Int.{w128}
use Rattle.std.proofs.lemmas.Int.{to_z-of_z}
use Rattle.node_slices.proofs.NodeForms.{many_factors}
use Rattle.node_slices.proofs.SlicedNodes.{as_many_columns, excused_before, excused_behind, excused_there, handed_on, has_coordinate, is_framed, is_lowest}
use Rattle.node_slices.proofs.slices.slice_of.Goals as goal

pub turn-requires : goal.turn-requires
turn-requires c =
    let there = c.requires.there in
    as_many_columns c.args.rows.now c.args.map.now c.requires.map c.args.frame.now c.args.form.now c.args.value c.in_ok-work.work c.in_ok-work.ensures there.0 there.1

pub returns-in_err-turned-clause-stop : goal.returns-in_err-turned-clause-stop
returns-in_err-turned-clause-stop c =
    let given_fits : FitsSigned w128 c.args.value = search rules in
    let given_is : to_z w128 (of_z w128 c.args.value) ≡ c.args.value = to_z-of_z w128 c.args.value given_fits in
    handed_on _ _ c.from_residual-in_err-turned.result c.in_err-turned.field-0.0 c.from_residual-in_err-turned.ensures.1
    (excused_before c.args.rows.now c.args.map.now c.requires.map c.args.frame.now c.args.form.now c.args.value c.in_ok-work.work c.in_ok-work.ensures)
    (rw given_is at c.in_err-turned.ensures.stop)

pub completed-requires-clause-few : goal.completed-requires-clause-few
completed-requires-clause-few c =
    let shaped = c.in_ok-turned.ensures.shaped in
    omega (arith, ap length c.in_ok-turned.ensures.form, many_factors c.args.frame.now c.in_ok-work.work shaped, shaped.shaped.few)

pub completed-requires-clause-primitive : goal.completed-requires-clause-primitive
completed-requires-clause-primitive c =
    let there = c.requires.there in
    is_lowest c.args.rows.now c.args.map.now c.requires.map c.args.frame.now c.args.form.now c.args.value c.in_ok-work.work c.in_ok-work.ensures there.0 there.1 c.in_ok-turned.turned.form c.in_ok-turned.ensures.form

pub returns-in_err-pair-clause-stop : goal.returns-in_err-pair-clause-stop
returns-in_err-pair-clause-stop c =
    handed_on _ _ c.from_residual-in_err-pair.result c.in_err-pair.field-0.0 c.from_residual-in_err-pair.ensures.1
    (excused_there c.args.rows.now c.args.map.now c.requires.map c.args.frame.now c.args.form.now c.args.value c.in_ok-work.work c.in_ok-work.ensures c.in_ok-turned.turned.form c.in_ok-turned.ensures.form)
    c.in_err-pair.ensures.stop

pub slice-requires-clause-some : goal.slice-requires-clause-some
slice-requires-clause-some c =
    let there = c.requires.there in
    has_coordinate c.args.rows.now c.args.map.now c.requires.map c.args.frame.now c.args.form.now c.args.value c.in_ok-work.work c.in_ok-work.ensures there.0 there.1 c.in_ok-turned.ensures.shaped

pub slice-requires-clause-size : goal.slice-requires-clause-size
slice-requires-clause-size c =
    c.in_ok-pair.ensures.inverse.height_u ∙ ap length c.in_ok-turned.ensures.form ∙ many_factors c.args.frame.now c.in_ok-work.work c.in_ok-turned.ensures.shaped

pub returns-in_err-slice-clause-stop : goal.returns-in_err-slice-clause-stop
returns-in_err-slice-clause-stop c =
    let turned = c.in_ok-turned.turned in
    let given_fits : FitsSigned w128 c.args.value = search rules in
    let given_is : to_z w128 (of_z w128 c.args.value) ≡ c.args.value = to_z-of_z w128 c.args.value given_fits in
    let turned_fits : FitsSigned w128 turned.value = search rules in
    let turned_is : to_z w128 (of_z w128 turned.value) ≡ turned.value = to_z-of_z w128 turned.value turned_fits in
    handed_on _ _ c.from_residual-in_err-slice.result c.in_err-slice.field-0.0 c.from_residual-in_err-slice.ensures.1
    (excused_behind c.args.rows.now c.args.map.now c.requires.map c.args.frame.now c.args.form.now c.args.value c.in_ok-work.work c.in_ok-work.ensures turned.form c.in_ok-pair.pair turned.value c.in_ok-turned.ensures.form (rw given_is at c.in_ok-turned.ensures.value) c.in_ok-pair.ensures.gathered c.in_ok-pair.ensures.first_row)
    (rw turned_is at c.in_err-slice.ensures.stop)

pub returns-clause-framed : goal.returns-clause-framed
returns-clause-framed c =
    let turned = c.in_ok-turned.turned in
    let given_fits : FitsSigned w128 c.args.value = search rules in
    let given_is : to_z w128 (of_z w128 c.args.value) ≡ c.args.value = to_z-of_z w128 c.args.value given_fits in
    let turned_fits : FitsSigned w128 turned.value = search rules in
    let turned_is : to_z w128 (of_z w128 turned.value) ≡ turned.value = to_z-of_z w128 turned.value turned_fits in
    λ path node. is_framed c.args.rows.now c.args.map.now c.requires.map c.args.frame.now c.args.form.now c.args.value c.in_ok-work.work c.in_ok-work.ensures path node c.in_ok-slice.slice (get_or c.in_ok-pair.pair.u 0 []) turned.value
    (c.in_ok-pair.ensures.first_row ∙ c.in_ok-turned.ensures.form) (rw given_is at c.in_ok-turned.ensures.value) (rw turned_is at c.in_ok-slice.ensures.ok)
