use Rattle.std.proofs.Common.{rules, ◌≡◌, FitsSigned, to_z, of_z}
use Rattle.std.specs.Int.{w128}
use Rattle.std.proofs.lemmas.Int.{to_z-of_z}
use Rattle.node_slices.proofs.slices.slice_frame.Goals as goal

pub returns-in-Ok : goal.returns-in-Ok
returns-in-Ok c =
    let fits : FitsSigned w128 c.args.value = search rules in
    let value_is : to_z w128 (of_z w128 c.args.value) ≡ c.args.value = to_z-of_z w128 c.args.value fits in
    rw value_is at c.in-Ok.ensures.framed

pub returns-in-Err-Excuse : goal.returns-in-Err-Excuse
returns-in-Err-Excuse c =
    let fits : FitsSigned w128 c.args.value = search rules in
    let value_is : to_z w128 (of_z w128 c.args.value) ≡ c.args.value = to_z-of_z w128 c.args.value fits in
    rw value_is at (rw c.in-Err-Excuse.field-0-is at c.in-Err-Excuse.ensures.stop)
