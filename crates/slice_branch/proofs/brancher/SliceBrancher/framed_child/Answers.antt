use Rattle.std.proofs.Common.{rules, ◌≡◌, ◌+ℤ◌, FitsSigned, to_z, of_z}
use Rattle.std.specs.Int.{w128}
use Rattle.std.proofs.lemmas.Int.{to_z-of_z}
use Rattle.slice_branch.proofs.BrancherLaws.{sliced_node}
use Rattle.slice_branch.proofs.PlaceLaws.{size_fits}
use Rattle.slice_branch.proofs.brancher.SliceBrancher.framed_child.Goals as goal

pub slice_place-requires-clause-there : goal.slice_place-requires-clause-there
slice_place-requires-clause-there c =
    let cut = c.args.cut.now in
    let j = c.args.j in
    let b = c.requires.branches in
    let sliced = sliced_node c.args.self.now.rows.now cut j c.requires.first c.requires.last b.0 b.1 c.args.node.now b.2 in
    let lo_fits : FitsSigned w128 cut.lo = search rules in
    let j_fits : FitsSigned w128 j = search rules in
    let lo_is : to_z w128 (of_z w128 cut.lo) ≡ cut.lo = to_z-of_z w128 cut.lo lo_fits in
    let j_is : to_z w128 (of_z w128 j) ≡ j = to_z-of_z w128 j j_fits in
    let value_is : to_z w128 (of_z w128 (cut.lo +ℤ j)) ≡ cut.lo +ℤ j = to_z-of_z w128 (cut.lo +ℤ j) (size_fits (cut.lo +ℤ j) sliced.size) in
    rw (lo_is, j_is, value_is, c.model.ensures) (b.0, sliced)

pub returns : goal.returns
returns c =
    let cut = c.args.cut.now in
    let j = c.args.j in
    let b = c.requires.branches in
    let sliced = sliced_node c.args.self.now.rows.now cut j c.requires.first c.requires.last b.0 b.1 c.args.node.now b.2 in
    let lo_fits : FitsSigned w128 cut.lo = search rules in
    let j_fits : FitsSigned w128 j = search rules in
    let lo_is : to_z w128 (of_z w128 cut.lo) ≡ cut.lo = to_z-of_z w128 cut.lo lo_fits in
    let j_is : to_z w128 (of_z w128 j) ≡ j = to_z-of_z w128 j j_fits in
    let value_is : to_z w128 (of_z w128 (cut.lo +ℤ j)) ≡ cut.lo +ℤ j = to_z-of_z w128 (cut.lo +ℤ j) (size_fits (cut.lo +ℤ j) sliced.size) in
    rw (lo_is, j_is, value_is, c.model.ensures) at c.slice_place.ensures
