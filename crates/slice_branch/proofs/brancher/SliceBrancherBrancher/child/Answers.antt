use Rattle.std.proofs.Common.{rules, ◌≡◌, ℤ, ◌+ℤ◌, List, subst, sym, FitsSigned, to_z, of_z}
use Rattle.std.specs.Int.{w128}
use Rattle.std.specs.Prelude.{Option}
use Rattle.std.proofs.lemmas.Int.{to_z-of_z}
use Rattle.farkas_rows.specs.declared.path.Slice.{Slice}
use Rattle.node_slices.specs.SliceNodes.{IsSlicedNode}
use Rattle.proof_tree.specs.Moves.{Branches, IsChildOf}
use Rattle.slice_branch.specs.declared.place.Place.{Place}
use Rattle.slice_branch.specs.Changes.{Begins}
use Rattle.slice_branch.specs.Framed.{IsAllowed}
use Rattle.slice_branch.specs.Places.{height_of, is_plain_place, IsSlicePlace, StandsFor}
use Rattle.slice_branch.specs.PlainPlaces.{IsPlainPlace}
use Rattle.slice_branch.proofs.BrancherLaws.{framed_child, plain_child, sliced_node}
use Rattle.slice_branch.proofs.PlaceLaws.{on_ok}
use Rattle.slice_branch.proofs.brancher.SliceBrancherBrancher.child.Goals as goal

pub returns-in-Plain-clause-place : goal.returns-in-Plain-clause-place
returns-in-Plain-clause-place c =
    let rows = c.args.self.now.rows.now in
    let cut = c.args.cut.now in
    let node = c.in-Plain.node in
    on_ok (IsPlainPlace node.excuse.value node.depth)
    (λ (child : Place). (path : List Slice) (best : Option ℤ) → Branches StandsFor height_of is_plain_place IsAllowed rows c.args.place.now cut path best → IsChildOf StandsFor height_of is_plain_place rows c.args.place.now path cut.form (cut.lo +ℤ c.args.j) child)
    c.below.result
    (λ child is path best branches.
    let at = subst (λ (parent : Place). Branches StandsFor height_of is_plain_place IsAllowed rows parent cut path best) c.in-Plain.is branches in
    subst (λ (parent : Place). IsChildOf StandsFor height_of is_plain_place rows parent path cut.form (cut.lo +ℤ c.args.j) child) (sym c.in-Plain.is)
    (plain_child rows cut c.args.j c.requires.first c.requires.last path best node child is at))
    c.below.ensures

pub returns-in-Plain-clause-begins : goal.returns-in-Plain-clause-begins
returns-in-Plain-clause-begins c =
    let rows = c.args.self.now.rows.now in
    let cut = c.args.cut.now in
    let node = c.in-Plain.node in
    on_ok (IsPlainPlace node.excuse.value node.depth)
    (λ (child : Place). (path : List Slice) (best : Option ℤ) → Branches StandsFor height_of is_plain_place IsAllowed rows c.args.place.now cut path best → Begins rows c.args.place.now path cut.form (cut.lo +ℤ c.args.j) child)
    c.below.result
    (λ child is path best branches. subst (λ (parent : Place). Begins rows parent path cut.form (cut.lo +ℤ c.args.j) child) (sym c.in-Plain.is) is)
    c.below.ensures

pub returns-in-Framed-clause-place : goal.returns-in-Framed-clause-place
returns-in-Framed-clause-place c =
    let rows = c.args.self.now.rows.now in
    let cut = c.args.cut.now in
    let node = c.in-Framed.node in
    let j_fits : FitsSigned w128 c.args.j = search rules in
    let j_is : to_z w128 (of_z w128 c.args.j) ≡ c.args.j = to_z-of_z w128 c.args.j j_fits in
    on_ok (λ (place : Place). (path : List Slice) → IsSlicedNode rows node.frame cut.form (cut.lo +ℤ c.args.j) path → IsSlicePlace rows node path (record { form = cut.form; beta = cut.lo +ℤ c.args.j }) place)
    (λ (child : Place). (path : List Slice) (best : Option ℤ) → Branches StandsFor height_of is_plain_place IsAllowed rows c.args.place.now cut path best → IsChildOf StandsFor height_of is_plain_place rows c.args.place.now path cut.form (cut.lo +ℤ c.args.j) child)
    c.framed_child.result
    (λ place sliced path best branches.
    let at = subst (λ (parent : Place). Branches StandsFor height_of is_plain_place IsAllowed rows parent cut path best) c.in-Framed.is branches in
    subst (λ (parent : Place). IsChildOf StandsFor height_of is_plain_place rows parent path cut.form (cut.lo +ℤ c.args.j) place) (sym c.in-Framed.is)
    (framed_child rows cut c.args.j c.requires.first c.requires.last path best node place (sliced path (sliced_node rows cut c.args.j c.requires.first c.requires.last path best node at)) at))
    (rw j_is at c.framed_child.ensures)

pub returns-in-Framed-clause-begins : goal.returns-in-Framed-clause-begins
returns-in-Framed-clause-begins c =
    let rows = c.args.self.now.rows.now in
    let cut = c.args.cut.now in
    let node = c.in-Framed.node in
    let j_fits : FitsSigned w128 c.args.j = search rules in
    let j_is : to_z w128 (of_z w128 c.args.j) ≡ c.args.j = to_z-of_z w128 c.args.j j_fits in
    on_ok (λ (place : Place). (path : List Slice) → IsSlicedNode rows node.frame cut.form (cut.lo +ℤ c.args.j) path → IsSlicePlace rows node path (record { form = cut.form; beta = cut.lo +ℤ c.args.j }) place)
    (λ (child : Place). (path : List Slice) (best : Option ℤ) → Branches StandsFor height_of is_plain_place IsAllowed rows c.args.place.now cut path best → Begins rows c.args.place.now path cut.form (cut.lo +ℤ c.args.j) child)
    c.framed_child.result
    (λ place sliced path best branches.
    let at = subst (λ (parent : Place). Branches StandsFor height_of is_plain_place IsAllowed rows parent cut path best) c.in-Framed.is branches in
    subst (λ (parent : Place). Begins rows parent path cut.form (cut.lo +ℤ c.args.j) place) (sym c.in-Framed.is)
    (sliced path (sliced_node rows cut c.args.j c.requires.first c.requires.last path best node at)))
    (rw j_is at c.framed_child.ensures)
