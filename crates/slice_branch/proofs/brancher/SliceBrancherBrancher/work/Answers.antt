use Rattle.std.proofs.Common.{◌≡◌, ◌-◌, ◌+◌, false, true, length, subst, sym, ap}
use Rattle.std.specs.Prelude.{IfOk}
use Rattle.proof_tree.specs.declared.tree.Move.{Move}
use Rattle.proof_tree.specs.Moves.{IsMove}
use Rattle.plain_slices.specs.PlainMoves.{IsPlainAnswer}
use Rattle.slice_branch.specs.declared.place.Place.{Place}
use Rattle.slice_branch.specs.Framed.{IsAllowed, IsTried}
use Rattle.slice_branch.specs.Places.{height_of, is_plain_place, StandsFor}
use Rattle.slice_branch.specs.Settling.{move_of}
use Rattle.slice_branch.proofs.BrancherLaws.{excused_node, excused_place, small_of}
use Rattle.slice_branch.proofs.PlaceLaws.{allowed_at_root, chosen_at_root, move_of_framed, on_ok}
use Rattle.slice_branch.proofs.PlainLaws.{move_of_plain, plain_is_allowed}
use Rattle.slice_branch.proofs.brancher.SliceBrancherBrancher.work.Goals as goal

pub node_move-requires-clause-small : goal.node_move-requires-clause-small
node_move-requires-clause-small c = small_of c.args.self.now.rows.now c.args.path.now c.args.best c.args.place.now c.requires.stands

pub returns-in-Settled-clause-chosen : goal.returns-in-Settled-clause-chosen
returns-in-Settled-clause-chosen c =
    let rows = c.args.self.now.rows.now in
    let path = c.args.path.now in
    let best = c.args.best in
    let stands = subst (λ (place : Place). StandsFor rows place path best) c.in-Settled.is c.requires.stands in
    let chosen = chosen_at_root rows best path stands.1.1 c.in-Settled.settled stands.1.2 in
    on_ok (λ (found : Move). found ≡ move_of c.in-Settled.settled) (IsMove rows path best 0 false) c.settled_move.result
    (λ found is. subst (IsMove rows path best 0 false) (sym is) chosen) c.settled_move.ensures

pub returns-in-Settled-clause-allowed : goal.returns-in-Settled-clause-allowed
returns-in-Settled-clause-allowed c =
    let rows = c.args.self.now.rows.now in
    let path = c.args.path.now in
    let best = c.args.best in
    let stands = subst (λ (place : Place). StandsFor rows place path best) c.in-Settled.is c.requires.stands in
    let allowed = allowed_at_root rows best path stands.1.1 c.in-Settled.settled stands.1.2 stands.0 in
    on_ok (λ (found : Move). found ≡ move_of c.in-Settled.settled) (IsAllowed rows path best) c.settled_move.result
    (λ found is. subst (IsAllowed rows path best) (sym is) allowed) c.settled_move.ensures

pub returns-in-Plain-clause-chosen : goal.returns-in-Plain-clause-chosen
returns-in-Plain-clause-chosen c =
    let rows = c.args.self.now.rows.now in
    let path = c.args.path.now in
    let best = c.args.best in
    let node = c.in-Plain.field-0 in
    let stands = subst (λ (place : Place). StandsFor rows place path best) c.in-Plain.is c.requires.stands in
    subst (λ (place : Place). IfOk c.plain_move.result (IsMove rows path best (height_of rows place path) (is_plain_place place))) (sym c.in-Plain.is)
    (on_ok (IsPlainAnswer rows path best) (IsMove rows path best ((node.depth + length rows.box) - length path) true) c.plain_move.result (move_of_plain rows node.depth path stands.1.0 best) c.plain_move.ensures)

pub returns-in-Moved-clause-chosen : goal.returns-in-Moved-clause-chosen
returns-in-Moved-clause-chosen c =
    let rows = c.args.self.now.rows.now in
    let path = c.args.path.now in
    let found = subst (IsTried rows path c.args.best c.in-Framed.node.frame) c.in-Moved.is c.in_ok-found-in-Framed.ensures in
    move_of_framed rows path c.args.best c.in-Moved.found found

pub returns-in_ok-place-in-Excused-clause-stands : goal.returns-in_ok-place-in-Excused-clause-stands
returns-in_ok-place-in-Excused-clause-stands c =
    let rows = c.args.self.now.rows.now in
    let path = c.args.path.now in
    let best = c.args.best in
    let node = c.in-Framed.node in
    let stands = subst (λ (place : Place). StandsFor rows place path best) c.in-Framed.is c.requires.stands in
    let excused = subst (IsTried rows path best node.frame) c.in-Excused.is c.in_ok-found-in-Framed.ensures in
    excused_place rows path best node c.in-Excused.excuse (length c.items.result.now) c.in_ok-place-in-Excused.field-0 stands excused (ap length c.items.ensures) c.in_ok-place-in-Excused.ensures

pub returns-in_ok-place-in-Excused-clause-allowed : goal.returns-in_ok-place-in-Excused-clause-allowed
returns-in_ok-place-in-Excused-clause-allowed c =
    let rows = c.args.self.now.rows.now in
    let path = c.args.path.now in
    let best = c.args.best in
    let node = c.in-Framed.node in
    let stands = subst (λ (place : Place). StandsFor rows place path best) c.in-Framed.is c.requires.stands in
    let excused = subst (IsTried rows path best node.frame) c.in-Excused.is c.in_ok-found-in-Framed.ensures in
    on_ok (IsPlainAnswer rows path best) (IsAllowed rows path best) c.plain_move-in-Excused.result
    (plain_is_allowed rows path best stands.0 (c.in-Excused.excuse, excused_node rows path best node c.in-Excused.excuse stands excused)) c.plain_move-in-Excused.ensures
