use Rattle.std.proofs.Common.{◌∙◌, ap, subst, sym, List, ℤ, length}
use Rattle.spaces.specs.Maps.{AffineMap, ImageStays, image}
use Rattle.spaces.specs.Stops.{StopsUnless}
use Rattle.proof_tree.specs.Moves.{Improves}
use Rattle.exact_nodes.proofs.OnlyPoints.{base_improves, base_long, base_stays}
use Rattle.exact_nodes.proofs.point.only_point.Goals as goal

pub apply-requires : goal.apply-requires
apply-requires c =
    let base = c.base.ensures.value ∙ ap (λ (m : AffineMap). m.base) c.to_work.ensures.value in
    ap (λ (l : List ℤ). length l) base
    ∙ base_long c.args.node.now.model.now c.args.node.now.work.now c.args.node.now.frame.now c.args.node.now.path.now c.requires.node c.args.node.now.cut c.requires.limits c.to_work.ensures.shaped.shaped c.args.map.now c.requires.map c.requires.none c.requires.inhabited
    ∙ sym c.requires.map.width

pub unreachable-requires : goal.unreachable-requires
unreachable-requires c =
    let base = c.base.ensures.value ∙ ap (λ (m : AffineMap). m.base) c.to_work.ensures.value in
    let stop = subst (StopsUnless (ImageStays c.args.map.now c.base.result.now)) c.in-Err-Wide.field-0-is c.in-Err-Wide.ensures.stop in
    stop
    (subst (ImageStays c.args.map.now) (sym base)
    (base_stays c.args.node.now.model.now c.args.node.now.work.now c.args.node.now.frame.now c.args.node.now.path.now c.requires.node c.args.node.now.cut c.requires.limits c.to_work.ensures.shaped.shaped c.args.map.now c.requires.map c.requires.none c.requires.inhabited))

pub returns-in-Ok : goal.returns-in-Ok
returns-in-Ok c =
    let base = c.base.ensures.value ∙ ap (λ (m : AffineMap). m.base) c.to_work.ensures.value in
    subst (Improves c.args.node.now.model.now c.args.node.now.cut c.args.node.now.path.now) (ap (image c.args.map.now) (sym base) ∙ sym c.in-Ok.ensures.ok)
    (base_improves c.args.node.now.model.now c.args.node.now.work.now c.args.node.now.frame.now c.args.node.now.path.now c.requires.node c.args.node.now.cut c.requires.limits c.to_work.ensures.shaped.shaped c.args.map.now c.requires.map c.requires.none c.requires.inhabited)
