use Rattle.std.proofs.Common.{ℤ, List, refl, ap, length, subst, ◌∙◌, sym}
use Rattle.whole_rows.specs.declared.bounds.Bounds.{Bounds}
use Rattle.presolve_map.proofs.KeptLaws.{length-kept}
use Rattle.farkas_lift.specs.NodeEqualities.{work_form}
use Rattle.node_regions.specs.NodeFrames.{IsKeptForm}
use Rattle.exact_nodes.proofs.LiftedForms.{lifted_kept, lifted_long, lifted_work}
use Rattle.exact_nodes.proofs.NodeFacts.{node_reduced}
use Rattle.exact_nodes.proofs.forms.over_all.Goals as goal

pub lift_form-requires-clause-columns : goal.lift_form-requires-clause-columns
lift_form-requires-clause-columns c = (c.args.node.now.model.now.box, c.requires.map)

pub lift_form-requires-clause-wide : goal.lift_form-requires-clause-wide
lift_form-requires-clause-wide c =
    let reduced = node_reduced c.args.node.now.model.now c.args.node.now.work.now c.args.node.now.frame.now c.args.node.now.path.now c.requires.node in
    c.requires.columns ∙ ap (λ (l : List Bounds). length l) reduced.box ∙ length-kept c.args.node.now.model.now.box c.args.node.now.model.now.box refl ∙ sym c.requires.map.width

pub returns-clause-kept : goal.returns-clause-kept
returns-clause-kept c =
    let reduced = node_reduced c.args.node.now.model.now c.args.node.now.work.now c.args.node.now.frame.now c.args.node.now.path.now c.requires.node in
    subst (IsKeptForm c.args.node.now.model.now.box) (sym c.in_ok-lifted.ensures.value) (lifted_kept c.args.node.now.model.now c.args.map.now c.requires.map c.args.node.now.work.now reduced c.args.form.now c.requires.columns)

pub returns-clause-same : goal.returns-clause-same
returns-clause-same c =
    let reduced = node_reduced c.args.node.now.model.now c.args.node.now.work.now c.args.node.now.frame.now c.args.node.now.path.now c.requires.node in
    ap (work_form c.args.node.now.work.now) c.in_ok-lifted.ensures.value ∙ lifted_work c.args.node.now.model.now c.args.map.now c.requires.map c.args.node.now.work.now reduced c.args.form.now c.requires.columns

pub returns-clause-dense : goal.returns-clause-dense
returns-clause-dense c =
    let reduced = node_reduced c.args.node.now.model.now c.args.node.now.work.now c.args.node.now.frame.now c.args.node.now.path.now c.requires.node in
    ap (λ (l : List ℤ). length l) c.in_ok-lifted.ensures.value ∙ lifted_long c.args.node.now.model.now c.args.map.now c.requires.map c.args.node.now.work.now reduced c.args.form.now c.requires.columns
