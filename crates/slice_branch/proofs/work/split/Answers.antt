use Rattle.std.proofs.Common.{rules, ◌≡◌, subst}
use Rattle.proof_tree.specs.Moves.{SplitsUnder}
use Rattle.proof_tree.specs.declared.tree.Mark.TheVariants as marks
use Rattle.whole_rows.specs.WholeRows.{WholeRows}
use Rattle.form_widths.specs.Directions.{IsDirection}
use Rattle.form_widths.specs.Slices.{AreSlices}
use Rattle.node_point.specs.RationalPoints.{IsRationalPoint}
use Rattle.spaces.specs.Maps.{pulled_form}
use Rattle.spaces.specs.Tables.{rows_in}
use Rattle.reformulate.specs.Substitutions.{dimension_of}
use Rattle.presolve_map.specs.ReducedRows.{IsReduced}
use Rattle.farkas_lift.specs.NodeEqualities.{work_form}
use Rattle.node_regions.specs.NodeFrames.{IsKeptForm}
use Rattle.node_regions.specs.NodeRegions.{IsInNode}
use Rattle.slice_branch.proofs.FramedLaws.{framed_node, thin_along, thin_move}
use Rattle.slice_branch.proofs.work.split.Goals as goal

pub is_direction-requires-clause-framed : goal.is_direction-requires-clause-framed
is_direction-requires-clause-framed c =
    let task = c.args.task in
    let model = c.args.model.now in
    let presolved : IsReduced task.rows.now model.work = subst (λ (r : WholeRows). IsReduced r model.work) c.requires.own model.presolved in
    framed_node task.rows.now task.path.now c.args.given.frame.now c.requires.node model.work presolved c.requires.forms

pub is_direction-requires-clause-points : goal.is_direction-requires-clause-points
is_direction-requires-clause-points c = rw c.deref-2.ensures.value c.in_ok-points.ensures

pub returns : goal.returns
returns c =
    let task = c.args.task in
    let model = c.args.model.now in
    let frame = c.args.given.frame.now in
    let cut = c.in-Some.cut in
    let presolved : IsReduced task.rows.now model.work = subst (λ (r : WholeRows). IsReduced r model.work) c.requires.own model.presolved in
    let splits : SplitsUnder task.rows.now task.best task.path.now cut = search rules in
    let kept : IsKeptForm task.rows.now.box cut.form = search rules in
    let slices : AreSlices (IsRationalPoint task.rows.now task.path.now task.best) cut.form cut.lo cut.count = search rules in
    let mark : cut.mark ≡ marks.Thin = search rules in
    let direction : IsDirection (IsInNode frame model.work task.best) (dimension_of frame) (rows_in frame.to_work.lines) (pulled_form frame.to_work (work_form model.work cut.form)) = search rules in
    let thin = thin_along task.rows.now task.path.now frame c.requires.node model.work presolved task.best cut kept slices direction in
    (splits, thin_move task.rows.now task.path.now frame c.requires.node task.best cut c.requires.short thin, mark)
