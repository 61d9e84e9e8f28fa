use Rattle.std.proofs.Common.{subst}
use Rattle.whole_rows.specs.WholeRows.{WholeRows}
use Rattle.presolve_map.specs.ReducedRows.{IsReduced}
use Rattle.exact_nodes.specs.ExactMoves.{IsExactMove}
use Rattle.slice_branch.proofs.FramedLaws.{excused_there, node_of, thin_move}
use Rattle.slice_branch.proofs.exact.exact_tried.Goals as goal

pub exact_move-requires-clause-node : goal.exact_move-requires-clause-node
exact_move-requires-clause-node c =
    let task = c.args.task in
    let model = c.args.model.now in
    let presolved : IsReduced task.rows.now model.work = subst (λ (r : WholeRows). IsReduced r model.work) c.requires.own model.presolved in
    node_of task.rows.now task.path.now c.args.frame.now c.requires.node model.work presolved c.requires.forms

pub returns-in-Split : goal.returns-in-Split
returns-in-Split c =
    let task = c.args.task in
    let found = subst (IsExactMove task.rows.now c.args.model.now.work c.args.frame.now task.path.now task.best) c.in-Split.is c.in_ok-line.ensures in
    (found.0, thin_move task.rows.now task.path.now c.args.frame.now c.requires.node task.best c.in-Split.cut c.requires.short found.1, found.2)

pub returns-in-Excused : goal.returns-in-Excused
returns-in-Excused c =
    let task = c.args.task in
    let model = c.args.model.now in
    let presolved : IsReduced task.rows.now model.work = subst (λ (r : WholeRows). IsReduced r model.work) c.requires.own model.presolved in
    let excused = subst (IsExactMove task.rows.now model.work c.args.frame.now task.path.now task.best) c.in-Excused.is c.in_ok-line.ensures in
    excused_there task.rows.now task.path.now c.args.frame.now c.requires.node model.work presolved task.best c.in-Excused.excuse excused
