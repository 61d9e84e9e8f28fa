use Rattle.std.proofs.Common.{[], arith}
use Rattle.proof_tree.proofs.Finding.{IsDone-from, IsSpent-from}
use Rattle.proof_tree.proofs.walk.search.Goals as goal

pub returns-then-unfinished-clause-found : goal.returns-then-unfinished-clause-found
returns-then-unfinished-clause-found g c =
    IsSpent-from g.B.Brancher.allows c.args.rows.now _ _ c.args.nodes c.work_node.new.walk c.in_ok-part.part c.point_of-best.result c.columns-columns.ensures.limits
    (rw c.new.ensures at c.in_ok-part.ensures.worked) c.point_of-best.ensures c.if-unfinished.true
    (omega (arith, g.met.B.Brancher.short c.args.rows.now c.args.root [] _ c.requires.root))

pub returns-clause-found : goal.returns-clause-found
returns-clause-found g c =
    IsDone-from g.B.Brancher.allows c.args.rows.now _ _ c.args.nodes c.work_node.new.walk c.in_ok-part.part c.point_of-best.result c.columns-columns.ensures.limits
    (rw c.new.ensures at c.in_ok-part.ensures.worked) c.point_of-best.ensures
    (omega (arith, g.met.B.Brancher.short c.args.rows.now c.args.root [] _ c.requires.root)) c.in_ok-tree.tree c.in_ok-tree.ensures
