use Rattle.std.proofs.Common.{subst}
use Rattle.node_regions.specs.NodeRegions.{node_polytope}
use Rattle.exact_nodes.specs.Regions.{AnswerIs}
use Rattle.exact_nodes.proofs.lines.least.Goals as goal

pub unreachable-requires : goal.unreachable-requires
unreachable-requires c =
    let none = subst (AnswerIs (node_polytope c.args.node.now.frame.now c.args.node.now.work.now c.args.node.now.cut) c.args.form.now) c.in-Empty.is c.in_ok-solved.ensures.solved in
    none.1 c.requires.inhabited.point c.requires.inhabited.has
