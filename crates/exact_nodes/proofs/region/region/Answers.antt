use Rattle.exact_nodes.proofs.NodeFacts.{system_is_region}
use Rattle.exact_nodes.proofs.region.region.Goals as goal

pub returns-in-Ok-clause-region : goal.returns-in-Ok-clause-region
returns-in-Ok-clause-region c =
    system_is_region c.args.node.now.model.now c.args.node.now.work.now c.args.node.now.frame.now c.args.node.now.path.now c.requires.node c.args.node.now.cut c.in-Ok.system c.columns-columns.ensures.limits c.dimension-coordinates.ensures.shaped.shaped c.in-Ok.ensures.system c.in-Ok.ensures.narrow_rows c.in-Ok.ensures.narrow_limits c.in-Ok.ensures.in_range
