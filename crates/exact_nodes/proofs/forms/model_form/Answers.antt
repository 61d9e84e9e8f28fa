use Rattle.std.proofs.Common.{◌∙◌}
use Rattle.exact_nodes.proofs.NodeFacts.{node_reached}
use Rattle.exact_nodes.proofs.forms.model_form.Goals as goal

pub over_all-requires-clause-columns : goal.over_all-requires-clause-columns
over_all-requires-clause-columns c =
    let reached = node_reached c.args.node.now.model.now c.args.node.now.work.now c.args.node.now.frame.now c.args.node.now.path.now c.requires.node in
    c.in_ok-work.ensures.columns ∙ reached.columns
