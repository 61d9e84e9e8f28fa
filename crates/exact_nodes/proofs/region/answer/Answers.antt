use Rattle.exact_nodes.proofs.NodeFacts.{region_answer}
use Rattle.exact_nodes.proofs.region.answer.Goals as goal

pub returns-in-Ok-clause-solved : goal.returns-in-Ok-clause-solved
returns-in-Ok-clause-solved c = region_answer c.args.node.now.frame.now c.args.node.now.work.now c.args.node.now.cut c.args.system.now c.requires.region c.args.form.now c.in-Ok.ended.solved c.requires.coordinates c.in-Ok.ensures.solved
