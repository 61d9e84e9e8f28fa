use Rattle.farkas_lift.specs.NodeLifting.{equality_times, lifted_limit, system_form}
use Rattle.node_lines.proofs.NodeNumbers.{are-of-node}
use Rattle.node_lines.proofs.NodeSums.{comes-over}
use Rattle.node_lines.proofs.lines.lifted.Goals as goal

pub returns-clause-items : goal.returns-clause-items
returns-clause-items c =
    let model = c.args.node.now.model.now in
    let work = c.args.node.now.work.now in
    let path = c.args.node.now.path.now in
    are-of-node model work path c.args.weights.now (equality_times c.args.node.now.frame.now work path c.args.weights.now) c.in_ok-times.times.cut c.in_ok-times.times.items c.in_ok-items.items c.rows-rows.ensures.limits c.requires.node.reduced c.requires.not_negative c.in_ok-times.ensures.items c.in_ok-times.ensures.numbers (c.in_ok-items.ensures.positive c.in_ok-times.ensures.positive) c.in_ok-items.ensures.line

pub returns-clause-comes : goal.returns-clause-comes
returns-clause-comes c = λ end value over.
    let model = c.args.node.now.model.now in
    let work = c.args.node.now.work.now in
    let path = c.args.node.now.path.now in
    comes-over model work path end value c.in_ok-times.times.cut c.in_ok-times.times.items c.in_ok-items.items (system_form c.args.node.now.frame.now work c.args.weights.now) (lifted_limit c.args.node.now.frame.now work value c.args.weights.now) c.rows-rows.ensures.limits c.requires.node.reduced (c.in_ok-times.ensures.comes end value) (c.in_ok-items.ensures.same path end over)
