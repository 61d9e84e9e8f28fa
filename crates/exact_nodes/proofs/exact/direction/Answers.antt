use Rattle.exact_nodes.proofs.NodeFacts.{region_ready}
use Rattle.exact_nodes.proofs.exact.direction.Goals as goal

pub thin_column-requires-clause-ready : goal.thin_column-requires-clause-ready
thin_column-requires-clause-ready c = region_ready c.args.node.now.frame.now c.args.node.now.work.now c.args.node.now.cut c.args.system.now c.requires.region c.requires.inhabited c.requires.some

pub thinnest-requires-clause-ready : goal.thinnest-requires-clause-ready
thinnest-requires-clause-ready c = region_ready c.args.node.now.frame.now c.args.node.now.work.now c.args.node.now.cut c.args.system.now c.requires.region c.requires.inhabited c.requires.some

pub returns-in-Some-clause-chosen : goal.returns-in-Some-clause-chosen
returns-in-Some-clause-chosen c =
    let direction = rw (c.in-Some.is, c.lines-lines.ensures.value, c.to_work.ensures.value, c.requires.region.polytope, c.requires.region.width) at c.in_ok-form.ensures.direction in
    let candidate = rw (c.in-Some.is, c.lines-lines.ensures.value, c.to_work.ensures.value, c.requires.region.polytope) at c.in_ok-form.ensures.candidate in
    (direction, candidate)
