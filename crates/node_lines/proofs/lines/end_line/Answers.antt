use Rattle.node_lines.proofs.Refuting.{past-refuted}
use Rattle.farkas_rows.specs.Ends.{inequality_of}
use Rattle.node_lines.proofs.lines.end_line.Goals as goal

pub line_of-requires-clause-refuted : goal.line_of-requires-clause-refuted
line_of-requires-clause-refuted c =
    past-refuted c.args.node.now.model.now c.args.node.now.work.now c.args.node.now.frame.now c.args.node.now.path.now c.args.node.now.cut (inequality_of c.args.end.now) c.args.weights.now c.in_ok-times.times.cut c.in_ok-times.times.items c.push.new.self c.in_ok-end_use.field-0 c.in_ok-times.ensures.limits c.requires.node c.requires.past c.in_ok-times.ensures.cut c.in_ok-times.ensures.items c.in_ok-times.ensures.comes c.in_ok-push.ensures.ok c.in_ok-end_use.ensures.value
