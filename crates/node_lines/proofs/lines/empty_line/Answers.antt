use Rattle.farkas_lift.proofs.LiftSteps.{on_ok}
use Rattle.node_lines.proofs.Refuting.{empty-refuted}
use Rattle.node_lines.proofs.lines.empty_line.Goals as goal

pub line_of-requires-clause-refuted : goal.line_of-requires-clause-refuted
line_of-requires-clause-refuted c =
    empty-refuted c.args.node.now.model.now c.args.node.now.work.now c.args.node.now.frame.now c.args.node.now.path.now c.args.node.now.cut c.args.weights.now c.in_ok-times.times.cut c.in_ok-times.times.items c.in_ok-times.ensures.limits c.in_ok-times.ensures.shaped c.requires.node c.requires.empty c.in_ok-times.ensures.cut c.in_ok-times.ensures.items c.in_ok-times.ensures.comes

pub returns-clause-in_range : goal.returns-clause-in_range
returns-clause-in_range c = on_ok c.line_of.result c.in_ok-times.ensures.in_range
