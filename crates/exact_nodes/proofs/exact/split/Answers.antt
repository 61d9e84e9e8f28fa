use Rattle.std.proofs.Common.{refl}
use Rattle.exact_nodes.proofs.SplitFacts.{difference_in_range, split_is_closed, split_is_thin, sum_in_range}
use Rattle.exact_nodes.proofs.exact.split.Goals as goal

pub overflow_sub-result : goal.overflow_sub-result
overflow_sub-result c =
    difference_in_range c.args.node.now.model.now c.args.node.now.work.now c.args.node.now.frame.now c.args.node.now.path.now c.requires.node c.args.node.now.cut c.requires.limits c.requires.frame c.in_ok-form.form c.in_ok-moved.moved.form c.in_ok-form.ensures.chosen c.in_ok-moved.ensures.form
    c.in_ok-moved.moved.constant c.in_ok-lower.lower.value c.in_ok-upper.upper.value c.in_ok-moved.ensures.constant c.in_ok-moved.ensures.light c.in_ok-lower.ensures.first c.in_ok-upper.ensures.last

pub overflow_add-result : goal.overflow_add-result
overflow_add-result c =
    sum_in_range c.args.node.now.model.now c.args.node.now.work.now c.args.node.now.frame.now c.args.node.now.path.now c.requires.node c.args.node.now.cut c.requires.limits c.requires.frame c.in_ok-form.form c.in_ok-moved.moved.form c.in_ok-form.ensures.chosen c.in_ok-moved.ensures.form
    c.in_ok-moved.moved.constant c.in_ok-lower.lower.value c.in_ok-upper.upper.value c.in_ok-moved.ensures.constant c.in_ok-moved.ensures.light c.in_ok-lower.ensures.first c.in_ok-upper.ensures.last

pub returns-clause-splits : goal.returns-clause-splits
returns-clause-splits c =
    split_is_closed c.args.node.now.model.now c.args.node.now.work.now c.args.node.now.frame.now c.args.node.now.path.now c.requires.node c.args.node.now.cut c.requires.limits c.requires.frame c.in_ok-form.form c.in_ok-moved.moved.form c.in_ok-form.ensures.chosen c.in_ok-moved.ensures.form
    c.in_ok-moved.moved.constant c.in_ok-lower.lower.value c.in_ok-upper.upper.value c.in_ok-moved.ensures.constant c.in_ok-moved.ensures.light c.in_ok-lower.ensures.first c.in_ok-upper.ensures.last
    _ refl refl refl c.in_ok-lower.ensures.line c.in_ok-upper.ensures.line

pub returns-clause-thin : goal.returns-clause-thin
returns-clause-thin c =
    split_is_thin c.args.node.now.model.now c.args.node.now.work.now c.args.node.now.frame.now c.args.node.now.path.now c.requires.node c.args.node.now.cut c.requires.limits c.requires.frame c.in_ok-form.form c.in_ok-moved.moved.form c.in_ok-form.ensures.chosen c.in_ok-moved.ensures.form
    c.in_ok-moved.moved.constant c.in_ok-lower.lower.value c.in_ok-upper.upper.value c.in_ok-moved.ensures.constant c.in_ok-moved.ensures.light c.in_ok-lower.ensures.first c.in_ok-upper.ensures.last
    _ refl refl refl
