use Rattle.tree_checker.proofs.TextLaws.{front_of}
use Rattle.tree_checker.proofs.text.first_line.Goals as goal

pub returns : goal.returns
returns c =
    let front = front_of c.args.text.now c.line_length.result c.line_length.ensures.within c.line_length.ensures.feed in
    (front.0, front.1, c.line_length.ensures.line, front.2)
