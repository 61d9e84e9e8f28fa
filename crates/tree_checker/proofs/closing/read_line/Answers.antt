use Rattle.farkas_rows.specs.Ends.{inequality_of}
use Rattle.tree_checker.proofs.Reading.{no_line, a_line}
use Rattle.tree_checker.proofs.closing.read_line.Goals as goal

pub returns-in_err-count : goal.returns-in_err-count
returns-in_err-count c =
    rw c.from_residual.ensures
    (λ line h. no_line c.args.rows.now c.args.path.now (inequality_of c.args.end.now) c.requires.limits c.requires.short c.take_cut-cut.result c.args.words _ c.take_cut-cut.ensures c.in_err-count.ensures line.cut line.items h)

pub returns : goal.returns
returns c =
    (c.in_ok-count.ensures.0, a_line c.args.rows.now c.args.path.now (inequality_of c.args.end.now) c.take_cut-cut.result c.args.words _ _ c.take_cut-cut.ensures c.requires.some c.in_ok-count.ensures.1)
