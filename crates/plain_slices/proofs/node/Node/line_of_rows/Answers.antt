use Rattle.std.proofs.Common.{None, [], subst, arith}
use Rattle.std.proofs.lemmas.List.{get_or_default}
use Rattle.whole_rows.specs.WholeRows.{WholeRow}
use Rattle.whole_rows.specs.Ends.{ReachesSides}
use Rattle.plain_slices.proofs.HasSideLaws.{row-sides}
use Rattle.plain_slices.proofs.node.Node.line_of_rows.Goals as goal

pub line_out_of_reach-requires-clause-sides : goal.line_out_of_reach-requires-clause-sides
line_out_of_reach-requires-clause-sides c = rw (c.row-form.ensures.factors, c.low-low.ensures, c.high-high.ensures) (row-sides c.args.self.now.rows.now c.args.self.now.path.now c.loop-i.i c.rows-i-end.ensures.limits (omega arith))

pub returns-clause-none : goal.returns-clause-none
returns-clause-none c = λ k d h. subst (λ (row : WholeRow). ReachesSides row.factors row.low row.high c.args.self.now.bounds.items) (get_or_default c.args.self.now.rows.now.rows k (record { factors = []; low = None; high = None }) d h) (c.loop-i.invariant k (omega arith))
