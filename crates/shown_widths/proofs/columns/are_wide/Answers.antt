use Rattle.std.proofs.Common.{ℕ, List, ℤ, subst, arith}
use Rattle.spaces.specs.Tables.{row_at}
use Rattle.shown_widths.specs.Columns.{IsShownWide}
use Rattle.shown_widths.proofs.SideLaws.{upto_next}
use Rattle.shown_widths.proofs.columns.are_wide.Goals as goal

pub loop-j-init : goal.loop-j-init
loop-j-init c = λ k lt. absurd (omega arith)

pub loop-j-preserved : goal.loop-j-preserved
loop-j-preserved c =
    upto_next (λ (k : ℕ). IsShownWide k (row_at c.args.lines.now k) c.args.width.now c.args.points.now) c.loop-j.j c.loop-j.invariant
    (subst (λ (l : List ℤ). IsShownWide c.loop-j.j l c.args.width.now c.args.points.now) c.row.ensures.value (c.is_wide-shown.ensures c.if-not-shown.false))

pub returns : goal.returns
returns c = λ true j lt. c.loop-j.invariant j (omega (arith, lt, c.loop-j-test.false, c.loop-j.auto.j-end, c.rows-j-end.ensures.count))
