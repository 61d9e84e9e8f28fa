use Rattle.std.proofs.Common.{◌≡◌, ◌<◌, ◌++◌, pos, negsuc, ap, sym, ◌∙◌, arith, append_assoc}
use Rattle.norm_gauge.specs.PairTables.{pair_row, difference_rows}
use Rattle.norm_gauge.proofs.NarrowSteps.{row_narrow}
use Rattle.norm_gauge.proofs.PairSteps.{mapped_more}
use Rattle.norm_gauge.proofs.pairs.append_differences.Goals as goal

pub append_row-requires-clause-narrow : goal.append_row-requires-clause-narrow
append_row-requires-clause-narrow c = row_narrow c.args.basis.now c.loop-k.k c.row.result.now c.requires.narrow (omega (arith, c.requires.within, c.loop-k-test.true)) c.row.ensures.value

pub append_row-requires-in-loop-k-clause-narrow : goal.append_row-requires-in-loop-k-clause-narrow
append_row-requires-in-loop-k-clause-narrow c = row_narrow c.args.basis.now c.loop-k.k c.row-in-loop-k.result.now c.requires.narrow (omega (arith, c.requires.within, c.loop-k-test.true)) c.row-in-loop-k.ensures.value

pub loop-k-preserved : goal.loop-k-preserved
loop-k-preserved c =
    let before : c.loop-k.k < c.args.basis.now.rows = omega (arith, c.requires.within, c.loop-k-test.true) in
    let both : c.append_row-in-loop-k.new.items.items ≡ c.loop-k.items.items ++ difference_rows c.row.result.now =
    c.in_ok-append_row-2.ensures ∙ ap (λ l. l ++ pair_row (negsuc 0) (pos 1) c.row-in-loop-k.result.now) c.in_ok-append_row.ensures ∙ append_assoc c.loop-k.items.items _ _
    ∙ ap (λ row. c.loop-k.items.items ++ (pair_row (pos 1) (negsuc 0) c.row.result.now ++ pair_row (negsuc 0) (pos 1) row)) (c.row-in-loop-k.ensures.value ∙ sym c.row.ensures.value) in
    mapped_more difference_rows c.args.basis.now c.args.items.now.items c.loop-k.items.items c.append_row-in-loop-k.new.items.items c.row.result.now c.loop-k.k before c.row.ensures.value c.loop-k.invariant both
