use Rattle.std.proofs.Common.{◌<◌, length, sym, ◌∙◌, ap, arith}
use Rattle.spaces.specs.Tables.{rows_in}
use Rattle.spaces.specs.TableLaws.{length-rows_in, length-with_row, rows_in-at}
use Rattle.reformulate.proofs.MatrixSteps.{row_more, rows_all}
use Rattle.reformulate.proofs.matrices.copied.Goals as goal

pub loop-i-preserved : goal.loop-i-preserved
loop-i-preserved g c =
    let inv = c.loop-i.invariant in
    let row = c.copy_from_slice.new.self in
    let before : c.loop-i.i < c.args.grid.now.rows = omega (arith, c.rows-i-end.ensures.count, c.loop-i-test.true) in
    let below : c.loop-i.i < c.loop-i.copy.rows = omega (arith, before, inv.height) in
    let long = ap length c.copy_from_slice.ensures.after ∙ c.row.ensures.width ∙ sym inv.width in
    record {
      height = inv.height;
      width = inv.width;
      size = length-with_row c.loop-i.copy c.loop-i.i row inv.size below long;
      done = row_more c.loop-i.copy (rows_in c.args.grid.now) c.loop-i.i row inv.size below long (c.copy_from_slice.ensures.after ∙ c.row.ensures.value ∙ sym (rows_in-at c.args.grid.now c.loop-i.i before)) inv.done;
    }

pub returns-clause-rows : goal.returns-clause-rows
returns-clause-rows g c =
    rows_all c.loop-i.copy (rows_in c.args.grid.now) c.loop-i.i (length-rows_in c.args.grid.now ∙ sym c.loop-i.invariant.height) (omega (arith, c.rows-i-end.ensures.count, c.loop-i-test.false, c.loop-i.invariant.height)) c.loop-i.invariant.done
