use Rattle.std.proofs.Common.{◌<◌, length, sym, ◌∙◌, ap, arith}
use Rattle.exact_math.specs.Ring.{integers}
use Rattle.exact_vectors.specs.Matrices.{transpose}
use Rattle.exact_vectors.specs.MatrixLaws.{length-transpose}
use Rattle.spaces.specs.Tables.{rows_in}
use Rattle.spaces.specs.TableLaws.{HasWidth-rows_in, length-with_row}
use Rattle.reformulate.proofs.MatrixSteps.{column_length, row_more, row_of_transpose, rows_all}
use Rattle.reformulate.proofs.matrices.transposed.Goals as goal

pub loop-i-preserved : goal.loop-i-preserved
loop-i-preserved g c =
    let inv = c.loop-i.invariant in
    let grid = c.args.grid.now in
    let row = c.copy_column.new.items in
    let before : c.loop-i.i < c.args.grid.now.width = omega (arith, c.width-i-end.ensures.count, c.loop-i-test.true) in
    let below : c.loop-i.i < c.loop-i.turned.rows = omega (arith, before, inv.height) in
    let long = ap length c.copy_column.ensures ∙ column_length grid c.loop-i.i ∙ sym inv.width in
    record {
      height = inv.height;
      width = inv.width;
      size = length-with_row c.loop-i.turned c.loop-i.i row inv.size below long;
      done = row_more c.loop-i.turned (transpose grid.width (rows_in grid)) c.loop-i.i row inv.size below long (c.copy_column.ensures ∙ sym (row_of_transpose grid.width (rows_in grid) c.loop-i.i (HasWidth-rows_in grid c.width.ensures.size) before)) inv.done;
    }

pub returns-clause-rows : goal.returns-clause-rows
returns-clause-rows g c =
    let grid = c.args.grid.now in
    rows_all c.loop-i.turned (transpose grid.width (rows_in grid)) c.loop-i.i (length-transpose integers grid.width (rows_in grid) (HasWidth-rows_in grid c.width.ensures.size) ∙ sym c.loop-i.invariant.height) (omega (arith, c.width-i-end.ensures.count, c.loop-i-test.false, c.loop-i.invariant.height)) c.loop-i.invariant.done
