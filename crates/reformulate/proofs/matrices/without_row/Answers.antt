use Rattle.std.proofs.Common.{◌≡◌, ◌<◌, [], length, sym, ◌∙◌, ap, arith}
use Rattle.std.specs.List.{remove}
use Rattle.std.proofs.lemmas.List.Edits.{length-remove}
use Rattle.spaces.specs.Tables.{rows_in}
use Rattle.spaces.specs.TableLaws.{length-rows_in, length-with_row, rows_in-at}
use Rattle.reformulate.proofs.MatrixSteps.{removed_item, row_more, rows_all}
use Rattle.reformulate.proofs.matrices.without_row.Goals as goal

pub loop-i-preserved : goal.loop-i-preserved
loop-i-preserved g c =
    let inv = c.loop-i.invariant in
    let grid = c.args.grid.now in
    let row = c.copy_from_slice.new.self in
    let before = c.index_before.result in
    let below : c.loop-i.i < c.loop-i.rest.rows = omega (arith, c.rows-i-end.ensures.count, c.loop-i-test.true) in
    let there : c.args.place < length (rows_in c.args.grid.now) = omega (arith, length-rows_in grid, c.requires.there) in
    let inside : c.index_before.result < c.args.grid.now.rows = grind (arith, c.index_before.ensures.below, c.index_before.ensures.above, inv.height, below, c.requires.there) in
    let long = ap length c.copy_from_slice.ensures.after ∙ c.row.ensures.width ∙ sym inv.width in
    record {
      height = inv.height;
      width = inv.width;
      size = length-with_row c.loop-i.rest c.loop-i.i row inv.size below long;
      done = row_more c.loop-i.rest (remove (rows_in grid) c.args.place) c.loop-i.i row inv.size below long
          (c.copy_from_slice.ensures.after ∙ c.row.ensures.value ∙ sym (rows_in-at grid before inside) ∙ removed_item (rows_in grid) c.args.place c.loop-i.i before [] there c.index_before.ensures.below c.index_before.ensures.above) inv.done;
    }

pub returns-clause-rows : goal.returns-clause-rows
returns-clause-rows g c =
    let grid = c.args.grid.now in
    let there : c.args.place < length (rows_in c.args.grid.now) = omega (arith, length-rows_in grid, c.requires.there) in
    let fewer = length-remove (rows_in grid) c.args.place there in
    let same : length (remove (rows_in c.args.grid.now) c.args.place) ≡ c.loop-i.rest.rows = omega (arith, fewer, length-rows_in grid, c.loop-i.invariant.height) in
    rows_all c.loop-i.rest (remove (rows_in grid) c.args.place) c.loop-i.i same (omega (arith, c.rows-i-end.ensures.count, c.loop-i-test.false)) c.loop-i.invariant.done
