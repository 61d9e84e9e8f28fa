use Rattle.std.proofs.Common.{◌≡◌, ◌<◌, length, map, sym, ◌∙◌, ap, arith}
use Rattle.std.specs.List.{remove}
use Rattle.std.proofs.lemmas.List.{length-map}
use Rattle.std.proofs.lemmas.List.Edits.{length-remove}
use Rattle.spaces.specs.Tables.{rows_in}
use Rattle.spaces.specs.TableLaws.{length-rows_in, length-with_row, rows_in-at}
use Rattle.reformulate.proofs.MatrixSteps.{row_more, row_of_map, rows_all}
use Rattle.reformulate.proofs.matrices.without_column.Goals as goal

pub loop-i-preserved : goal.loop-i-preserved
loop-i-preserved g c =
    let inv = c.loop-i.invariant in
    let grid = c.args.grid.now in
    let row = c.copy_without.new.items in
    let before : c.loop-i.i < c.args.grid.now.rows = omega (arith, c.rows-i-end.ensures.count, c.loop-i-test.true) in
    let below : c.loop-i.i < c.loop-i.rest.rows = omega (arith, before, inv.height) in
    let there : c.loop-i.i < length (rows_in c.args.grid.now) = omega (arith, length-rows_in grid, before) in
    let inside : c.args.place < length c.row.result.now = omega (arith, c.row.ensures.width, c.requires) in
    let fewer = length-remove c.row.result.now c.args.place inside in
    let long : length c.copy_without.new.items ≡ c.loop-i.rest.width = omega (arith, ap length c.copy_without.ensures, fewer, c.row.ensures.width, inv.width) in
    record {
      height = inv.height;
      width = inv.width;
      size = length-with_row c.loop-i.rest c.loop-i.i row inv.size below long;
      done = row_more c.loop-i.rest (map (λ l. remove l c.args.place) (rows_in grid)) c.loop-i.i row inv.size below long
          (c.copy_without.ensures ∙ ap (λ l. remove l c.args.place) (c.row.ensures.value ∙ sym (rows_in-at grid c.loop-i.i before)) ∙ sym (row_of_map (λ l. remove l c.args.place) (rows_in grid) c.loop-i.i there)) inv.done;
    }

pub returns-clause-rows : goal.returns-clause-rows
returns-clause-rows g c =
    let grid = c.args.grid.now in
    rows_all c.loop-i.rest (map (λ l. remove l c.args.place) (rows_in grid)) c.loop-i.i (length-map (rows_in grid) _ ∙ length-rows_in grid ∙ sym c.loop-i.invariant.height) (omega (arith, c.rows-i-end.ensures.count, c.loop-i-test.false, c.loop-i.invariant.height)) c.loop-i.invariant.done
