use Rattle.std.proofs.Common.{◌<◌, pos, length, get_or, SFits, sym, ap, ◌∙◌, rules, arith, to_z-of_z}
use Rattle.std.specs.Int.{w128}
use Rattle.exact_math.specs.Ring.{integers}
use Rattle.exact_vectors.specs.Matrices.{column}
use Rattle.spaces.specs.Tables.{rows_in}
use Rattle.reformulate.proofs.MatrixSteps.{column_item, column_length, item_more, items_all}
use Rattle.reformulate.proofs.matrices.copy_column.Goals as goal

pub loop-k-preserved : goal.loop-k-preserved
loop-k-preserved g c =
    let k = c.loop-k.k in
    let value = get_or c.row.result.now c.args.place (pos 0) in
    let fits : SFits w128 (get_or c.row.result.now c.args.place (pos 0)) = search rules in
    let inside : k < length c.loop-k.items = omega (arith, c.loop-k-test.true, c.loop-k.auto.items) in
    let below : k < c.args.grid.now.rows = omega (arith, c.requires.long, c.loop-k-test.true) in
    simp to_z-of_z (item_more c.loop-k.items (column integers (rows_in c.args.grid.now) c.args.place) k value inside (ap (λ l. get_or l c.args.place (pos 0)) c.row.ensures.value ∙ column_item c.args.grid.now c.args.place k below) c.loop-k.invariant)

pub returns : goal.returns
returns g c =
    let all = c.loop-k.auto.items in
    items_all c.loop-k.items (column integers (rows_in c.args.grid.now) c.args.place) c.loop-k.k (c.loop-k.auto.items ∙ c.requires.long ∙ sym (column_length c.args.grid.now c.args.place)) (omega (arith, all, c.loop-k-test.false)) c.loop-k.invariant
