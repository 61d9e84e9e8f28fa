use Rattle.std.proofs.Common.{◌<◌, [], length, sym, ◌∙◌, ap, arith}
use Rattle.std.proofs.lemmas.List.{get_or-map, length-map}
use Rattle.std.proofs.lemmas.Nat.{mul-le}
use Rattle.spaces.specs.TableLaws.{length-with_row}
use Rattle.farkas_lift.specs.NodeLifting.{side_forms}
use Rattle.farkas_lift.specs.NodeSides.{side_form}
use Rattle.farkas_lift.proofs.GridSteps.{row_more, rows_all}
use Rattle.farkas_lift.proofs.grids.side_grid.Goals as goal

pub loop-i-preserved : goal.loop-i-preserved
loop-i-preserved c =
    let inv = c.loop-i.invariant in
    let row = c.copy_from_slice.new.self in
    let below : c.loop-i.i < c.loop-i.grid.rows = omega (arith, c.loop-i-test.true, inv.height) in
    let after = c.copy_from_slice.ensures.after ∙ c.deref.ensures.value in
    let long = ap length after ∙ c.in_ok-factors.ensures.dense ∙ sym inv.width in
    record {
      height = inv.height;
      width = inv.width;
      size = length-with_row c.loop-i.grid c.loop-i.i row inv.size below long;
      done = row_more c.loop-i.grid (side_forms c.args.rows.now c.args.sides.now) c.loop-i.i row inv.size below long (after ∙ c.in_ok-factors.ensures.value ∙ sym (get_or-map (side_form c.args.rows.now) c.args.sides.now c.loop-i.i _ [] c.loop-i-test.true)) inv.done;
    }

pub returns-clause-rows : goal.returns-clause-rows
returns-clause-rows c =
    rows_all c.loop-i.grid (side_forms c.args.rows.now c.args.sides.now) c.loop-i.i (length-map c.args.sides.now (side_form c.args.rows.now) ∙ sym c.loop-i.invariant.height) (omega (arith, c.loop-i-test.false, c.loop-i.invariant.height)) c.loop-i.invariant.done

pub filled-requires : goal.filled-requires
filled-requires c = omega (arith, mul-le (length c.args.sides.now) c.columns.result 1025 256 c.requires.few c.columns.ensures.few)
