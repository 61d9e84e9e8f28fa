use Rattle.std.proofs.Common.{◌<◌, [], length, map, sym, ◌∙◌, ap, arith}
use Rattle.std.proofs.lemmas.List.{get_or-map, length-map}
use Rattle.spaces.specs.TableLaws.{length-with_row}
use Rattle.reformulate.specs.declared.equality.Equality.{Equality}
use Rattle.farkas_lift.proofs.GridSteps.{row_more, rows_all}
use Rattle.farkas_lift.proofs.grids.equality_grid.Goals as goal

pub loop-i-preserved : goal.loop-i-preserved
loop-i-preserved c =
    let inv = c.loop-i.invariant in
    let row = c.copy_from_slice.new.self in
    let below : c.loop-i.i < c.loop-i.grid.rows = omega (arith, c.loop-i-test.true, inv.height) in
    let form = sym (get_or-map (λ (equality : Equality). equality.form) c.args.equalities.now c.loop-i.i c.index-equalities-i.result [] c.loop-i-test.true) in
    let after = c.copy_from_slice.ensures.after ∙ c.items.ensures in
    let long = ap length after ∙ c.requires.dense c.loop-i.i c.index-equalities-i.result c.loop-i-test.true ∙ sym inv.width in
    record {
      height = inv.height;
      width = inv.width;
      size = length-with_row c.loop-i.grid c.loop-i.i row inv.size below long;
      done = row_more c.loop-i.grid (map (λ (equality : Equality). equality.form) c.args.equalities.now) c.loop-i.i row inv.size below long (after ∙ form) inv.done;
    }

pub returns-clause-rows : goal.returns-clause-rows
returns-clause-rows c =
    rows_all c.loop-i.grid (map (λ (equality : Equality). equality.form) c.args.equalities.now) c.loop-i.i (length-map c.args.equalities.now (λ (equality : Equality). equality.form) ∙ sym c.loop-i.invariant.height) (omega (arith, c.loop-i-test.false, c.loop-i.invariant.height)) c.loop-i.invariant.done
