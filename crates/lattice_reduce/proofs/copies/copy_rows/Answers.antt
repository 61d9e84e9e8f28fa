use Rattle.std.proofs.Common.{◌<◌, length, sym, ◌∙◌, ap, arith}
use Rattle.lattice_reduce.proofs.CopySteps.{copied_more}
use Rattle.spaces.specs.TableLaws.{length-with_row}
use Rattle.lattice_reduce.proofs.copies.copy_rows.Goals as goal

pub loop-i-preserved : goal.loop-i-preserved
loop-i-preserved g c =
    let inv = c.loop-i.invariant in
    let row = c.copy_from_slice.new.self in
    let before : c.loop-i.i < c.args.from.now.rows = omega (arith, c.rows-i-end.ensures.count, c.loop-i-test.true) in
    let below : c.loop-i.i < c.loop-i.into.rows = omega (arith, before, inv.height, c.requires.room) in
    let is = c.copy_from_slice.ensures.after ∙ c.row.ensures.value in
    let long = ap length c.copy_from_slice.ensures.after ∙ c.row.ensures.width ∙ sym (inv.width ∙ c.requires.same_width) in
    record {
      height = inv.height;
      width = inv.width;
      size = length-with_row c.loop-i.into c.loop-i.i row inv.size below long;
      done = copied_more c.loop-i.into c.args.from.now c.loop-i.i row inv.size below before long is inv.done;
    }
