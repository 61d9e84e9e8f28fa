use Rattle.std.proofs.Common.{rules, ◌<◌, length, get_or, pos, ◌+ℤ◌, ◌*ℤ◌, FitsSigned, arith}
use Rattle.std.specs.Int.{w128}
use Rattle.std.proofs.lemmas.Int.{to_z-of_z, fits_signed_from_abs}
use Rattle.farkas_rows.proofs.SideLemmas.{added-more, left-more}
use Rattle.farkas_rows.proofs.side.add_multiple.Goals as goal

pub overflow_add-sums : goal.overflow_add-sums
overflow_add-sums c =
    let within : c.loop-j.j < length c.args.sums.now = omega arith in
    let old_fits : FitsSigned w128 (get_or c.loop-j.sums c.loop-j.j (pos 0)) = search rules in
    let factor_fits : FitsSigned w128 (get_or c.args.form.now c.loop-j.j (pos 0)) = search rules in
    let times_fits : FitsSigned w128 c.args.times = search rules in
    let product_fits : FitsSigned w128 (c.args.times *ℤ get_or c.args.form.now c.loop-j.j (pos 0)) = fits_signed_from_abs w128 _ (omega (arith, c.requires.products c.loop-j.j within)) in
    let left = c.loop-j.invariant.left c.loop-j.j (omega arith) in
    let sum_fits : FitsSigned w128 (get_or c.loop-j.sums c.loop-j.j (pos 0) +ℤ c.args.times *ℤ get_or c.args.form.now c.loop-j.j (pos 0)) = fits_signed_from_abs w128 _ (rw left (omega (arith, c.requires.sums c.loop-j.j within))) in
    simp to_z-of_z sum_fits

pub loop-j-preserved : goal.loop-j-preserved
loop-j-preserved c =
    let within : c.loop-j.j < length c.args.sums.now = omega arith in
    let old_fits : FitsSigned w128 (get_or c.loop-j.sums c.loop-j.j (pos 0)) = search rules in
    let factor_fits : FitsSigned w128 (get_or c.args.form.now c.loop-j.j (pos 0)) = search rules in
    let times_fits : FitsSigned w128 c.args.times = search rules in
    let product_fits : FitsSigned w128 (c.args.times *ℤ get_or c.args.form.now c.loop-j.j (pos 0)) = fits_signed_from_abs w128 _ (omega (arith, c.requires.products c.loop-j.j within)) in
    let left = c.loop-j.invariant.left c.loop-j.j (omega arith) in
    let sum_fits : FitsSigned w128 (get_or c.loop-j.sums c.loop-j.j (pos 0) +ℤ c.args.times *ℤ get_or c.args.form.now c.loop-j.j (pos 0)) = fits_signed_from_abs w128 _ (rw left (omega (arith, c.requires.sums c.loop-j.j within))) in
    let added_so_far = simp to_z-of_z at c.loop-j.invariant.added in
    simp to_z-of_z (record {
      added = added-more c.loop-j.sums c.args.sums.now c.args.form.now c.args.times c.loop-j.j (omega arith) added_so_far c.loop-j.invariant.left;
      left = left-more c.loop-j.sums c.args.sums.now _ c.loop-j.j c.loop-j.invariant.left;
    })
