use Rattle.std.proofs.Common.{rules, get_or, pos, ◌+ℤ◌, FitsSigned}
use Rattle.std.specs.Int.{w128}
use Rattle.std.proofs.lemmas.Int.{to_z-of_z, fits_signed_from_abs}
use Rattle.exact_math.specs.IntegerRing.{linear, mul_one}
use Rattle.farkas_rows.proofs.SideLemmas.{of_column-same, added_at_column}
use Rattle.farkas_rows.proofs.side.Factors.add_to.Goals as goal

pub returns-in-Unit : goal.returns-in-Unit
returns-in-Unit c =
    let own = of_column-same c.args.self.now _ _ c.in-Unit.is c.requires.form in
    let old_fits : FitsSigned w128 (get_or c.args.sums.now c.in-Unit.column (pos 0)) = search rules in
    let times_fits : FitsSigned w128 c.args.times = search rules in
    let sum_fits : FitsSigned w128 (get_or c.args.sums.now c.in-Unit.column (pos 0) +ℤ c.args.times) = fits_signed_from_abs w128 _ (omega (linear, mul_one c.args.times, (rw own.1 at (c.requires.sums c.in-Unit.column own.0)))) in
    simp to_z-of_z (added_at_column c.args.sums.now c.args.self.now c.in-Unit.column c.args.times c.in-Unit.is c.requires.form)
