use Rattle.std.proofs.Common.{◌≡◌, ◌++◌, drop}
use Rattle.exact_math.specs.Ring.{integers}
use Rattle.exact_vectors.specs.Matrices.{times_vector}
use Rattle.spaces.specs.Tables.{rows_in}
use Rattle.presolve_map.proofs.lifting.lift_form.Given as goal

abbrev pub invariant-loop-i : goal.invariant-loop-i
invariant-loop-i l = l.items.items ++ times_vector integers (drop l.i (rows_in l.lines)) l.form ≡ times_vector integers (rows_in l.lines) l.form
