use Rattle.std.proofs.Common.{◌≡◌, cond}
use Rattle.exact_math.specs.Ring.{integers}
use Rattle.exact_vectors.specs.Vectors.{negate}
use Rattle.root_gaps.specs.GapEnds.{bounds_against}
use Rattle.root_gaps.proofs.corner.bounds_against.Given as goal

abbrev pub invariant-loop-column : goal.invariant-loop-column
invariant-loop-column l = l.items.items ≡ bounds_against l.rows (cond l.turned (negate integers l.form) l.form) l.column
