use Rattle.std.proofs.Common.{◌≡◌, take}
use Rattle.exact_math.specs.Ring.{integers}
use Rattle.exact_vectors.specs.Matrices.{column}
use Rattle.spaces.specs.Multiples.{with_multiple}
use Rattle.spaces.specs.Tables.{rows_in}
use Rattle.reformulate.proofs.products.moved_point.Given as goal

abbrev pub invariant-loop-i : goal.invariant-loop-i
invariant-loop-i l = l.point.items ≡ take l.i (with_multiple l.factor (column integers (rows_in l.lines) l.place) l.base)
