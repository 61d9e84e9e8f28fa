-- What points of a node show of a form there.
use Rattle.std.specs.Prelude.{ℤ, pos, ◌+ℤ◌, ◌-ℤ◌, ◌*ℤ◌, ◌≤ℤ◌, List, Option, All, Any}
use Rattle.exact_math.specs.Ring.{integers}
use Rattle.exact_vectors.specs.Vectors.{dot}
use Rattle.whole_rows.specs.WholeRows.{WholeRows}
use Rattle.farkas_rows.specs.declared.path.Slice.{Slice}
use Rattle.node_point.specs.NodePoints.{Fractions, IsNodePoint}

-- each is a point of the node
abbrev pub ArePoints : WholeRows → List Slice → Option ℤ → List Fractions → Type 0
ArePoints rows path cut points = All (IsNodePoint rows path cut) points

-- the form is at most the number at the point
abbrev pub IsAtMostAt : List ℤ → ℤ → Fractions → Type 0
IsAtMostAt form number x = dot integers form x.numerators ≤ℤ (number *ℤ x.denominator)

-- the form is at least the number at the point
abbrev pub IsAtLeastAt : List ℤ → ℤ → Fractions → Type 0
IsAtLeastAt form number x = (number *ℤ x.denominator) ≤ℤ dot integers form x.numerators

-- where there are slices, the form is at most the first one at some point, and at least the last one at some point
abbrev pub ShowEnds : List ℤ → ℤ → ℤ → List Fractions → Type 0
ShowEnds form lo count points = pos 1 ≤ℤ count → Any (IsAtMostAt form lo) points × Any (IsAtLeastAt form ((lo +ℤ count) -ℤ pos 1)) points
