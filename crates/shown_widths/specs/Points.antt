-- Points of a node over its work columns, and the inequalities by which they are judged.
use Rattle.std.specs.Prelude.{◌≡◌, ℕ, ◌<◌, ℤ, ◌-ℤ◌, ◌*ℤ◌, List, length}
use Rattle.exact_math.specs.Ring.{integers}
use Rattle.exact_vectors.specs.Vectors.{dot}
use Rattle.farkas_rows.specs.Inequalities.{Inequality, at_most, at_least, unit}
use Rattle.node_point.specs.NodePoints.{Fractions}
use Rattle.presolve_map.specs.ReducedRows.{ReducedRows}
use Rattle.farkas_lift.specs.NodeEqualities.{work_form}
use Rattle.shown_widths.specs.declared.side.LeftSide.{LeftSide}
use Rattle.shown_widths.specs.declared.side.LeftSide.TheVariants.{Row, Column}
use Rattle.shown_widths.specs.declared.side.Bound.{Bound}
use Rattle.shown_widths.specs.declared.side.Bound.TheVariants.{AtMost, AtLeast}

-- the values in the work columns
abbrev pub work_fractions : ReducedRows → Fractions → Fractions
work_fractions work x = record { numerators = work_form work x.numerators; denominator = x.denominator }

-- the form, by its factors
abbrev pub form_of : ℕ → LeftSide → List ℤ
form_of columns (Row factors) = factors.now
form_of columns (Column j) = unit columns j

-- the form with a bound
abbrev pub bounded : List ℤ → Bound → Inequality
bounded form (AtMost side) = at_most form side
bounded form (AtLeast side) = at_least form side

-- the row has a factor for each column, or the column is there
abbrev pub IsLeftOver : ℕ → LeftSide → Type 0
IsLeftOver columns (Row factors) = length factors.now ≡ columns
IsLeftOver columns (Column j) = j < columns

-- the slack of an inequality at a point, times the denominator
abbrev pub gap_of : Inequality → Fractions → ℤ
gap_of inequality x = (inequality.limit *ℤ x.denominator) -ℤ dot integers inequality.factors x.numerators
