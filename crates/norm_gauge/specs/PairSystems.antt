-- The pair system: its points are the pairs of points of a system that agree on some rows, one point after the other.
use Rattle.std.specs.Prelude.{ℕ, ◌+◌, List, [], ◌∷◌, ◌++◌, map}
use Rattle.exact_math.specs.Rational.{ℚ}
use Rattle.exact_math.specs.RationalRing.{rationals}
use Rattle.exact_vectors.specs.Vectors.{negate, zeros}
use Rattle.lp_dict.specs.Dictionaries.{none}
use Rattle.norm_gauge.specs.Widths.{Polytope}

-- a row on the first point, and a row on the second
abbrev pub row_on_first : ℕ → List ℚ → List ℚ
row_on_first n row = row ++ zeros rationals n

abbrev pub row_on_second : ℕ → List ℚ → List ℚ
row_on_second n row = zeros rationals n ++ row

-- for each row of `fixed` its difference between the two points, and the same with the other sign ..
abbrev pub differences : List (List ℚ) → List (List ℚ)
differences [] = []
differences (row ∷ fixed) = (row ++ negate rationals row) ∷ ((negate rationals row ++ row) ∷ differences fixed)

-- .. which are both at most 0
abbrev pub no_differences : List (List ℚ) → List ℚ
no_differences [] = []
no_differences (row ∷ fixed) = none ∷ (none ∷ no_differences fixed)

-- the rows on the first point, those on the second, and the differences
abbrev pub pair_rows : ℕ → List (List ℚ) → List (List ℚ) → List (List ℚ)
pair_rows n rows fixed = map (row_on_first n) rows ++ (map (row_on_second n) rows ++ differences fixed)

abbrev pub pair_limits : List ℚ → List (List ℚ) → List ℚ
pair_limits limits fixed = limits ++ (limits ++ no_differences fixed)

abbrev pub pair_system : Polytope → List (List ℚ) → Polytope
pair_system p fixed = record { coordinates = p.coordinates + p.coordinates; rows = pair_rows p.coordinates p.rows fixed; limits = pair_limits p.limits fixed }

-- the form that is least where the first point is furthest above the second: the second's value less the first's
abbrev pub pair_form : List ℚ → List ℚ
pair_form form = negate rationals form ++ form
