-- The width of a form on the rational points of a system, under rows on which the points agree (Lovász and Scarf, The generalized basis reduction algorithm, Mathematics of Operations Research 17, 1992).
use Rattle.std.specs.Prelude.{◌≡◌, ℕ, ℤ, List, take}
use Rattle.std.specs.List.{All}
use Rattle.exact_math.specs.Rational.{ℚ, ◌-ℚ◌, ◌≤ℚ◌}
use Rattle.exact_math.specs.RationalRing.{rationals}
use Rattle.exact_vectors.specs.Vectors.{dot}
use Rattle.exact_vectors.specs.Matrices.{times_vector}
use Rattle.frac128.specs.Range.{IsNarrow}
use Rattle.spaces.specs.Tables.{Table}
use Rattle.lp_dict.specs.Systems.{IsPoint, left_sides, wholes}
use Rattle.lp_solve.specs.Certificates.{IsBounded}

-- the rational points `y` of `coordinates` coordinates with `G*y <= h`, G being the rows and h the limits
pub record Polytope : Type 0 where
  pub coordinates : ℕ
  pub rows : List (List ℚ)
  pub limits : List ℚ

-- that of a system with whole entries
abbrev pub polytope_of : Table ℤ → List ℤ → Polytope
polytope_of rows limits = record { coordinates = rows.width; rows = left_sides rows; limits = wholes limits }

-- `y` is a point of the polytope
abbrev pub Has : Polytope → List ℚ → Type 0
Has p y = IsPoint p.coordinates p.rows p.limits y

-- it has a point
pub record IsInhabited (p : Polytope) : Type 0 where
  pub point : List ℚ
  pub has : Has p point

-- its points are bounded
abbrev pub HasBound : Polytope → Type 0
HasBound p = IsBounded p.coordinates p.rows p.limits

-- two points of the polytope that agree on each row of `fixed`
pub record ArePair (p : Polytope) (fixed : List (List ℚ)) (high low : List ℚ) : Type 0 where
  pub first : Has p high
  pub second : Has p low
  pub agree : times_vector rationals fixed high ≡ times_vector rationals fixed low

-- how far two points are apart in a form
abbrev pub difference : List ℚ → List ℚ → List ℚ → ℚ
difference form high low = dot rationals form high -ℚ dot rationals form low

-- no two points that agree on the rows are further apart in the form
abbrev pub IsAtMost : Polytope → List (List ℚ) → List ℚ → ℚ → Type 0
IsAtMost p fixed form bound = (high low : List ℚ) → ArePair p fixed high low → difference form high low ≤ℚ bound

-- the width of a form under the rows: the greatest difference of two points that agree on them
pub record IsWidth (p : Polytope) (fixed : List (List ℚ)) (form : List ℚ) (value : ℚ) : Type 0 where
  pub high : List ℚ
  pub low : List ℚ
  pub pair : ArePair p fixed high low
  pub attained : value ≡ difference form high low
  pub most : IsAtMost p fixed form value

-- the first `i` rows of a matrix of whole numbers
abbrev pub first_rows : Table ℤ → ℕ → List (List ℚ)
first_rows basis i = take i (left_sides basis)

-- no entry of the rows is above 2^127 - 1 in size
abbrev pub AreNarrow : List (List ℤ) → Type 0
AreNarrow rows = All (λ row. All IsNarrow row) rows
