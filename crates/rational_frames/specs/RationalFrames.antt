-- Frames of equalities over the rational numbers: the substitution x = x0 + K y of whole vectors, taken for rational y.
use Rattle.std.specs.Prelude.{◌≡◌, ℕ, List, length, map, All}
use Rattle.exact_math.specs.Rational.{ℚ, whole}
use Rattle.exact_math.specs.RationalRing.{rationals}
use Rattle.exact_vectors.specs.Vectors.{add, dot, negate}
use Rattle.exact_vectors.specs.Matrices.{times_vector}
use Rattle.spaces.specs.Tables.{rows_in}
use Rattle.reformulate.specs.Substitutions.{Substitution, columns_of, dimension_of}
use Rattle.reformulate.specs.declared.equality.Equality.{Equality}

-- x0 + K y
abbrev pub rational_point_of : Substitution → List ℚ → List ℚ
rational_point_of s y = add rationals (map whole s.to_work.base) (times_vector rationals (map (map whole) (rows_in s.to_work.lines)) y)

-- V (x - x0)
abbrev pub rational_coordinates_of : Substitution → List ℚ → List ℚ
rational_coordinates_of s x = times_vector rationals (map (map whole) (rows_in s.back)) (add rationals x (negate rationals (map whole s.to_work.base)))

-- the form has the value of the side at the rational point x
abbrev pub MeetsOver : List ℚ → Equality → Type 0
MeetsOver x equality = dot rationals (map whole equality.form) x ≡ whole equality.side

-- x has n items and meets each equality
pub record SolvesOver (n : ℕ) (equalities : List Equality) (x : List ℚ) : Type 0 where
  pub size : length x ≡ n
  pub meets : All (MeetsOver x) equalities

-- x0 + K y takes the rational y one to one onto the rational solutions x of the equalities, and y is V (x - x0) there
pub record IsRationalFrame (equalities : List Equality) (s : Substitution) : Type 0 where
  pub into : (y : List ℚ) → length y ≡ dimension_of s → SolvesOver (columns_of s) equalities (rational_point_of s y)
  pub back : (y : List ℚ) → length y ≡ dimension_of s → rational_coordinates_of s (rational_point_of s y) ≡ y
  pub onto : (x : List ℚ) → SolvesOver (columns_of s) equalities x → rational_point_of s (rational_coordinates_of s x) ≡ x
  pub size : (x : List ℚ) → length (rational_coordinates_of s x) ≡ dimension_of s
