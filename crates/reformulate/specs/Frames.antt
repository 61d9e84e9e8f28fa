-- Frames of equalities (Aardal, Hurkens, Lenstra, "Solving a system of linear Diophantine equations with lower and upper bounds on the variables", 2000).
use Rattle.std.specs.Prelude.{◌≡◌, ℕ, ℤ, List, length}
use Rattle.reformulate.specs.Charts.{chart_of}
use Rattle.reformulate.specs.Framing.{IsReduced, Reach}
use Rattle.reformulate.specs.Gaps.{IsGap}
use Rattle.reformulate.specs.Misses.{EndsInGap}
use Rattle.reformulate.specs.Solutions.{Solves}
use Rattle.reformulate.specs.Substitutions.{Substitution, columns_of, coordinates_of, dimension_of, point_of}
use Rattle.reformulate.specs.declared.equality.Equality.{Equality}
use Rattle.reformulate.specs.declared.outcome.Framed.{Framed}
use Rattle.reformulate.specs.declared.outcome.Framed.TheVariants as framed

-- x0 + K y takes the whole y one to one onto the integer solutions x of the equalities, and y is V (x - x0) there
pub record IsFrame (equalities : List Equality) (s : Substitution) : Type 0 where
  pub into : (y : List ℤ) → length y ≡ dimension_of s → Solves (columns_of s) equalities (point_of s y)
  pub back : (y : List ℤ) → length y ≡ dimension_of s → coordinates_of s (point_of s y) ≡ y
  pub onto : (x : List ℤ) → Solves (columns_of s) equalities x → point_of s (coordinates_of s x) ≡ x

-- such a frame in n columns, which legal framing reaches, and whose vectors are reduced
pub record IsReachedFrame (n : ℕ) (equalities : List Equality) (s : Substitution) : Type 0 where
  pub columns : columns_of s ≡ n
  pub frame : IsFrame equalities s
  pub reach : Reach n equalities (chart_of s)
  pub reduced : IsReduced (chart_of s)

-- a frame of the equalities, or the gap in which legal framing ends, and no integer solution
abbrev pub IsFramed : ℕ → List Equality → Framed → Type 0
IsFramed n equalities (framed.Frame s) = IsReachedFrame n equalities s
IsFramed n equalities (framed.NoIntegerPoint gap) = IsGap n equalities gap × EndsInGap n equalities gap × ((x : List ℤ) → Solves n equalities x → ⊥)
