-- The candidates for a direction.
use Rattle.std.specs.Prelude.{◌≡◌, ◌⊎◌, ℕ, ℤ, List, [], get_or}
use Rattle.form_widths.specs.Directions.{IsFreeColumn}
use Rattle.generalised_reduce.specs.Halts.{AreMade}
use Rattle.generalised_reduce.specs.Reduced.{IsLovaszScarfReduced, forms_of}
use Rattle.norm_gauge.specs.Widths.{Polytope}
use Rattle.unimodular_pair.specs.Pairs.{Matrices}
use Rattle.unimodular_pair.specs.declared.step.Step.{Step}

-- the first row of a reduced basis to which legal moves lead from the identity
pub record IsFirstOfReduced (p : Polytope) (form : List ℤ) : Type 0 where
  pub moves : List Step
  pub basis : Matrices
  pub made : AreMade p moves basis
  pub reduced : IsLovaszScarfReduced p (forms_of basis)
  pub first : form ≡ get_or basis.u 0 []

-- a free column made primitive, or the first row of such a basis
abbrev pub IsCandidate : Polytope → List (List ℤ) → List ℤ → Type 0
IsCandidate p lines form = ((column : ℕ) × IsFreeColumn lines column form) ⊎ IsFirstOfReduced p form
