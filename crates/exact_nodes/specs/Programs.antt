-- The linear programs of a node.
use Rattle.std.specs.Prelude.{◌≡◌, ◌⊎◌, ℕ, ℤ, List}
use Rattle.exact_math.specs.Rational.{ℚ}
use Rattle.exact_math.specs.Ring.{integers}
use Rattle.exact_vectors.specs.Vectors.{negate, zeros}
use Rattle.lp_dict.specs.Systems.{wholes}
use Rattle.lp_solve.specs.Ended.{EndsSo}
use Rattle.lp_solve.specs.declared.answer.Solved.{Solved}
use Rattle.lp_solve.specs.declared.answer.Solved.TheVariants.{Least, Empty}
use Rattle.norm_gauge.specs.Gauges.{program}
use Rattle.norm_gauge.specs.Widths.{Polytope}
use Rattle.thin_forms.specs.Candidates.{IsCandidate}

-- the form whose least value a program of a node seeks: 0, where it asks for a point alone, or a candidate for a direction, or
-- minus one
abbrev pub IsSought : Polytope → List (List ℤ) → List ℤ → Type 0
IsSought p lines form = (form ≡ zeros integers p.coordinates) ⊎ (IsCandidate p lines form ⊎ ((d : List ℤ) × IsCandidate p lines d × (form ≡ negate integers d)))

-- the multipliers that show an answer
abbrev pub multipliers_of : Solved → List ℚ
multipliers_of (Least point value multipliers) = multipliers
multipliers_of (Empty multipliers) = multipliers

-- the pivots are those of such a program to its end
pub record IsEnded (p : Polytope) (lines : List (List ℤ)) (pivots : List (ℕ × ℕ)) : Type 0 where
  pub form : List ℤ
  pub sought : IsSought p lines form
  pub solved : Solved
  pub ends : EndsSo (program p (wholes form)) pivots solved
