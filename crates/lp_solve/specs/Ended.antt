-- A linear program's answer with the pivots that led to it.
use Rattle.std.specs.Prelude.{◌≡◌, ℕ, List, length}
use Rattle.exact_math.specs.Rational.{ℚ}
use Rattle.lp_dict.specs.Dictionaries.{Dictionary}
use Rattle.lp_solve.specs.Rule.{AreLegal, after, form_at}
use Rattle.lp_solve.specs.Steps.{IsStuck, IsEnd}
use Rattle.lp_solve.specs.Values.{vertex, form_multipliers, row_multipliers}
use Rattle.lp_solve.specs.declared.answer.Solved.{Solved}
use Rattle.lp_solve.specs.declared.answer.Solved.TheVariants.{Least, Empty}

-- Legal pivots lead from `first` to a dictionary in which no other is due, and the answer is read off it.
pub record EndsLeast (first : Dictionary) (pivots : List (ℕ × ℕ)) (point : List ℚ) (value : ℚ) (multipliers : List ℚ) : Type 0 where
  pub legal : AreLegal first pivots
  pub end : IsEnd (after first pivots)
  pub point_is : point ≡ vertex (after first pivots)
  pub value_is : value ≡ form_at (after first pivots) (length (after first pivots).outside)
  pub multipliers_are : multipliers ≡ form_multipliers (after first pivots)

-- the same where a slack is below 0 at each point
pub record EndsEmpty (first : Dictionary) (pivots : List (ℕ × ℕ)) (multipliers : List ℚ) : Type 0 where
  pub legal : AreLegal first pivots
  pub row : ℕ
  pub stuck : IsStuck (after first pivots) row
  pub multipliers_are : multipliers ≡ row_multipliers (after first pivots) row

-- the answer is that of the dictionary to which the pivots lead
abbrev pub EndsSo : Dictionary → List (ℕ × ℕ) → Solved → Type 0
EndsSo first pivots (Least point value multipliers) = EndsLeast first pivots point value multipliers
EndsSo first pivots (Empty multipliers) = EndsEmpty first pivots multipliers
