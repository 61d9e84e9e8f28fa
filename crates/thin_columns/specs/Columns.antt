-- The thinnest of the free columns.
use Rattle.std.specs.Prelude.{◌≡◌, ℕ, ◌<◌, ℤ, List, [], length, All, Option, MatchOption}
use Rattle.exact_math.specs.Rational.{ℚ}
use Rattle.form_widths.specs.Directions.{IsFreeColumn}
use Rattle.frac128.specs.Range.{IsNarrow}
use Rattle.lp_dict.specs.Systems.{wholes}
use Rattle.norm_gauge.specs.Gauges.{IsGauge}
use Rattle.norm_gauge.specs.Widths.{Polytope}
use Rattle.thin_forms.specs.Choices.{IsBelowBounds}
use Rattle.thin_forms.specs.declared.answer.ThinForm.{ThinForm}

-- the number is at most the width of each free column, made primitive, among the first `count`
abbrev pub IsBelowColumns : Polytope → List (List ℤ) → ℕ → ℚ → Type 0
IsBelowColumns p lines count value = (column : ℕ) (other : List ℤ) → column < count → IsFreeColumn lines column other → IsBelowBounds p 1 value other

-- The form is a free column made primitive, with its gauge, and at most as wide as each of those among the first `count`.
pub record IsThinnest (p : Polytope) (lines : List (List ℤ)) (count : ℕ) (thin : ThinForm) : Type 0 where
  pub column : ℕ
  pub free : IsFreeColumn lines column thin.form
  pub coordinates : length thin.form ≡ p.coordinates
  pub narrow : All IsNarrow thin.form
  pub is_gauge : IsGauge p [] (wholes thin.form) thin.gauge
  pub columns : IsBelowColumns p lines count thin.gauge.value

-- such a form; none where no column among the first `count` is free
abbrev pub ThinnestIs : Polytope → List (List ℤ) → ℕ → Option ThinForm → Type 0
ThinnestIs p lines count best = MatchOption best ((column : ℕ) (other : List ℤ) → column < count → ¬ (IsFreeColumn lines column other)) (IsThinnest p lines count)
