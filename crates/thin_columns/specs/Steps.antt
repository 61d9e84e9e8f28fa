-- What the slacks of the inequalities show: how far each coordinate of a point may move, and so how wide each form is.
use Rattle.std.specs.Prelude.{◌≡◌, ℕ, ◌-◌, ◌^◌, ℤ, pos, List, length, get_or}
use Rattle.exact_math.specs.Rational.{ℚ, whole, ◌*ℚ◌, ◌≤ℚ◌}
use Rattle.farkas_rows.specs.Inequalities.{Inequality, at_most}
use Rattle.form_widths.specs.Inequalities.{slack}
use Rattle.form_widths.specs.Widths.{IsNonzero}
use Rattle.norm_gauge.specs.Widths.{Has, Polytope, polytope_of}
use Rattle.spaces.specs.Tables.{Table, row_at}
use Rattle.thin_forms.specs.Choices.{IsBelowBounds}
use Rattle.thin_columns.specs.Sizes.{greatest_size}

-- the number is the slack of the inequality at a point of the region
pub record IsSlackIn (region : List ℚ → Type 0) (inequality : Inequality) (value : ℚ) : Type 0 where
  pub point : List ℚ
  pub inside : region point
  pub value_is : value ≡ slack inequality point

-- at a point of the region the inequality's slack is at least the step times the greatest size of a factor
pub record AllowsStep (region : List ℚ → Type 0) (step : ℚ) (inequality : Inequality) : Type 0 where
  pub point : List ℚ
  pub inside : region point
  pub enough : (whole (pos (greatest_size inequality.factors)) *ℚ step) ≤ℚ slack inequality point

-- inequality `i` of a system
abbrev pub inequality_at : Table ℤ → List ℤ → ℕ → Inequality
inequality_at rows limits i = at_most (row_at rows i) (get_or limits i (pos 0))

-- inequality `i` of a system allows the step on its points
abbrev pub RowAllows : Table ℤ → List ℤ → ℚ → ℕ → Type 0
RowAllows rows limits step i = AllowsStep (Has (polytope_of rows limits)) step (inequality_at rows limits i)

-- The step is `count` times a room, and a width is at most 4^(r-1) times twice that room.
pub record IsStepOf (r count : ℕ) (width step : ℚ) : Type 0 where
  pub room : ℚ
  pub not_negative : whole (pos 0) ≤ℚ room
  pub step_is : step ≡ room *ℚ whole (pos count)
  pub within : width ≤ℚ (whole (pos (4 ^ (r - 1))) *ℚ (whole (pos 2) *ℚ room))

-- the number is at most 4^(r-1) times the width of each whole form other than 0, r being the number of coordinates
abbrev pub IsBelowForms : Polytope → ℚ → Type 0
IsBelowForms p value = (other : List ℤ) → length other ≡ p.coordinates → IsNonzero other → IsBelowBounds p (4 ^ (p.coordinates - 1)) value other
