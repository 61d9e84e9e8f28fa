-- What makes a point's value of its cut value.
use Rattle.std.specs.Prelude.{◌≡◌, ℕ, zero, suc, ◌+◌, ◌*◌, ◌/◌, ◌^◌, ◌<◌, ◌≤◌, ℤ, pos, List, nat_abs}
use Rattle.exact_math.specs.Rational.{ratio}
use Rattle.whole_rows.specs.declared.bounds.Bounds.{Bounds}
use Rattle.int_model.specs.declared.model.Model.{Model}
use Rattle.int_model.specs.declared.objective.ValueTerms.{ValueTerms}
use Rattle.whole_rows.specs.WholeRows.{WholeRows, span}
use Rattle.int_model.specs.IntegerRows.{IntegerRows, integer_rows, cost}

-- the divisor over the scale, which is the common denominator over the common numerator, or 1 where that is 0
abbrev pub value_factor : ℕ → ℕ → ℕ → ℕ
value_factor divisor denominator zero = divisor
value_factor divisor denominator (suc n) = divisor / denominator * suc n

-- the divisor is above 0, and no value within the box leaves 2 to the power 96
pub record IsLightValue (box : List Bounds) (cost : List ℤ) (terms : ValueTerms) : Type 0 where
  pub positive : 0 < nat_abs terms.divisor
  pub divisor : terms.divisor ≡ pos (nat_abs terms.divisor)
  pub narrow : nat_abs terms.divisor < 2 ^ 127
  pub light : nat_abs terms.constant + nat_abs terms.factor * span cost box ≤ 2 ^ 96

-- the whole rows, with the step and the constant over one divisor
abbrev pub with_values : WholeRows → ValueTerms → IntegerRows
with_values rows terms = record { whole = rows; step = ratio terms.factor terms.divisor; constant = ratio terms.constant terms.divisor }

-- the step and the constant are those of the model, and the values are light
pub record MakesValues (model : Model) (terms : ValueTerms) : Type 0 where
  pub step : ratio terms.factor terms.divisor ≡ (integer_rows model).step
  pub constant : ratio terms.constant terms.divisor ≡ model.constant
  pub light : IsLightValue (integer_rows model).whole.box (cost model) terms
