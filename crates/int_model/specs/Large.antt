-- How much the parts of a model weigh, and the first part that is too large to be worked with in 128 bits.
use Rattle.std.specs.Prelude.{◌≢◌, ⊤, ◌⊎◌, ℕ, ◌+◌, ◌^◌, ◌<◌, ◌≤◌, ℤ, pos, List, ◌∷◌, length, map, Option, Some, None, nat_abs}
use Rattle.std.specs.List.{Any, HoldsAt}
use Rattle.exact_math.specs.Rational.{ℚ, whole, ◌*ℚ◌}
use Rattle.frac128.specs.Range.{ProductInRange}
use Rattle.whole_rows.specs.declared.bounds.Bounds.{Bounds}
use Rattle.int_model.specs.declared.part.Part.{Part}
use Rattle.int_model.specs.declared.part.Part.TheVariants as parts
use Rattle.whole_rows.specs.WholeRows.{reach, span, weight, IsHeavy}
use Rattle.int_model.specs.Scale.{common_denominator, scale, FractionRow, integer_row}
use Rattle.int_model.specs.declared.model.Column.{Column}
use Rattle.int_model.specs.declared.model.Row.{Row}
use Rattle.int_model.specs.declared.model.Model.{Model}
use Rattle.int_model.specs.IntegerRows.{rounded_bounds, fraction_row, integer_rows, objective_of}

-- numbers whose common denominator is above 2^127 - 1
abbrev pub HasWideDenominator : List ℚ → Type 0
HasWideDenominator a = 2 ^ 127 ≤ common_denominator a

-- a side that is there, whose product with the factor is out of the range of fractions
abbrev pub LeavesRange : ℚ → Option ℚ → Type 0
LeavesRange factor None = ⊥
LeavesRange factor (Some side) = ProductInRange factor side → ⊥

-- the weight of a column is its reach over the rounded bounds
abbrev pub IsLargeColumn : Column → Type 0
IsLargeColumn column = IsHeavy (reach (rounded_bounds column))

-- the common denominator of the coefficients is wide, or a side times the scale is out of range
abbrev pub ScalesOutOfRange : FractionRow → Type 0
ScalesOutOfRange row = HasWideDenominator row.factors ⊎ (LeavesRange (scale row.factors) row.low ⊎ LeavesRange (scale row.factors) row.high)

-- over this box the integer row is heavy, or there is a coefficient other than 0 and the row scales out of range
abbrev pub IsLargeRow : List Bounds → FractionRow → Type 0
IsLargeRow box row = IsHeavy (weight box (integer_row row)) ⊎ (Any (λ q. q ≢ whole (pos 0)) row.factors × ScalesOutOfRange row)

-- m times a number, where that is whole
abbrev pub multiple : ℕ → ℚ → ℤ
multiple m q = (whole (pos m) *ℚ q).num

-- the objective's numbers: the constant and the coefficients
abbrev pub objective_numbers : Model → List ℚ
objective_numbers model = model.constant ∷ objective_of model

-- The constant and the coefficients are multiplied by their common denominator. The objective's weight is the size of
-- the constant, and the sum of each coefficient's size times the reach of its column.
abbrev pub objective_weight : Model → ℕ
objective_weight model =
    let m = common_denominator (objective_numbers model) in
    nat_abs (multiple m model.constant) + span (map (multiple m) (objective_of model)) (integer_rows model).whole.box

-- the objective is heavy, or its numbers have a wide denominator
abbrev pub IsLargeObjective : Model → Type 0
IsLargeObjective model = IsHeavy (objective_weight model) ⊎ HasWideDenominator (objective_numbers model)

-- the row over the columns of the model
abbrev pub IsLargeRowOf : Model → Row → Type 0
IsLargeRowOf model row = IsLargeRow (integer_rows model).whole.box (fraction_row (length model.columns) row)

-- the part is one of the model's, and is large
abbrev pub IsLargePart : Model → Part → Type 0
IsLargePart model (parts.Column j) = (j < length model.columns) × HoldsAt IsLargeColumn model.columns j
IsLargePart model (parts.Row i) = (i < length model.rows) × HoldsAt (IsLargeRowOf model) model.rows i
IsLargePart model parts.Objective = IsLargeObjective model

-- by number among columns and among rows; a column before each row, and the objective last
abbrev pub ComesBefore : Part → Part → Type 0
ComesBefore (parts.Column j) (parts.Column k) = j < k
ComesBefore (parts.Column j) (parts.Row i) = ⊤
ComesBefore (parts.Column j) parts.Objective = ⊤
ComesBefore (parts.Row i) (parts.Column j) = ⊥
ComesBefore (parts.Row i) (parts.Row k) = i < k
ComesBefore (parts.Row i) parts.Objective = ⊤
ComesBefore parts.Objective part = ⊥

-- a large part, before which no part is large
pub record IsFirstLarge (model : Model) (part : Part) : Type 0 where
  pub large : IsLargePart model part
  pub first : (other : Part) → ComesBefore other part → IsLargePart model other → ⊥

-- no part is large
abbrev pub HasNoLargePart : Model → Type 0
HasNoLargePart model = (part : Part) → IsLargePart model part → ⊥
