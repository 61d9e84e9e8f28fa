-- The integer rows of an integer program whose numbers are fractions, and the values of their points.
use Rattle.std.specs.Prelude.{ℕ, ◌<◌, ℤ, pos, List, [], ◌∷◌, length, map, All, AllPairs, if◌then◌else◌, ◌==◌}
use Rattle.std.specs.List.{range_with_len}
use Rattle.exact_math.specs.Rational.{ℚ, whole, ◌+ℚ◌, ◌*ℚ◌, inv_ℚ, floor, ceil}
use Rattle.whole_rows.specs.declared.bounds.Bounds.{Bounds}
use Rattle.whole_rows.specs.WholeRows.{WholeRows, cut_value}
use Rattle.int_model.specs.Scale.{FractionRow, integer_row, scale, scaled}
use Rattle.int_model.specs.declared.model.Item.{Item}
use Rattle.int_model.specs.declared.model.Column.{Column}
use Rattle.int_model.specs.declared.model.Row.{Row}
use Rattle.int_model.specs.declared.model.Model.{Model}

-- the whole rows, and what makes a point's value of its cut value: the constant, and the step times the cut value
pub record IntegerRows : Type 0 where
  pub whole : WholeRows
  pub step : ℚ
  pub constant : ℚ

-- the value of the objective
abbrev pub value_in : IntegerRows → List ℤ → ℚ
value_in rows x = rows.constant +ℚ rows.step *ℚ whole (cut_value rows.whole x)

-- the coefficient of column j: the sum of the factors of the items in that column
abbrev pub coefficient_of : List Item → ℕ → ℚ
coefficient_of [] j = whole (pos 0)
coefficient_of (item ∷ items) j = (if item.column == j then item.factor else whole (pos 0)) +ℚ coefficient_of items j

-- the coefficients of n columns
abbrev pub coefficients_of : ℕ → List Item → List ℚ
coefficients_of n items = map (coefficient_of items) (range_with_len 0 n)

-- the whole numbers between a column's bounds
abbrev pub rounded_bounds : Column → Bounds
rounded_bounds column = record { low = ceil column.lo; high = floor column.hi }

-- a row with a coefficient for each of n columns
abbrev pub fraction_row : ℕ → Row → FractionRow
fraction_row n row = record { factors = coefficients_of n row.items; low = row.lo; high = row.hi }

-- the objective's coefficients
abbrev pub objective_of : Model → List ℚ
objective_of model = coefficients_of (length model.columns) model.objective

-- the objective times its scale: whole numbers without a common divisor above 1, or zeros only
abbrev pub cost : Model → List ℤ
cost model = scaled (objective_of model)

-- the rounded bounds, the integer row of each row, and the objective over its scale
abbrev pub integer_rows : Model → IntegerRows
integer_rows model = record {
  whole = record {
    box = map rounded_bounds model.columns;
    rows = map (λ row. integer_row (fraction_row (length model.columns) row)) model.rows;
    cost = cost model;
  };
  step = inv_ℚ (scale (objective_of model));
  constant = model.constant;
}

-- each item names one of n columns, and columns rise
pub record IsDistinctBelow (n : ℕ) (items : List Item) : Type 0 where
  pub in_range : All (λ (item : Item). item.column < n) items
  pub rising : AllPairs (λ (a b : Item). a.column < b.column) items
