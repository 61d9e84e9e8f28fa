-- The points of an integer program whose numbers are fractions, as its named rows give them.
use Rattle.std.specs.Prelude.{ℤ, pos, List, [], ◌∷◌, Option, IfSome, All, slice_index_or}
use Rattle.std.specs.List.{AllZip}
use Rattle.exact_math.specs.Rational.{ℚ, whole, ◌+ℚ◌, ◌*ℚ◌, ◌≤ℚ◌}
use Rattle.int_model.specs.declared.model.Item.{Item}
use Rattle.int_model.specs.declared.model.Column.{Column}
use Rattle.int_model.specs.declared.model.Row.{Row}
use Rattle.int_model.specs.declared.model.Model.{Model}

-- a number between two sides, both included; a side that is absent bounds nothing
abbrev pub LiesBetween : Option ℚ → Option ℚ → ℚ → Type 0
LiesBetween low high value = IfSome low (λ l. l ≤ℚ value) × IfSome high (λ h. value ≤ℚ h)

-- what a list of terms comes to where the columns have the values x: the sum of each factor times its column's value
abbrev pub value_of : List Item → List ℤ → ℚ
value_of [] x = whole (pos 0)
value_of (item ∷ items) x = item.factor *ℚ whole (slice_index_or x item.column (pos 0)) +ℚ value_of items x

-- x has one whole number for each column, within the column's bounds, and keeps each row within its sides
pub record IsPoint (model : Model) (x : List ℤ) : Type 0 where
  pub in_bounds : AllZip (λ (column : Column) value. (column.lo ≤ℚ whole value) × (whole value ≤ℚ column.hi)) model.columns x
  pub in_sides : All (λ (row : Row). LiesBetween row.lo row.hi (value_of row.items x)) model.rows

-- the value of the objective: its constant, and what its terms come to
abbrev pub value_at : Model → List ℤ → ℚ
value_at model x = model.constant +ℚ value_of model.objective x

-- a point, and no point has a smaller value
pub record IsBest (model : Model) (x : List ℤ) : Type 0 where
  pub point : IsPoint model x
  pub least : (y : List ℤ) → IsPoint model y → value_at model x ≤ℚ value_at model y
