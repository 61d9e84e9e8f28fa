-- The factors of items, and products that are out of range.
use Rattle.std.specs.Prelude.{List, map, ◌==◌, pos}
use Rattle.std.specs.List.{Any}
use Rattle.exact_math.specs.Rational.{ℚ}
use Rattle.frac128.specs.Range.{ProductInRange}
use Rattle.int_model.specs.declared.model.Item.{Item}
use Rattle.int_model.specs.declared.scales.RowScale.{RowScale}
use Rattle.int_model.specs.Scale.{common_denominator, common_numerator, scale}

-- the factors in the order of the items
abbrev pub factors_in : List Item → List ℚ
factors_in items = map (λ (item : Item). item.factor) items

-- the product with one of the numbers is out of range
abbrev pub LeavesRangeAt : ℚ → List ℚ → Type 0
LeavesRangeAt factor a = Any (λ q. ProductInRange factor q → ⊥) a

-- the scale with its two numbers, and whether all coefficients are 0
abbrev pub row_scale : List ℚ → RowScale
row_scale a = record { times = scale a; denominator = pos (common_denominator a); numerator = pos (common_numerator a); zeros = common_numerator a == 0 }
