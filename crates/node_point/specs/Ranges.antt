-- When the check of a point stays within 128 bits. It forms each side times the denominator, and each sum of products in
-- index order, product by product.
use Rattle.std.specs.Prelude.{ℤ, pos, ◌-ℤ◌, ◌*ℤ◌, List, Option, IfSome, All, FitsSigned}
use Rattle.exact_vectors.specs.Range.{StaysInRange}
use Rattle.whole_rows.specs.declared.bounds.Bounds.{Bounds}
use Rattle.whole_rows.specs.WholeRows.{WholeRow, WholeRows}
use Rattle.farkas_rows.specs.declared.path.Slice.{Slice}
use Rattle.node_point.specs.NodePoints.{Fractions}
use mir.Syntax.{w128}

-- a number times the denominator fits
abbrev pub SideFits : ℤ → ℤ → Type 0
SideFits denominator side = FitsSigned w128 (side *ℤ denominator)

-- each product fits, each partial sum, and each number that is formed of a side, where there is one
pub record StaysWithin (rows : WholeRows) (path : List Slice) (cut : Option ℤ) (x : Fractions) : Type 0 where
  pub bounds : All (λ (bounds : Bounds). SideFits x.denominator bounds.low × SideFits x.denominator bounds.high) rows.box
  pub row_sums : All (λ (row : WholeRow). StaysInRange (pos 0) row.factors x.numerators) rows.rows
  pub row_sides : All (λ (row : WholeRow). IfSome row.low (SideFits x.denominator) × IfSome row.high (SideFits x.denominator)) rows.rows
  pub slice_sums : All (λ (slice : Slice). StaysInRange (pos 0) slice.form x.numerators) path
  pub slice_sides : All (λ (slice : Slice). SideFits x.denominator slice.beta) path
  pub cut_sum : IfSome cut (λ value. StaysInRange (pos 0) rows.cost x.numerators)
  pub cut_side : IfSome cut (λ value. FitsSigned w128 (value -ℤ pos 1) × SideFits x.denominator (value -ℤ pos 1))
