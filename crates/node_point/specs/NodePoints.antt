-- When values over one denominator are a point of a node, in whole numbers: each side is multiplied by the denominator.
use Rattle.std.specs.Prelude.{◌≡◌, ℤ, pos, ◌-ℤ◌, ◌*ℤ◌, ◌≤ℤ◌, ◌<ℤ◌, List, Option, IfSome, All}
use Rattle.std.specs.List.{AllZip}
use Rattle.exact_math.specs.Ring.{integers}
use Rattle.exact_vectors.specs.Vectors.{dot}
use Rattle.whole_rows.specs.declared.bounds.Bounds.{Bounds}
use Rattle.whole_rows.specs.WholeRows.{WholeRow, WholeRows}
use Rattle.farkas_rows.specs.declared.path.Slice.{Slice}

-- the value of each column is its numerator over the denominator
pub record Fractions : Type 0 where
  pub numerators : List ℤ
  pub denominator : ℤ

-- the number over the denominator lies between two sides, both included; a side that is absent bounds nothing
abbrev pub LiesBetween : ℤ → Option ℤ → Option ℤ → ℤ → Type 0
LiesBetween denominator low high value = IfSome low (λ l. (l *ℤ denominator) ≤ℤ value) × IfSome high (λ h. value ≤ℤ (h *ℤ denominator))

-- the values are a point of the node: the denominator is above 0, each column lies between its bounds, each row between
-- its sides, each slice's form has its value, and the costs come to at most the cut's value less 1, where there is a cut
pub record IsNodePoint (rows : WholeRows) (path : List Slice) (cut : Option ℤ) (x : Fractions) : Type 0 where
  pub positive : pos 0 <ℤ x.denominator
  pub in_box : AllZip (λ (bounds : Bounds) value. ((bounds.low *ℤ x.denominator) ≤ℤ value) × (value ≤ℤ (bounds.high *ℤ x.denominator))) rows.box x.numerators
  pub in_rows : All (λ (row : WholeRow). LiesBetween x.denominator row.low row.high (dot integers row.factors x.numerators)) rows.rows
  pub on_path : All (λ (slice : Slice). dot integers slice.form x.numerators ≡ slice.beta *ℤ x.denominator) path
  pub below_cut : IfSome cut (λ value. dot integers rows.cost x.numerators ≤ℤ ((value -ℤ pos 1) *ℤ x.denominator))
