-- The points of a node over the rational numbers.
use Rattle.std.specs.Prelude.{◌≡◌, ℤ, pos, ◌-ℤ◌, List, Option, IfSome, All, map}
use Rattle.std.specs.List.{AllZip}
use Rattle.exact_math.specs.Rational.{ℚ, whole, ◌/ℚ◌, ◌≤ℚ◌}
use Rattle.exact_math.specs.RationalRing.{rationals}
use Rattle.exact_vectors.specs.Vectors.{dot}
use Rattle.whole_rows.specs.declared.bounds.Bounds.{Bounds}
use Rattle.whole_rows.specs.WholeRows.{WholeRow, WholeRows}
use Rattle.farkas_rows.specs.declared.path.Slice.{Slice}
use Rattle.node_point.specs.NodePoints.{Fractions}

-- the values, each a numerator over the denominator
abbrev pub coordinates : Fractions → List ℚ
coordinates x = map (λ n. whole n /ℚ whole x.denominator) x.numerators

-- a form of whole factors at rational values
abbrev pub form_value : List ℤ → List ℚ → ℚ
form_value form x = dot rationals (map whole form) x

-- a rational number lies between two whole sides, both included; a side that is absent bounds nothing
abbrev pub IsWithin : Option ℤ → Option ℤ → ℚ → Type 0
IsWithin low high q = IfSome low (λ l. whole l ≤ℚ q) × IfSome high (λ h. q ≤ℚ whole h)

-- x lies in the box, meets each row, lies on each slice, and costs at most the cut's value less 1, where there is a cut
pub record IsRationalPoint (rows : WholeRows) (path : List Slice) (cut : Option ℤ) (x : List ℚ) : Type 0 where
  pub in_box : AllZip (λ (bounds : Bounds) q. (whole bounds.low ≤ℚ q) × (q ≤ℚ whole bounds.high)) rows.box x
  pub in_rows : All (λ (row : WholeRow). IsWithin row.low row.high (form_value row.factors x)) rows.rows
  pub on_path : All (λ (slice : Slice). form_value slice.form x ≡ whole slice.beta) path
  pub below_cut : IfSome cut (λ value. form_value rows.cost x ≤ℚ whole (value -ℤ pos 1))
