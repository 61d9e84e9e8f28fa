-- Rational points over the columns that presolving keeps, and over all columns.
use Rattle.std.specs.Prelude.{◌≡◌, Bool, true, false, ℤ, pos, ◌-ℤ◌, List, [], ◌∷◌, Option, IfSome, All}
use Rattle.std.specs.List.{AllZip}
use Rattle.exact_math.specs.Rational.{ℚ, whole, ◌≤ℚ◌}
use Rattle.whole_rows.specs.declared.bounds.Bounds.{Bounds}
use Rattle.whole_rows.specs.WholeRows.{WholeRow}
use Rattle.farkas_rows.specs.declared.path.Slice.{Slice}
use Rattle.node_point.specs.RationalPoints.{form_value, IsWithin}
use Rattle.presolve_map.specs.Columns.{kept, open_flags, removed_values}
use Rattle.presolve_map.specs.ReducedRows.{ReducedRows}

-- each value lies between its bounds
abbrev pub IsInBox : List Bounds → List ℚ → Type 0
IsInBox box x = AllZip (λ (bounds : Bounds) q. (whole bounds.low ≤ℚ q) × (q ≤ℚ whole bounds.high)) box x

-- the values w in the places whose flags are set, and the values `base` in the others
abbrev pub spread_over : List Bool → List ℤ → List ℚ → List ℚ
spread_over [] base w = []
spread_over (flag ∷ flags) [] w = []
spread_over (true ∷ flags) (v ∷ base) [] = whole v ∷ spread_over flags base []
spread_over (true ∷ flags) (v ∷ base) (x ∷ w) = x ∷ spread_over flags base w
spread_over (false ∷ flags) (v ∷ base) w = whole v ∷ spread_over flags base w

-- the point over all columns that has the values w in those that are kept: each other one has its only value
abbrev pub placed_point : List Bounds → List ℚ → List ℚ
placed_point box w = spread_over (open_flags box) (removed_values box) w

-- w lies in the box of the reduced rows, meets each of them, lies on each slice, whose form is taken over the kept columns of the
-- model's box, and costs at most the cut's value less 1, where there is a cut
pub record IsReducedPoint (box : List Bounds) (work : ReducedRows) (path : List Slice) (cut : Option ℤ) (w : List ℚ) : Type 0 where
  pub in_box : IsInBox work.rows.box w
  pub in_rows : All (λ (row : WholeRow). IsWithin row.low row.high (form_value row.factors w)) work.rows.rows
  pub on_path : All (λ (slice : Slice). form_value (kept box slice.form) w ≡ whole slice.beta) path
  pub below_cut : IfSome cut (λ value. form_value work.rows.cost w ≤ℚ whole ((value -ℤ pos 1) -ℤ work.cost_constant))
