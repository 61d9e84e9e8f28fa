-- When a node has no point for a reason that one inequality shows within the box that its single columns leave.
use Rattle.std.specs.Prelude.{◌≡◌, ◌⊎◌, ℕ, ◌<◌, ℤ, ◌<ℤ◌, List, length, All, Any, Option}
use Rattle.std.specs.Option.{IsSomeAnd}
use Rattle.exact_math.specs.Ring.{integers}
use Rattle.exact_vectors.specs.Vectors.{dot, negate}
use Rattle.whole_rows.specs.declared.bounds.Bounds.{Bounds}
use Rattle.whole_rows.specs.WholeRows.{WholeRow, WholeRows, LiesIn}
use Rattle.farkas_rows.specs.declared.path.Slice.{Slice}
use Rattle.farkas_rows.specs.Inequalities.{Inequality, IsMetBy, at_most, at_least, unit, cut_inequality}

-- the form is the column's value, or minus it
abbrev pub IsColumn : ℕ → ℕ → List ℤ → Type 0
IsColumn columns column form = (form ≡ unit columns column) ⊎ (form ≡ negate integers (unit columns column))

-- a slice of the path fixes the column
abbrev pub IsFixedBy : ℕ → List Slice → ℕ → Type 0
IsFixedBy columns path column = Any (λ (slice : Slice). IsColumn columns column slice.form) path

-- the values x lie within the bounds, and on those slices of the path that fix a column
pub record LiesInNarrowed (rows : WholeRows) (path : List Slice) (x : List ℤ) : Type 0 where
  pub in_box : LiesIn rows.box x
  pub on_slices : All (λ (slice : Slice). (column : ℕ) → column < length rows.box → IsColumn (length rows.box) column slice.form → dot integers slice.form x ≡ slice.beta) path

-- no such values meet the inequality
abbrev pub CannotMeet : WholeRows → List Slice → Inequality → Type 0
CannotMeet rows path inequality = (x : List ℤ) → LiesInNarrowed rows path x → IsMetBy x inequality → ⊥

-- the upper or the lower side of a row cannot be met
abbrev pub IsShutByRow : WholeRows → List Slice → WholeRow → Type 0
IsShutByRow rows path row = IsSomeAnd row.high (λ side. CannotMeet rows path (at_most row.factors side)) ⊎ IsSomeAnd row.low (λ side. CannotMeet rows path (at_least row.factors side))

-- one of the two sides of a slice cannot be met
abbrev pub IsShutBySlice : WholeRows → List Slice → Slice → Type 0
IsShutBySlice rows path slice = CannotMeet rows path (at_most slice.form slice.beta) ⊎ CannotMeet rows path (at_least slice.form slice.beta)

-- The bounds of a column cross, or some side of a row, side of a slice of the path, or the cut with the best value cannot be met
-- within the bounds and the slices that fix a column.
abbrev pub Shut : WholeRows → List Slice → Option ℤ → Type 0
Shut rows path best =
    Any (λ (bounds : Bounds). bounds.high <ℤ bounds.low) rows.box
    ⊎ (Any (IsShutByRow rows path) rows.rows
    ⊎ (Any (IsShutBySlice rows path) path
    ⊎ IsSomeAnd best (λ value. CannotMeet rows path (cut_inequality rows value))))
