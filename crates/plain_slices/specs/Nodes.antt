-- The box of a node, narrowed by the slices that fix a column, and the inequalities that bound each column there.
use Rattle.std.specs.Prelude.{◌≡◌, ◌↔◌, ℕ, ◌+◌, ◌*◌, ◌^◌, ◌<◌, ◌≤◌, ℤ, pos, ◌≤ℤ◌, ◌<ℤ◌, Bool, true, false, IsTrue, int_lt, List, length, All, Option, None, Some, IfSome, if◌then◌else◌, slice_index_or}
use Rattle.exact_math.specs.Ring.{integers}
use Rattle.exact_vectors.specs.Vectors.{negate}
use Rattle.whole_rows.specs.declared.bounds.Bounds.{Bounds}
use Rattle.whole_rows.specs.WholeRows.{WholeRow, WholeRows, LiesIn, bounds_at, span}
use Rattle.whole_rows.specs.Ends.{sum_at, ReachesSides}
use Rattle.whole_rows.specs.declared.ends.End.TheVariants.{Least}
use Rattle.farkas_rows.specs.declared.path.Slice.{Slice}
use Rattle.farkas_rows.specs.Inequalities.{at_most, at_least, unit, inequality_at}
use Rattle.farkas_rows.specs.Refutes.{HasForms}
use Rattle.proof_tree.specs.Trees.{IsOfSize, IsShort}
use Rattle.plain_slices.specs.declared.node.Source.{Source}
use Rattle.plain_slices.specs.Shut.{IsFixedBy, LiesInNarrowed}

-- a column's value, or minus it
abbrev pub signed_unit : Bool → ℕ → ℕ → List ℤ
signed_unit negative columns column = if negative then negate integers (unit columns column) else unit columns column

-- the bounds of a column of the narrowed box
abbrev pub narrowed_at : List Bounds → ℕ → Bounds
narrowed_at bounds column = slice_index_or bounds column (record { low = pos 0; high = pos 0 })

-- where they come from
abbrev pub source_at : List Source → ℕ → Source
source_at sources column = slice_index_or sources column (record { above = 0; below = 0; is_fixed = false })

-- where the bounds of the box come from, after so many rows
abbrev pub box_source : ℕ → ℕ → Source
box_source rows column = record { above = 2 * rows + 2 * column; below = 2 * rows + 2 * column + 1; is_fixed = false }

-- the values between the bounds that are this one: each bound that is looser gives way to it
abbrev pub bounds_fixed : Bounds → ℤ → Bounds
bounds_fixed bounds value = record {
  low = if int_lt bounds.low value then value else bounds.low;
  high = if int_lt value bounds.high then value else bounds.high;
}

-- the numbers of the bounds, where those of the value take the place of the looser ones
abbrev pub source_fixed : Bounds → Source → ℤ → ℕ → ℕ → Source
source_fixed bounds source value above below = record {
  above = if int_lt value bounds.high then above else source.above;
  below = if int_lt bounds.low value then below else source.below;
  is_fixed = true;
}

-- The two inequalities that bound a column at a node of this path, whose slices so far are `done`.
pub record IsTight (rows : WholeRows) (path done : List Slice) (column : ℕ) (bounds : Bounds) (source : Source) : Type 0 where
  pub above : inequality_at rows path None source.above ≡ Some (at_most (unit (length rows.box) column) bounds.high)
  pub below : inequality_at rows path None source.below ≡ Some (at_least (unit (length rows.box) column) bounds.low)
  pub within_low : (bounds_at rows column).low ≤ℤ bounds.low
  pub within_high : bounds.high ≤ℤ (bounds_at rows column).high
  pub small_low : IsOfSize (2 ^ 98) bounds.low
  pub small_high : IsOfSize (2 ^ 98) bounds.high
  pub fixed : IsTrue source.is_fixed ↔ IsFixedBy (length rows.box) done column
  pub one_value : IsTrue source.is_fixed → bounds.high ≤ℤ bounds.low
  pub as_box : source.is_fixed ≡ false → bounds ≡ bounds_at rows column

-- The box of a node of this path, narrowed by the slices `done`.
pub record IsNarrowed (rows : WholeRows) (path done : List Slice) (bounds : List Bounds) (sources : List Source) : Type 0 where
  pub dense : length bounds ≡ length rows.box
  pub sourced : length sources ≡ length rows.box
  pub points : (x : List ℤ) → LiesIn bounds x ↔ LiesInNarrowed rows done x
  pub tight : (column : ℕ) → column < length rows.box → IsTight rows path done column (narrowed_at bounds column) (source_at sources column)

-- the bounds of no column cross
abbrev pub IsOpenBox : List Bounds → Type 0
IsOpenBox bounds = All (λ (b : Bounds). b.low ≤ℤ b.high) bounds

-- A path within the limits: at most two slices for each column, whose forms have a factor for each column and a weight of at most
-- 2 to the power 96, and whose values are at most 2 to the power 98 in size.
pub record IsPathWithin (rows : WholeRows) (path : List Slice) : Type 0 where
  pub short : IsShort rows path
  pub forms : HasForms (length rows.box) path
  pub light : All (λ (slice : Slice). span slice.form rows.box ≤ 2 ^ 96) path
  pub values : All (λ (slice : Slice). IsOfSize (2 ^ 98) slice.beta) path

-- No bounds of the narrowed box cross, and within it the sums of each row and each slice reach its sides, and those of the costs
-- a value below the best one.
pub record IsMeetable (rows : WholeRows) (path : List Slice) (best : Option ℤ) (bounds : List Bounds) : Type 0 where
  pub open_box : IsOpenBox bounds
  pub rows_reach : All (λ (row : WholeRow). ReachesSides row.factors row.low row.high bounds) rows.rows
  pub slices_reach : All (λ (slice : Slice). ReachesSides slice.form (Some slice.beta) (Some slice.beta) bounds) path
  pub cut_reaches : IfSome best (λ value. sum_at Least rows.cost bounds <ℤ value)
