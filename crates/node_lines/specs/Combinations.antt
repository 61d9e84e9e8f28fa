-- Combinations of a node's inequalities, with fractions as multipliers.
use Rattle.std.specs.Prelude.{◌≡◌, ℕ, ◌<◌, ℤ, pos, ◌-ℤ◌, List, length, Option, Some, None, IsSome, slice_index, get_or}
use Rattle.std.specs.List.{All}
use Rattle.std.specs.List.Sorted.{IsStrictlyIncreasing}
use Rattle.exact_math.specs.Rational.{ℚ, whole, ◌+ℚ◌, ◌*ℚ◌, ◌<ℚ◌}
use Rattle.whole_rows.specs.WholeRows.{WholeRows}
use Rattle.row_lifting.specs.Lifting.{none}
use Rattle.farkas_rows.specs.declared.fracs.CutFrac.{CutFrac}
use Rattle.farkas_rows.specs.declared.fracs.FracUse.{FracUse}
use Rattle.farkas_rows.specs.declared.path.Slice.{Slice}
use Rattle.farkas_rows.specs.Inequalities.{Inequality, inequality_at, cut_inequality}
use Rattle.farkas_rows.specs.LeastLine.{fractions}
use Rattle.farkas_rows.specs.Sides.{factor_of}
use Rattle.presolve_map.specs.LiftedLines.{total, factor_in, limit_in, cost_in, numbers_of, IsRemoved}
use Rattle.presolve_map.specs.ReducedRows.{ReducedRows}
use Rattle.node_lines.specs.NodeLines.{end_number}

-- what the cut contributes: its multiplier times what `part` gives for its inequality; 0 where there is none
abbrev pub cut_share : WholeRows → (Inequality → ℤ) → Option CutFrac → ℚ
cut_share model part None = none
cut_share model part (Some cut) = cut.times *ℚ whole (part (cut_inequality model cut.value))

-- The multipliers of the cut and of the items show that the node is empty: they are above 0, the numbers of the items rise and name
-- inequalities of the node, the left sides come to 0 in each column, and the limits to less than 0.
pub record IsRefutation (model : WholeRows) (path : List Slice) (end : Option Inequality) (cut : Option CutFrac) (items : List FracUse) : Type 0 where
  pub rising : IsStrictlyIncreasing (numbers_of items)
  pub there : All (λ (item : FracUse). IsSome (inequality_at model path end item.index)) items
  pub positive : All (λ part. whole (pos 0) <ℚ part) (fractions cut items)
  pub vanishes : (column : ℕ) → column < length model.box → cut_share model (factor_of column) cut +ℚ total (factor_in model path end column) items ≡ none
  pub negative : (cut_share model (λ (inequality : Inequality). inequality.limit) cut +ℚ total (limit_in model path end) items) <ℚ none

-- The cut of this value, so many times, and the items come to 0 in each removed column, to the form in the work columns, and to the
-- limit.
pub record ComesOver (model : WholeRows) (work : ReducedRows) (path : List Slice) (end : Option Inequality) (value : ℤ) (cut : ℚ) (items : List FracUse) (form : List ℚ) (limit : ℚ) : Type 0 where
  pub removed : (column : ℕ) → column < length model.box → IsRemoved model column → cut *ℚ cost_in model column +ℚ total (factor_in model path end column) items ≡ none
  pub kept : (k : ℕ) → k < length work.rows.box → cut *ℚ cost_in model (slice_index work.column_numbers k) +ℚ total (factor_in model path end (slice_index work.column_numbers k)) items ≡ get_or form k none
  pub at_limit : cut *ℚ whole (value -ℤ pos 1) +ℚ total (limit_in model path end) items ≡ limit

-- The items stand under rising numbers, and each names a row, a bound or a slice of the node.
pub record AreOfNode (model : WholeRows) (path : List Slice) (items : List FracUse) : Type 0 where
  pub rising : IsStrictlyIncreasing (numbers_of items)
  pub before_end : All (λ (item : FracUse). item.index < end_number model path) items
  pub there : (end : Option Inequality) → All (λ (item : FracUse). IsSome (inequality_at model path end item.index)) items
  pub positive : All (λ (item : FracUse). whole (pos 0) <ℚ item.times) items
