-- Ends of a gap's form, and why no point of the root lies there.
use Rattle.std.specs.Prelude.{◌≡◌, ◌⊎◌, ℕ, ◌<◌, ◌^◌, ◌≤◌, ℤ, pos, ◌+ℤ◌, ◌*ℤ◌, ◌<ℤ◌, List, [], length, Option, option_to_list, slice_index_or, unsigned_abs}
use Rattle.exact_math.specs.Rational.{ℚ, whole}
use Rattle.lp_dict.specs.Systems.{wholes}
use Rattle.whole_rows.specs.WholeRows.{WholeRows, span}
use Rattle.farkas_rows.specs.Inequalities.{Inequality}
use Rattle.farkas_rows.specs.Refutes.{IsDense}
use Rattle.farkas_rows.specs.declared.fracs.FracUse.{FracUse}
use Rattle.farkas_rows.specs.declared.line.Line.{Line}
use Rattle.reformulate.specs.Gaps.{SumUp, IsGap}
use Rattle.reformulate.specs.Misses.{EndsInGap}
use Rattle.reformulate.specs.declared.gap.Gap.{Gap}
use Rattle.presolve_map.specs.LiftedLines.{bound_of, IsOverKept}
use Rattle.presolve_map.specs.ReducedRows.{ReducedRows, IsReduced}
use Rattle.farkas_lift.specs.Joined.{joined}
use Rattle.farkas_lift.specs.NodeEqualities.{node_equalities, work_form}
use Rattle.node_lines.specs.declared.halt.LineHalt.{LineHalt}
use Rattle.node_lines.specs.declared.halt.LineHalt.TheVariants.{NoMemory}
use Rattle.node_regions.specs.NodeFrames.{IsKeptForm}
use Rattle.proof_tree.specs.Moves.{ClosesUnder}
use Rattle.exact_nodes.specs.PathExcuses.{IsHeavyGapLine}

-- The form over all columns is that of the gap in which legal framing of the root's equalities ends, 0 in the columns that presolving removes.
pub record IsFormOfGap (rows : WholeRows) (work : ReducedRows) (gap : Gap) (form : List ℤ) : Type 0 where
  pub presolved : IsReduced rows work
  pub shown : IsGap (length work.rows.box) (node_equalities work []) gap
  pub ends : EndsInGap (length work.rows.box) (node_equalities work []) gap
  pub kept : IsKeptForm rows.box form
  pub same : work_form work form ≡ gap.form
  pub dense : length form ≡ length rows.box
  pub light : span form rows.box ≤ 2 ^ 96

-- So many times, the equalities of the root come to minus so many times the left side of the end as the divisor says, and their
-- sides and so many times the end's limit to less than 0. The end is 0 in the columns that presolving removes.
pub record IsRefutedBy (rows : WholeRows) (work : ReducedRows) (divisor : ℤ) (times : List ℚ) (end : Inequality) : Type 0 where
  pub numbers : List ℤ
  pub same : times ≡ wholes numbers
  pub left : List ℤ
  pub right : ℤ
  pub sum : SumUp (length work.rows.box) (node_equalities work []) numbers left right
  pub positive : pos 0 <ℤ divisor
  pub dense : IsDense (length rows.box) end
  pub kept : IsOverKept rows end.factors
  pub opposite : (k : ℕ) → k < length work.rows.box → (slice_index_or left k (pos 0) +ℤ divisor *ℤ slice_index_or (work_form work end.factors) k (pos 0)) ≡ pos 0
  pub negative : (right +ℤ divisor *ℤ end.limit) <ℤ pos 0

-- no values within the box come near the limit of the end: the left side is light, and the limit below all that it leads to
pub record IsPastBox (rows : WholeRows) (end : Inequality) : Type 0 where
  pub dense : IsDense (length rows.box) end
  pub light : span end.factors rows.box ≤ 2 ^ 96
  pub past : (end.limit +ℤ pos (2 ^ 96)) <ℤ pos 0
  pub small : unsigned_abs end.limit ≤ 2 ^ 98

-- of each of the first columns the bound that takes its factor in the form away, as often as it does
abbrev pub bounds_against : WholeRows → List ℤ → ℕ → List FracUse
bounds_against rows form count = joined (λ column. option_to_list (bound_of rows column (whole (slice_index_or form column (pos 0))))) count

-- under every best value, the line shows that no point of the root lies at the end
abbrev pub ClosesEnd : WholeRows → Option Inequality → Line → Type 0
ClosesEnd rows end line = (best : Option ℤ) → ClosesUnder rows best [] end line

-- there was no memory, or a line of the gap's times is too large
abbrev pub HaltsGap : WholeRows → LineHalt → Type 0
HaltsGap rows halt = (halt ≡ NoMemory) ⊎ IsHeavyGapLine rows []
