-- Why the nodes of a path are split by single columns.
use Rattle.std.specs.Prelude.{◌≡◌, ◌⊎◌, ◌<◌, ◌^◌, ℤ, pos, ◌<ℤ◌, List, [], ◌∷◌, ◌++◌, length, get_or, Option, Some, None, FitsSigned}
use Rattle.exact_math.specs.Rational.{ℚ, whole}
use Rattle.exact_math.specs.Ring.{integers}
use Rattle.exact_vectors.specs.Vectors.{negate}
use Rattle.whole_rows.specs.WholeRows.{WholeRows, span}
use Rattle.farkas_rows.specs.declared.fracs.FracUse.{FracUse}
use Rattle.farkas_rows.specs.declared.line.Line.{Line}
use Rattle.farkas_rows.specs.declared.path.Slice.{Slice}
use Rattle.farkas_rows.specs.Inequalities.{Inequality, above, below}
use Rattle.farkas_rows.specs.LeastLine.{IsLeastLine}
use Rattle.farkas_rows.specs.Refutes.{line_weight}
use Rattle.proof_tree.specs.Moves.{IsNoHigher, IsValueOfPoint}
use Rattle.spaces.specs.Maps.{pulled_form}
use Rattle.lp_dict.specs.Systems.{wholes}
use Rattle.unimodular_pair.specs.Gathering.{IsGatheredPair, StopsAfter}
use Rattle.unimodular_pair.specs.Pairs.{Matrices}
use Rattle.reformulate.specs.Charts.{chart_of}
use Rattle.reformulate.specs.Excuses.{ExcusedOn, ValuesStay}
use Rattle.reformulate.specs.Framing.{rest_of}
use Rattle.reformulate.specs.Gaps.{IsGap}
use Rattle.reformulate.specs.Misses.{EndsInGap}
use Rattle.reformulate.specs.Slices.{SliceLeaves}
use Rattle.reformulate.specs.Substitutions.{Substitution}
use Rattle.reformulate.specs.declared.equality.Equality.{Equality}
use Rattle.reformulate.specs.declared.gap.Gap.{Gap}
use Rattle.reformulate.specs.declared.outcome.FrameExcuse.{FrameExcuse}
use Rattle.reformulate.specs.declared.outcome.FrameExcuse.TheVariants as frame_excuses
use Rattle.presolve_map.specs.LiftedLines.{IsLiftedLine}
use Rattle.presolve_map.specs.ReducedRows.{ReducedRows, IsReduced}
use Rattle.row_lifting.specs.Lifting.{none}
use Rattle.farkas_lift.specs.NodeEqualities.{node_equalities, work_form, work_slice}
use Rattle.farkas_lift.specs.NodeLifting.{root_uses}
use Rattle.node_lines.specs.NodeLines.{end_number}
use Rattle.node_regions.specs.NodeFrames.{IsKeptForm, IsNodeFrame}
use Rattle.exact_nodes.specs.NodeExcuses.{IsExcusedBy}
use Rattle.exact_nodes.specs.declared.excuse.Excuse.{Excuse}
use Rattle.exact_nodes.specs.declared.excuse.Excuse.TheVariants.{Frame, HeavyForm, HeavyLine}
use mir.Syntax.{w128}

-- ---- frames

-- the excuse holds of the equalities of the root
pub record IsRootExcuse (rows : WholeRows) (path : List Slice) (excuse : FrameExcuse) : Type 0 where
  pub root : path ≡ []
  pub work : ReducedRows
  pub presolved : IsReduced rows work
  pub excused : ExcusedOn (length work.rows.box) (node_equalities work []) excuse

-- a value of the equality's form at x0 or at a vector of K, or what is left of its side, leaves `i128`
abbrev pub EqualityLeaves : Substitution → Equality → Type 0
EqualityLeaves frame equality = ¬ (ValuesStay equality.form (chart_of frame)) ⊎ ¬ (FitsSigned w128 (rest_of equality frame.to_work.base))

-- the completion of the equality's form on the coordinates to a pair stops after these steps
abbrev pub CompletionStops : Substitution → Equality → FrameExcuse → Type 0
CompletionStops frame equality (frame_excuses.Reduce excuse) = ⊥
CompletionStops frame equality (frame_excuses.Product steps) =
    ((steps ≡ []) × EqualityLeaves frame equality) ⊎ StopsAfter (pulled_form frame.to_work equality.form) steps

-- legal gathering of that form gives the pair, whose first row it is, and the slice of the frame by it stops
pub record PairStops (frame : Substitution) (equality : Equality) (excuse : FrameExcuse) : Type 0 where
  pub pair : Matrices
  pub gathered : IsGatheredPair (pulled_form frame.to_work equality.form) pair
  pub first : get_or pair.u 0 [] ≡ pulled_form frame.to_work equality.form
  pub leaves : SliceLeaves frame pair (rest_of equality frame.to_work.base) excuse

-- The frame is one of the node at the end of the path, and the excuse holds of this slice of it, whose form has 0 in the columns that presolving removes.
pub record IsExcusedSlice (rows : WholeRows) (path : List Slice) (frame : Substitution) (slice : Slice) (excuse : FrameExcuse) : Type 0 where
  pub of_node : IsNodeFrame rows path frame
  pub kept : IsKeptForm rows.box slice.form
  pub stops : CompletionStops frame (work_slice of_node.work slice) excuse ⊎ PairStops frame (work_slice of_node.work slice) excuse

-- the path is that of such a node and the slice more
pub record IsSliceExcuse (rows : WholeRows) (path : List Slice) (excuse : FrameExcuse) : Type 0 where
  pub before : List Slice
  pub slice : Slice
  pub ends : path ≡ before ++ slice ∷ []
  pub frame : Substitution
  pub excused : IsExcusedSlice rows before frame slice excuse

-- ---- gaps

-- The gap in which legal framing of the root's equalities ends, and its form over all columns, 0 in those that presolving removes.
pub record IsRootGap (rows : WholeRows) (work : ReducedRows) (gap : Gap) (form : List ℤ) : Type 0 where
  pub presolved : IsReduced rows work
  pub shown : IsGap (length work.rows.box) (node_equalities work []) gap
  pub ends : EndsInGap (length work.rows.box) (node_equalities work []) gap
  pub kept : IsKeptForm rows.box form
  pub same_form : work_form work form ≡ gap.form

-- its form weighs above 2 to the power 96
pub record IsHeavyGapForm (rows : WholeRows) (path : List Slice) (form : List ℤ) : Type 0 where
  pub root : path ≡ []
  pub work : ReducedRows
  pub gap : Gap
  pub of_root : IsRootGap rows work gap form
  pub heavy : 2 ^ 96 < span form rows.box

-- the inequality at the end of a form at the root, so many times
abbrev pub end_times : WholeRows → ℤ → FracUse
end_times rows divisor = record { index = end_number rows []; times = whole divisor }

-- Of the two ends of a gap's form, the lower one with minus the gap's times, and the upper one with its times.
abbrev pub IsGapEnd : List ℤ → Gap → Inequality → List ℤ → Type 0
IsGapEnd form gap end times =
    ((end ≡ below form gap.lo) × (times ≡ negate integers gap.times))
    ⊎ ((end ≡ above form gap.lo) × (times ≡ gap.times))

-- The least whole line of the equalities of the root so many times and of an end of a form as often as the divisor says weighs above
-- 2 to the power 126.
pub record IsHeavyWith (rows : WholeRows) (work : ReducedRows) (divisor : ℤ) (times : List ℚ) (end : Option Inequality) : Type 0 where
  pub items : List FracUse
  pub lifted : IsLiftedLine rows none (root_uses rows work times) items
  pub heavy : (line : Line) → IsLeastLine None (items ++ end_times rows divisor ∷ []) line → pos (2 ^ 126) <ℤ line_weight rows [] end line

-- For one of the ends, the least whole line of the gap's times and of the divisor weighs above 2 to the power 126.
pub record IsHeavyGapLine (rows : WholeRows) (path : List Slice) : Type 0 where
  pub root : path ≡ []
  pub work : ReducedRows
  pub gap : Gap
  pub form : List ℤ
  pub of_root : IsRootGap rows work gap form
  pub end : Inequality
  pub times : List ℤ
  pub is_end : IsGapEnd form gap end times
  pub heavy : IsHeavyWith rows work gap.divisor (wholes times) (Some end)

-- ---- all of them

-- the frame is one of the node, and in its coordinates the excuse holds there
pub record IsExcusedIn (rows : WholeRows) (path : List Slice) (best : Option ℤ) (frame : Substitution) (excuse : Excuse) : Type 0 where
  pub of_node : IsNodeFrame rows path frame
  pub excused : IsExcusedBy rows path best frame of_node.work excuse

-- The excuse holds of the node at the end of the path, below the best value.
pub data IsExcused (rows : WholeRows) (path : List Slice) (best : Option ℤ) (excuse : Excuse) : Type 0 where
  framed : (frame : Substitution) → IsExcusedIn rows path best frame excuse → IsExcused rows path best excuse
  root : (stop : FrameExcuse) → excuse ≡ Frame stop → IsRootExcuse rows path stop → IsExcused rows path best excuse
  slice : (stop : FrameExcuse) → excuse ≡ Frame stop → IsSliceExcuse rows path stop → IsExcused rows path best excuse
  gap_form : (form : List ℤ) → excuse ≡ HeavyForm form → IsHeavyGapForm rows path form → IsExcused rows path best excuse
  gap_line : excuse ≡ HeavyLine (record { pivots = [] }) → IsHeavyGapLine rows path → IsExcused rows path best excuse

-- The excuse holds of that node or of one above it, under no value, or under one that a point has and that is not lower than the best one.
pub record IsExcusedAbove (rows : WholeRows) (path : List Slice) (best : Option ℤ) (excuse : Excuse) : Type 0 where
  pub node : List Slice
  pub rest : List Slice
  pub joined : path ≡ node ++ rest
  pub under : Option ℤ
  pub of_point : IsValueOfPoint rows under
  pub not_lower : IsNoHigher best under
  pub excused : IsExcused rows node under excuse
