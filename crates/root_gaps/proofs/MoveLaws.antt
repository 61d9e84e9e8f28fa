-- The move of a root whose equalities have a gap.
use Rattle.std.proofs.Common.{◌≡◌, ◌≢◌, ◌^◌, ◌<◌, ◌≤◌, ℤ, pos, neg_ℤ, ◌+ℤ◌, ◌≤ℤ◌, ◌<ℤ◌, List, [], length, refl, sym, subst, All, ⊎_elim, Result, Ok, Err}
use Rattle.std.specs.Prelude.{Option, Some, IfOk, OnOk}
use Rattle.exact_math.specs.IntegerRing.{linear}
use Rattle.exact_math.specs.IntegerOrder.{le_or_lt}
use Rattle.whole_rows.specs.WholeRows.{WholeRows, span}
use Rattle.farkas_rows.specs.Inequalities.{above, below}
use Rattle.farkas_rows.specs.declared.line.Line.{Line}
use Rattle.reformulate.specs.Gaps.{IsGap, IsNearest}
use Rattle.reformulate.specs.Misses.{EndsInGap}
use Rattle.reformulate.specs.declared.gap.Gap.{Gap}
use Rattle.presolve_map.specs.ReducedRows.{ReducedRows, IsReduced}
use Rattle.proof_tree.specs.Trees.{IsOfSize}
use Rattle.proof_tree.specs.declared.tree.Mark.TheVariants.{Thin}
use Rattle.farkas_lift.specs.NodeEqualities.{node_equalities, work_form}
use Rattle.node_regions.specs.NodeFrames.{IsKeptForm}
use Rattle.node_lines.specs.declared.halt.LineHalt.{LineHalt}
use Rattle.node_lines.specs.declared.halt.LineHalt.TheVariants.{NoMemory}
use Rattle.exact_nodes.specs.PathExcuses.IsExcused.{gap_form, gap_line}
use Rattle.exact_nodes.specs.ThinMoves.{IsGapForm}
use Rattle.exact_nodes.specs.declared.excuse.Excuse.TheVariants.{HeavyForm, HeavyLine}
use Rattle.root_gaps.specs.GapEnds.{ClosesEnd, HaltsGap}
use Rattle.root_gaps.specs.GapMoves.{IsGapMove}
use Rattle.root_gaps.specs.declared.outcome.GapMove.{GapMove}
use Rattle.root_gaps.specs.declared.outcome.GapMove.TheVariants.{Excused, Split}

-- the first value is in range
near-size : (ceiling lo : ℤ) → IsNearest ceiling lo → IsOfSize (2 ^ 97) lo
near-size ceiling lo near =
    ⊎_elim
    (λ (low : ceiling ≤ℤ pos (2 ^ 97)). ⊎_elim (λ (within : neg_ℤ (pos (2 ^ 97)) ≤ℤ ceiling). let e = near.between within low in (omega (linear, e, within), omega (linear, e, low))) (λ (far : ceiling <ℤ neg_ℤ (pos (2 ^ 97))). let e = near.below far in (omega (linear, e), omega (linear, e))) (le_or_lt (neg_ℤ (pos (2 ^ 97))) ceiling))
    (λ (high : pos (2 ^ 97) <ℤ ceiling). let e = near.above high in (omega (linear, e), omega (linear, e)))
    (le_or_lt ceiling (pos (2 ^ 97)))

module _ (rows : WholeRows) (work : ReducedRows) (gap : Gap) (form : List ℤ) (presolved : IsReduced rows work) (shown : IsGap (length work.rows.box) (node_equalities work []) gap) (kept : IsKeptForm rows.box form) (same : work_form work form ≡ gap.form) where
  of_gap : IsGapForm rows form gap.lo
  of_gap = record { work = work; presolved = presolved; gap = gap; shown = shown; kept = kept; same_form = same; same_lo = refl }

  -- the form is too heavy
  pub heavy-form : EndsInGap (length work.rows.box) (node_equalities work []) gap → 2 ^ 96 < span form rows.box → (best : Option ℤ) → IsGapMove rows best (Excused (HeavyForm form))
  heavy-form ends heavy best = gap_form form refl (record { root = refl; work = work; gap = gap; of_root = record { presolved = presolved; shown = shown; ends = ends; kept = kept; same_form = same }; heavy = heavy })

  -- the split
  pub gap-split : length form ≡ length rows.box → span form rows.box ≤ 2 ^ 96 → (All (λ factor. factor ≡ pos 0) form → ⊥) → (lower upper : Line) → ClosesEnd rows (Some (below form gap.lo)) lower → ClosesEnd rows (Some (above form gap.lo)) upper
      → (best : Option ℤ) → IsGapMove rows best (Split (record { form = form; lo = gap.lo; count = pos 0; below = lower; above = upper; mark = Thin }))
  gap-split dense light some lower upper closes_lower closes_upper best = (
    record {
      form = record { dense = dense; some = some; light = light };
      lo = near-size shown.ceiling gap.lo shown.lo;
      count = (omega linear, omega linear);
      narrow = omega linear;
      below = closes_lower best;
      above = subst (λ (from : ℤ). ClosesEnd rows (Some (above form from)) upper) (none_more gap.lo) closes_upper best;
    },
    record { root = refl; none = refl; gap = of_gap },
    refl,
  )
    where
      none_more : (lo : ℤ) → lo ≡ lo +ℤ pos 0
      none_more lo = omega linear

-- a line is too large
pub heavy-line : (rows : WholeRows) (halt : LineHalt) (found : GapMove) → HaltsGap rows halt → halt ≢ NoMemory → found ≡ Excused (HeavyLine (record { pivots = [] })) → (best : Option ℤ) → IsGapMove rows best found
heavy-line rows halt found halts ne e best = subst (IsGapMove rows best) (sym e) (⊎_elim (λ memory. absurd (ne memory)) (λ heavy. gap_line refl heavy) halts)

pub heavy-lines : (rows : WholeRows) (halt : LineHalt) {E : Type 0} (found : Result GapMove E) → HaltsGap rows halt → IfOk found (λ move. move ≡ Excused (HeavyLine (record { pivots = [] }))) → OnOk found (halt ≢ NoMemory) → IfOk found (λ move. (best : Option ℤ) → IsGapMove rows best move)
heavy-lines rows halt (Ok move) halts e ne = heavy-line rows halt move halts ne e
heavy-lines rows halt (Err error) halts e ne = tt
