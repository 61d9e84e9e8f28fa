-- The equalities the gap's times, or minus them, refute an end of the gap's form.
use Rattle.std.proofs.Common.{◌≡◌, ◌≢◌, ◌⊎◌, inl, inr, ℕ, ◌+◌, ◌*◌, ◌^◌, ◌<◌, ◌≤◌, nat_abs, ℤ, pos, neg_ℤ, ◌+ℤ◌, ◌-ℤ◌, ◌*ℤ◌, ◌≤ℤ◌, ◌<ℤ◌, List, [], ◌∷◌, length, get_or, refl, sym, ap, ap₂, subst, ◌∙◌, All, ⊎_elim, Result, Ok, Err}
use Rattle.std.specs.Prelude.{Some, IfErr, IsErrOf}
use Rattle.std.specs.Result.{IsErrAnd}
use Rattle.exact_math.specs.Ring.{integers}
use Rattle.exact_math.specs.IntegerRing.{linear, mul_neg}
use Rattle.exact_math.specs.IntegerOrder.{le_or_lt, mul_le}
use Rattle.exact_math.specs.Rational.{ℚ}
use Rattle.exact_math.specs.RationalRing.{rationals}
use Rattle.exact_vectors.specs.Vectors.{negate, scale}
use Rattle.exact_vectors.specs.DotLaws as Dot
use Rattle.exact_vectors.specs.MatrixLaws as Matrices
use Rattle.frac128.specs.Range.{IsNarrow}
use Rattle.exact_math.specs.GcdLaws.{nat_abs-neg_ℤ}
use Rattle.whole_rows.specs.declared.bounds.Bounds.{Bounds}
use Rattle.whole_rows.specs.WholeRows.{WholeRows, reach, span, IsWithinLimits}
use Rattle.lp_dict.specs.Systems.{wholes}
use Rattle.row_lifting.specs.Lifting.{none}
use Rattle.farkas_rows.specs.Inequalities.{above, below}
use Rattle.farkas_rows.specs.NodeLaws.{length-negate}
use Rattle.reformulate.specs.Gaps.{forms_of, sides_of, IsGap, IsNearest, SumUp}
use Rattle.reformulate.specs.declared.equality.Equality.{Equality}
use Rattle.reformulate.specs.declared.gap.Gap.{Gap}
use Rattle.presolve_map.specs.LiftedLines.{LineStays}
use Rattle.presolve_map.specs.ReducedRows.{ReducedRows}
use Rattle.presolve_map.proofs.LineLaws.{negate-at, whole_neg}
use Rattle.farkas_lift.specs.NodeEqualities.{node_equalities, work_form}
use Rattle.farkas_lift.specs.NodeLifting.{root_uses}
use Rattle.farkas_lift.proofs.JoinedLaws.{joined-at}
use Rattle.node_lines.specs.declared.halt.LineHalt.{LineHalt}
use Rattle.node_lines.specs.declared.halt.LineHalt.TheVariants.{Wide, Heavy, NoMemory}
use Rattle.node_lines.proofs.Refuting.{combination-negate}
use Rattle.exact_nodes.specs.PathExcuses.{IsHeavyGapLine, IsHeavyWith, IsRootGap}
use Rattle.exact_nodes.proofs.NodeFacts.{over_kept}
use Rattle.root_gaps.specs.GapEnds.{HaltsGap, IsFormOfGap, IsPastBox, IsRefutedBy}
use Rattle.root_gaps.proofs.HeavyTimes.{gap-heavy, turned-heavy}

-- ---- the first value

-- it is at most the ceiling, unless that is past the range below
lo-below : (ceiling lo : ℤ) → IsNearest ceiling lo → lo ≢ neg_ℤ (pos (2 ^ 97)) → lo ≤ℤ ceiling
lo-below ceiling lo near ne =
    ⊎_elim
    (λ (low : ceiling <ℤ neg_ℤ (pos (2 ^ 97))). absurd (ne (near.below low)))
    (λ (rest : neg_ℤ (pos (2 ^ 97)) ≤ℤ ceiling). ⊎_elim (λ (high : pos (2 ^ 97) <ℤ ceiling). omega (linear, near.above high, high)) (λ (within : ceiling ≤ℤ pos (2 ^ 97)). omega (linear, near.between rest within)) (either (pos (2 ^ 97)) ceiling))
    (either ceiling (neg_ℤ (pos (2 ^ 97))))
  where
    either : (a b : ℤ) → (a <ℤ b) ⊎ (b ≤ℤ a)
    either a b = ⊎_elim (λ le. inr le) (λ lt. inl lt) (le_or_lt b a)

-- and at least, unless that is past it above
lo-above : (ceiling lo : ℤ) → IsNearest ceiling lo → lo ≢ pos (2 ^ 97) → ceiling ≤ℤ lo
lo-above ceiling lo near ne =
    ⊎_elim
    (λ (high : pos (2 ^ 97) <ℤ ceiling). absurd (ne (near.above high)))
    (λ (rest : ceiling ≤ℤ pos (2 ^ 97)). ⊎_elim (λ (low : ceiling <ℤ neg_ℤ (pos (2 ^ 97))). omega (linear, near.below low, low)) (λ (within : neg_ℤ (pos (2 ^ 97)) ≤ℤ ceiling). omega (linear, near.between within rest)) (either ceiling (neg_ℤ (pos (2 ^ 97)))))
    (either (pos (2 ^ 97)) ceiling)
  where
    either : (a b : ℤ) → (a <ℤ b) ⊎ (b ≤ℤ a)
    either a b = ⊎_elim (λ le. inr le) (λ lt. inl lt) (le_or_lt b a)

below-side : (divisor ceiling lo side : ℤ) → pos 0 <ℤ divisor → lo ≤ℤ ceiling → (divisor *ℤ (ceiling -ℤ pos 1)) <ℤ side → (neg_ℤ side +ℤ divisor *ℤ (lo -ℤ pos 1)) <ℤ pos 0
below-side divisor ceiling lo side positive le lt = let step : (divisor *ℤ (lo -ℤ pos 1)) ≤ℤ (divisor *ℤ (ceiling -ℤ pos 1)) = mul_le divisor (lo -ℤ pos 1) (ceiling -ℤ pos 1) (omega (linear, positive)) (omega (linear, le)) in omega (linear, step, lt)

above-side : (divisor ceiling lo side : ℤ) → pos 0 <ℤ divisor → ceiling ≤ℤ lo → side <ℤ (divisor *ℤ ceiling) → (side +ℤ divisor *ℤ neg_ℤ lo) <ℤ pos 0
above-side divisor ceiling lo side positive le lt =
    let step : (divisor *ℤ ceiling) ≤ℤ (divisor *ℤ lo) = mul_le divisor ceiling lo (omega (linear, positive)) le in omega (linear, step, lt, mul_neg divisor lo)

-- ---- the other sign

pub negate-wholes : (numbers : List ℤ) → negate rationals (wholes numbers) ≡ wholes (negate integers numbers)
negate-wholes [] = refl
negate-wholes (a ∷ numbers) = ap₂ (λ (z : ℚ) (l : List ℚ). z ∷ l) (sym (whole_neg a)) (negate-wholes numbers)

sum-negated : (n : ℕ) (equalities : List Equality) (times left : List ℤ) (right : ℤ) → SumUp n equalities times left right → SumUp n equalities (negate integers times) (negate integers left) (neg_ℤ right)
sum-negated n equalities times left right sum = record {
  as_many = length-negate times ∙ sum.as_many;
  form = combination-negate integers n times (forms_of equalities) ∙ ap (negate integers) sum.form;
  side = Dot.dot-negate_left integers times (sides_of equalities) ∙ ap neg_ℤ sum.side;
}

-- ---- the ends

module _ (rows : WholeRows) (work : ReducedRows) (gap : Gap) (form : List ℤ) (is : IsFormOfGap rows work gap form) where
  abbrev shown : IsGap (length work.rows.box) (node_equalities work []) gap
  shown = is.shown

  form-at : (k : ℕ) → get_or (work_form work form) k (pos 0) ≡ get_or gap.form k (pos 0)
  form-at k = ap (λ (l : List ℤ). get_or l k (pos 0)) is.same

  left-at : (k : ℕ) → get_or (scale integers gap.divisor gap.form) k (pos 0) ≡ gap.divisor *ℤ get_or gap.form k (pos 0)
  left-at k = Matrices.scale-at integers gap.divisor gap.form k

  turned-at : (k : ℕ) → k < length work.rows.box → get_or (work_form work (negate integers form)) k (pos 0) ≡ neg_ℤ (get_or gap.form k (pos 0))
  turned-at k h =
      joined-at (λ j. get_or (negate integers form) (get_or work.column_numbers j 0) (pos 0)) (length work.rows.box) k (pos 0) h
      ∙ negate-at form (get_or work.column_numbers k 0)
      ∙ ap neg_ℤ (sym (joined-at (λ j. get_or form (get_or work.column_numbers j 0) (pos 0)) (length work.rows.box) k (pos 0) h) ∙ form-at k)

  gone : (d f : ℤ) → neg_ℤ (d *ℤ f) +ℤ d *ℤ f ≡ pos 0
  gone d f = omega linear

  gone_turned : (d f : ℤ) → d *ℤ f +ℤ d *ℤ neg_ℤ f ≡ pos 0
  gone_turned d f = omega (linear, mul_neg d f)

  -- minus the times refute the values below the first one
  pub lower-refuted : gap.lo ≢ neg_ℤ (pos (2 ^ 97)) → IsRefutedBy rows work gap.divisor (negate rationals (wholes gap.times)) (below form gap.lo)
  lower-refuted ne = record {
    numbers = negate integers gap.times;
    same = negate-wholes gap.times;
    left = negate integers (scale integers gap.divisor gap.form);
    right = neg_ℤ is.shown.side;
    sum = sum-negated (length work.rows.box) (node_equalities work []) gap.times (scale integers gap.divisor gap.form) is.shown.side is.shown.sum;
    positive = is.shown.positive;
    dense = is.dense;
    kept = over_kept rows form is.kept;
    opposite = λ k h. ap₂ (λ a b. a +ℤ gap.divisor *ℤ b) (negate-at (scale integers gap.divisor gap.form) k ∙ ap neg_ℤ (left-at k)) (form-at k) ∙ gone gap.divisor (get_or gap.form k (pos 0));
    negative = below-side gap.divisor is.shown.ceiling gap.lo is.shown.side is.shown.positive (lo-below is.shown.ceiling gap.lo is.shown.lo ne) is.shown.above;
  }

  -- the times refute those from it on
  pub upper-refuted : gap.lo ≢ pos (2 ^ 97) → IsRefutedBy rows work gap.divisor (wholes gap.times) (above form gap.lo)
  upper-refuted ne = record {
    numbers = gap.times;
    same = refl;
    left = scale integers gap.divisor gap.form;
    right = is.shown.side;
    sum = is.shown.sum;
    positive = is.shown.positive;
    dense = length-negate form ∙ is.dense;
    kept = λ column h removed. negate-at form column ∙ ap neg_ℤ (over_kept rows form is.kept column h removed);
    opposite = λ k h. ap₂ (λ a b. a +ℤ gap.divisor *ℤ b) (left-at k) (turned-at k h) ∙ gone_turned gap.divisor (get_or gap.form k (pos 0));
    negative = above-side gap.divisor is.shown.ceiling gap.lo is.shown.side is.shown.positive (lo-above is.shown.ceiling gap.lo is.shown.lo ne) is.shown.below;
  }

  -- ---- lines that are too large

  of_root : IsRootGap rows work gap form
  of_root = record { presolved = is.presolved; shown = is.shown; ends = is.ends; kept = is.kept; same_form = is.same }

  pub lower-heavy : IsHeavyWith rows work gap.divisor (negate rationals (wholes gap.times)) (Some (below form gap.lo)) → IsHeavyGapLine rows []
  lower-heavy heavy = record {
    root = refl;
    work = work;
    gap = gap;
    form = form;
    of_root = of_root;
    end = below form gap.lo;
    times = negate integers gap.times;
    is_end = inl (refl, refl);
    heavy = subst (λ (l : List ℚ). IsHeavyWith rows work gap.divisor l (Some (below form gap.lo))) (negate-wholes gap.times) heavy;
  }

  pub lower-leaves : IsWithinLimits rows → (LineStays rows none (root_uses rows work (negate rationals (wholes gap.times))) → ⊥) → IsHeavyGapLine rows []
  lower-leaves limits leaves =
      lower-heavy
      (subst (λ (l : List ℚ). IsHeavyWith rows work gap.divisor l (Some (below form gap.lo))) (sym (negate-wholes gap.times))
      (turned-heavy rows work gap limits is.presolved is.shown (Some (below form gap.lo)) (inr (λ stays. leaves (subst (λ (l : List ℚ). LineStays rows none (root_uses rows work l)) (sym (negate-wholes gap.times)) stays)))))

  pub upper-heavy : IsHeavyWith rows work gap.divisor (wholes gap.times) (Some (above form gap.lo)) → IsHeavyGapLine rows []
  upper-heavy heavy = record {
    root = refl;
    work = work;
    gap = gap;
    form = form;
    of_root = of_root;
    end = above form gap.lo;
    times = gap.times;
    is_end = inr (refl, refl);
    heavy = heavy;
  }

  pub upper-leaves : IsWithinLimits rows → (LineStays rows none (root_uses rows work (wholes gap.times)) → ⊥) → IsHeavyGapLine rows []
  upper-leaves limits leaves = upper-heavy (gap-heavy rows work gap limits is.presolved is.shown (Some (above form gap.lo)) (inr leaves))

  pub times-leave : IsWithinLimits rows → (All IsNarrow gap.times → ⊥) → IsHeavyGapLine rows []
  times-leave limits leave = upper-heavy (gap-heavy rows work gap limits is.presolved is.shown (Some (above form gap.lo)) (inl leave))

-- ---- errors

pub halts-gap : {A : Type 0} (rows : WholeRows) (found : Result A LineHalt) → (IsErrOf found Wide → IsHeavyGapLine rows []) → (IsErrOf found Heavy → IsHeavyGapLine rows []) → IfErr found (HaltsGap rows)
halts-gap rows (Ok line) wide heavy = tt
halts-gap rows (Err Wide) wide heavy = inr (wide refl)
halts-gap rows (Err Heavy) wide heavy = inr (heavy refl)
halts-gap rows (Err NoMemory) wide heavy = inl refl

-- ---- past the box

span-negate : (form : List ℤ) (box : List Bounds) → span (negate integers form) box ≡ span form box
span-negate [] box = refl
span-negate (a ∷ form) [] = refl
span-negate (a ∷ form) (b ∷ box) = ap₂ (λ (x y : ℕ). x * reach b + y) (nat_abs-neg_ℤ a) (span-negate form box)

-- the values from the end of the range on
pub upper-past : (rows : WholeRows) (work : ReducedRows) (gap : Gap) (form : List ℤ) → IsFormOfGap rows work gap form → gap.lo ≡ pos (2 ^ 97) → IsPastBox rows (above form gap.lo)
upper-past rows work gap form is e = record {
  dense = length-negate form ∙ is.dense;
  light = subst (λ (n : ℕ). n ≤ 2 ^ 96) (sym (span-negate form rows.box)) is.light;
  past = omega (linear, e);
  small = far gap.lo e;
}
  where
    far : (lo : ℤ) → lo ≡ pos (2 ^ 97) → nat_abs (neg_ℤ lo) ≤ 2 ^ 98
    far lo e = omega (linear, e)

-- an error that is handed on
pub halts-handed : {A B : Type 0} (rows : WholeRows) (found : Result A LineHalt) (handed : Result B LineHalt) (halt : LineHalt) → found ≡ Err halt → IsErrAnd handed (λ e. e ≡ halt) → (IsErrOf found Wide → IsHeavyGapLine rows []) → (IsErrOf found Heavy → IsHeavyGapLine rows []) → IfErr handed (HaltsGap rows)
halts-handed rows found (Ok line) halt was same wide heavy = tt
halts-handed rows found (Err given) halt was same wide heavy = each given (was ∙ ap Err (sym same))
  where
    each : (given : LineHalt) → found ≡ Err given → HaltsGap rows given
    each Wide e = inr (wide e)
    each Heavy e = inr (heavy e)
    each NoMemory e = inl refl
