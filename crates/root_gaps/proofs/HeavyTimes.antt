-- Where the equalities of a root so many times leave the range of fractions, the least whole line of these and of an end is heavy.
use Rattle.std.proofs.Common.{◌≡◌, ◌⊎◌, ℕ, ◌^◌, ◌≤◌, nat_abs, false, ℤ, pos, ◌≤ℤ◌, ◌<ℤ◌, List, [], ◌∷◌, ◌++◌, length, get_or, refl, subst, ◌∙◌, arith, All, ⊎_elim}
use Rattle.std.specs.Int.{◌∣◌}
use Rattle.std.specs.Prelude.{Option}
use Rattle.std.proofs.lemmas.List.Elements.{All-nil, All-cons, All-append, All-head, All-weaker}
use Rattle.std.proofs.lemmas.Nat.Gcd.{dvd-zero}
use Rattle.exact_math.specs.IntegerOrder.{le_or_lt}
use Rattle.exact_math.specs.IntegerRing.{linear}
use Rattle.exact_math.specs.Rational.{whole, ◌<ℚ◌}
use Rattle.exact_math.specs.Ring.{integers}
use Rattle.exact_math.specs.RationalRing.{rationals}
use Rattle.exact_vectors.specs.Vectors.{negate, zeros}
use Rattle.frac128.specs.Range.{IsNarrow}
use Rattle.whole_rows.specs.WholeRows.{WholeRows, IsWithinLimits}
use Rattle.lp_dict.specs.Systems.{wholes}
use Rattle.row_lifting.specs.Lifting.{none}
use Rattle.farkas_rows.specs.declared.fracs.FracUse.{FracUse}
use Rattle.farkas_rows.specs.declared.line.Line.{Line}
use Rattle.farkas_rows.specs.Inequalities.{Inequality}
use Rattle.farkas_rows.specs.NodeLaws.{length-negate}
use Rattle.farkas_rows.specs.Refutes.{line_weight}
use Rattle.farkas_rows.proofs.LeastLemmas.{whole_num}
use Rattle.reformulate.specs.Gaps.{IsGap}
use Rattle.reformulate.specs.declared.gap.Gap.{Gap}
use Rattle.presolve_map.specs.LiftedLines.{balances, LineStays}
use Rattle.presolve_map.specs.ReducedRows.{ReducedRows, IsReduced}
use Rattle.presolve_map.proofs.NumberedLaws.{balances-positive}
use Rattle.farkas_lift.specs.NodeEqualities.{node_equalities}
use Rattle.farkas_lift.specs.NodeLifting.{root_uses}
use Rattle.farkas_lift.specs.NodeSides.{node_sides}
use Rattle.farkas_lift.proofs.NodePlaces.{times-positive}
use Rattle.farkas_lift.proofs.RootLaws.{zeros_nonneg}
use Rattle.exact_nodes.specs.PathExcuses.{end_times, IsHeavyWith}
use Rattle.root_gaps.proofs.GapDivisors.{divides-turned, gap-lowest, DividesEach}
use Rattle.root_gaps.proofs.LightTotals.{light-stays, sizes-small}
use Rattle.root_gaps.proofs.RootItems.{all-back, all-front, lifted-integer, lifted_root, numbers-back, root-lifted}
use Rattle.root_gaps.proofs.TimesLaws.{whole-above}
use Rattle.root_gaps.proofs.WholeLines.{counted-of, items_weight, items_weight-append, least-weight, size, AreLowest, IsCounted}

-- one of the times is not narrow, or a product or a sum on the way to what they come to in a removed column leaves the range
abbrev pub TimesLeave : WholeRows → ReducedRows → List ℤ → Type 0
TimesLeave rows work times = ¬ (All IsNarrow times) ⊎ ¬ (LineStays rows none (root_uses rows work (wholes times)))

-- no number but 1 divides the times and the divisor
abbrev pub AreApart : ℤ → List ℤ → Type 0
AreApart divisor times = (d : ℕ) → DividesEach d times → d ∣ nat_abs divisor → d ≡ 1

module _ (rows : WholeRows) (work : ReducedRows) (limits : IsWithinLimits rows) (reduced : IsReduced rows work) (divisor : ℤ) (times : List ℤ) (end : Option Inequality) (many : length times ≡ length (node_equalities work [])) (positive : pos 0 <ℤ divisor) (apart : AreApart divisor times) where
  abbrev items : List FracUse
  items = root_uses rows work (wholes times)

  abbrev lifted : List FracUse
  lifted = lifted_root rows work limits reduced times

  abbrev all : List FracUse
  all = lifted ++ end_times rows divisor ∷ []

  abbrev IsAbove : FracUse → Type 0
  IsAbove item = whole (pos 0) <ℚ item.times

  lifted-above : All IsAbove lifted
  lifted-above =
      All-append IsAbove items (balances rows none items (length rows.box)) (times-positive rows work limits reduced 0 (zeros rationals (length (node_sides work false))) (wholes times) (zeros_nonneg (length (node_sides work false))))
      (balances-positive rows none items (length rows.box))

  all-above : All IsAbove all
  all-above = All-append IsAbove lifted (end_times rows divisor ∷ []) lifted-above (All-cons IsAbove (end_times rows divisor) [] (whole-above divisor positive) (All-nil IsAbove))

  lifted-counted : All IsCounted lifted
  lifted-counted k d lt = counted-of (get_or lifted k d) (lifted-integer rows work limits reduced times k d lt) (lifted-above k d lt)

  all-counted : All IsCounted all
  all-counted = All-append IsCounted lifted (end_times rows divisor ∷ []) lifted-counted (All-cons IsCounted (end_times rows divisor) [] (counted-of (end_times rows divisor) (divisor, refl) (whole-above divisor positive)) (All-nil IsCounted))

  all-lowest : AreLowest all
  all-lowest d each =
      let Of = λ (item : FracUse). d ∣ size item in
      apart d (numbers-back rows work limits reduced times (λ (n : ℕ). d ∣ n) (dvd-zero d) many (all-front Of items (balances rows none items (length rows.box)) (all-front Of lifted (end_times rows divisor ∷ []) each)))
      (subst (λ (z : ℤ). d ∣ nat_abs z) (whole_num divisor).0 (All-head Of (end_times rows divisor) [] (all-back Of lifted (end_times rows divisor ∷ []) each)))

  some-item : (l : List FracUse) (item : FracUse) → l ++ item ∷ [] ≡ [] → ⊥
  some-item [] item e = cc
  some-item (x ∷ l) item e = cc

  -- where they weigh little, nothing leaves
  stays : items_weight rows end all ≤ 2 ^ 126 → All IsNarrow times × LineStays rows none items
  stays light = (
    All-weaker (λ (z : ℤ). nat_abs z ≤ items_weight rows end items) IsNarrow (λ z h. omega (arith, h, few)) times (numbers-back rows work limits reduced times (λ (n : ℕ). n ≤ items_weight rows end items) (omega arith) many (sizes-small rows end items)),
    light-stays rows end items (all-front IsCounted items (balances rows none items (length rows.box)) lifted-counted) few,
  )
    where
      few : items_weight rows end items ≤ 2 ^ 126
      few =
          omega (arith, light, items_weight-append rows end lifted (end_times rows divisor ∷ []), items_weight-append rows end items (balances rows none items (length rows.box)))

  pub leaves-heavy : TimesLeave rows work times → IsHeavyWith rows work divisor (wholes times) end
  leaves-heavy leave = record {
    items = lifted;
    lifted = root-lifted rows work limits reduced times;
    heavy = λ line least. by_weight line (least-weight rows end all line (some-item lifted (end_times rows divisor)) all-counted all-above all-lowest least);
  }
    where
      by_weight : (line : Line) → line_weight rows [] end line ≡ pos (items_weight rows end all) → pos (2 ^ 126) <ℤ line_weight rows [] end line
      by_weight line is =
          ⊎_elim
          (λ (light : line_weight rows [] end line ≤ℤ pos (2 ^ 126)). let stay = stays (little (line_weight rows [] end line) (items_weight rows end all) is light) in ⊎_elim (λ narrow. absurd (narrow stay.0)) (λ line_leaves. absurd (line_leaves stay.1)) leave)
          (λ (heavy : pos (2 ^ 126) <ℤ line_weight rows [] end line). heavy)
          (le_or_lt (line_weight rows [] end line) (pos (2 ^ 126)))
        where
          little : (w : ℤ) (n : ℕ) → w ≡ pos n → w ≤ℤ pos (2 ^ 126) → n ≤ 2 ^ 126
          little w n e h = omega (linear, e, h)

-- ---- a gap's times

module _ (rows : WholeRows) (work : ReducedRows) (gap : Gap) (limits : IsWithinLimits rows) (reduced : IsReduced rows work) (shown : IsGap (length work.rows.box) (node_equalities work []) gap) (end : Option Inequality) where
  pub gap-heavy : TimesLeave rows work gap.times → IsHeavyWith rows work gap.divisor (wholes gap.times) end
  gap-heavy = leaves-heavy rows work limits reduced gap.divisor gap.times end shown.sum.as_many shown.positive (gap-lowest (length work.rows.box) (node_equalities work []) gap shown)

  -- and minus them
  pub turned-heavy : TimesLeave rows work (negate integers gap.times) → IsHeavyWith rows work gap.divisor (wholes (negate integers gap.times)) end
  turned-heavy =
      leaves-heavy rows work limits reduced gap.divisor (negate integers gap.times) end (length-negate gap.times ∙ shown.sum.as_many) shown.positive
      (λ d each whole_divisor. gap-lowest (length work.rows.box) (node_equalities work []) gap shown d (divides-turned d gap.times each) whole_divisor)
