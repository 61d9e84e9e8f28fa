-- The gauge under some rows, from the program of the pair system.
use Rattle.std.proofs.Common.{◌≡◌, ℕ, ◌+◌, ◌*◌, ◌^◌, ◌<◌, ◌≤◌, ℤ, pos, negsuc, List, [], ◌∷◌, ◌++◌, length, take, drop, refl, sym, ap, subst, ◌∙◌, arith, All, ◌⊎◌, inl, inr}
use Rattle.std.proofs.lemmas.List.{take-append-drop, length-take, length-map}
use Rattle.std.proofs.lemmas.List.Elements.{All-append}
use Rattle.exact_math.specs.Rational.{ℚ, whole, neg_ℚ, ◌≤ℚ◌}
use Rattle.exact_math.specs.RationalRing.{rationals}
use Rattle.exact_math.specs.RingLaws as Laws
use Rattle.exact_vectors.specs.Vectors.{dot}
use Rattle.exact_vectors.specs.Matrices.{HasWidth}
use Rattle.spaces.specs.Tables.{Table, rows_in}
use Rattle.spaces.specs.TableLaws as Table
use Rattle.lp_dict.specs.Systems.{wholes, left_sides}
use Rattle.lp_dict.specs.Dictionaries.{none}
use Rattle.lp_dict.specs.Sizes.{MeetsCondition}
use Rattle.lp_solve.specs.Ended.{EndsLeast}
use Rattle.lp_solve.specs.Outcomes.{StopIs}
use Rattle.lp_solve.specs.declared.answer.LpExcuse.TheVariants.{WidePivot, ManyPivots, WideGauge}
use Rattle.lp_solve.specs.declared.answer.LpStop.{LpStop}
use Rattle.lp_solve.specs.declared.answer.LpStop.TheVariants.{Excuse, NoMemory}
use Rattle.norm_gauge.specs.Gauges.{IsGauge, IsLeastAt, WeightsShow, program, WidthStopIs, WidthExcuseIs, SumStays}
use Rattle.norm_gauge.specs.PairLaws.{pair_from_point, point_from_pair, most_from_pairs, difference_row-negated}
use Rattle.norm_gauge.specs.PairSystems.{pair_system, pair_form}
use Rattle.norm_gauge.specs.PairTables.{pair_row, pair_table, pair_sides}
use Rattle.norm_gauge.specs.Widths.{AreNarrow, Polytope, Has, HasBound, IsInhabited, IsAtMost, ArePair, difference, first_rows}
use Rattle.norm_gauge.specs.declared.gauge.Gauge.{Gauge}
use Rattle.norm_gauge.proofs.NarrowSteps.{pairs_condition}

-- a table that is the pair system meets the condition with the form
pub condition_of_pairs : (t basis pairs : Table ℤ) (limits form sides apart : List ℤ) (i : ℕ) → MeetsCondition t limits form → ((t.rows + t.rows) + (i + i) + 1) * (t.width + t.width + 1) ≤ 2 ^ 31 → AreNarrow (rows_in basis)
    → pairs ≡ pair_table t basis i → sides ≡ pair_sides limits i → apart ≡ pair_row (negsuc 0) (pos 1) form → MeetsCondition pairs sides apart
condition_of_pairs t basis pairs limits form sides apart i condition few narrow rows right last =
    subst (λ f. MeetsCondition pairs sides f) (sym last) (subst (λ l. MeetsCondition pairs l (pair_row (negsuc 0) (pos 1) form)) (sym right) (subst (λ r. MeetsCondition r (pair_sides limits i) (pair_row (negsuc 0) (pos 1) form)) (sym rows) (pairs_condition t basis limits form i condition few narrow)))

module _ (p : Polytope) (fixed : List (List ℚ)) (w : HasWidth p.coordinates p.rows) (v : HasWidth p.coordinates fixed) (many : length p.limits ≡ length p.rows) where
  -- both points are bounded
  pairs_bounded : HasBound p → HasBound (pair_system p fixed)
  pairs_bounded bounded = record {
    bound = bounded.bound;
    within = λ z has.
        let pair = pair_from_point p fixed z w v many has in
        subst (All (λ a. (neg_ℚ bounded.bound ≤ℚ a) × (a ≤ℚ bounded.bound))) (take-append-drop p.coordinates z)
        (All-append (λ a. (neg_ℚ bounded.bound ≤ℚ a) × (a ≤ℚ bounded.bound)) (take p.coordinates z) (drop p.coordinates z) (bounded.within (take p.coordinates z) pair.first) (bounded.within (drop p.coordinates z) pair.second));
  }

  -- a point makes a pair with itself
  pairs_inhabited : IsInhabited p → IsInhabited (pair_system p fixed)
  pairs_inhabited inhabited = record { point = inhabited.point ++ inhabited.point; has = point_from_pair p fixed inhabited.point inhabited.point w v (record { first = inhabited.has; second = inhabited.has; agree = refl }) }

  pub pairs_bounded_as : (q : Polytope) → q ≡ pair_system p fixed → HasBound p → HasBound q
  pairs_bounded_as q e bounded = subst HasBound (sym e) (pairs_bounded bounded)

  pub pairs_inhabited_as : (q : Polytope) → q ≡ pair_system p fixed → IsInhabited p → IsInhabited q
  pairs_inhabited_as q e inhabited = subst IsInhabited (sym e) (pairs_inhabited inhabited)

-- the program stops
stops_of : (p : Polytope) (fixed : List (List ℚ)) (form : List ℚ) (stop : LpStop) → 0 < length fixed → StopIs (pair_system p fixed).rows (pair_system p fixed).limits (pair_form form) stop → WidthStopIs p fixed form stop
stops_of p [] form stop some h = absurd (omega arith)
stops_of p (row ∷ fixed) form (Excuse (WidePivot pivots r column)) some h = h
stops_of p (row ∷ fixed) form (Excuse (ManyPivots pivots)) some h = h
stops_of p (row ∷ fixed) form (Excuse (WideGauge first second)) some h = absurd h
stops_of p (row ∷ fixed) form NoMemory some h = tt

pub stops_of_pairs : (p q : Polytope) (fixed : List (List ℚ)) (form apart : List ℚ) (stop : LpStop) → 0 < length fixed → q ≡ pair_system p fixed → apart ≡ pair_form form → StopIs q.rows q.limits apart stop → WidthStopIs p fixed form stop
stops_of_pairs p q fixed form apart stop some e last h =
    stops_of p fixed form stop some (subst (λ f. StopIs (pair_system p fixed).rows (pair_system p fixed).limits f stop) last (subst (λ s. StopIs s.rows s.limits apart stop) e h))

-- the weights, where there are rows
weights_of : (p : Polytope) (fixed : List (List ℚ)) (form : List ℚ) (g : Gauge) → 0 < length fixed → IsLeastAt (pair_system p fixed) (pair_form form) (g.high ++ g.low) (neg_ℚ g.value) g.below → g.above ≡ [] → WeightsShow p fixed form g
weights_of p [] form g some shown no_more = absurd (omega arith)
weights_of p (row ∷ fixed) form g some shown no_more = (shown, no_more)

-- the program shows the gauge
module _ (p q : Polytope) (fixed : List (List ℚ)) (form apart point weights : List ℚ) (value : ℚ) (w : HasWidth p.coordinates p.rows) (v : HasWidth p.coordinates fixed) (many : length p.limits ≡ length p.rows)
    (long : length form ≡ p.coordinates) (some : 0 < length fixed) (same : q ≡ pair_system p fixed) (last : apart ≡ pair_form form) (shown : IsLeastAt q apart point value weights) where
  shown_pair : IsLeastAt (pair_system p fixed) (pair_form form) point value weights
  shown_pair = subst (λ f. IsLeastAt (pair_system p fixed) f point value weights) last (subst (λ s. IsLeastAt s apart point value weights) same shown)

  pair : ArePair p fixed (take p.coordinates point) (drop p.coordinates point)
  pair = pair_from_point p fixed point w v many shown_pair.meets

  joined : take p.coordinates point ++ drop p.coordinates point ≡ point
  joined = take-append-drop p.coordinates point

  -- how far the two points are apart
  apart_is : neg_ℚ value ≡ difference form (take p.coordinates point) (drop p.coordinates point)
  apart_is =
      let high : List ℚ = take p.coordinates point in
      let low : List ℚ = drop p.coordinates point in
      let at : value ≡ neg_ℚ (difference form high low) = shown_pair.at_point ∙ ap (dot rationals (pair_form form)) (sym joined) ∙ difference_row-negated form high low (long ∙ sym pair.first.coordinates) in
      ap neg_ℚ at ∙ Laws.neg_neg rationals (difference form high low)

  pub gauge_of_pairs : (g : Gauge) → g.value ≡ neg_ℚ value → g.least ≡ dot rationals form (drop p.coordinates point) → g.greatest ≡ dot rationals form (take p.coordinates point) → g.low ≡ drop p.coordinates point → g.high ≡ take p.coordinates point → g.below ≡ weights → g.above ≡ []
      → ((z : List ℚ) → Has q z → value ≤ℚ dot rationals apart z) → IsGauge p fixed form g
  gauge_of_pairs g is least greatest low high below above all =
      let all_pairs : (z : List ℚ) → Has (pair_system p fixed) z → value ≤ℚ dot rationals (pair_form form) z = λ z has. subst (λ f. value ≤ℚ dot rationals f z) last (all z (subst (λ s. Has s z) (sym same) has)) in
      record {
        pair = subst (λ h. ArePair p fixed h g.low) (sym high) (subst (λ l. ArePair p fixed (take p.coordinates point) l) (sym low) pair);
        value = is ∙ apart_is ∙ ap (λ h. difference form h (drop p.coordinates point)) (sym high) ∙ ap (λ l. difference form g.high l) (sym low);
        least = least ∙ ap (dot rationals form) (sym low);
        greatest = greatest ∙ ap (dot rationals form) (sym high);
        most = subst (IsAtMost p fixed form) (sym is) (most_from_pairs p fixed form value w v long all_pairs);
        weights = weights_of p fixed form g some (shown_gauge g is low high below) above;
      }
    where
      shown_gauge : (g : Gauge) → g.value ≡ neg_ℚ value → g.low ≡ drop p.coordinates point → g.high ≡ take p.coordinates point → g.below ≡ weights → IsLeastAt (pair_system p fixed) (pair_form form) (g.high ++ g.low) (neg_ℚ g.value) g.below
      shown_gauge g is low high below =
          let number : value ≡ neg_ℚ g.value = sym (ap neg_ℚ is ∙ Laws.neg_neg rationals value) in
          let place : point ≡ g.high ++ g.low = sym joined ∙ ap (λ h. h ++ drop p.coordinates point) (sym high) ∙ ap (λ l. g.high ++ l) (sym low) in
          subst (IsLeastAt (pair_system p fixed) (pair_form form) (g.high ++ g.low) (neg_ℚ g.value)) (sym below)
          (subst (λ n. IsLeastAt (pair_system p fixed) (pair_form form) (g.high ++ g.low) n weights) number (subst (λ z. IsLeastAt (pair_system p fixed) (pair_form form) z value weights) place shown_pair))

-- the form's value at one of the points leaves the range
wide_of : (p : Polytope) (fixed : List (List ℚ)) (form point weights : List ℚ) (value : ℚ) (first second : List (ℕ × ℕ)) → 0 < length fixed → EndsLeast (program (pair_system p fixed) (pair_form form)) first point value weights → second ≡ []
    → (¬ (SumStays none form (drop p.coordinates point))) ⊎ (¬ (SumStays none form (take p.coordinates point))) → WidthExcuseIs p fixed form (WideGauge first second)
wide_of p [] form point weights value first second some ended none_second wide = absurd (omega arith)
wide_of p (row ∷ fixed) form point weights value first second some ended none_second wide = record { point = point; least = value; weights = weights; ended = ended; no_second = none_second; wide = wide }

pub wide_of_pairs : (p q : Polytope) (fixed : List (List ℚ)) (form apart point weights : List ℚ) (value : ℚ) (first second : List (ℕ × ℕ)) → 0 < length fixed → q ≡ pair_system p fixed → apart ≡ pair_form form → EndsLeast (program q apart) first point value weights → second ≡ []
    → (¬ (SumStays none form (take p.coordinates point))) ⊎ (¬ (SumStays none form (drop p.coordinates point))) → WidthExcuseIs p fixed form (WideGauge first second)
wide_of_pairs p q fixed form apart point weights value first second some same last ended none_second wide =
    wide_of p fixed form point weights value first second some (subst (λ f. EndsLeast (program (pair_system p fixed) f) first point value weights) last (subst (λ s. EndsLeast (program s apart) first point value weights) same ended)) none_second
    (elim wide [ inl a ↦ inr a | inr b ↦ inl b ])

-- ---- counts

-- as many limits as rows
pub as_many : (t : Table ℤ) (limits form : List ℤ) → MeetsCondition t limits form → length (wholes limits) ≡ length (left_sides t)
as_many t limits form condition = length-map limits whole ∙ condition.as_many_limits ∙ sym (length-map (rows_in t) wholes ∙ Table.length-rows_in t)

-- as many factors as coordinates
pub as_long : (t : Table ℤ) (limits form : List ℤ) → MeetsCondition t limits form → length (wholes form) ≡ t.width
as_long t limits form condition = length-map form whole ∙ condition.as_many_factors

-- some rows on which the points agree
pub first_rows_some : (basis : Table ℤ) (i : ℕ) → 0 < i → i ≤ basis.rows → 0 < length (first_rows basis i)
first_rows_some basis i some within = simp length-take (omega (arith, length-map (rows_in basis) wholes, Table.length-rows_in basis))
