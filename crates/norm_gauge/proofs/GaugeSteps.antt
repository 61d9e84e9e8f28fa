-- The gauges that the programs show, and their excuses.
use Rattle.std.proofs.Common.{◌≡◌, ℕ, List, [], refl, sym, ap, subst, ◌∙◌, inl, inr}
use Rattle.exact_math.specs.Rational.{ℚ, neg_ℚ, ◌-ℚ◌, ◌≤ℚ◌}
use Rattle.exact_math.specs.RationalRing.{rationals}
use Rattle.exact_math.specs.RingLaws as Laws
use Rattle.exact_vectors.specs.Vectors.{dot, negate}
use Rattle.exact_vectors.specs.DotLaws as Dot
use Rattle.frac128.specs.Range.{SumInRange}
use Rattle.lp_solve.specs.Ended.{EndsLeast}
use Rattle.lp_solve.specs.Outcomes.{StopIs, ExcuseIs}
use Rattle.lp_solve.specs.declared.answer.LpExcuse.TheVariants.{WidePivot, ManyPivots, WideGauge}
use Rattle.lp_solve.specs.declared.answer.LpStop.{LpStop}
use Rattle.lp_solve.specs.declared.answer.LpStop.TheVariants.{Excuse, NoMemory}
use Rattle.norm_gauge.specs.Gauges.{IsGauge, IsLeastAt, program, WidthStopIs, WideEnds}
use Rattle.norm_gauge.specs.PairLaws.{most_from_ends}
use Rattle.norm_gauge.specs.Widths.{Polytope, Has, IsAtMost}

-- ---- excuses of single programs

-- the program of the form stops
pub stops_below : (p : Polytope) (form : List ℚ) (stop : LpStop) → StopIs p.rows p.limits form stop → WidthStopIs p [] form stop
stops_below p form (Excuse (WidePivot pivots row column)) h = inl h
stops_below p form (Excuse (ManyPivots pivots)) h = inl h
stops_below p form (Excuse (WideGauge first second)) h = absurd h
stops_below p form NoMemory h = tt

-- the program of the form with the other sign stops
pub stops_above : (p : Polytope) (form other : List ℚ) (stop : LpStop) → other ≡ negate rationals form → StopIs p.rows p.limits other stop → WidthStopIs p [] form stop
stops_above p form other (Excuse (WidePivot pivots row column)) e h = inr (subst (λ f. ExcuseIs p.rows p.limits f (WidePivot pivots row column)) e h)
stops_above p form other (Excuse (ManyPivots pivots)) e h = inr (subst (λ f. ExcuseIs p.rows p.limits f (ManyPivots pivots)) e h)
stops_above p form other (Excuse (WideGauge first second)) e h = absurd h
stops_above p form other NoMemory e h = tt

-- ---- under no rows

module _ (p : Polytope) (form other : List ℚ) (opposite : other ≡ negate rationals form) (low high below above : List ℚ) (least lowest greatest : ℚ) (turned : greatest ≡ neg_ℚ lowest)
    (lower : IsLeastAt p form low least below) (upper : IsLeastAt p other high lowest above) where
  -- the number that is least with the other sign
  back : neg_ℚ greatest ≡ lowest
  back = ap neg_ℚ turned ∙ Laws.neg_neg rationals lowest

  -- the form's value at the upper point
  top : greatest ≡ dot rationals form high
  top = turned ∙ ap neg_ℚ (upper.at_point ∙ ap (λ f. dot rationals f high) opposite ∙ Dot.dot-negate_left rationals form high) ∙ Laws.neg_neg rationals (dot rationals form high)

  -- the two programs show the gauge
  pub gauge_of_ends : (value : ℚ) → value ≡ greatest -ℚ least → ((y : List ℚ) → Has p y → least ≤ℚ dot rationals form y) → ((y : List ℚ) → Has p y → lowest ≤ℚ dot rationals other y)
      → IsGauge p [] form (record { value = value; least = least; greatest = greatest; low = low; high = high; below = below; above = above })
  gauge_of_ends value is below_all above_all = record {
    pair = record { first = upper.meets; second = lower.meets; agree = refl };
    value = is ∙ ap (λ t. t -ℚ least) top ∙ ap (λ t. dot rationals form high -ℚ t) lower.at_point;
    least = lower.at_point;
    greatest = top;
    most = subst (IsAtMost p [] form) (sym is) (most_from_ends p form least greatest below_all (λ y has. subst (λ f. neg_ℚ greatest ≤ℚ dot rationals f y) opposite (subst (λ t. t ≤ℚ dot rationals other y) (sym back) (above_all y has))));
    weights = (lower, subst (λ f. IsLeastAt p f high (neg_ℚ greatest) above) opposite (subst (λ t. IsLeastAt p other high t above) (sym back) upper));
  }

  -- the difference of the ends leaves the range
  pub wide_ends : (first second : List (ℕ × ℕ)) → EndsLeast (program p form) first low least below → EndsLeast (program p other) second high lowest above → ¬ (SumInRange greatest (neg_ℚ least)) → WideEnds p form first second
  wide_ends first second lower_end upper_end wide = record {
    low = low;
    least = least;
    below = below;
    lower = lower_end;
    high = high;
    greatest = greatest;
    above = above;
    upper = subst (λ f. EndsLeast (program p f) second high (neg_ℚ greatest) above) opposite (subst (λ t. EndsLeast (program p other) second high t above) (sym back) upper_end);
    wide = wide;
  }
