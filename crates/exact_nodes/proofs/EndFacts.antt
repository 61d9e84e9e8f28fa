-- The ends of a direction, as inequalities of the model.
use Rattle.std.proofs.Common.{◌≡◌, ⊎_elim, inl, inr, ℕ, List, [], ◌∷◌, ℤ, pos, neg_ℤ, ◌+ℤ◌, ◌-ℤ◌, ◌≤ℤ◌, refl, sym, ap, subst, ◌∙◌}
use Rattle.std.specs.Prelude.{Option, Some, FitsSigned}
use Rattle.std.specs.Int.{w128}
use Rattle.std.proofs.lemmas.Slice.Zip.{AllZip-long}
use Rattle.exact_math.specs.IntegerLaws.{neg_neg}
use Rattle.exact_math.specs.IntegerRing.{linear}
use Rattle.exact_math.specs.Quotient.{floor_div}
use Rattle.exact_math.specs.Ring.{integers}
use Rattle.exact_math.specs.RingLaws as Laws
use Rattle.exact_math.specs.Rational.{ℚ, whole, floor, ceil, neg_ℚ, ◌+ℚ◌, ◌-ℚ◌, ◌≤ℚ◌, ◌<ℚ◌}
use Rattle.exact_math.specs.RationalFloor.{ceil_le, ceil_lt_next, le_ceil}
use Rattle.exact_math.specs.RationalOrder.{add_le_right, le_or_lt, neg_le, not_le_of_lt}
use Rattle.exact_math.specs.RationalRing.{rationals, whole_add}
use Rattle.exact_math.specs.RingSolver.{ring, reads}
use Rattle.exact_vectors.specs.Vectors.{dot, negate}
use Rattle.whole_rows.specs.WholeRows.{WholeRows}
use Rattle.farkas_rows.specs.Inequalities.{Inequality, above, at_most, below}
use Rattle.form_widths.specs.RationalOrderLaws.{le_by}
use Rattle.lp_dict.specs.Systems.{wholes}
use Rattle.lp_solve.specs.declared.answer.Solved.TheVariants.{Least}
use Rattle.norm_gauge.specs.Gauges.{IsLeastAt}
use Rattle.norm_gauge.specs.Widths.{Polytope}
use Rattle.node_point.specs.RationalPoints.{form_value}
use Rattle.node_lines.specs.NodeSystems.{IsPastEnd}
use Rattle.node_regions.specs.NodeRegions.{node_polytope}
use Rattle.spaces.specs.Tables.{rows_in}
use Rattle.reformulate.specs.Substitutions.{Substitution}
use Rattle.presolve_map.specs.ReducedRows.{ReducedRows}
use Rattle.exact_nodes.specs.NodeExcuses.{IsChosenDirection, IsModelForm, IsRefutedEnd, IsWideMap, back_form}
use Rattle.exact_nodes.specs.Regions.{IsFirstValue, IsLastValue, IsOptimum}
use Rattle.exact_nodes.proofs.NodeFacts.{over_kept}
use Rattle.exact_nodes.proofs.OppositeForms.{form_value-negate, opposite_constant, opposite_form}

-- ---- numbers with a constant more

less_le : (p q c : ℚ) → (p +ℚ c) ≤ℚ (q +ℚ c) → p ≤ℚ q
less_le p q c h = le_by p q (p +ℚ c) (q +ℚ c) h (cancel p q c)
  where
    cancel : (p q c : ℚ) → q -ℚ p ≡ (q +ℚ c) -ℚ (p +ℚ c)
    cancel p q c = ring rationals (p ∷ q ∷ c ∷ []) (search reads depth 30) (search reads depth 30) refl

added_lt : (p q c : ℚ) → p <ℚ q → (p +ℚ c) <ℚ (q +ℚ c)
added_lt p q c h = ⊎_elim (λ le. absurd (not_le_of_lt p q h (less_le q p c le))) (λ lt. lt) (le_or_lt (q +ℚ c) (p +ℚ c))

-- a whole number added to a fraction is added to its ceiling
pub ceil_added : (q : ℚ) (c : ℤ) → ceil (q +ℚ whole c) ≡ ceil q +ℤ c
ceil_added q c = both (ceil (q +ℚ whole c)) (ceil q) c (raised q c) lowered
  where
    raised : (q : ℚ) (c : ℤ) → ceil (q +ℚ whole c) ≤ℤ (ceil q +ℤ c)
    raised q c = ceil_le (ceil q +ℤ c) (q +ℚ whole c) (subst (λ (t : ℚ). (q +ℚ whole c) ≤ℚ t) (sym (whole_add (ceil q) c)) (add_le_right q (whole (ceil q)) (whole c) (le_ceil q)))

    back : (q w m : ℚ) → (q +ℚ w) +ℚ m ≡ q +ℚ (w +ℚ m)
    back q w m = ring rationals (q ∷ w ∷ m ∷ []) (search reads depth 30) (search reads depth 30) refl

    plain : (q : ℚ) → q +ℚ whole (pos 0) ≡ q
    plain q = ring rationals (q ∷ []) (search reads depth 30) (search reads depth 30) refl

    gone : (c : ℤ) → c +ℤ neg_ℤ c ≡ pos 0
    gone c = omega linear

    lowered : ceil q ≤ℤ (ceil (q +ℚ whole c) +ℤ neg_ℤ c)
    lowered = subst (λ (t : ℚ). ceil t ≤ℤ (ceil (q +ℚ whole c) +ℤ neg_ℤ c)) (back q (whole c) (whole (neg_ℤ c)) ∙ ap (λ (t : ℚ). q +ℚ t) (sym (whole_add c (neg_ℤ c)) ∙ ap whole (gone c)) ∙ plain q) (raised (q +ℚ whole c) (neg_ℤ c))

    both : (a b c : ℤ) → a ≤ℤ (b +ℤ c) → b ≤ℤ (a +ℤ neg_ℤ c) → a ≡ b +ℤ c
    both a b c h k = omega (linear, h, k)

-- the whole number below a first value is below the least value
below_first : (q : ℚ) (c lo : ℤ) → lo ≡ ceil q +ℤ c → whole (lo -ℤ pos 1) <ℚ (q +ℚ whole c)
below_first q c lo e =
    subst (λ (t : ℚ). t <ℚ (q +ℚ whole c)) (sym (whole_add (ceil q -ℤ pos 1) c) ∙ ap whole (shift (ceil q) c ∙ ap (λ (z : ℤ). z -ℤ pos 1) (sym e)))
    (added_lt (whole (ceil q -ℤ pos 1)) q (whole c) (ceil_lt_next q))
  where
    shift : (k c : ℤ) → (k -ℤ pos 1) +ℤ c ≡ (k +ℤ c) -ℤ pos 1
    shift k c = omega linear

-- the greatest whole number below minus a number is minus the least one above it
floor_turned : (q : ℚ) → floor (neg_ℚ q) ≡ neg_ℤ (ceil q)
unfolding neg_ℚ
floor_turned q = sym (neg_neg (floor_div (neg_ℤ q.num) q.den))

-- ---- first and last values

pub first_value : (p : Polytope) (form : List ℤ) (pivots : List (ℕ × ℕ)) (value : ℚ) (multipliers : List ℚ) (constant lo : ℤ) → IsOptimum p form pivots value multipliers → lo ≡ ceil value +ℤ constant → IsFirstValue p form constant lo
first_value p form pivots value multipliers constant lo optimum e = record {
  point = optimum.point;
  there = optimum.least.meets;
  least = λ y h. subst (λ (t : ℚ). t ≤ℚ form_value form y) optimum.least.at_point (optimum.lowest y h);
  value = e ∙ ap (λ (t : ℚ). ceil t +ℤ constant) optimum.least.at_point;
}

pub last_value : (p : Polytope) (form : List ℤ) (pivots : List (ℕ × ℕ)) (value : ℚ) (multipliers : List ℚ) (constant last : ℤ) → IsOptimum p (negate integers form) pivots value multipliers → last ≡ floor (neg_ℚ value) +ℤ constant → IsLastValue p form constant last
last_value p form pivots value multipliers constant last optimum e =
    let at_point : neg_ℚ value ≡ form_value form optimum.point = ap neg_ℚ (optimum.least.at_point ∙ form_value-negate form optimum.point) ∙ Laws.neg_neg rationals (form_value form optimum.point) in
    record {
      point = optimum.point;
      there = optimum.least.meets;
      greatest = λ y h.
          subst (λ (t : ℚ). form_value form y ≤ℚ t) at_point
          (subst (λ (t : ℚ). t ≤ℚ neg_ℚ value) (ap neg_ℚ (form_value-negate form y) ∙ Laws.neg_neg rationals (form_value form y)) (neg_le value (form_value (negate integers form) y) (optimum.lowest y h)));
      value = e ∙ ap (λ (t : ℚ). floor t +ℤ constant) at_point;
    }

-- ---- ends that leave the range

module _ (best : Option ℤ) (work : ReducedRows) (frame : Substitution) (p : Polytope) (form : List ℤ) (constant : ℤ) (c : constant ≡ dot integers (back_form frame form) frame.to_work.base) (chosen : IsChosenDirection p (rows_in frame.to_work.lines) form) (value : ℚ) where
  pub wide_lower : (pivots : List (ℕ × ℕ)) (multipliers : List ℚ) → IsOptimum p form pivots value multipliers → ¬ (FitsSigned w128 (ceil value +ℤ constant)) → IsWideMap best frame work p form
  wide_lower pivots multipliers optimum leaves = inr (chosen, inr (inl (optimum.point, value, multipliers, optimum.least, subst (λ (z : ℤ). ¬ (FitsSigned w128 (ceil value +ℤ z))) c leaves)))

  pub wide_upper : (pivots : List (ℕ × ℕ)) (multipliers : List ℚ) → IsOptimum p (negate integers form) pivots value multipliers
      → ¬ (FitsSigned w128 (floor (neg_ℚ value) +ℤ constant) × FitsSigned w128 ((floor (neg_ℚ value) +ℤ constant) +ℤ pos 1)) → IsWideMap best frame work p form
  wide_upper pivots multipliers optimum leaves =
      inr (
        chosen,
        inr
            (
            inr (
              optimum.point,
              neg_ℚ value,
              multipliers,
              subst (λ (q : ℚ). IsLeastAt p (wholes (negate integers form)) optimum.point q multipliers) (sym (Laws.neg_neg rationals value)) optimum.least,
              subst (λ (z : ℤ). ¬ (FitsSigned w128 (floor (neg_ℚ value) +ℤ z) × FitsSigned w128 ((floor (neg_ℚ value) +ℤ z) +ℤ pos 1))) c leaves,
            )
            ),
      )

-- ---- their lines

module _ (rows : WholeRows) (work : ReducedRows) (frame : Substitution) (cut : Option ℤ) (form model_form : List ℤ) (is : IsModelForm rows work frame form model_form) where
  -- the multipliers of the least value show the lower end
  pub past_lower : (point : List ℚ) (value : ℚ) (multipliers : List ℚ) (constant lo : ℤ) → IsLeastAt (node_polytope frame work cut) (wholes form) point value multipliers → constant ≡ dot integers (back_form frame form) frame.to_work.base → lo ≡ ceil value +ℤ constant
      → IsPastEnd rows work frame cut multipliers (below model_form lo)
  past_lower point value multipliers constant lo least c e = record {
    form = form;
    point = point;
    value = value;
    least = least;
    dense = AllZip-long _ _ _ is.kept;
    kept = over_kept rows model_form is.kept;
    is_form = is.same;
    past = subst (λ (t : ℤ). whole (lo -ℤ pos 1) <ℚ (value +ℚ whole t)) (c ∙ ap (λ (f : List ℤ). dot integers f frame.to_work.base) (sym is.same)) (below_first value constant lo e);
  }

  -- the inequality of the end that is refuted
  pub refuted_lower : (point : List ℚ) (value : ℚ) (multipliers : List ℚ) (constant lo : ℤ) → constant ≡ dot integers (back_form frame form) frame.to_work.base → lo ≡ ceil value +ℤ constant
      → IsRefutedEnd rows work frame form (Least point value multipliers) (Some (below model_form lo))
  refuted_lower point value multipliers constant lo c e = (model_form, is, ap (λ (z : ℤ). Some (below model_form z)) (e ∙ sym (ceil_added value constant) ∙ ap (λ (z : ℤ). ceil (value +ℚ whole z)) c))

-- the same of the upper end, by the form with the other sign
module _ (rows : WholeRows) (work : ReducedRows) (frame : Substitution) (cut : Option ℤ) (form model_form : List ℤ) (is : IsModelForm rows work frame form model_form) (constant : ℤ) (c : constant ≡ dot integers (back_form frame form) frame.to_work.base) where
  turned_constant : neg_ℤ constant ≡ dot integers (back_form frame (negate integers form)) frame.to_work.base
  turned_constant = ap neg_ℤ c ∙ sym (opposite_constant frame form frame.to_work.base)

  -- what is above the last value is below the first one of the form with the other sign
  turned_end : (value : ℚ) (from : ℤ) → from ≡ (floor (neg_ℚ value) +ℤ constant) +ℤ pos 1 → above model_form from ≡ below (negate integers model_form) (ceil value +ℤ neg_ℤ constant)
  turned_end value from e = ap (λ (z : ℤ). at_most (negate integers model_form) z) (ap neg_ℤ (e ∙ ap (λ (z : ℤ). (z +ℤ constant) +ℤ pos 1) (floor_turned value)) ∙ limits (ceil value) constant)
    where
      limits : (k c : ℤ) → neg_ℤ ((neg_ℤ k +ℤ c) +ℤ pos 1) ≡ (k +ℤ neg_ℤ c) -ℤ pos 1
      limits k c = omega linear

  pub past_upper : (point : List ℚ) (value : ℚ) (multipliers : List ℚ) (from : ℤ) → IsLeastAt (node_polytope frame work cut) (wholes (negate integers form)) point value multipliers → from ≡ (floor (neg_ℚ value) +ℤ constant) +ℤ pos 1
      → IsPastEnd rows work frame cut multipliers (above model_form from)
  past_upper point value multipliers from least e =
      subst (IsPastEnd rows work frame cut multipliers) (sym (turned_end value from e))
      (past_lower rows work frame cut (negate integers form) (negate integers model_form) (opposite_form rows work frame form model_form is) point value multipliers (neg_ℤ constant) (ceil value +ℤ neg_ℤ constant) least turned_constant refl)

  pub refuted_upper : (point : List ℚ) (value : ℚ) (multipliers : List ℚ) (from : ℤ) → from ≡ (floor (neg_ℚ value) +ℤ constant) +ℤ pos 1
      → IsRefutedEnd rows work frame (negate integers form) (Least point value multipliers) (Some (above model_form from))
  refuted_upper point value multipliers from e =
      subst (λ (end : Inequality). IsRefutedEnd rows work frame (negate integers form) (Least point value multipliers) (Some end)) (sym (turned_end value from e))
      (refuted_lower rows work frame cut (negate integers form) (negate integers model_form) (opposite_form rows work frame form model_form is) point value multipliers (neg_ℤ constant) (ceil value +ℤ neg_ℤ constant) turned_constant refl)
