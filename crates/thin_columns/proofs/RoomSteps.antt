-- Points at which the inequalities have slack have a mean with room about it, so that no form is thinner than twice the room.
use Rattle.std.proofs.Common.{◌≡◌, ◌⊎◌, inl, inr, ⊎_elim, ℕ, zero, suc, ◌*◌, ◌<◌, ℤ, pos, nat_abs, ◌*ℤ◌, ◌≤ℤ◌, List, [], ◌∷◌, length, get_or, map, refl, sym, ap, ◌∙◌, subst, arith, mul-pos}
use Rattle.std.specs.Prelude.{All}
use Rattle.std.proofs.lemmas.Bool.{cases_eq}
use Rattle.std.proofs.lemmas.Int.{ints}
use Rattle.std.proofs.lemmas.List.Elements.{All-cons, All-head, All-nil, All-tail, All-weaker}
use Rattle.exact_math.specs.IntegerRing.{linear}
use Rattle.exact_math.specs.OrderedRing as Ordered
use Rattle.exact_math.specs.Rational.{ℚ, whole, frac, ◌+ℚ◌, ◌-ℚ◌, ◌*ℚ◌, ◌/ℚ◌, ◌≤ℚ◌}
use Rattle.exact_math.specs.RationalLaws.{den_pos, frac-mul, frac-self, pos-ne-zero, same_frac, whole-frac}
use Rattle.exact_math.specs.RationalOrder.{difference_from_le, le_refl, le_trans, mul_le, num_nonneg, rationals_are_ordered, whole_le}
use Rattle.exact_math.specs.RationalRing.{rationals, div_is, whole_mul}
use Rattle.exact_math.specs.RingSolver.{ring, reads}
use Rattle.exact_vectors.specs.Vectors.{sum}
use Rattle.farkas_rows.specs.Inequalities.{Inequality}
use Rattle.form_widths.specs.Inequalities.{IsMetAt, IsSolution, slack}
use Rattle.form_widths.specs.MeanLaws.{length-mean, mean_step}
use Rattle.form_widths.specs.Means.{LeavesStep, mean}
use Rattle.form_widths.specs.RationalOrderLaws.{le_by, le_of_equal}
use Rattle.form_widths.specs.WidthLaws.{room_bounds_width}
use Rattle.form_widths.specs.Widths.{IsBoundOn, IsNonzero}
use Rattle.thin_columns.specs.Sizes.{greatest_size, sloping}
use Rattle.thin_columns.specs.Steps.{AllowsStep}
use Rattle.thin_columns.proofs.SizeSteps.{none_sloping, one_of_none, one_of_some, size_most}

-- ---- sums of slacks

slack-nonneg : (inequality : Inequality) (y : List ℚ) → IsMetAt y inequality → whole (pos 0) ≤ℚ slack inequality y
slack-nonneg inequality y h = difference_from_le _ (whole inequality.limit) h

slacks-nonneg : (inequality : Inequality) (points : List (List ℚ)) → All (λ y. IsMetAt y inequality) points → whole (pos 0) ≤ℚ sum rationals (map (slack inequality) points)
slacks-nonneg inequality [] h = le_refl (whole (pos 0))
slacks-nonneg inequality (y ∷ points) h =
    Ordered.add_nonneg rationals ◌≤ℚ◌ rationals_are_ordered _ _ (slack-nonneg inequality y (All-head (λ y. IsMetAt y inequality) y points h)) (slacks-nonneg inequality points (All-tail (λ y. IsMetAt y inequality) y points h))

-- the slack at one of the points is at most the sum
sum-at : (inequality : Inequality) (points : List (List ℚ)) (k : ℕ) → k < length points → All (λ y. IsMetAt y inequality) points → slack inequality (get_or points k []) ≤ℚ sum rationals (map (slack inequality) points)
sum-at inequality [] k lt h = absurd (omega arith)
sum-at inequality (y ∷ points) zero lt h =
    le_by _ _ _ _ (slacks-nonneg inequality points (All-tail (λ y. IsMetAt y inequality) y points h)) (rest (slack inequality y) (sum rationals (map (slack inequality) points)))
  where
    rest : (a s : ℚ) → (a +ℚ s) -ℚ a ≡ s -ℚ whole (pos 0)
    rest a s = ring rationals (a ∷ s ∷ []) (search reads depth 30) (search reads depth 30) refl
sum-at inequality (y ∷ points) (suc k) lt h =
    le_trans _ _ _ (sum-at inequality points k (omega arith) (All-tail (λ y. IsMetAt y inequality) y points h))
    (le_by _ _ _ _ (slack-nonneg inequality y (All-head (λ y. IsMetAt y inequality) y points h)) (first (slack inequality y) (sum rationals (map (slack inequality) points))))
  where
    first : (a s : ℚ) → (a +ℚ s) -ℚ s ≡ a -ℚ whole (pos 0)
    first a s = ring rationals (a ∷ s ∷ []) (search reads depth 30) (search reads depth 30) refl

-- ---- the points, one for each inequality that has a factor other than 0

-- at one of the points the inequality allows the step
record IsShownAt (points : List (List ℚ)) (step : ℚ) (inequality : Inequality) : Type 0 where
  place : ℕ
  there : place < length points
  enough : (whole (pos (greatest_size inequality.factors)) *ℚ step) ≤ℚ slack inequality (get_or points place [])

abbrev IsShown : List (List ℚ) → ℚ → Inequality → Type 0
IsShown points step inequality = (greatest_size inequality.factors ≡ 0) ⊎ IsShownAt points step inequality

record Gathered (region : List ℚ → Type 0) (step : ℚ) (inequalities : List Inequality) : Type 0 where
  points : List (List ℚ)
  count : length points ≡ sloping (map (λ (inequality : Inequality). inequality.factors) inequalities)
  inside : All region points
  shown : All (IsShown points step) inequalities

-- one more point
shown-more : (y : List ℚ) (points : List (List ℚ)) (step : ℚ) (inequality : Inequality) → IsShown points step inequality → IsShown (y ∷ points) step inequality
shown-more y points step inequality =
    ⊎_elim (λ none. inl none) (λ at. inr (record { place = suc at.place; there = omega (arith, at.there); enough = at.enough }))

-- one more inequality
gather_more : (region : List ℚ → Type 0) (step : ℚ) (inequality : Inequality) (inequalities : List Inequality) → AllowsStep region step inequality → Gathered region step inequalities → Gathered region step (inequality ∷ inequalities)
gather_more region step inequality inequalities here rest = ⊎_elim flat steep (cases_eq (greatest_size inequality.factors) 0)
  where
    flat : greatest_size inequality.factors ≡ 0 → Gathered region step (inequality ∷ inequalities)
    flat none = record {
      points = rest.points;
      count = omega (arith, rest.count, one_of_none (greatest_size inequality.factors) none);
      inside = rest.inside;
      shown = All-cons (IsShown rest.points step) inequality inequalities (inl none) rest.shown;
    }

    steep : (greatest_size inequality.factors ≡ 0 → ⊥) → Gathered region step (inequality ∷ inequalities)
    steep some = record {
      points = here.point ∷ rest.points;
      count = omega (arith, rest.count, one_of_some (greatest_size inequality.factors) some);
      inside = All-cons region here.point rest.points here.inside rest.inside;
      shown = All-cons (IsShown (here.point ∷ rest.points) step) inequality inequalities (inr (record { place = 0; there = omega arith; enough = here.enough }))
          (All-weaker (IsShown rest.points step) (IsShown (here.point ∷ rest.points) step) (shown-more here.point rest.points step) inequalities rest.shown);
    }

gather : (region : List ℚ → Type 0) (step : ℚ) (inequalities : List Inequality) → All (AllowsStep region step) inequalities → Gathered region step inequalities
gather region step [] h = record { points = []; count = refl; inside = All-nil region; shown = All-nil (IsShown [] step) }
gather region step (inequality ∷ inequalities) h =
    gather_more region step inequality inequalities (All-head (AllowsStep region step) inequality inequalities h) (gather region step inequalities (All-tail (AllowsStep region step) inequality inequalities h))

-- ---- the room of the mean

-- the numerator of a number that is not negative: the number times its denominator
record Numerator (rho : ℚ) : Type 0 where
  size : ℕ
  is : whole (pos size) ≡ whole (pos rho.den) *ℚ rho

numerator : (rho : ℚ) → whole (pos 0) ≤ℚ rho → Numerator rho
numerator rho h = record {
  size = nat_abs rho.num;
  is =
      ap whole (sign rho.num (num_nonneg rho h)) ∙ whole-frac rho.num ∙ same_frac rho.num (pos rho.den *ℤ rho.num) 1 (1 * rho.den) (omega arith) (omega (arith, den_pos rho)) (omega linear)
      ∙ sym (frac-mul (pos rho.den) rho.num 1 rho.den (omega arith) (den_pos rho)) ∙ sym (ap (λ q. q *ℚ frac rho.num rho.den) (whole-frac (pos rho.den))) ∙ ap (λ q. whole (pos rho.den) *ℚ q) (frac-self rho);
}
  where
    sign : (z : ℤ) → pos 0 ≤ℤ z → pos (nat_abs z) ≡ z
    sign z h = omega (arith, ints, h)

pub whole-num : (z : ℤ) → (whole z).num ≡ z
unfolding whole
whole-num z = refl

-- the numbers of a room: `size` over `scale` is `rho`
module _ (scale size count reach : ℕ) (rho : ℚ) (is : whole (pos size) ≡ whole (pos scale) *ℚ rho) where
  product : whole (pos (size * (count * reach))) ≡ (whole (pos scale) *ℚ rho) *ℚ (whole (pos count) *ℚ whole (pos reach))
  product = whole_mul (pos size) (pos (count * reach)) ∙ ap (λ q. q *ℚ whole (pos (count * reach))) is ∙ ap (λ q. (whole (pos scale) *ℚ rho) *ℚ q) (whole_mul (pos count) (pos reach))

  room_enough : (s : ℚ) → (whole (pos reach) *ℚ (rho *ℚ whole (pos count))) ≤ℚ s → whole (pos (size * (count * reach))) ≤ℚ (whole (pos scale) *ℚ s)
  room_enough s h =
      subst (λ q. q ≤ℚ (whole (pos scale) *ℚ s)) (regroup (whole (pos scale)) rho (whole (pos count)) (whole (pos reach)) ∙ sym product) (mul_le (whole (pos scale)) _ s (whole_le (pos 0) (pos scale) (omega linear)) h)
    where
      regroup : (c r m g : ℚ) → c *ℚ (g *ℚ (r *ℚ m)) ≡ (c *ℚ r) *ℚ (m *ℚ g)
      regroup c r m g = ring rationals (c ∷ r ∷ m ∷ g ∷ []) (search reads depth 30) (search reads depth 30) refl

  room_is : 0 < count → 0 < scale → 0 < reach → whole (pos (size * (count * reach))) /ℚ whole (pos (count * (scale * reach))) ≡ rho
  room_is some some_scale some_reach =
      let all : 0 < count * (scale * reach) = mul-pos some (mul-pos some_scale some_reach) in
      div_is _ (whole (pos (count * (scale * reach)))) rho (λ e. pos-ne-zero (count * (scale * reach)) all (sym (whole-num (pos (count * (scale * reach)))) ∙ e))
      (ap (λ q. rho *ℚ q) (whole_mul (pos count) (pos (scale * reach)) ∙ ap (λ q. whole (pos count) *ℚ q) (whole_mul (pos scale) (pos reach))) ∙ regroup (whole (pos scale)) rho (whole (pos count)) (whole (pos reach)) ∙ sym product)
    where
      regroup : (c r m g : ℚ) → r *ℚ (m *ℚ (c *ℚ g)) ≡ (c *ℚ r) *ℚ (m *ℚ g)
      regroup c r m g = ring rationals (c ∷ r ∷ m ∷ g ∷ []) (search reads depth 30) (search reads depth 30) refl

module _ (n : ℕ) (inequalities : List Inequality) (rho : ℚ) (nonneg : whole (pos 0) ≤ℚ rho) where
  -- an inequality that is shown leaves the step
  leaves : (points : List (List ℚ)) → 0 < length points → (inequality : Inequality) → All (λ y. IsMetAt y inequality) points → IsShown points (rho *ℚ whole (pos (length points))) inequality → LeavesStep rho.den rho points inequality
  leaves points some inequality met shown = ⊎_elim flat (λ ne. ⊎_elim flat (steep ne) shown) (cases_eq reach 0)
    where
      reach : ℕ
      reach = greatest_size inequality.factors

      top : Numerator rho
      top = numerator rho nonneg

      flat : reach ≡ 0 → LeavesStep rho.den rho points inequality
      flat none = inl (none_sloping inequality.factors none)

      steep : (reach ≡ 0 → ⊥) → IsShownAt points (rho *ℚ whole (pos (length points))) inequality → LeavesStep rho.den rho points inequality
      steep ne at =
          let some_reach : 0 < reach = omega (arith, ne) in
          inr (record {
            reach = reach;
            room = top.size * (length points * reach);
            some = some_reach;
            slack = record {
              light = size_most inequality.factors;
              enough = room_enough rho.den top.size (length points) reach rho top.is _ (le_trans _ _ _ at.enough (sum-at inequality points at.place at.there met));
            };
            within = le_of_equal rho _ (sym (room_is rho.den top.size (length points) reach rho top.is some (den_pos rho) some_reach));
          })

  -- so that twice the room is at most each width
  below : (points : List (List ℚ)) → 0 < length points → All (IsSolution n inequalities) points → All (IsShown points (rho *ℚ whole (pos (length points)))) inequalities → (other : List ℤ) (bound : ℚ) → length other ≡ n → IsNonzero other → IsBoundOn (IsSolution n inequalities) other bound → (whole (pos 2) *ℚ rho) ≤ℚ bound
  below points some solutions shown other bound long nonzero within =
      room_bounds_width (IsSolution n inequalities) (mean n points) rho other bound (mean_step n rho.den rho inequalities points some (den_pos rho) nonneg solutions all) (long ∙ sym (length-mean n inequalities points solutions)) nonzero within
    where
      all : All (LeavesStep rho.den rho points) inequalities
      all i d lt = leaves points some (get_or inequalities i d) (λ j y at. (solutions j y at).1 i d lt) (shown i d lt)

  -- The step is so many times the room as there are inequalities with a factor other than 0.
  pub widths_at_least : (count : ℕ) → count ≡ sloping (map (λ (inequality : Inequality). inequality.factors) inequalities) → (point : List ℚ) → IsSolution n inequalities point → All (AllowsStep (IsSolution n inequalities) (rho *ℚ whole (pos count))) inequalities → (other : List ℤ) (bound : ℚ) → length other ≡ n → IsNonzero other → IsBoundOn (IsSolution n inequalities) other bound → (whole (pos 2) *ℚ rho) ≤ℚ bound
  widths_at_least count is point has allowed other bound long nonzero within = ⊎_elim none some (cases_eq (length all.points) 0)
    where
      all : Gathered (IsSolution n inequalities) (rho *ℚ whole (pos count)) inequalities
      all = gather (IsSolution n inequalities) (rho *ℚ whole (pos count)) inequalities allowed

      same : count ≡ length all.points
      same = is ∙ sym all.count

      some : (length all.points ≡ 0 → ⊥) → (whole (pos 2) *ℚ rho) ≤ℚ bound
      some ne = below all.points (omega (arith, ne)) all.inside (subst (λ (m : ℕ). All (IsShown all.points (rho *ℚ whole (pos m))) inequalities) same all.shown) other bound long nonzero within

      none : length all.points ≡ 0 → (whole (pos 2) *ℚ rho) ≤ℚ bound
      none e =
          below (point ∷ []) (omega arith) (All-cons (IsSolution n inequalities) point [] has (All-nil (IsSolution n inequalities)))
          (All-weaker (IsShown all.points (rho *ℚ whole (pos count))) (IsShown (point ∷ []) (rho *ℚ whole (pos 1))) (λ inequality. ⊎_elim (λ flat. inl flat) (λ at. absurd (omega (arith, at.there, e)))) inequalities all.shown)
          other bound long nonzero within
