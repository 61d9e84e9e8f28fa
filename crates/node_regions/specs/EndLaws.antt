-- The slices of a form over all columns, from the least and the greatest value of its form on the coordinates.
use Rattle.std.proofs.Common.{◌≡◌, ⊎_elim, ℕ, List, [], ◌∷◌, ℤ, pos, neg_ℤ, ◌+ℤ◌, ◌-ℤ◌, refl, sym, ap, ap₂, subst, ◌∙◌}
use Rattle.exact_math.specs.IntegerRing.{linear}
use Rattle.exact_math.specs.Rational.{ℚ, whole, floor, ceil, ◌+ℚ◌, ◌-ℚ◌, ◌≤ℚ◌, ◌<ℚ◌}
use Rattle.exact_math.specs.RationalFloor.{ceil_lt_next, floor_le, le_ceil, lt_floor_next}
use Rattle.exact_math.specs.RationalOrder.{le_or_lt, le_trans, not_le_of_lt}
use Rattle.exact_math.specs.RationalRing.{rationals, whole_add}
use Rattle.exact_math.specs.RingSolver.{ring, reads}
use Rattle.node_point.specs.RationalPoints.{form_value}
use Rattle.form_widths.specs.Inequalities.{HasMatches}
use Rattle.form_widths.specs.RationalOrderLaws.{le_by}
use Rattle.form_widths.specs.SliceLaws.{slices_shown}
use Rattle.form_widths.specs.Slices.{AreSlices, ReachesEnds, StaysBetween}

-- ---- numbers with a constant more

added_le : (p q c : ℚ) → p ≤ℚ q → (p +ℚ c) ≤ℚ (q +ℚ c)
added_le p q c h = le_by (p +ℚ c) (q +ℚ c) p q h (cancel p q c)
  where
    cancel : (p q c : ℚ) → (q +ℚ c) -ℚ (p +ℚ c) ≡ q -ℚ p
    cancel p q c = ring rationals (p ∷ q ∷ c ∷ []) (search reads depth 30) (search reads depth 30) refl

less_le : (p q c : ℚ) → (p +ℚ c) ≤ℚ (q +ℚ c) → p ≤ℚ q
less_le p q c h = le_by p q (p +ℚ c) (q +ℚ c) h (cancel p q c)
  where
    cancel : (p q c : ℚ) → q -ℚ p ≡ (q +ℚ c) -ℚ (p +ℚ c)
    cancel p q c = ring rationals (p ∷ q ∷ c ∷ []) (search reads depth 30) (search reads depth 30) refl

added_lt : (p q c : ℚ) → p <ℚ q → (p +ℚ c) <ℚ (q +ℚ c)
added_lt p q c h = ⊎_elim (λ le. absurd (not_le_of_lt p q h (less_le q p c le))) (λ lt. lt) (le_or_lt (q +ℚ c) (p +ℚ c))

-- a number that a constant taken away makes of another one
restored : (v u : ℚ) (c : ℤ) → u ≡ v +ℚ whole (neg_ℤ c) → v ≡ u +ℚ whole c
restored v u c e = plain v ∙ ap (λ t. v +ℚ t) (sym (sym (whole_add (neg_ℤ c) c) ∙ ap whole gone)) ∙ assoc v (whole (neg_ℤ c)) (whole c) ∙ ap (λ t. t +ℚ whole c) (sym e)
  where
    gone : neg_ℤ c +ℤ c ≡ pos 0
    gone = omega linear

    plain : (v : ℚ) → v ≡ v +ℚ whole (pos 0)
    plain v = ring rationals (v ∷ []) (search reads depth 30) (search reads depth 30) refl

    assoc : (v m c : ℚ) → v +ℚ (m +ℚ c) ≡ (v +ℚ m) +ℚ c
    assoc v m c = ring rationals (v ∷ m ∷ c ∷ []) (search reads depth 30) (search reads depth 30) refl

-- ---- the slices

-- Each of two regions has the points of the other, at which the form has the values of `inner_form` and a constant more. Where that one is least at `low`
-- and greatest at `high`, the slices of the form run from the ceiling of the one value to the floor of the other, the constant added to both.
pub slices_from_ends : (region inner : List ℚ → Type 0) (form inner_form : List ℤ) (constant : ℤ) (low high : List ℚ) → HasMatches inner inner_form region form constant → HasMatches region form inner inner_form (neg_ℤ constant) → inner low → inner high
    → ((y : List ℚ) → inner y → form_value inner_form low ≤ℚ form_value inner_form y) → ((y : List ℚ) → inner y → form_value inner_form y ≤ℚ form_value inner_form high)
    → AreSlices region form (ceil (form_value inner_form low) +ℤ constant) (((floor (form_value inner_form high) +ℤ constant) -ℤ (ceil (form_value inner_form low) +ℤ constant)) +ℤ pos 1)
slices_from_ends region inner form inner_form constant low high there back in_low in_high least greatest =
    slices_shown region form (ceil (form_value inner_form low) +ℤ constant) (((floor (form_value inner_form high) +ℤ constant) -ℤ (ceil (form_value inner_form low) +ℤ constant)) +ℤ pos 1)
    between (λ some. let l = there low in_low in let h = there high in_high in record {
      low_point = l.0;
      high_point = h.0;
      low_there = l.1.0;
      high_there = h.1.0;
      at_low = subst (λ (t : ℚ). t ≤ℚ whole (ceil (form_value inner_form low) +ℤ constant)) (sym l.1.1) (subst (λ (t : ℚ). (form_value inner_form low +ℚ whole constant) ≤ℚ t) (sym (whole_add (ceil (form_value inner_form low)) constant)) (added_le (form_value inner_form low) (whole (ceil (form_value inner_form low))) (whole constant) (le_ceil (form_value inner_form low))));
      at_high = subst (λ (t : ℚ). whole (((ceil (form_value inner_form low) +ℤ constant) +ℤ (((floor (form_value inner_form high) +ℤ constant) -ℤ (ceil (form_value inner_form low) +ℤ constant)) +ℤ pos 1)) -ℤ pos 1) ≤ℚ t) (sym h.1.1)
          (subst (λ (z : ℤ). whole z ≤ℚ (form_value inner_form high +ℚ whole constant)) (last_is (ceil (form_value inner_form low) +ℤ constant) (floor (form_value inner_form high)) constant)
          (subst (λ (t : ℚ). t ≤ℚ (form_value inner_form high +ℚ whole constant)) (sym (whole_add (floor (form_value inner_form high)) constant)) (added_le (whole (floor (form_value inner_form high))) (form_value inner_form high) (whole constant) (floor_le (form_value inner_form high)))));
    })
  where
    last_is : (a f c : ℤ) → f +ℤ c ≡ (a +ℤ (((f +ℤ c) -ℤ a) +ℤ pos 1)) -ℤ pos 1
    last_is a f c = omega linear

    first_is : (k c : ℤ) → (k -ℤ pos 1) +ℤ c ≡ (k +ℤ c) -ℤ pos 1
    first_is k c = omega linear

    next_is : (a f c : ℤ) → (f +ℤ pos 1) +ℤ c ≡ a +ℤ (((f +ℤ c) -ℤ a) +ℤ pos 1)
    next_is a f c = omega linear

    above : (v : ℚ) → form_value inner_form low ≤ℚ v → whole ((ceil (form_value inner_form low) +ℤ constant) -ℤ pos 1) <ℚ (v +ℚ whole constant)
    above v h =
        subst (λ (t : ℚ). t <ℚ (v +ℚ whole constant)) (sym (whole_add (ceil (form_value inner_form low) -ℤ pos 1) constant) ∙ ap whole (first_is (ceil (form_value inner_form low)) constant))
        (added_lt (whole (ceil (form_value inner_form low) -ℤ pos 1)) v (whole constant)
        (⊎_elim (λ le. absurd (not_le_of_lt (whole (ceil (form_value inner_form low) -ℤ pos 1)) (form_value inner_form low) (ceil_lt_next (form_value inner_form low)) (le_trans (form_value inner_form low) v (whole (ceil (form_value inner_form low) -ℤ pos 1)) h le))) (λ lt. lt) (le_or_lt v (whole (ceil (form_value inner_form low) -ℤ pos 1)))))

    beneath : (v : ℚ) → v ≤ℚ form_value inner_form high → (v +ℚ whole constant) <ℚ whole ((ceil (form_value inner_form low) +ℤ constant) +ℤ (((floor (form_value inner_form high) +ℤ constant) -ℤ (ceil (form_value inner_form low) +ℤ constant)) +ℤ pos 1))
    beneath v h =
        subst (λ (t : ℚ). (v +ℚ whole constant) <ℚ t) (sym (whole_add (floor (form_value inner_form high) +ℤ pos 1) constant) ∙ ap whole (next_is (ceil (form_value inner_form low) +ℤ constant) (floor (form_value inner_form high)) constant))
        (added_lt v (whole (floor (form_value inner_form high) +ℤ pos 1)) (whole constant)
        (⊎_elim (λ le. absurd (not_le_of_lt (form_value inner_form high) (whole (floor (form_value inner_form high) +ℤ pos 1)) (lt_floor_next (form_value inner_form high)) (le_trans (whole (floor (form_value inner_form high) +ℤ pos 1)) v (form_value inner_form high) le h))) (λ lt. lt) (le_or_lt (whole (floor (form_value inner_form high) +ℤ pos 1)) v)))

    between : StaysBetween region form (ceil (form_value inner_form low) +ℤ constant) (((floor (form_value inner_form high) +ℤ constant) -ℤ (ceil (form_value inner_form low) +ℤ constant)) +ℤ pos 1)
    between x in_x =
        let y = back x in_x in
        let is = restored (form_value form x) (form_value inner_form y.0) constant y.1.1 in (
          subst (λ (t : ℚ). whole ((ceil (form_value inner_form low) +ℤ constant) -ℤ pos 1) <ℚ t) (sym is) (above (form_value inner_form y.0) (least y.0 y.1.0)),
          subst (λ (t : ℚ). t <ℚ whole ((ceil (form_value inner_form low) +ℤ constant) +ℤ (((floor (form_value inner_form high) +ℤ constant) -ℤ (ceil (form_value inner_form low) +ℤ constant)) +ℤ pos 1))) (sym is) (beneath (form_value inner_form y.0) (greatest y.0 y.1.0)),
        )
