-- The check of a point in whole numbers finds exactly the rational points of the node.
use Rattle.std.proofs.Common.{◌≡◌, ℕ, ◌*◌, ◌<◌, ℤ, pos, negsuc, ◌-ℤ◌, ◌*ℤ◌, ◌≤ℤ◌, ◌<ℤ◌, List, [], ◌∷◌, map, refl, sym, ap, ◌∙◌, subst, arith}
use Rattle.std.specs.Prelude.{Option, Some, None, IfSome}
use Rattle.std.specs.List.{AllZip}
use Rattle.exact_math.specs.Ring.{integers}
use Rattle.exact_math.specs.IntegerRing.{linear}
use Rattle.exact_math.specs.Rational.{ℚ, whole, frac, inv_ℚ, ◌+ℚ◌, ◌*ℚ◌, ◌/ℚ◌, ◌≤ℚ◌}
use Rattle.exact_math.specs.RationalLaws.{frac-mul, same_frac, cross_from_same, whole-frac, pos-ne-zero}
use Rattle.exact_math.specs.RationalOrder.{le_frac, cross_from_le}
use Rattle.exact_math.specs.RationalRing.{rationals, whole_add, whole_mul, div_is}
use Rattle.exact_math.specs.RingLaws as Laws
use Rattle.exact_math.specs.RingSolver.{ring, reads}
use Rattle.exact_vectors.specs.Vectors.{dot}
use Rattle.whole_rows.specs.declared.bounds.Bounds.{Bounds}
use Rattle.whole_rows.specs.WholeRows.{WholeRows}
use Rattle.farkas_rows.specs.declared.path.Slice.{Slice}
use Rattle.node_point.specs.NodePoints.{LiesBetween, IsNodePoint}
use Rattle.node_point.specs.RationalPoints.{coordinates, form_value, IsWithin, IsRationalPoint}

-- the numerator of a whole number is it
num-whole : (z : ℤ) → (whole z).num ≡ z
unfolding whole
num-whole z = refl

-- a quotient of whole numbers is the fraction of both
quotient-frac : (s : ℤ) (n : ℕ) → 0 < n → whole s /ℚ whole (pos n) ≡ frac s n
quotient-frac s n h =
    let back : frac s n *ℚ whole (pos n) ≡ whole s = ap (λ q. frac s n *ℚ q) (whole-frac (pos n)) ∙ frac-mul s (pos n) n 1 h (omega arith) ∙ same_frac (s *ℤ pos n) s (n * 1) 1 (omega arith) (omega arith) (omega linear) ∙ sym (whole-frac s) in
    div_is (whole s) (whole (pos n)) (frac s n) (λ e. pos-ne-zero n h (sym (num-whole (pos n)) ∙ e)) back

-- a whole number is at most a quotient
le-quotient : (l s : ℤ) (n : ℕ) → 0 < n → (l *ℤ pos n) ≤ℤ s → whole l ≤ℚ (whole s /ℚ whole (pos n))
le-quotient l s n h k =
    subst (λ q. whole l ≤ℚ q) (sym (quotient-frac s n h)) (subst (λ q. q ≤ℚ frac s n) (sym (whole-frac l)) (le_frac l s 1 n (omega arith) h (omega (linear, k))))

-- and the other way round
quotient-ge : (l s : ℤ) (n : ℕ) → 0 < n → whole l ≤ℚ (whole s /ℚ whole (pos n)) → (l *ℤ pos n) ≤ℤ s
quotient-ge l s n h k =
    omega (linear, cross_from_le l s 1 n (omega arith) h (subst (λ q. q ≤ℚ frac s n) (whole-frac l) (subst (λ q. whole l ≤ℚ q) (quotient-frac s n h) k)))

-- a quotient is at most a whole number
quotient-le : (s t : ℤ) (n : ℕ) → 0 < n → s ≤ℤ (t *ℤ pos n) → (whole s /ℚ whole (pos n)) ≤ℚ whole t
quotient-le s t n h k =
    subst (λ q. q ≤ℚ whole t) (sym (quotient-frac s n h)) (subst (λ q. frac s n ≤ℚ q) (sym (whole-frac t)) (le_frac s t n 1 h (omega arith) (omega (linear, k))))

ge-quotient : (s t : ℤ) (n : ℕ) → 0 < n → (whole s /ℚ whole (pos n)) ≤ℚ whole t → s ≤ℤ (t *ℤ pos n)
ge-quotient s t n h k =
    omega (linear, cross_from_le s t n 1 h (omega arith) (subst (λ q. frac s n ≤ℚ q) (whole-frac t) (subst (λ q. q ≤ℚ whole t) (quotient-frac s n h) k)))

-- a quotient is a whole number
quotient-whole : (s t : ℤ) (n : ℕ) → 0 < n → s ≡ t *ℤ pos n → whole s /ℚ whole (pos n) ≡ whole t
quotient-whole s t n h e = quotient-frac s n h ∙ same_frac s t n 1 h (omega arith) (omega (linear, e)) ∙ sym (whole-frac t)

whole-quotient : (s t : ℤ) (n : ℕ) → 0 < n → whole s /ℚ whole (pos n) ≡ whole t → s ≡ t *ℤ pos n
whole-quotient s t n h e =
    omega (linear, cross_from_same s t n 1 h (omega arith) (sym (quotient-frac s n h) ∙ e ∙ whole-frac t))

-- a form's value at the numerators over the denominator
module _ (d : ℤ) where
  over : ℤ → ℚ
  over s = whole s /ℚ whole d

  zero-over : whole (pos 0) ≡ whole (pos 0) /ℚ whole d
  zero-over = sym (Laws.zero_mul rationals (inv_ℚ (whole d)))

  form_value-over : (form v : List ℤ) → form_value form (map (λ n. whole n /ℚ whole d) v) ≡ whole (dot integers form v) /ℚ whole d
  form_value-over [] v = zero-over
  form_value-over (a ∷ form) [] = zero-over
  form_value-over (a ∷ form) (n ∷ v) =
      let k = inv_ℚ (whole d) in
      let t = whole (dot integers form v) in
      ap (λ q. whole a *ℚ (whole n *ℚ k) +ℚ q) (form_value-over form v)
      ∙ ring rationals (whole a ∷ whole n ∷ k ∷ t ∷ []) (search reads depth 30) (search reads depth 30) refl
      ∙ ap (λ q. (q +ℚ t) *ℚ k) (sym (whole_mul a n))
      ∙ ap (λ q. q *ℚ k) (sym (whole_add (a *ℤ n) (dot integers form v)))

module _ (n : ℕ) (h : 0 < n) where
  -- the bounds of the columns
  box-rational : (box : List Bounds) (v : List ℤ) → AllZip (λ (bounds : Bounds) value. ((bounds.low *ℤ pos n) ≤ℤ value) × (value ≤ℤ (bounds.high *ℤ pos n))) box v → AllZip (λ (bounds : Bounds) q. (whole bounds.low ≤ℚ q) × (q ≤ℚ whole bounds.high)) box (map (λ s. whole s /ℚ whole (pos n)) v)
  box-rational [] [] met = tt
  box-rational [] (s ∷ v) met = absurd met
  box-rational (b ∷ box) [] met = absurd met
  box-rational (b ∷ box) (s ∷ v) met = ((le-quotient b.low s n h met.0.0, quotient-le s b.high n h met.0.1), box-rational box v met.1)

  box-whole : (box : List Bounds) (v : List ℤ) → AllZip (λ (bounds : Bounds) q. (whole bounds.low ≤ℚ q) × (q ≤ℚ whole bounds.high)) box (map (λ s. whole s /ℚ whole (pos n)) v) → AllZip (λ (bounds : Bounds) value. ((bounds.low *ℤ pos n) ≤ℤ value) × (value ≤ℤ (bounds.high *ℤ pos n))) box v
  box-whole [] [] met = tt
  box-whole [] (s ∷ v) met = absurd met
  box-whole (b ∷ box) [] met = absurd met
  box-whole (b ∷ box) (s ∷ v) met = ((quotient-ge b.low s n h met.0.0, ge-quotient s b.high n h met.0.1), box-whole box v met.1)

  -- a form between two sides
  between-rational : (low high : Option ℤ) (s : ℤ) → LiesBetween (pos n) low high s → IsWithin low high (whole s /ℚ whole (pos n))
  between-rational None None s met = (tt, tt)
  between-rational None (Some t) s met = (tt, quotient-le s t n h met.1)
  between-rational (Some l) None s met = (le-quotient l s n h met.0, tt)
  between-rational (Some l) (Some t) s met = (le-quotient l s n h met.0, quotient-le s t n h met.1)

  between-whole : (low high : Option ℤ) (s : ℤ) → IsWithin low high (whole s /ℚ whole (pos n)) → LiesBetween (pos n) low high s
  between-whole None None s met = (tt, tt)
  between-whole None (Some t) s met = (tt, ge-quotient s t n h met.1)
  between-whole (Some l) None s met = (quotient-ge l s n h met.0, tt)
  between-whole (Some l) (Some t) s met = (quotient-ge l s n h met.0, ge-quotient s t n h met.1)

  -- the cut
  cut-rational : (cut : Option ℤ) (cost v : List ℤ) → IfSome cut (λ value. dot integers cost v ≤ℤ ((value -ℤ pos 1) *ℤ pos n)) → IfSome cut (λ value. form_value cost (map (λ s. whole s /ℚ whole (pos n)) v) ≤ℚ whole (value -ℤ pos 1))
  cut-rational None cost v met = tt
  cut-rational (Some value) cost v met = subst (λ q. q ≤ℚ whole (value -ℤ pos 1)) (sym (form_value-over (pos n) cost v)) (quotient-le _ _ n h met)

  cut-whole : (cut : Option ℤ) (cost v : List ℤ) → IfSome cut (λ value. form_value cost (map (λ s. whole s /ℚ whole (pos n)) v) ≤ℚ whole (value -ℤ pos 1)) → IfSome cut (λ value. dot integers cost v ≤ℤ ((value -ℤ pos 1) *ℤ pos n))
  cut-whole None cost v met = tt
  cut-whole (Some value) cost v met = ge-quotient _ _ n h (subst (λ q. q ≤ℚ whole (value -ℤ pos 1)) (form_value-over (pos n) cost v) met)

-- a point in whole numbers over one denominator is a rational point
pub point-rational : (rows : WholeRows) (path : List Slice) (cut : Option ℤ) (v : List ℤ) (d : ℤ) → IsNodePoint rows path cut (record { numerators = v; denominator = d }) → IsRationalPoint rows path cut (coordinates (record { numerators = v; denominator = d }))
point-rational rows path cut v (negsuc n) met = absurd (omega (linear, met.positive))
point-rational rows path cut v (pos n) met =
    let h : 0 < n = omega (linear, met.positive) in
    record {
      in_box = box-rational n h rows.box v met.in_box;
      in_rows = λ k row lt. subst (IsWithin _ _) (sym (form_value-over (pos n) _ v)) (between-rational n h _ _ _ (met.in_rows k row lt));
      on_path = λ k slice lt. form_value-over (pos n) _ v ∙ quotient-whole _ _ n h (met.on_path k slice lt);
      below_cut = cut-rational n h cut rows.cost v met.below_cut;
    }

-- and the other way round
pub rational-point : (rows : WholeRows) (path : List Slice) (cut : Option ℤ) (v : List ℤ) (d : ℤ) → pos 0 <ℤ d → IsRationalPoint rows path cut (coordinates (record { numerators = v; denominator = d })) → IsNodePoint rows path cut (record { numerators = v; denominator = d })
rational-point rows path cut v (negsuc n) positive met = absurd (omega linear)
rational-point rows path cut v (pos n) positive met =
    let h : 0 < n = omega linear in
    record {
      positive = positive;
      in_box = box-whole n h rows.box v met.in_box;
      in_rows = λ k row lt. between-whole n h _ _ _ (subst (IsWithin _ _) (form_value-over (pos n) _ v) (met.in_rows k row lt));
      on_path = λ k slice lt. whole-quotient _ _ n h (sym (form_value-over (pos n) _ v) ∙ met.on_path k slice lt);
      below_cut = cut-whole n h cut rows.cost v met.below_cut;
    }
