-- The least whole line: its multipliers by the ratios to the first one, and that every such line weighs as much at least.
use Rattle.std.proofs.Common.{◌≡◌, ℕ, ◌*◌, ◌<◌, ℤ, pos, ◌*ℤ◌, ◌≤ℤ◌, ◌<ℤ◌, refl, sym, ap, ap₂, ◌∙◌, subst, arith, mul-pos, ◌⊎◌, inl, inr}
use Rattle.exact_math.specs.IntegerRing.{linear, expand}
use Rattle.exact_math.specs.IntegerOrder as Order
use Rattle.exact_math.specs.Rational.{ℚ, whole, frac, ◌*ℚ◌, ◌/ℚ◌, ◌<ℚ◌, ◌≤ℚ◌, inv_ℚ}
use Rattle.exact_math.specs.RationalLaws as Rational
use Rattle.exact_math.specs.RationalRing as Ring
use Rattle.exact_math.specs.RationalOrder as Ordered
use Rattle.farkas_rows.specs.LeastLine.{IsInRatio}

-- ---- positive fractions

-- a product of positive numbers is positive
pub product_positive : (p q : ℚ) → whole (pos 0) <ℚ p → whole (pos 0) <ℚ q → whole (pos 0) <ℚ (p *ℚ q)
product_positive p q hp hq =
    let product : pos 0 <ℤ (p.num *ℤ q.num) = Order.mul_pos p.num q.num (Ordered.num_pos p hp) (Ordered.num_pos q hq) in
    let dens : 0 < p.den * q.den = mul-pos (Rational.den_pos p) (Rational.den_pos q) in
    subst (λ (r : ℚ). whole (pos 0) <ℚ r) (sym (ap₂ ◌*ℚ◌ (sym (Rational.frac-self p)) (sym (Rational.frac-self q)) ∙ Rational.frac-mul p.num q.num p.den q.den (Rational.den_pos p) (Rational.den_pos q)))
    (subst (λ (r : ℚ). r <ℚ frac (p.num *ℤ q.num) (p.den * q.den)) (sym (Rational.whole-frac (pos 0))) (Ordered.lt_frac (pos 0) (p.num *ℤ q.num) 1 (p.den * q.den) (omega arith) dens (omega (linear, product))))

-- a positive number is not 0
pub num_nonzero : (p : ℚ) → whole (pos 0) <ℚ p → p.num ≡ pos 0 → ⊥
num_nonzero p h e = omega (linear, Ordered.num_pos p h, e)

-- a quotient of positive numbers is positive
pub quotient_positive : (q f : ℚ) → whole (pos 0) <ℚ q → whole (pos 0) <ℚ f → pos 0 <ℤ (q /ℚ f).num
quotient_positive q f hq hf = Order_cases (Order.le_or_lt (q /ℚ f).num (pos 0))
  where
    back : (q /ℚ f) *ℚ f ≡ q
    back = Ring.div_mul q f (num_nonzero f hf)

    Order_cases : ((q /ℚ f).num ≤ℤ pos 0) ⊎ (pos 0 <ℤ (q /ℚ f).num) → pos 0 <ℤ (q /ℚ f).num
    Order_cases (inl low) =
        let product : (frac ((q /ℚ f).num *ℤ f.num) ((q /ℚ f).den * f.den)) ≡ q = sym (Rational.frac-mul (q /ℚ f).num f.num (q /ℚ f).den f.den (Rational.den_pos (q /ℚ f)) (Rational.den_pos f)) ∙ ap₂ ◌*ℚ◌ (Rational.frac-self (q /ℚ f)) (Rational.frac-self f) ∙ back in
        let at_most : ((q /ℚ f).num *ℤ f.num) ≤ℤ pos 0 = omega (linear, Order.mul_nonpos f.num (q /ℚ f).num (omega (linear, Ordered.num_pos f hf)) low, commute f.num (q /ℚ f).num) in
        let below : frac ((q /ℚ f).num *ℤ f.num) ((q /ℚ f).den * f.den) ≤ℚ frac (pos 0) 1 = Ordered.le_frac ((q /ℚ f).num *ℤ f.num) (pos 0) ((q /ℚ f).den * f.den) 1 (mul-pos (Rational.den_pos (q /ℚ f)) (Rational.den_pos f)) (omega arith) (omega (linear, at_most)) in
        absurd (Ordered.not_le_of_lt (whole (pos 0)) q hq (subst (λ (r : ℚ). r ≤ℚ whole (pos 0)) product (subst (λ (r : ℚ). frac ((q /ℚ f).num *ℤ f.num) ((q /ℚ f).den * f.den) ≤ℚ r) (sym (Rational.whole-frac (pos 0))) below)))
      where
        commute : (a b : ℤ) → a *ℤ b ≡ b *ℤ a
        commute a b = simp expand (omega linear)
    Order_cases (inr above) = above

-- ---- one factor, and the ratio to the first

-- a whole multiple of a number, by its terms
whole_times_is : (m : ℤ) (r : ℚ) → whole m *ℚ r ≡ frac (m *ℤ r.num) r.den
whole_times_is m r =
    ap₂ ◌*ℚ◌ (Rational.whole-frac m) (sym (Rational.frac-self r)) ∙ Rational.frac-mul m r.num 1 r.den (omega arith) (Rational.den_pos r) ∙ ap (frac (m *ℤ r.num)) (one_times r.den)
  where
    one_times : (n : ℕ) → 1 * n ≡ n
    one_times n = omega arith

-- the numerator of a whole number
pub whole_num : (z : ℤ) → ((whole z).num ≡ z) × ((whole z).den ≡ 1)
unfolding whole
whole_num z = (refl, refl)

-- a whole number is a multiple of another one where the cross products are equal
cross_of_multiple : (m w : ℤ) (r : ℚ) → whole w ≡ whole m *ℚ r → w *ℤ pos r.den ≡ m *ℤ r.num
cross_of_multiple m w r e =
    let same : frac w 1 ≡ frac (m *ℤ r.num) r.den = sym (Rational.whole-frac w) ∙ e ∙ whole_times_is m r in
    Rational.cross_from_same w (m *ℤ r.num) 1 r.den (omega arith) (Rational.den_pos r) same ∙ times_one (m *ℤ r.num)
  where
    times_one : (z : ℤ) → z *ℤ pos 1 ≡ z
    times_one z = omega linear

multiple_of_cross : (m w : ℤ) (r : ℚ) → w *ℤ pos r.den ≡ m *ℤ r.num → whole w ≡ whole m *ℚ r
multiple_of_cross m w r e =
    Rational.whole-frac w ∙ Rational.same_frac w (m *ℤ r.num) 1 r.den (omega arith) (Rational.den_pos r) (e ∙ sym (times_one (m *ℤ r.num))) ∙ sym (whole_times_is m r)
  where
    times_one : (z : ℤ) → z *ℤ pos 1 ≡ z
    times_one z = omega linear

-- multiples by one factor are in the ratio of what is multiplied
pub ratio_of_factor : (factor f q : ℚ) (m w : ℤ) → (f.num ≡ pos 0 → ⊥) → whole m ≡ factor *ℚ f → whole w ≡ factor *ℚ q → IsInRatio m f q w
ratio_of_factor factor f q m w some first other =
    let r = q /ℚ f in
    cross_of_multiple m w r (other ∙ ap (λ x. factor *ℚ x) (sym (Ring.div_mul q f some) ∙ Ring.mul_comm r f) ∙ sym (Ring.mul_assoc factor f r) ∙ ap (λ x. x *ℚ r) (sym first))

-- and back
pub factor_of_ratio : (f q : ℚ) (m w : ℤ) → (f.num ≡ pos 0 → ⊥) → IsInRatio m f q w → whole w ≡ (whole m /ℚ f) *ℚ q
factor_of_ratio f q m w some e =
    multiple_of_cross m w (q /ℚ f) e ∙ sym (Ring.mul_assoc (whole m) q (inv_ℚ f)) ∙ ap (λ x. x *ℚ inv_ℚ f) (Ring.mul_comm (whole m) q) ∙ Ring.mul_assoc q (whole m) (inv_ℚ f) ∙ Ring.mul_comm q (whole m *ℚ inv_ℚ f)

-- the first is in ratio to itself
pub ratio_of_first : (f : ℚ) (m w : ℤ) → (f.num ≡ pos 0 → ⊥) → IsInRatio m f f w → w ≡ m
ratio_of_first f m w some e =
    let one : f /ℚ f ≡ whole (pos 1) = Ring.div_is f f (whole (pos 1)) some (Ring.mul_comm (whole (pos 1)) f ∙ Ring.mul_one f) in
    let terms = whole_num (pos 1) in
    let den : (f /ℚ f).den ≡ 1 = ap (λ (r : ℚ). r.den) one ∙ terms.1 in
    let num : (f /ℚ f).num ≡ pos 1 = ap (λ (r : ℚ). r.num) one ∙ terms.0 in
    simple (rw (den, num) at e)
  where
    simple : w *ℤ pos 1 ≡ m *ℤ pos 1 → w ≡ m
    simple e = omega (linear, e)
