-- The order of the rational numbers: it is total, agrees with sums and products, and is decided by cross products and by differences.
use Rattle.std.proofs.Common.{◌≡◌, ◌⊎◌, inl, inr, ⊎_elim, ℕ, ◌*◌, ◌<◌, ℤ, pos, ◌+ℤ◌, ◌*ℤ◌, neg_ℤ, ◌≤ℤ◌, ◌<ℤ◌, refl, sym, ap, ◌∙◌, subst, subst₂, arith, mul-pos, Less}
use Rattle.std.specs.Ordering.{int_cmp, MatchOrdering}
use Rattle.std.specs.Cmp.{IsTotalOrder}
use Rattle.std.proofs.lemmas.Cmp.{int_cmp_total, int_ranked, by_ranked}
use Rattle.exact_math.specs.Ordered.{IsOrdered}
use Rattle.exact_math.specs.Rational.{ℚ, whole, frac, ◌+ℚ◌, neg_ℚ, ◌-ℚ◌, ◌*ℚ◌, ◌≤ℚ◌, ◌<ℚ◌, rational_cmp}
use Rattle.exact_math.specs.IntegerRing.{expand, linear, neg_mul}
use Rattle.exact_math.specs.IntegerOrder as whole_numbers
use Rattle.exact_math.specs.RationalLaws.{by_frac, same_from_cross, frac-cross, frac-add, frac-mul, whole-frac, den_pos}
use Rattle.exact_math.specs.RationalRing as ring

-- ---- identities and inequalities of whole numbers; the denominators b, d, u, v are above 0

-- an inequality of fractions that are lowered
cross_le : (x y a b c d u v : ℤ) → pos 0 <ℤ b → pos 0 <ℤ d → pos 0 <ℤ u → pos 0 <ℤ v → x *ℤ b ≡ a *ℤ u → y *ℤ d ≡ c *ℤ v → (a *ℤ d) ≤ℤ (c *ℤ b) → (x *ℤ v) ≤ℤ (y *ℤ u)
cross_le x y a b c d u v hb hd hu hv p q h =
    let uv : pos 0 ≤ℤ (u *ℤ v) = omega (linear, whole_numbers.mul_pos u v hu hv) in
    whole_numbers.le_of_mul_le (b *ℤ d) _ _ (whole_numbers.mul_pos b d hb hd) (simp expand (omega (linear, simp expand at (ap (λ t. v *ℤ d *ℤ t) p), simp expand at (ap (λ t. u *ℤ b *ℤ t) q), simp expand at (whole_numbers.mul_le (u *ℤ v) _ _ uv h))))

-- the same for a strict one
cross_lt : (x y a b c d u v : ℤ) → pos 0 <ℤ b → pos 0 <ℤ d → pos 0 <ℤ u → pos 0 <ℤ v → x *ℤ b ≡ a *ℤ u → y *ℤ d ≡ c *ℤ v → (a *ℤ d) <ℤ (c *ℤ b) → (x *ℤ v) <ℤ (y *ℤ u)
cross_lt x y a b c d u v hb hd hu hv p q h =
    whole_numbers.lt_of_mul_lt (b *ℤ d) _ _ (whole_numbers.mul_pos b d hb hd) (simp expand (omega (linear, simp expand at (ap (λ t. v *ℤ d *ℤ t) p), simp expand at (ap (λ t. u *ℤ b *ℤ t) q), simp expand at (whole_numbers.mul_lt (u *ℤ v) _ _ (whole_numbers.mul_pos u v hu hv) h))))

-- two inequalities in a row
trans_cross : (a b c d e f : ℤ) → pos 0 <ℤ b → pos 0 <ℤ d → pos 0 <ℤ f → (a *ℤ d) ≤ℤ (c *ℤ b) → (c *ℤ f) ≤ℤ (e *ℤ d) → (a *ℤ f) ≤ℤ (e *ℤ b)
trans_cross a b c d e f hb hd hf h k =
    let hb' : pos 0 ≤ℤ b = omega linear in
    let hf' : pos 0 ≤ℤ f = omega linear in
    whole_numbers.le_of_mul_le d _ _ hd (simp expand (omega (linear, simp expand at (whole_numbers.mul_le f _ _ hf' h), simp expand at (whole_numbers.mul_le b _ _ hb' k))))

-- a strict one before another
trans_cross_lt : (a b c d e f : ℤ) → pos 0 <ℤ b → pos 0 <ℤ d → pos 0 <ℤ f → (a *ℤ d) <ℤ (c *ℤ b) → (c *ℤ f) ≤ℤ (e *ℤ d) → (a *ℤ f) <ℤ (e *ℤ b)
trans_cross_lt a b c d e f hb hd hf h k =
    let hb' : pos 0 ≤ℤ b = omega linear in
    whole_numbers.lt_of_mul_lt d _ _ hd (simp expand (omega (linear, simp expand at (whole_numbers.mul_lt f _ _ hf h), simp expand at (whole_numbers.mul_le b _ _ hb' k))))

-- a summand on both sides
add_cross : (a b c d e f : ℤ) → pos 0 <ℤ b → pos 0 <ℤ d → pos 0 <ℤ f → (a *ℤ d) ≤ℤ (c *ℤ b) → ((a *ℤ f +ℤ e *ℤ b) *ℤ (d *ℤ f)) ≤ℤ ((c *ℤ f +ℤ e *ℤ d) *ℤ (b *ℤ f))
add_cross a b c d e f hb hd hf h =
    let ff : pos 0 ≤ℤ (f *ℤ f) = whole_numbers.square_nonneg f in
    simp expand (omega (linear, simp expand at (whole_numbers.mul_le (f *ℤ f) _ _ ff h)))

-- a product of fractions that are not negative
nonneg_cross : (a b c d : ℤ) → (pos 0 *ℤ b) ≤ℤ (a *ℤ pos 1) → (pos 0 *ℤ d) ≤ℤ (c *ℤ pos 1) → (pos 0 *ℤ (b *ℤ d)) ≤ℤ ((a *ℤ c) *ℤ pos 1)
nonneg_cross a b c d h k =
    omega (linear, whole_numbers.mul_nonneg a c (omega linear) (omega linear))

-- both sides negated
neg_cross : (a b c d : ℤ) → (a *ℤ d) ≤ℤ (c *ℤ b) → (neg_ℤ c *ℤ b) ≤ℤ (neg_ℤ a *ℤ d)
neg_cross a b c d h = omega (linear, neg_mul c b, neg_mul a d)

-- a positive denominator as a whole number
pos_above : (n : ℕ) → 0 < n → pos 0 <ℤ pos n
pos_above n h = omega linear

-- ---- the order of fractions that need not be in lowest terms

-- an inequality from the cross products
pub le_frac : (a c : ℤ) (b d : ℕ) → 0 < b → 0 < d → (a *ℤ pos d) ≤ℤ (c *ℤ pos b) → frac a b ≤ℚ frac c d
le_frac a c b d hb hd h =
    let p = frac a b in
    let q = frac c d in
    record { le = cross_le p.num q.num a (pos b) c (pos d) (pos p.den) (pos q.den) (pos_above b hb) (pos_above d hd) (pos_above p.den (den_pos p)) (pos_above q.den (den_pos q)) (frac-cross a b hb) (frac-cross c d hd) h }

-- a strict one
pub lt_frac : (a c : ℤ) (b d : ℕ) → 0 < b → 0 < d → (a *ℤ pos d) <ℤ (c *ℤ pos b) → frac a b <ℚ frac c d
lt_frac a c b d hb hd h =
    let p = frac a b in
    let q = frac c d in
    record { lt = cross_lt p.num q.num a (pos b) c (pos d) (pos p.den) (pos q.den) (pos_above b hb) (pos_above d hd) (pos_above p.den (den_pos p)) (pos_above q.den (den_pos q)) (frac-cross a b hb) (frac-cross c d hd) h }

-- and what it says of their terms
pub cross_from_le : (a c : ℤ) (b d : ℕ) → 0 < b → 0 < d → frac a b ≤ℚ frac c d → (a *ℤ pos d) ≤ℤ (c *ℤ pos b)
cross_from_le a c b d hb hd h =
    let p = frac a b in
    let q = frac c d in
    cross_le a c p.num (pos p.den) q.num (pos q.den) (pos b) (pos d) (pos_above p.den (den_pos p)) (pos_above q.den (den_pos q)) (pos_above b hb) (pos_above d hd) (sym (frac-cross a b hb)) (sym (frac-cross c d hd)) h.le

-- the same for a strict one
pub cross_from_lt : (a c : ℤ) (b d : ℕ) → 0 < b → 0 < d → frac a b <ℚ frac c d → (a *ℤ pos d) <ℤ (c *ℤ pos b)
cross_from_lt a c b d hb hd h =
    let p = frac a b in
    let q = frac c d in
    cross_lt a c p.num (pos p.den) q.num (pos q.den) (pos b) (pos d) (pos_above p.den (den_pos p)) (pos_above q.den (den_pos q)) (pos_above b hb) (pos_above d hd) (sym (frac-cross a b hb)) (sym (frac-cross c d hd)) h.lt

-- ---- a total order

-- a number is at most itself
pub le_refl : (p : ℚ) → p ≤ℚ p
le_refl p = record { le = whole_numbers.le_refl _ }

-- the order is transitive
pub le_trans : (p q r : ℚ) → p ≤ℚ q → q ≤ℚ r → p ≤ℚ r
le_trans p q r h k = record { le = trans_cross p.num (pos p.den) q.num (pos q.den) r.num (pos r.den) (pos_above _ (den_pos p)) (pos_above _ (den_pos q)) (pos_above _ (den_pos r)) h.le k.le }

-- a strict inequality before another
pub lt_of_lt_of_le : (p q r : ℚ) → p <ℚ q → q ≤ℚ r → p <ℚ r
lt_of_lt_of_le p q r h k = record { lt = trans_cross_lt p.num (pos p.den) q.num (pos q.den) r.num (pos r.den) (pos_above _ (den_pos p)) (pos_above _ (den_pos q)) (pos_above _ (den_pos r)) h.lt k.le }

-- a strict inequality is one
pub le_of_lt : (p q : ℚ) → p <ℚ q → p ≤ℚ q
le_of_lt p q h = let s = h.lt in record { le = omega linear }

-- the strict order is transitive
pub lt_trans : (p q r : ℚ) → p <ℚ q → q <ℚ r → p <ℚ r
lt_trans p q r h k = lt_of_lt_of_le p q r h (le_of_lt q r k)

-- two numbers that are at most each other are equal
pub le_antisym : (p q : ℚ) → p ≤ℚ q → q ≤ℚ p → p ≡ q
le_antisym p q h k = same_from_cross p q (whole_numbers.le_antisym _ _ h.le k.le)

-- of two numbers one is at most the other, or above it
pub le_or_lt : (p q : ℚ) → (p ≤ℚ q) ⊎ (q <ℚ p)
le_or_lt p q =
    ⊎_elim (λ h. inl (record { le = h })) (λ h. inr (record { lt = h })) (whole_numbers.le_or_lt (p.num *ℤ pos q.den) (q.num *ℤ pos p.den))

-- a number below another is not above it
pub not_le_of_lt : (p q : ℚ) → p <ℚ q → q ≤ℚ p → ⊥
not_le_of_lt p q h k = let s = h.lt in let t = k.le in omega linear

-- ---- sums, products and signs

-- a summand on both sides
pub add_le_right : (p q r : ℚ) → p ≤ℚ q → (p +ℚ r) ≤ℚ (q +ℚ r)
add_le_right = by_frac _ (λ a b hb. by_frac _ (λ c d hd. by_frac _ (λ e f hf h.
    subst₂ ◌≤ℚ◌ (sym (frac-add a e b f hb hf)) (sym (frac-add c e d f hd hf)) (le_frac _ _ (b * f) (d * f) (mul-pos hb hf) (mul-pos hd hf) (add_cross a (pos b) c (pos d) e (pos f) (pos_above b hb) (pos_above d hd) (pos_above f hf) (cross_from_le a c b d hb hd h))))))

-- inequalities are added
pub add_le : (p q r s : ℚ) → p ≤ℚ q → r ≤ℚ s → (p +ℚ r) ≤ℚ (q +ℚ s)
add_le p q r s h k =
    le_trans (p +ℚ r) (q +ℚ r) (q +ℚ s) (add_le_right p q r h) (subst₂ ◌≤ℚ◌ (ring.add_comm r q) (ring.add_comm s q) (add_le_right r s q k))

-- a sign turns an inequality round
pub neg_le : (p q : ℚ) → p ≤ℚ q → neg_ℚ q ≤ℚ neg_ℚ p
unfolding neg_ℚ
neg_le p q h = record { le = neg_cross p.num (pos p.den) q.num (pos q.den) h.le }

-- a product of numbers that are not negative is not negative
pub mul_nonneg : (p q : ℚ) → whole (pos 0) ≤ℚ p → whole (pos 0) ≤ℚ q → whole (pos 0) ≤ℚ (p *ℚ q)
mul_nonneg = by_frac _ (λ a b hb. by_frac _ (λ c d hd h k.
    subst₂ ◌≤ℚ◌ (sym (whole-frac (pos 0))) (sym (frac-mul a c b d hb hd)) (le_frac (pos 0) (a *ℤ c) 1 (b * d) (omega arith) (mul-pos hb hd) (nonneg_cross a (pos b) c (pos d) (nonneg_terms a b hb h) (nonneg_terms c d hd k)))))
  where
    nonneg_terms : (a : ℤ) (b : ℕ) → 0 < b → whole (pos 0) ≤ℚ frac a b → (pos 0 *ℤ pos b) ≤ℤ (a *ℤ pos 1)
    nonneg_terms a b hb h = cross_from_le (pos 0) a 1 b (omega arith) hb (subst (λ x. x ≤ℚ frac a b) (whole-frac (pos 0)) h)

-- the certificate of an inequality: q is p and a number that is not negative
pub le_from_difference : (p q d : ℚ) → whole (pos 0) ≤ℚ d → q ≡ p +ℚ d → p ≤ℚ q
le_from_difference p q d h e =
    subst₂ ◌≤ℚ◌ (ring.add_comm (whole (pos 0)) p ∙ ring.add_zero p) (ring.add_comm d p ∙ sym e) (add_le_right (whole (pos 0)) d p h)

-- the difference of an inequality is not negative
pub difference_from_le : (p q : ℚ) → p ≤ℚ q → whole (pos 0) ≤ℚ (q -ℚ p)
difference_from_le p q h = subst (λ x. x ≤ℚ (q -ℚ p)) (ring.add_neg p) (add_le_right p q (neg_ℚ p) h)

-- an inequality is multiplied by a number that is not negative
pub mul_le : (r p q : ℚ) → whole (pos 0) ≤ℚ r → p ≤ℚ q → (r *ℚ p) ≤ℚ (r *ℚ q)
mul_le r p q h k =
    le_from_difference (r *ℚ p) (r *ℚ q) (r *ℚ (q -ℚ p)) (mul_nonneg r (q -ℚ p) h (difference_from_le p q k)) (ap (λ x. r *ℚ x) (sum_back p q) ∙ ring.mul_add r p (q -ℚ p))
  where
    sum_back : (p q : ℚ) → q ≡ p +ℚ (q -ℚ p)
    sum_back p q =
        sym (ring.add_comm p (q -ℚ p) ∙ ring.add_assoc q (neg_ℚ p) p ∙ ap (λ x. q +ℚ x) (ring.add_comm (neg_ℚ p) p ∙ ring.add_neg p) ∙ ring.add_zero q)

-- ---- the comparison

-- what an answer of the comparison says
pub ranked : (p q : ℚ) → MatchOrdering (rational_cmp p q) (p <ℚ q) (p ≡ q) (q <ℚ p)
unfolding rational_cmp
ranked p q =
    by_ranked _ _ _ _ (int_ranked (p.num *ℤ pos q.den) (q.num *ℤ pos p.den) (rational_cmp p q) refl)
    (λ e h. subst (λ o. MatchOrdering o (p <ℚ q) (p ≡ q) (q <ℚ p)) (sym e) (record { lt = h }))
    (λ e h. subst (λ o. MatchOrdering o (p <ℚ q) (p ≡ q) (q <ℚ p)) (sym e) (same_from_cross p q h))
    (λ e h. subst (λ o. MatchOrdering o (p <ℚ q) (p ≡ q) (q <ℚ p)) (sym e) (record { lt = h }))

-- the answer `Less` of whole numbers
lt_from_less : (x y : ℤ) → int_cmp x y ≡ Less → x <ℤ y
lt_from_less x y e = subst (λ o. MatchOrdering o (x <ℤ y) (x ≡ y) (y <ℤ x)) e (int_ranked x y (int_cmp x y) refl)

-- and back
less_from_lt : (x y : ℤ) → x <ℤ y → int_cmp x y ≡ Less
less_from_lt x y h = grind linear

-- the comparison is a total order
pub rational_cmp_total : IsTotalOrder rational_cmp
unfolding rational_cmp
rational_cmp_total = record {
  antisymm = λ p q. int_cmp_total.antisymm (p.num *ℤ pos q.den) (q.num *ℤ pos p.den);
  trans = λ p q r e f. less_from_lt _ _ (lt_trans p q r (record { lt = lt_from_less _ _ e }) (record { lt = lt_from_less _ _ f })).lt;
  congr = λ p q r e. ap (λ x. rational_cmp x r) (same_from_cross p q (subst (λ o. MatchOrdering o ((p.num *ℤ pos q.den) <ℤ (q.num *ℤ pos p.den)) ((p.num *ℤ pos q.den) ≡ (q.num *ℤ pos p.den)) ((q.num *ℤ pos p.den) <ℤ (p.num *ℤ pos q.den))) e (int_ranked _ _ (rational_cmp p q) refl)));
}

-- ---- the sign of a number is that of its numerator

-- a numerator that is not negative
pub nonneg_from_num : (q : ℚ) → pos 0 ≤ℤ q.num → whole (pos 0) ≤ℚ q
unfolding whole
nonneg_from_num q h = record { le = omega linear }

-- and back
pub num_nonneg : (q : ℚ) → whole (pos 0) ≤ℚ q → pos 0 ≤ℤ q.num
unfolding whole
num_nonneg q h = let s = h.le in omega linear

-- a positive numerator
pub pos_from_num : (q : ℚ) → pos 0 <ℤ q.num → whole (pos 0) <ℚ q
unfolding whole
pos_from_num q h = record { lt = omega linear }

-- and back
pub num_pos : (q : ℚ) → whole (pos 0) <ℚ q → pos 0 <ℤ q.num
unfolding whole
num_pos q h = let s = h.lt in omega linear

-- whole numbers stand in their own order
pub whole_le : (m n : ℤ) → m ≤ℤ n → whole m ≤ℚ whole n
unfolding whole
whole_le m n h = record { le = omega linear }

-- and back
pub le_from_whole : (m n : ℤ) → whole m ≤ℚ whole n → m ≤ℤ n
unfolding whole
le_from_whole m n h = let s = h.le in omega linear

-- sums keep the order, and products of numbers that are not negative
pub rationals_are_ordered : IsOrdered ring.rationals ◌≤ℚ◌
rationals_are_ordered = record {
  le_refl = le_refl;
  le_trans = le_trans;
  add_le = λ p q r s h k. add_le p q r s h k;
  mul_nonneg = mul_nonneg;
}
