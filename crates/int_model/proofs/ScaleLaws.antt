-- The laws of the scale of a row with rational coefficients: it makes them whole and primitive, and keeps points and order.
use Rattle.std.proofs.Common.{◌≡◌, ◌≢◌, ⊎_elim, ℕ, zero, suc, ◌*◌, ◌/◌, ◌<◌, nat_abs, int_div, ℤ, pos, negsuc, ◌*ℤ◌, neg_ℤ, ◌≤ℤ◌, ◌<ℤ◌, List, [], ◌∷◌, refl, sym, ap, ap₂, ◌∙◌, subst, subst₂, arith, mul_comm, mul_assoc, mul-pos, zero-mul, mul-zero, one-mul, mul-one}
use Rattle.std.specs.Prelude.{map, length, slice_index_or, Option, Some, None, ◌↔◌, IfSome}
use Rattle.std.specs.List.{All, Any}
use Rattle.std.specs.Option.{option_map}
use Rattle.std.specs.Int.{◌∣◌}
use Rattle.std.proofs.Math.Nat.{dvd-mul_left, dvd-mul_right, one-dvd, mul-div_cancel', eq_of_mul-eq-mul_left, eq_of_mul-eq-mul_right}
use Rattle.std.proofs.lemmas.Nat.Gcd.{dvd_trans, dvd_antisymm, dvd_refl, dvd-zero}
use Rattle.std.proofs.lemmas.List.Elements.{All-head, All-tail}
use Rattle.exact_math.specs.Gcd.{gcd}
use Rattle.exact_math.specs.GcdLaws.{gcd_dvd_left, gcd_dvd_right, dvd_gcd, gcd_comm, gcd-mul_left, gcd-mul-div_left, gcd-mul-div_right, gcd_pos_right, dvd_from_product, gcd-zero}
use Rattle.exact_math.specs.Ring.{integers}
use Rattle.exact_math.specs.Rational.{ℚ, whole, frac, ◌+ℚ◌, ◌*ℚ◌, inv_ℚ, ◌≤ℚ◌, ◌<ℚ◌, floor, ceil}
use Rattle.exact_math.specs.IntegerRing.{expand, linear, mul_neg}
use Rattle.exact_math.specs.IntegerOrder.{abs_mul, mul_pos}
use Rattle.exact_math.specs.RationalLaws.{den_pos, terms_lowest, frac-self, frac-mul, frac_is, whole-frac, same_from_cross, cross_from_same, zero_from_num, num_zero}
use Rattle.exact_math.specs.RationalRing.{rationals, mul_inv}
use Rattle.exact_math.specs.RationalRing as ring
use Rattle.exact_math.specs.RationalOrder as order
use Rattle.exact_math.specs.RationalFloor.{floor_le, le_floor, le_ceil, ceil_le}
use Rattle.exact_math.specs.LcmLaws.{dvd_lcm_left, dvd_lcm_right, lcm_dvd, lcm_pos}
use Rattle.exact_math.specs.RingSolver.{ring as solve, reads}
use Rattle.exact_vectors.specs.Vectors.{dot}
use Rattle.exact_vectors.specs.DotLaws.{dot-scale_left}
use Rattle.int_model.specs.Scale.{common_divisor, common_denominator, common_numerator, over_or_one, scale, scaled, FractionRow, sum_at, MeetsFractionRow, integer_row}
use Rattle.whole_rows.specs.WholeRows.{MeetsRow}

-- ---- sums

-- a sum of products of whole numbers is whole
dot_whole : (c x : List ℤ) → dot rationals (map whole c) (map whole x) ≡ whole (dot integers c x)
dot_whole [] x = refl
dot_whole (c ∷ cs) [] = refl
dot_whole (c ∷ cs) (x ∷ xs) =
    ap₂ ◌+ℚ◌ (sym (ring.whole_mul c x)) (dot_whole cs xs) ∙ sym (ring.whole_add (c *ℤ x) (dot integers cs xs))

-- where the multiples of the coefficients are whole, so is that of the sum
multiple_of_sum : (k : ℚ) (a : List ℚ) (c x : List ℤ) → map whole c ≡ map (λ q. k *ℚ q) a → whole (dot integers c x) ≡ k *ℚ sum_at a x
multiple_of_sum k a c x e =
    sym (dot_whole c x) ∙ ap (λ v. dot rationals v (map whole x)) e ∙ dot-scale_left rationals k a (map whole x)

-- ---- the order under a positive factor

-- a positive number is not 0
pub not_zero : (k : ℚ) → whole (pos 0) <ℚ k → k ≢ whole (pos 0)
not_zero k h z =
    order.not_le_of_lt (whole (pos 0)) k h (subst (λ t. t ≤ℚ whole (pos 0)) (sym z) (order.le_refl (whole (pos 0))))

-- a positive factor is cancelled
pub cancel : (k p q : ℚ) → whole (pos 0) <ℚ k → k *ℚ p ≡ k *ℚ q → p ≡ q
cancel k p q h e = back p ∙ ap (λ t. inv_ℚ k *ℚ t) e ∙ sym (back q)
  where
    back : (t : ℚ) → t ≡ inv_ℚ k *ℚ (k *ℚ t)
    back t =
        sym (ring.mul_one t) ∙ ap (λ s. t *ℚ s) (sym (mul_inv k (not_zero k h))) ∙ solve rationals (k ∷ inv_ℚ k ∷ t ∷ []) (search reads depth 30) (search reads depth 30) refl

-- an inequality is multiplied
times_le : (k p q : ℚ) → whole (pos 0) <ℚ k → p ≤ℚ q → (k *ℚ p) ≤ℚ (k *ℚ q)
times_le k p q h e = order.mul_le k p q (order.le_of_lt (whole (pos 0)) k h) e

-- and divided
le_of_times_le : (k p q : ℚ) → whole (pos 0) <ℚ k → (k *ℚ p) ≤ℚ (k *ℚ q) → p ≤ℚ q
le_of_times_le k p q h e =
    ⊎_elim (λ r. r) (λ r. subst (λ t. p ≤ℚ t) (cancel k p q h (order.le_antisym (k *ℚ p) (k *ℚ q) e (times_le k q p h (order.le_of_lt q p r)))) (order.le_refl p)) (order.le_or_lt p q)

-- ---- products that are whole

-- a number that divides the size of a whole number
quotient : (n : ℕ) (z : ℤ) → n ∣ nat_abs z → z ≡ pos n *ℤ int_div z (pos n)
quotient n (pos a) h = ap pos (sym (mul-div_cancel' n h))
quotient n (negsuc a) h =
    sym (mul_neg (pos n) (pos (suc a / n)) ∙ ap (λ k. neg_ℤ (pos k)) (mul-div_cancel' n h))

-- a number that is whole is its numerator
num_is : (p : ℚ) (z : ℤ) → p ≡ whole z → whole p.num ≡ p
unfolding whole
num_is p z e = subst (λ t. whole t.num ≡ t) (sym e) refl

-- the product of a fraction and a number
frac_times : (m n : ℕ) (q : ℚ) → 0 < n → frac (pos m) n *ℚ q ≡ frac (pos m *ℤ q.num) (n * q.den)
frac_times m n q h =
    ap (λ t. frac (pos m) n *ℚ t) (sym (frac-self q)) ∙ frac-mul (pos m) q.num n q.den h (den_pos q)

-- the product of a fraction and a number, if it is whole
pub cross_of_whole : (m n : ℕ) (q : ℚ) (z : ℤ) → 0 < n → frac (pos m) n *ℚ q ≡ whole z → m * nat_abs q.num ≡ nat_abs z * (n * q.den)
cross_of_whole m n q z h e =
    let cross : (pos m *ℤ q.num) *ℤ pos 1 ≡ z *ℤ pos (n * q.den) = cross_from_same (pos m *ℤ q.num) z (n * q.den) 1 (mul-pos h (den_pos q)) (omega arith) (sym (frac_times m n q h) ∙ e ∙ whole-frac z) in
    sym (abs_mul (pos m) q.num) ∙ ap nat_abs (by_one (pos m *ℤ q.num) ∙ cross) ∙ abs_mul z (pos (n * q.den))
  where
    by_one : (x : ℤ) → x ≡ x *ℤ pos 1
    by_one x = omega linear

-- it is whole where the denominator divides the one, and the other divides the numerator
whole_value : (m n : ℕ) (q : ℚ) → 0 < n → q.den ∣ m → n ∣ nat_abs q.num → frac (pos m) n *ℚ q ≡ whole (pos (m / q.den) *ℤ int_div q.num (pos n))
unfolding whole
whole_value m n q h p d =
    let u : ℕ = m / q.den in
    let v : ℤ = int_div q.num (pos n) in
    frac_times m n q h ∙ frac_is (pos m *ℤ q.num) (n * q.den) (whole (pos u *ℤ v)) (mul-pos h (den_pos q)) (ap₂ (λ s t. (pos s *ℤ t) *ℤ pos 1) (sym (mul-div_cancel' q.den p)) (quotient n q.num d) ∙ turned (pos q.den) (pos u) (pos n) v)
  where
    turned : (d u n v : ℤ) → ((d *ℤ u) *ℤ (n *ℤ v)) *ℤ pos 1 ≡ (u *ℤ v) *ℤ (n *ℤ d)
    turned d u n v = simp expand (omega linear)

-- the common denominator is above 0
pub common_denominator_pos : (a : List ℚ) → 0 < common_denominator a
common_denominator_pos [] = omega arith
common_denominator_pos (q ∷ a) = lcm_pos q.den (common_denominator a) (den_pos q) (common_denominator_pos a)

-- one is above 0
one_above : whole (pos 0) <ℚ whole (pos 1)
unfolding whole
one_above = record { lt = omega linear }

-- the scale is above 0
over_or_one_pos : (m n : ℕ) → 0 < m → whole (pos 0) <ℚ over_or_one m n
over_or_one_pos m zero h = one_above
over_or_one_pos m (suc n) h =
    subst (λ t. t <ℚ frac (pos m) (suc n)) (sym (whole-frac (pos 0))) (order.lt_frac (pos 0) (pos m) 1 (suc n) (omega arith) (omega arith) (above m n h))
  where
    above : (m n : ℕ) → 0 < m → (pos 0 *ℤ pos (suc n)) <ℤ (pos m *ℤ pos 1)
    above m n h = omega linear

pub scale_pos : (a : List ℚ) → whole (pos 0) <ℚ scale a
scale_pos a = over_or_one_pos (common_denominator a) (common_numerator a) (common_denominator_pos a)

-- ---- the scale makes the coefficients whole

-- where 0 divides the numerator the number is 0
pub zero_from_dvd : (q : ℚ) → 0 ∣ nat_abs q.num → q ≡ whole (pos 0)
zero_from_dvd q h =
    zero_from_num q (none q.num (sym (mul-div_cancel' 0 h) ∙ zero-mul (nat_abs q.num / 0)))
  where
    none : (z : ℤ) → nat_abs z ≡ 0 → z ≡ pos 0
    none z e = omega (linear, e)

-- the number of a common multiple over a common divisor makes a coefficient whole
pub whole_product : (m n : ℕ) (q : ℚ) → q.den ∣ m → n ∣ nat_abs q.num → whole (over_or_one m n *ℚ q).num ≡ over_or_one m n *ℚ q
whole_product m zero q p d =
    num_is (whole (pos 1) *ℚ q) (pos 0) (ring.mul_comm (whole (pos 1)) q ∙ ring.mul_one q ∙ zero_from_dvd q d)
whole_product m (suc n) q p d =
    num_is (frac (pos m) (suc n) *ℚ q) (pos (m / q.den) *ℤ int_div q.num (pos (suc n))) (whole_value m (suc n) q (omega arith) p d)

-- and all of them
whole_products : (m n : ℕ) (a : List ℚ) → common_denominator a ∣ m → n ∣ common_numerator a → map whole (map (λ q. (over_or_one m n *ℚ q).num) a) ≡ map (λ q. over_or_one m n *ℚ q) a
whole_products m n [] p d = refl
whole_products m n (q ∷ a) p d =
    ap₂ ◌∷◌ (whole_product m n q (dvd_trans _ (dvd_lcm_left q.den (common_denominator a)) p) (dvd_trans _ d (gcd_dvd_left (nat_abs q.num) (common_numerator a)))) (whole_products m n a (dvd_trans _ (dvd_lcm_right q.den (common_denominator a)) p) (dvd_trans _ d (gcd_dvd_right (nat_abs q.num) (common_numerator a))))

-- each coefficient times the scale is the whole coefficient in its place
pub scaled-whole : (a : List ℚ) → map whole (scaled a) ≡ map (λ q. scale a *ℚ q) a
scaled-whole a = whole_products (common_denominator a) (common_numerator a) a (dvd_refl _) (dvd_refl _)

-- the sum of the whole coefficients is the sum of the coefficients times the scale
pub scaled_sum : (a : List ℚ) (x : List ℤ) → whole (dot integers (scaled a) x) ≡ scale a *ℚ sum_at a x
scaled_sum a x = multiple_of_sum (scale a) a (scaled a) x (scaled-whole a)

-- ---- order and points

-- the order of the sums is that of the whole sums
pub scaled_order : (a : List ℚ) (x y : List ℤ) → (sum_at a x ≤ℚ sum_at a y) ↔ (dot integers (scaled a) x ≤ℤ dot integers (scaled a) y)
scaled_order a x y = (
  λ h. order.le_from_whole _ _ (subst₂ ◌≤ℚ◌ (sym (scaled_sum a x)) (sym (scaled_sum a y)) (times_le (scale a) _ _ (scale_pos a) h)),
  λ h. le_of_times_le (scale a) _ _ (scale_pos a) (subst₂ ◌≤ℚ◌ (scaled_sum a x) (scaled_sum a y) (order.whole_le _ _ h)),
)

-- a lower side
above_low : (a : List ℚ) (x : List ℤ) (l : ℚ) → (l ≤ℚ sum_at a x) ↔ (ceil (scale a *ℚ l) ≤ℤ dot integers (scaled a) x)
above_low a x l = (
  λ h. ceil_le (dot integers (scaled a) x) (scale a *ℚ l) (subst (λ t. (scale a *ℚ l) ≤ℚ t) (sym (scaled_sum a x)) (times_le (scale a) _ _ (scale_pos a) h)),
  λ h. le_of_times_le (scale a) _ _ (scale_pos a) (subst (λ t. (scale a *ℚ l) ≤ℚ t) (scaled_sum a x) (order.le_trans _ _ _ (le_ceil (scale a *ℚ l)) (order.whole_le _ _ h))),
)

-- an upper side
below_high : (a : List ℚ) (x : List ℤ) (h : ℚ) → (sum_at a x ≤ℚ h) ↔ (dot integers (scaled a) x ≤ℤ floor (scale a *ℚ h))
below_high a x h = (
  λ e. le_floor (dot integers (scaled a) x) (scale a *ℚ h) (subst (λ t. t ≤ℚ (scale a *ℚ h)) (sym (scaled_sum a x)) (times_le (scale a) _ _ (scale_pos a) e)),
  λ e. le_of_times_le (scale a) _ _ (scale_pos a) (subst (λ t. t ≤ℚ (scale a *ℚ h)) (scaled_sum a x) (order.le_trans _ _ _ (order.whole_le _ _ e) (floor_le (scale a *ℚ h)))),
)

-- a side that may be absent
low_side : (a : List ℚ) (x : List ℤ) (low : Option ℚ) → IfSome low (λ l. l ≤ℚ sum_at a x) ↔ IfSome (option_map (λ l. ceil (scale a *ℚ l)) low) (λ l. l ≤ℤ dot integers (scaled a) x)
low_side a x None = (λ h. h, λ h. h)
low_side a x (Some l) = above_low a x l

-- the other
high_side : (a : List ℚ) (x : List ℤ) (high : Option ℚ) → IfSome high (λ h. sum_at a x ≤ℚ h) ↔ IfSome (option_map (λ h. floor (scale a *ℚ h)) high) (λ h. dot integers (scaled a) x ≤ℤ h)
high_side a x None = (λ h. h, λ h. h)
high_side a x (Some h) = below_high a x h

-- whole numbers meet the row exactly where they meet its integer row
pub points_kept : (row : FractionRow) (x : List ℤ) → MeetsFractionRow row x ↔ MeetsRow (integer_row row) x
points_kept row x =
    let low = low_side row.factors x row.low in
    let high = high_side row.factors x row.high in
    (λ h. (low.0 h.0, high.0 h.1), λ h. (low.1 h.0, high.1 h.1))

-- ---- the whole coefficients have no common divisor but 1

-- four factors in another order
turned : (c w n d : ℕ) → (c * w) * (n * d) ≡ (c * n) * (w * d)
turned c w n d = ap nat_abs (same (pos c) (pos w) (pos n) (pos d))
  where
    same : (c w n d : ℤ) → (c *ℤ w) *ℤ (n *ℤ d) ≡ (c *ℤ n) *ℤ (w *ℤ d)
    same c w n d = simp expand (omega linear)

-- a coefficient N/d times m/n is a multiple of c in size: then d divides the lowered m
den_dvd_quotient : (m n c w N d : ℕ) → 0 < m → gcd N d ≡ 1 → m * N ≡ (c * w) * (n * d) → d ∣ m / gcd (c * n) m
den_dvd_quotient m n c w N d some lowest e =
    let h = gcd (c * n) m in
    let h_some : 0 < h = gcd_pos_right (c * n) m some in
    let p : ℕ = c * n / h in
    let q : ℕ = m / h in
    let lowered : h * (q * N) ≡ h * (p * (w * d)) = sym (mul_assoc h q N) ∙ ap (λ k. k * N) (gcd-mul-div_right (c * n) m) ∙ e ∙ turned c w n d ∙ ap (λ k. k * (w * d)) (sym (gcd-mul-div_left (c * n) m)) ∙ mul_assoc h p (w * d) in
    let is : q * N ≡ p * (w * d) = eq_of_mul-eq-mul_left h h_some _ _ lowered in
    dvd_from_product d N q (gcd_comm d N ∙ lowest) (subst (λ k. d ∣ k) (mul_assoc p w d ∙ sym is ∙ mul_comm q N) (dvd-mul_left d (p * w)))

-- and where c*n and m have no common divisor but 1, c*n divides N
dvd_num : (m n c w N d : ℕ) → gcd (c * n) m ≡ 1 → m * N ≡ (c * w) * (n * d) → c * n ∣ N
dvd_num m n c w N d apart e =
    dvd_from_product (c * n) m N apart (subst (λ k. c * n ∣ k) (sym (e ∙ turned c w n d)) (dvd-mul_right (c * n) (w * d)))

-- the whole value of a coefficient, of which c divides the size
product_is : (m n c : ℕ) (q : ℚ) → q.den ∣ m → suc n ∣ nat_abs q.num → c ∣ nat_abs (frac (pos m) (suc n) *ℚ q).num → m * nat_abs q.num ≡ (c * (nat_abs (frac (pos m) (suc n) *ℚ q).num / c)) * (suc n * q.den)
product_is m n c q p d h =
    cross_of_whole m (suc n) q (frac (pos m) (suc n) *ℚ q).num (omega arith) (sym (whole_product m (suc n) q p d)) ∙ ap (λ k. k * (suc n * q.den)) (sym (mul-div_cancel' c h))

-- the same as `den_dvd_quotient` of all coefficients
dens_dvd_quotient : (m n c : ℕ) (a : List ℚ) → 0 < m → common_denominator a ∣ m → suc n ∣ common_numerator a → c ∣ common_divisor (map (λ q. (frac (pos m) (suc n) *ℚ q).num) a) → common_denominator a ∣ m / gcd (c * suc n) m
dens_dvd_quotient m n c [] some p d h = one-dvd (m / gcd (c * suc n) m)
dens_dvd_quotient m n c (q ∷ a) some p d h =
    let rest = map (λ q. (frac (pos m) (suc n) *ℚ q).num) a in
    let z = (frac (pos m) (suc n) *ℚ q).num in
    let first = product_is m n c q (dvd_trans _ (dvd_lcm_left q.den (common_denominator a)) p) (dvd_trans _ d (gcd_dvd_left (nat_abs q.num) (common_numerator a))) (dvd_trans _ h (gcd_dvd_left (nat_abs z) (common_divisor rest))) in
    lcm_dvd q.den (common_denominator a) _ (common_denominator_pos a) (den_dvd_quotient m (suc n) c _ (nat_abs q.num) q.den some (terms_lowest q) first) (dens_dvd_quotient m n c a some (dvd_trans _ (dvd_lcm_right q.den (common_denominator a)) p) (dvd_trans _ d (gcd_dvd_right (nat_abs q.num) (common_numerator a))) (dvd_trans _ h (gcd_dvd_right (nat_abs z) (common_divisor rest))))

-- the same as `dvd_num` of all coefficients
dvd_nums : (m n c : ℕ) (a : List ℚ) → gcd (c * suc n) m ≡ 1 → common_denominator a ∣ m → suc n ∣ common_numerator a → c ∣ common_divisor (map (λ q. (frac (pos m) (suc n) *ℚ q).num) a) → c * suc n ∣ common_numerator a
dvd_nums m n c [] apart p d h = dvd-zero (c * suc n)
dvd_nums m n c (q ∷ a) apart p d h =
    let rest = map (λ q. (frac (pos m) (suc n) *ℚ q).num) a in
    let z = (frac (pos m) (suc n) *ℚ q).num in
    let first = product_is m n c q (dvd_trans _ (dvd_lcm_left q.den (common_denominator a)) p) (dvd_trans _ d (gcd_dvd_left (nat_abs q.num) (common_numerator a))) (dvd_trans _ h (gcd_dvd_left (nat_abs z) (common_divisor rest))) in
    dvd_gcd (nat_abs q.num) (common_numerator a) _ (dvd_num m (suc n) c _ (nat_abs q.num) q.den apart first) (dvd_nums m n c a apart (dvd_trans _ (dvd_lcm_right q.den (common_denominator a)) p) (dvd_trans _ d (gcd_dvd_right (nat_abs q.num) (common_numerator a))) (dvd_trans _ h (gcd_dvd_right (nat_abs z) (common_divisor rest))))

-- a number whose quotient it divides is divided by 1
one_from_quotient : (h m : ℕ) → 0 < m → h * (m / h) ≡ m → m ∣ m / h → h ≡ 1
one_from_quotient h m some e d =
    let same : m / h ≡ m = dvd_antisymm (subst (λ k. m / h ∣ k) e (dvd-mul_left (m / h) h)) d in
    eq_of_mul-eq-mul_right m some h 1 (ap (λ k. h * k) (sym same) ∙ e ∙ sym (one-mul m))

-- a factor that divides out is 1
one_from_multiple : (c n : ℕ) → c * suc n ∣ suc n → c ≡ 1
one_from_multiple c n d =
    eq_of_mul-eq-mul_right (suc n) (omega arith) c 1 (dvd_antisymm d (dvd-mul_left (suc n) c) ∙ sym (one-mul (suc n)))

-- the whole coefficients have no common divisor but 1, where a numerator is not 0
primitive_over : (m n : ℕ) (a : List ℚ) → common_denominator a ≡ m → common_numerator a ≡ suc n → common_divisor (map (λ q. (over_or_one m (suc n) *ℚ q).num) a) ≡ 1
primitive_over m n a e f =
    let c = common_divisor (map (λ q. (frac (pos m) (suc n) *ℚ q).num) a) in
    let some : 0 < m = subst (λ k. 0 < k) e (common_denominator_pos a) in
    let p : common_denominator a ∣ m = subst (λ k. common_denominator a ∣ k) e (dvd_refl _) in
    let d : suc n ∣ common_numerator a = subst (λ k. suc n ∣ k) (sym f) (dvd_refl _) in
    let h : m ∣ m / gcd (c * suc n) m = subst (λ k. k ∣ m / gcd (c * suc n) m) e (dens_dvd_quotient m n c a some p d (dvd_refl c)) in
    let apart : gcd (c * suc n) m ≡ 1 = one_from_quotient (gcd (c * suc n) m) m some (gcd-mul-div_right (c * suc n) m) h in
    one_from_multiple c n (subst (λ k. c * suc n ∣ k) f (dvd_nums m n c a apart p d (dvd_refl c)))

-- the same of the scale
primitive_scaled : (a : List ℚ) → common_numerator a ≢ 0 → common_divisor (scaled a) ≡ 1
primitive_scaled a = by_numerator (common_numerator a) refl
  where
    by_numerator : (n : ℕ) → common_numerator a ≡ n → n ≢ 0 → common_divisor (map (λ q. (over_or_one (common_denominator a) n *ℚ q).num) a) ≡ 1
    by_numerator zero e ne = absurd (ne refl)
    by_numerator (suc n) e ne = primitive_over (common_denominator a) n a refl e

-- the common divisor of the numerators divides the numerator of each coefficient
pub common_numerator_dvd : (a : List ℚ) (k : ℕ) (q : ℚ) → k < length a → slice_index_or a k q ≡ q → common_numerator a ∣ nat_abs q.num
common_numerator_dvd [] k q h e = absurd (omega arith)
common_numerator_dvd (p ∷ a) zero q h e =
    subst (λ (t : ℚ). common_numerator (p ∷ a) ∣ nat_abs t.num) e (gcd_dvd_left (nat_abs p.num) (common_numerator a))
common_numerator_dvd (p ∷ a) (suc k) q h e =
    dvd_trans _ (gcd_dvd_right (nat_abs p.num) (common_numerator a)) (common_numerator_dvd a k q (omega arith) e)

-- the whole coefficients have no common divisor but 1, where some coefficient is not 0
pub scaled-primitive : (a : List ℚ) → Any (λ q. q ≢ whole (pos 0)) a → common_divisor (scaled a) ≡ 1
scaled-primitive a (k, q, h, e, ne) =
    primitive_scaled a (λ z. ne (zero_from_dvd q (subst (λ n. n ∣ nat_abs q.num) z (common_numerator_dvd a k q h e))))

-- ---- no other positive number does the same

-- the common divisor of multiples
common_divisor-times : (k : ℤ) (c : List ℤ) → common_divisor (map (λ z. k *ℤ z) c) ≡ nat_abs k * common_divisor c
common_divisor-times k [] = sym (mul-zero (nat_abs k))
common_divisor-times k (z ∷ c) =
    ap₂ gcd (abs_mul k z) (common_divisor-times k c) ∙ gcd-mul_left (nat_abs k) (nat_abs z) (common_divisor c)

-- the numerators of whole numbers
nums_of_whole : (c : List ℤ) → map (λ (q : ℚ). q.num) (map whole c) ≡ c
unfolding whole
nums_of_whole [] = refl
nums_of_whole (z ∷ c) = ap (λ l. z ∷ l) (nums_of_whole c)

-- multiples of whole numbers are whole
whole-times : (k : ℤ) (c : List ℤ) → map whole (map (λ z. k *ℤ z) c) ≡ map (λ q. whole k *ℚ q) (map whole c)
whole-times k [] = refl
whole-times k (z ∷ c) = ap₂ ◌∷◌ (ring.whole_mul k z) (whole-times k c)

-- two factors one after the other
times_twice : (r s k l : ℚ) (a : List ℚ) → r *ℚ k ≡ s *ℚ l → map (λ q. r *ℚ q) (map (λ q. k *ℚ q) a) ≡ map (λ q. s *ℚ q) (map (λ q. l *ℚ q) a)
times_twice r s k l [] e = refl
times_twice r s k l (q ∷ a) e =
    ap₂ ◌∷◌ (sym (ring.mul_assoc r k q) ∙ ap (λ t. t *ℚ q) e ∙ ring.mul_assoc s l q) (times_twice r s k l a e)

-- two whole multiples of the same coefficients
same_multiples : (m n : ℤ) (k l : ℚ) (a : List ℚ) (c d : List ℤ) → whole m *ℚ k ≡ whole n *ℚ l → map whole c ≡ map (λ q. k *ℚ q) a → map whole d ≡ map (λ q. l *ℚ q) a → nat_abs m * common_divisor c ≡ nat_abs n * common_divisor d
same_multiples m n k l a c d e p q =
    let wholes : map whole (map (λ z. m *ℤ z) c) ≡ map whole (map (λ z. n *ℤ z) d) = whole-times m c ∙ ap (map (λ t. whole m *ℚ t)) p ∙ times_twice (whole m) (whole n) k l a e ∙ sym (ap (map (λ t. whole n *ℚ t)) q) ∙ sym (whole-times n d) in
    let lists : map (λ z. m *ℤ z) c ≡ map (λ z. n *ℤ z) d = sym (nums_of_whole _) ∙ ap (map (λ (t : ℚ). t.num)) wholes ∙ nums_of_whole _ in
    sym (common_divisor-times m c) ∙ ap common_divisor lists ∙ common_divisor-times n d

-- a number times its denominator
den_times : (q : ℚ) → whole (pos q.den) *ℚ q ≡ whole q.num
unfolding whole
den_times q =
    ap₂ ◌*ℚ◌ (whole-frac (pos q.den)) (sym (frac-self q)) ∙ frac-mul (pos q.den) q.num 1 q.den (omega arith) (den_pos q) ∙ frac_is (pos q.den *ℤ q.num) (1 * q.den) (whole q.num) (mul-pos (omega arith) (den_pos q)) (sides (pos q.den) q.num)
  where
    sides : (d n : ℤ) → (d *ℤ n) *ℤ pos 1 ≡ n *ℤ (pos 1 *ℤ d)
    sides d n = simp expand (omega linear)

-- two numbers have a common multiple
balanced : (k l : ℚ) → whole (l.num *ℤ pos k.den) *ℚ k ≡ whole (k.num *ℤ pos l.den) *ℚ l
balanced k l =
    one_side l.num k ∙ ring.mul_comm (whole l.num) (whole k.num) ∙ sym (one_side k.num l)
  where
    one_side : (n : ℤ) (q : ℚ) → whole (n *ℤ pos q.den) *ℚ q ≡ whole n *ℚ whole q.num
    one_side n q =
        ap (λ t. t *ℚ q) (ring.whole_mul n (pos q.den)) ∙ ring.mul_assoc (whole n) (whole (pos q.den)) q ∙ ap (λ t. whole n *ℚ t) (den_times q)

-- positive numbers of one size
same_size : (x y : ℤ) → pos 0 <ℤ x → pos 0 <ℤ y → nat_abs x ≡ nat_abs y → x ≡ y
same_size x y p q e = omega (linear, e)

-- where the common divisor of the numerators is 0, so is that of the whole coefficients
zero_scaled : (a : List ℚ) → common_numerator a ≡ 0 → common_divisor (scaled a) ≡ 0
zero_scaled a e =
    ap (λ n. common_divisor (map (λ q. (over_or_one (common_denominator a) n *ℚ q).num) a)) e ∙ kept a ∙ e
  where
    kept : (b : List ℚ) → common_divisor (map (λ q. (whole (pos 1) *ℚ q).num) b) ≡ common_numerator b
    kept [] = refl
    kept (q ∷ b) =
        ap₂ (λ (t : ℚ) n. gcd (nat_abs t.num) n) (ring.mul_comm (whole (pos 1)) q ∙ ring.mul_one q) (kept b)

-- a positive number that makes the coefficients whole with no common divisor but 1 is the scale
pub scale_unique : (k : ℚ) (a : List ℚ) (c : List ℤ) → whole (pos 0) <ℚ k → map whole c ≡ map (λ q. k *ℚ q) a → common_divisor c ≡ 1 → k ≡ scale a
scale_unique k a c some e one =
    let l = scale a in
    let left : pos 0 <ℤ (l.num *ℤ pos k.den) = positive l k (scale_pos a) in
    let right : pos 0 <ℤ (k.num *ℤ pos l.den) = positive k l some in
    let sizes : nat_abs (l.num *ℤ pos k.den) * common_divisor c ≡ nat_abs (k.num *ℤ pos l.den) * common_divisor (scaled a) = same_multiples (l.num *ℤ pos k.den) (k.num *ℤ pos l.den) k l a c (scaled a) (balanced k l) e (scaled-whole a) in
    let single : nat_abs (l.num *ℤ pos k.den) ≡ nat_abs (k.num *ℤ pos l.den) * common_divisor (scaled a) = sym (mul-one (nat_abs (l.num *ℤ pos k.den))) ∙ ap (λ n. nat_abs (l.num *ℤ pos k.den) * n) (sym one) ∙ sizes in
    let some_numerator : common_numerator a ≢ 0 = λ z. not_zero _ left (single ∙ ap (λ n. nat_abs (k.num *ℤ pos l.den) * n) (zero_scaled a z) ∙ mul-zero _) in
    let same : nat_abs (l.num *ℤ pos k.den) ≡ nat_abs (k.num *ℤ pos l.den) = single ∙ ap (λ n. nat_abs (k.num *ℤ pos l.den) * n) (primitive_scaled a some_numerator) ∙ mul-one _ in
    sym (same_from_cross l k (same_size _ _ left right same))
  where
    above : (n : ℕ) → 0 < n → pos 0 <ℤ pos n
    above n h = omega linear

    positive : (p q : ℚ) → whole (pos 0) <ℚ p → pos 0 <ℤ (p.num *ℤ pos q.den)
    positive p q h = mul_pos p.num (pos q.den) (order.num_pos p h) (above q.den (den_pos q))

    not_zero : (x : ℤ) → pos 0 <ℤ x → nat_abs x ≡ 0 → ⊥
    not_zero x h e = omega (linear, e)

-- where no coefficient is other than 0 the common divisor of the numerators is 0
pub no_numerator : (a : List ℚ) → All (λ q. q ≡ whole (pos 0)) a → common_numerator a ≡ 0
no_numerator [] h = refl
no_numerator (q ∷ a) h =
    ap₂ gcd (ap nat_abs (num_zero q (All-head (λ q. q ≡ whole (pos 0)) q a h))) (no_numerator a (All-tail (λ q. q ≡ whole (pos 0)) q a h)) ∙ gcd-zero 0

-- then the scale is 1
pub scale_of_zeros : (a : List ℚ) → All (λ q. q ≡ whole (pos 0)) a → scale a ≡ whole (pos 1)
scale_of_zeros a h = ap (over_or_one (common_denominator a)) (no_numerator a h)
