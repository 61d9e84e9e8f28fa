-- The laws of the least common multiple, and which whole multiples of a rational number are whole.
use Rattle.std.proofs.Common.{◌≡◌, ℕ, zero, suc, ◌*◌, ◌/◌, ◌<◌, ℤ, pos, ◌*ℤ◌, nat_abs, sym, ap, ap₂, ◌∙◌, subst, arith, mul_comm, mul_assoc, mul-pos, mul-zero}
use Rattle.std.specs.Int.{◌∣◌}
use Rattle.std.proofs.Math.Nat.{dvd-mul_left, dvd-mul_right, dvd_of_mul-dvd-mul_left, mul-dvd-mul_right, mul-div_cancel'}
use Rattle.std.proofs.lemmas.Int.{unsigned_abs-mul}
use Rattle.exact_math.specs.Gcd.{gcd, lcm}
use Rattle.exact_math.specs.GcdLaws.{gcd-mul-div_left, gcd-mul-div_right, gcd_pos_right, gcd-quotients, gcd_comm, dvd_from_product}
use Rattle.exact_math.specs.Rational.{ℚ, whole, frac, ◌*ℚ◌, IsWhole}
use Rattle.exact_math.specs.IntegerRing.{expand, linear}
use Rattle.exact_math.specs.RationalLaws.{den_pos, terms_lowest, frac-self, frac-mul, whole-frac, frac_is, frac-cross}

-- the second number divides it
pub dvd_lcm_right : (a b : ℕ) → b ∣ lcm a b
unfolding lcm
dvd_lcm_right a b = dvd-mul_left b (a / gcd a b)

-- the first number divides it
pub dvd_lcm_left : (a b : ℕ) → a ∣ lcm a b
unfolding lcm
dvd_lcm_left a b =
    let g = gcd a b in
    let is : a * (b / g) ≡ a / g * b = ap (λ n. n * (b / g)) (sym (gcd-mul-div_left a b) ∙ mul_comm g (a / g)) ∙ mul_assoc (a / g) g (b / g) ∙ ap (λ n. a / g * n) (gcd-mul-div_right a b) in
    subst (λ n. a ∣ n) is (dvd-mul_right a (b / g))

-- it is the least
pub lcm_dvd : (a b m : ℕ) → 0 < b → a ∣ m → b ∣ m → lcm a b ∣ m
unfolding lcm
lcm_dvd a b m some p q =
    let g = gcd a b in
    let k : ℕ = m / b in
    let is : b * k ≡ m = mul-div_cancel' b q in
    let g_some : 0 < g = gcd_pos_right a b some in
    let split : g * (b / g * k) ≡ m = sym (mul_assoc g (b / g) k) ∙ ap (λ n. n * k) (gcd-mul-div_right a b) ∙ is in
    let inner : a / g ∣ b / g * k = dvd_of_mul-dvd-mul_left (a / g) g_some (subst (λ n. n ∣ g * (b / g * k)) (sym (gcd-mul-div_left a b)) (subst (λ n. a ∣ n) (sym split) p)) in
    let in_k : a / g ∣ k = dvd_from_product (a / g) (b / g) k (gcd-quotients a b g_some) inner in
    subst (λ n. a / g * b ∣ n) (mul_comm k b ∙ is) (mul-dvd-mul_right (a / g) in_k b)

-- it is above 0 where both numbers are
pub lcm_pos : (a b : ℕ) → 0 < a → 0 < b → 0 < lcm a b
unfolding lcm
lcm_pos a b ha hb =
    let g = gcd a b in
    mul-pos (positive_factor g (a / g) (subst (λ n. 0 < n) (sym (gcd-mul-div_left a b)) ha)) hb
  where
    positive_factor : (g k : ℕ) → 0 < g * k → 0 < k
    positive_factor g zero h = absurd (omega (arith, mul-zero g))
    positive_factor g (suc k) h = omega arith

-- ---- whole multiples

-- a whole multiple as a fraction
multiple_is : (m : ℕ) (q : ℚ) → whole (pos m) *ℚ q ≡ frac (pos m *ℤ q.num) q.den
multiple_is m q =
    ap₂ ◌*ℚ◌ (whole-frac (pos m)) (sym (frac-self q)) ∙ frac-mul (pos m) q.num 1 q.den (omega arith) (den_pos q) ∙ ap (frac (pos m *ℤ q.num)) (one_times q.den)
  where
    one_times : (n : ℕ) → 1 * n ≡ n
    one_times n = omega arith

-- a multiple by a number that the denominator divides is whole
pub whole_multiple : (m : ℕ) (q : ℚ) → q.den ∣ m → IsWhole (whole (pos m) *ℚ q)
unfolding whole
whole_multiple m q h =
    let k : ℕ = m / q.den in
    let is : q.den * k ≡ m = mul-div_cancel' q.den h in
    let value : frac (pos m *ℤ q.num) q.den ≡ whole (pos k *ℤ q.num) = frac_is (pos m *ℤ q.num) q.den (whole (pos k *ℤ q.num)) (den_pos q) (subst (λ n. (pos n *ℤ q.num) *ℤ pos 1 ≡ (pos k *ℤ q.num) *ℤ pos q.den) is (turned q.num (pos q.den) (pos k))) in
    ap (λ r. r.den) (multiple_is m q ∙ value)
  where
    turned : (n d k : ℤ) → ((d *ℤ k) *ℤ n) *ℤ pos 1 ≡ (k *ℤ n) *ℤ d
    turned n d k = simp expand (omega linear)

-- and no other is
pub dvd_from_whole_multiple : (m : ℕ) (q : ℚ) → IsWhole (whole (pos m) *ℚ q) → q.den ∣ m
dvd_from_whole_multiple m q h =
    let r = frac (pos m *ℤ q.num) q.den in
    let one : r.den ≡ 1 = ap (λ x. x.den) (sym (multiple_is m q)) ∙ h in
    let cross : r.num *ℤ pos q.den ≡ (pos m *ℤ q.num) *ℤ pos 1 = frac-cross (pos m *ℤ q.num) q.den (den_pos q) ∙ ap (λ d. (pos m *ℤ q.num) *ℤ pos d) one in
    let sizes : nat_abs r.num * q.den ≡ nat_abs q.num * m = sym (unsigned_abs-mul r.num (pos q.den)) ∙ ap nat_abs (cross ∙ last (pos m) q.num) ∙ unsigned_abs-mul q.num (pos m) in
    dvd_from_product q.den (nat_abs q.num) m (gcd_comm q.den (nat_abs q.num) ∙ terms_lowest q) (subst (λ n. q.den ∣ n) sizes (dvd-mul_left q.den (nat_abs r.num)))
  where
    last : (m n : ℤ) → (m *ℤ n) *ℤ pos 1 ≡ n *ℤ m
    last m n = simp expand (omega linear)
