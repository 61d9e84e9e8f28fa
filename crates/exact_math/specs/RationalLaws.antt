-- The laws of the rational numbers: equality by cross products, and the operations on fractions that need not be in lowest terms.
use Rattle.std.proofs.Common.{◌≡◌, ◌≢◌, ℕ, zero, suc, ◌*◌, ◌/◌, ◌<◌, ℤ, pos, negsuc, ◌+ℤ◌, ◌*ℤ◌, neg_ℤ, nat_abs, int_div, refl, sym, ap, ◌∙◌, subst, arith, mul_comm, mul_assoc, mul-pos}
use Rattle.exact_math.specs.Gcd.{gcd}
use Rattle.exact_math.specs.GcdLaws.{same_lowest, gcd-mul-div_left, gcd-mul-div_right, nat_abs-neg}
use Rattle.exact_math.specs.Rational.{ℚ, whole, frac, ratio, ◌+ℚ◌, neg_ℚ, ◌*ℚ◌}
pub use Rattle.exact_math.specs.RationalCode.{same_terms, den_pos, terms_lowest, frac-lowest, frac-self}
use Rattle.exact_math.specs.IntegerRing.{expand, linear, neg_mul}
use Rattle.exact_math.specs.IntegerOrder.{mul_cancel}

-- ---- equal numbers have equal terms

-- lowest terms with equal cross products are the same
lowest_from_cross : (m n : ℤ) (b d : ℕ) → gcd (nat_abs m) b ≡ 1 → gcd (nat_abs n) d ≡ 1 → 0 < b → 0 < d → m *ℤ pos d ≡ n *ℤ pos b → (m ≡ n) × (b ≡ d)
lowest_from_cross (pos a) (pos c) b d p q hb hd e =
    let s = same_lowest a b c d p q (ap nat_abs e) in
    (ap pos s.0, s.1)
lowest_from_cross (pos a) (negsuc c) b d p q hb hd e = absurd (omega linear)
lowest_from_cross (negsuc a) (pos c) b d p q hb hd e = absurd (omega linear)
lowest_from_cross (negsuc a) (negsuc c) b d p q hb hd e =
    let s = same_lowest (suc a) b (suc c) d p q (sym (nat_abs-neg (suc a * d)) ∙ ap nat_abs e ∙ nat_abs-neg (suc c * b)) in
    (omega (linear, s.0), s.1)

-- two fractions whose cross products are equal
pub same_from_cross : (p q : ℚ) → p.num *ℤ pos q.den ≡ q.num *ℤ pos p.den → p ≡ q
same_from_cross p q e =
    let s = lowest_from_cross p.num q.num p.den q.den (terms_lowest p) (terms_lowest q) (den_pos p) (den_pos q) e in
    same_terms p q s.0 s.1

-- ---- a fraction in lowest terms has the value of the fraction that it was made from

-- both terms divided by their greatest common divisor have the same cross product
divided : (n d : ℕ) → n / gcd n d * d ≡ n * (d / gcd n d)
divided n d =
    let g = gcd n d in
    ap (λ k. n / g * k) (sym (gcd-mul-div_right n d)) ∙ sym (mul_assoc (n / g) g (d / g)) ∙ ap (λ k. k * (d / g)) (mul_comm (n / g) g ∙ gcd-mul-div_left n d)

-- the same where the numerator has a sign
divided_ℤ : (n : ℤ) (d : ℕ) → int_div n (pos (gcd (nat_abs n) d)) *ℤ pos d ≡ n *ℤ pos (d / gcd (nat_abs n) d)
divided_ℤ (pos a) d = ap pos (divided a d)
divided_ℤ (negsuc a) d =
    neg_mul (pos (suc a / gcd (suc a) d)) (pos d) ∙ ap (λ k. neg_ℤ (pos k)) (divided (suc a) d)

-- a fraction has the value of the terms that it was made from
pub frac-cross : (n : ℤ) (d : ℕ) → 0 < d → (frac n d).num *ℤ pos d ≡ n *ℤ pos (frac n d).den
unfolding frac
frac-cross n zero some = absurd (omega arith)
frac-cross n (suc d) some = divided_ℤ n (suc d)

-- ---- identities of numerators and denominators, which are whole numbers other than 0 below

-- equal fractions that are lowered stay equal
cross_same : (x y a b c d : ℤ) (u v : ℤ) → b ≢ pos 0 → d ≢ pos 0 → x *ℤ b ≡ a *ℤ u → y *ℤ d ≡ c *ℤ v → a *ℤ d ≡ c *ℤ b → x *ℤ v ≡ y *ℤ u
cross_same x y a b c d u v nb nd p q e =
    mul_cancel d _ _ nd (mul_cancel b _ _ nb (simp expand (omega (linear, simp expand at (ap (λ t. v *ℤ d *ℤ t) p), simp expand at (ap (λ t. u *ℤ b *ℤ t) q), simp expand at (ap (λ t. u *ℤ v *ℤ t) e)))))

-- the cross product of a sum
cross_add : (x y a b c d u v : ℤ) → x *ℤ b ≡ a *ℤ u → y *ℤ d ≡ c *ℤ v → (x *ℤ v +ℤ y *ℤ u) *ℤ (b *ℤ d) ≡ (a *ℤ d +ℤ c *ℤ b) *ℤ (u *ℤ v)
cross_add x y a b c d u v p q =
    simp expand (omega (linear, simp expand at (ap (λ t. v *ℤ d *ℤ t) p), simp expand at (ap (λ t. u *ℤ b *ℤ t) q)))

-- the cross product of a product
cross_mul : (x y a b c d u v : ℤ) → x *ℤ b ≡ a *ℤ u → y *ℤ d ≡ c *ℤ v → (x *ℤ y) *ℤ (b *ℤ d) ≡ (a *ℤ c) *ℤ (u *ℤ v)
cross_mul x y a b c d u v p q =
    simp expand (omega (linear, simp expand at (ap (λ t. y *ℤ d *ℤ t) p), simp expand at (ap (λ t. a *ℤ u *ℤ t) q)))

-- fractions that are equal when lowered were equal
cross_back : (x a b c d u : ℤ) → u ≢ pos 0 → x *ℤ b ≡ a *ℤ u → x *ℤ d ≡ c *ℤ u → a *ℤ d ≡ c *ℤ b
cross_back x a b c d u nu p q =
    mul_cancel u _ _ nu (simp expand (omega (linear, simp expand at (ap (λ t. d *ℤ t) p), simp expand at (ap (λ t. b *ℤ t) q))))

-- a positive number is not 0
pub pos-ne-zero : (n : ℕ) → 0 < n → pos n ≢ pos 0
pos-ne-zero n h e = omega linear

-- ---- fractions that need not be in lowest terms

-- two fractions with equal cross products are equal
pub same_frac : (a c : ℤ) (b d : ℕ) → 0 < b → 0 < d → a *ℤ pos d ≡ c *ℤ pos b → frac a b ≡ frac c d
same_frac a c b d hb hd e =
    let p = frac a b in
    let q = frac c d in
    same_from_cross p q (cross_same p.num q.num a (pos b) c (pos d) (pos p.den) (pos q.den) (pos-ne-zero b hb) (pos-ne-zero d hd) (frac-cross a b hb) (frac-cross c d hd) e)

-- and the other way round
pub cross_from_same : (a c : ℤ) (b d : ℕ) → 0 < b → 0 < d → frac a b ≡ frac c d → a *ℤ pos d ≡ c *ℤ pos b
cross_from_same a c b d hb hd e =
    let p = frac a b in
    let q = frac c d in
    cross_back p.num a (pos b) c (pos d) (pos p.den) (pos-ne-zero p.den (den_pos p)) (frac-cross a b hb) (subst (λ r. r.num *ℤ pos d ≡ c *ℤ pos r.den) (sym e) (frac-cross c d hd))

-- a fraction that is made equals a number with the same cross product
pub frac_is : (n : ℤ) (d : ℕ) (q : ℚ) → 0 < d → n *ℤ pos q.den ≡ q.num *ℤ pos d → frac n d ≡ q
frac_is n d q h e = same_frac n q.num d q.den h (den_pos q) e ∙ frac-self q

-- a whole number is a fraction with the denominator 1
pub whole-frac : (z : ℤ) → whole z ≡ frac z 1
unfolding whole
whole-frac z = sym (frac_is z 1 (whole z) (omega arith) refl)

-- a whole number over 1
pub ratio-one : (n : ℤ) → ratio n (pos 1) ≡ whole n
unfolding ratio
ratio-one n = sym (whole-frac n)

-- the numerator of 0 is 0
pub num_zero : (q : ℚ) → q ≡ whole (pos 0) → q.num ≡ pos 0
unfolding whole
num_zero q e = ap (λ r. r.num) e

-- a number with the numerator 0 is 0
pub zero_from_num : (q : ℚ) → q.num ≡ pos 0 → q ≡ whole (pos 0)
unfolding whole
zero_from_num q e = same_from_cross q (whole (pos 0)) (omega (linear, e))

-- what holds of each fraction holds of each number
pub by_frac : (P : ℚ → Type 0) → ((n : ℤ) (d : ℕ) → 0 < d → P (frac n d)) → (q : ℚ) → P q
by_frac P f q = subst P (frac-self q) (f q.num q.den (den_pos q))

-- the sum of two fractions
pub frac-add : (a c : ℤ) (b d : ℕ) → 0 < b → 0 < d → frac a b +ℚ frac c d ≡ frac (a *ℤ pos d +ℤ c *ℤ pos b) (b * d)
unfolding ◌+ℚ◌
frac-add a c b d hb hd =
    let p = frac a b in
    let q = frac c d in
    same_frac _ _ (p.den * q.den) (b * d) (mul-pos (den_pos p) (den_pos q)) (mul-pos hb hd) (cross_add p.num q.num a (pos b) c (pos d) (pos p.den) (pos q.den) (frac-cross a b hb) (frac-cross c d hd))

-- the product of two fractions
pub frac-mul : (a c : ℤ) (b d : ℕ) → 0 < b → 0 < d → frac a b *ℚ frac c d ≡ frac (a *ℤ c) (b * d)
unfolding ◌*ℚ◌
frac-mul a c b d hb hd =
    let p = frac a b in
    let q = frac c d in
    same_frac _ _ (p.den * q.den) (b * d) (mul-pos (den_pos p) (den_pos q)) (mul-pos hb hd) (cross_mul p.num q.num a (pos b) c (pos d) (pos p.den) (pos q.den) (frac-cross a b hb) (frac-cross c d hd))

-- a fraction with its sign changed
pub frac-neg : (a : ℤ) (b : ℕ) → 0 < b → neg_ℚ (frac a b) ≡ frac (neg_ℤ a) b
unfolding neg_ℚ
frac-neg a b hb =
    let p = frac a b in
    sym (frac_is (neg_ℤ a) b (neg_ℚ p) hb (neg_mul a (pos p.den) ∙ ap neg_ℤ (sym (frac-cross a b hb)) ∙ sym (neg_mul p.num (pos b))))
