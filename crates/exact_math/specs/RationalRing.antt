-- The rational numbers form a commutative ring, in which each number other than 0 has an inverse.
use Rattle.std.proofs.Common.{◌≡◌, ◌≢◌, ℕ, zero, suc, ◌*◌, ◌<◌, ℤ, pos, negsuc, ◌+ℤ◌, ◌*ℤ◌, neg_ℤ, refl, sym, ap, ap₂, ◌∙◌, arith, mul-pos}
use Rattle.exact_math.specs.Ring.{Ring}
use Rattle.exact_math.specs.Rational.{ℚ, whole, frac, ratio, ◌+ℚ◌, neg_ℚ, ◌*ℚ◌, inv_ℚ, ◌/ℚ◌}
use Rattle.exact_math.specs.IntegerRing.{expand, linear}
use Rattle.exact_math.specs.RationalLaws.{num_zero, by_frac, same_frac, frac-add, frac-mul, frac-neg, frac-self, whole-frac, den_pos, zero_from_num}

-- ---- the identities of whole numbers behind the laws

-- sums bracketed anew
assoc_cross : (a b c d e f : ℤ) → ((a *ℤ d +ℤ c *ℤ b) *ℤ f +ℤ e *ℤ (b *ℤ d)) *ℤ (b *ℤ (d *ℤ f)) ≡ (a *ℤ (d *ℤ f) +ℤ (c *ℤ f +ℤ e *ℤ d) *ℤ b) *ℤ ((b *ℤ d) *ℤ f)
assoc_cross a b c d e f = simp expand (omega linear)

-- summands that change places
comm_cross : (a b c d : ℤ) → (a *ℤ d +ℤ c *ℤ b) *ℤ (d *ℤ b) ≡ (c *ℤ b +ℤ a *ℤ d) *ℤ (b *ℤ d)
comm_cross a b c d = simp expand (omega linear)

-- zero as a summand
zero_cross : (a b : ℤ) → (a *ℤ pos 1 +ℤ pos 0 *ℤ b) *ℤ b ≡ a *ℤ (b *ℤ pos 1)
zero_cross a b = simp expand (omega linear)

-- a number and its negation
neg_cross : (a b : ℤ) → (a *ℤ b +ℤ neg_ℤ a *ℤ b) *ℤ pos 1 ≡ pos 0 *ℤ (b *ℤ b)
neg_cross a b = simp expand (omega linear)

-- products bracketed anew
mul_assoc_cross : (a b c d e f : ℤ) → ((a *ℤ c) *ℤ e) *ℤ (b *ℤ (d *ℤ f)) ≡ (a *ℤ (c *ℤ e)) *ℤ ((b *ℤ d) *ℤ f)
mul_assoc_cross a b c d e f = simp expand (omega linear)

-- factors that change places
mul_comm_cross : (a b c d : ℤ) → (a *ℤ c) *ℤ (d *ℤ b) ≡ (c *ℤ a) *ℤ (b *ℤ d)
mul_comm_cross a b c d = simp expand (omega linear)

-- one as a factor
one_cross : (a b : ℤ) → (a *ℤ pos 1) *ℤ b ≡ a *ℤ (b *ℤ pos 1)
one_cross a b = simp expand (omega linear)

-- a factor that goes into a sum
mul_add_cross : (a b c d e f : ℤ) → (a *ℤ (c *ℤ f +ℤ e *ℤ d)) *ℤ ((b *ℤ d) *ℤ (b *ℤ f)) ≡ ((a *ℤ c) *ℤ (b *ℤ f) +ℤ (a *ℤ e) *ℤ (b *ℤ d)) *ℤ (b *ℤ (d *ℤ f))
mul_add_cross a b c d e f = simp expand (omega linear)

-- a fraction and the fraction turned over
inverse_cross : (a b : ℤ) → (a *ℤ b) *ℤ pos 1 ≡ pos 1 *ℤ (b *ℤ a)
inverse_cross a b = simp expand (omega linear)

-- the same for a negative fraction
negative_inverse_cross : (a b : ℤ) → (neg_ℤ a *ℤ neg_ℤ b) *ℤ pos 1 ≡ pos 1 *ℤ (b *ℤ a)
negative_inverse_cross a b = simp expand (omega linear)

-- a sum of whole numbers
add_cross : (m n : ℤ) → (m +ℤ n) *ℤ pos 1 ≡ (m *ℤ pos 1 +ℤ n *ℤ pos 1) *ℤ pos 1
add_cross m n = simp expand (omega linear)

-- the denominator 1 is above 0
one_pos : 0 < 1
one_pos = omega arith

-- ---- the laws

-- two summands change places
pub add_comm : (p q : ℚ) → p +ℚ q ≡ q +ℚ p
add_comm = by_frac _ (λ a b hb. by_frac _ (λ c d hd.
    frac-add a c b d hb hd ∙ same_frac _ _ (b * d) (d * b) (mul-pos hb hd) (mul-pos hd hb) (comm_cross a (pos b) c (pos d)) ∙ sym (frac-add c a d b hd hb)))

-- sums may be bracketed anew
pub add_assoc : (p q r : ℚ) → (p +ℚ q) +ℚ r ≡ p +ℚ (q +ℚ r)
add_assoc = by_frac _ (λ a b hb. by_frac _ (λ c d hd. by_frac _ (λ e f hf.
    ap (λ x. x +ℚ frac e f) (frac-add a c b d hb hd)
    ∙ frac-add _ e (b * d) f (mul-pos hb hd) hf
    ∙ same_frac _ _ ((b * d) * f) (b * (d * f)) (mul-pos (mul-pos hb hd) hf) (mul-pos hb (mul-pos hd hf)) (assoc_cross a (pos b) c (pos d) e (pos f))
    ∙ sym (ap (λ x. frac a b +ℚ x) (frac-add c e d f hd hf) ∙ frac-add a _ b (d * f) hb (mul-pos hd hf)))))

-- zero is neutral
pub add_zero : (p : ℚ) → p +ℚ whole (pos 0) ≡ p
add_zero = by_frac _ (λ a b hb.
    ap (λ x. frac a b +ℚ x) (whole-frac (pos 0)) ∙ frac-add a (pos 0) b 1 hb one_pos ∙ same_frac _ a (b * 1) b (mul-pos hb one_pos) hb (zero_cross a (pos b)))

-- a number and its negation cancel
pub add_neg : (p : ℚ) → p +ℚ neg_ℚ p ≡ whole (pos 0)
add_neg = by_frac _ (λ a b hb.
    ap (λ x. frac a b +ℚ x) (frac-neg a b hb) ∙ frac-add a (neg_ℤ a) b b hb hb ∙ same_frac _ (pos 0) (b * b) 1 (mul-pos hb hb) one_pos (neg_cross a (pos b)) ∙ sym (whole-frac (pos 0)))

-- two factors change places
pub mul_comm : (p q : ℚ) → p *ℚ q ≡ q *ℚ p
mul_comm = by_frac _ (λ a b hb. by_frac _ (λ c d hd.
    frac-mul a c b d hb hd ∙ same_frac _ _ (b * d) (d * b) (mul-pos hb hd) (mul-pos hd hb) (mul_comm_cross a (pos b) c (pos d)) ∙ sym (frac-mul c a d b hd hb)))

-- products may be bracketed anew
pub mul_assoc : (p q r : ℚ) → (p *ℚ q) *ℚ r ≡ p *ℚ (q *ℚ r)
mul_assoc = by_frac _ (λ a b hb. by_frac _ (λ c d hd. by_frac _ (λ e f hf.
    ap (λ x. x *ℚ frac e f) (frac-mul a c b d hb hd)
    ∙ frac-mul _ e (b * d) f (mul-pos hb hd) hf
    ∙ same_frac _ _ ((b * d) * f) (b * (d * f)) (mul-pos (mul-pos hb hd) hf) (mul-pos hb (mul-pos hd hf)) (mul_assoc_cross a (pos b) c (pos d) e (pos f))
    ∙ sym (ap (λ x. frac a b *ℚ x) (frac-mul c e d f hd hf) ∙ frac-mul a _ b (d * f) hb (mul-pos hd hf)))))

-- one is neutral
pub mul_one : (p : ℚ) → p *ℚ whole (pos 1) ≡ p
mul_one = by_frac _ (λ a b hb.
    ap (λ x. frac a b *ℚ x) (whole-frac (pos 1)) ∙ frac-mul a (pos 1) b 1 hb one_pos ∙ same_frac _ a (b * 1) b (mul-pos hb one_pos) hb (one_cross a (pos b)))

-- a factor goes into a sum
pub mul_add : (p q r : ℚ) → p *ℚ (q +ℚ r) ≡ p *ℚ q +ℚ p *ℚ r
mul_add = by_frac _ (λ a b hb. by_frac _ (λ c d hd. by_frac _ (λ e f hf.
    ap (λ x. frac a b *ℚ x) (frac-add c e d f hd hf)
    ∙ frac-mul a _ b (d * f) hb (mul-pos hd hf)
    ∙ same_frac _ _ (b * (d * f)) ((b * d) * (b * f)) (mul-pos hb (mul-pos hd hf)) (mul-pos (mul-pos hb hd) (mul-pos hb hf)) (mul_add_cross a (pos b) c (pos d) e (pos f))
    ∙ sym (ap₂ ◌+ℚ◌ (frac-mul a c b d hb hd) (frac-mul a e b f hb hf) ∙ frac-add _ _ (b * d) (b * f) (mul-pos hb hd) (mul-pos hb hf)))))

-- a sum of whole numbers is whole
pub whole_add : (m n : ℤ) → whole (m +ℤ n) ≡ whole m +ℚ whole n
whole_add m n =
    whole-frac (m +ℤ n) ∙ same_frac _ _ 1 (1 * 1) one_pos one_pos (add_cross m n) ∙ sym (ap₂ ◌+ℚ◌ (whole-frac m) (whole-frac n) ∙ frac-add m n 1 1 one_pos one_pos)

-- a product of whole numbers is whole
pub whole_mul : (m n : ℤ) → whole (m *ℤ n) ≡ whole m *ℚ whole n
whole_mul m n =
    whole-frac (m *ℤ n) ∙ sym (ap₂ ◌*ℚ◌ (whole-frac m) (whole-frac n) ∙ frac-mul m n 1 1 one_pos one_pos)

-- the rational numbers as a commutative ring: a literal is a whole number
abbrev pub rationals : Ring ℚ
rationals = record {
  add = ◌+ℚ◌;
  mul = ◌*ℚ◌;
  neg = neg_ℚ;
  literal = whole;
  add_comm = add_comm;
  add_assoc = add_assoc;
  add_zero = add_zero;
  add_neg = add_neg;
  mul_comm = mul_comm;
  mul_assoc = mul_assoc;
  mul_one = mul_one;
  mul_add = mul_add;
  literal_add = whole_add;
  literal_mul = whole_mul;
}

-- ---- inverses

-- a fraction times the fraction turned over is 1
product_of_turned : (n : ℤ) (d : ℕ) → 0 < d → n ≢ pos 0 → frac n d *ℚ ratio (pos d) n ≡ whole (pos 1)
unfolding ratio
product_of_turned (pos zero) d hd ne = absurd (ne refl)
product_of_turned (pos (suc n)) d hd ne =
    let some : 0 < suc n = omega arith in
    frac-mul (pos (suc n)) (pos d) d (suc n) hd some ∙ same_frac _ (pos 1) (d * suc n) 1 (mul-pos hd some) one_pos (inverse_cross (pos (suc n)) (pos d)) ∙ sym (whole-frac (pos 1))
product_of_turned (negsuc n) d hd ne =
    let some : 0 < suc n = omega arith in
    frac-mul (negsuc n) (neg_ℤ (pos d)) d (suc n) hd some ∙ same_frac _ (pos 1) (d * suc n) 1 (mul-pos hd some) one_pos (negative_inverse_cross (pos (suc n)) (pos d)) ∙ sym (whole-frac (pos 1))

-- a number other than 0 times its inverse is 1
pub mul_inv : (p : ℚ) → p ≢ whole (pos 0) → p *ℚ inv_ℚ p ≡ whole (pos 1)
unfolding inv_ℚ whole
mul_inv p ne =
    ap (λ x. x *ℚ inv_ℚ p) (sym (frac-self p)) ∙ product_of_turned p.num p.den (den_pos p) (λ e. ne (zero_from_num p e))

-- a quotient times its divisor
pub div_mul : (p q : ℚ) → q.num ≢ pos 0 → (p /ℚ q) *ℚ q ≡ p
div_mul p q ne =
    mul_assoc p (inv_ℚ q) q ∙ ap (λ x. p *ℚ x) (mul_comm (inv_ℚ q) q ∙ mul_inv q (λ e. ne (num_zero q e))) ∙ mul_one p

-- the quotient is the one number with this product
pub div_is : (p q r : ℚ) → q.num ≢ pos 0 → r *ℚ q ≡ p → p /ℚ q ≡ r
div_is p q r ne e =
    ap (λ x. x *ℚ inv_ℚ q) (sym e) ∙ mul_assoc r q (inv_ℚ q) ∙ ap (λ x. r *ℚ x) (mul_inv q (λ z. ne (num_zero q z))) ∙ mul_one r
