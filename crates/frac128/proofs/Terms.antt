-- The terms of fractions: what the fields of a `Frac` are, and the terms of what is made from two.
use Rattle.std.proofs.Common.{◌≡◌, ◌≢◌, ℕ, zero, suc, ◌*◌, ◌/◌, ◌^◌, ◌<◌, ◌≤◌, T, nat_lt, Bool, true, false, not, ltb, ℤ, pos, negsuc, ◌+ℤ◌, ◌-ℤ◌, ◌*ℤ◌, neg_ℤ, nat_abs, int_div, int_lt, FitsSigned, refl, sym, ap, ap₂, ◌∙◌, ltb→lt, subst, subst₂, arith, mul-pos, div-one, div-le_self, lt_of_le_of_lt, tests}
use Rattle.std.proofs.Math.Nat.{zero-div}
use Rattle.std.proofs.Common.{Result, OkIff, Err, to_z, of_z}
use lib.Signed.{mag}
use Rattle.std.specs.Int.{w128}
use Rattle.std.proofs.lemmas.Nat.{mul-lt}
use Rattle.exact_math.specs.IntegerOrder.{abs_add_le}
use Rattle.std.proofs.lemmas.Int.{fits_signed_from_abs, to_z-of_z}
use Rattle.exact_math.specs.Gcd.{gcd}
use Rattle.exact_math.specs.GcdLaws.{gcd-one, gcd-quotients, gcd_pos_right, gcd-mul-div_left, gcd-mul-div_right, nat_abs-neg, gcd-product, gcd-product_right, gcd-one_from_dvd, gcd_comm, quotient_dvd, nat_abs-neg_ℤ, gcd_dvd_left, gcd_dvd_right, reduced_positive}
use Rattle.exact_math.specs.Rational.{ℚ, frac, ratio, ◌+ℚ◌, ◌*ℚ◌, neg_ℚ, inv_ℚ}
use Rattle.exact_math.specs.RationalCode.{frac-lowest, frac-self, terms_lowest, den_pos}
use Rattle.exact_math.specs.IntegerRing.{expand, linear, mul_neg, neg_mul, neg_neg, zero_add, mul_one}
use Rattle.exact_math.specs.RationalLaws.{same_frac}
use Rattle.frac128.specs.Range.{IsNarrow, InRange, IsReduced, SumInRange}
use Rattle.frac128.specs.Sign.{with_sign, differ}

-- the terms of a value are its fields
pub terms_of : {n : ℤ} {d : ℕ} {q : ℚ} → IsReduced n d → frac n d ≡ q → (q.num ≡ n) × (q.den ≡ d)
terms_of {n} {d} h e =
    let t = frac-lowest n d h.positive h.lowest in
    (ap (λ r. r.num) (sym e) ∙ t.0, ap (λ r. r.den) (sym e) ∙ t.1)

-- n and d are the terms of q, which is in range: a `Frac` is made of them
pub record Makes (q : ℚ) (n : ℤ) (d : ℕ) : Type 0 where
  pub in_range : InRange q
  pub reduced : IsReduced n d
  pub value : frac n d ≡ q

-- a number in range with these terms
pub made_of : (q : ℚ) {n : ℤ} {d : ℕ} → q.num ≡ n → q.den ≡ d → InRange q → Makes q n d
made_of q e f h = record {
  in_range = h;
  reduced = subst₂ IsReduced e f (record { positive = den_pos q; lowest = terms_lowest q; num_narrow = h.num; den_narrow = h.den });
  value = subst₂ (λ n d. frac n d ≡ q) e f (frac-self q);
}

-- a number in range fits 128 bits
pub fits_from_narrow : (z : ℤ) → IsNarrow z → FitsSigned w128 z
fits_from_narrow z h = fits_signed_from_abs w128 z h

-- ---- signs

-- no natural number is below 0
pub ltb-zero : (a : ℕ) → ltb a 0 ≡ false
ltb-zero a = search (arith, tests)

-- a negated number that is divided
int_div-neg : (n : ℤ) (g : ℕ) → int_div (neg_ℤ n) (pos g) ≡ with_sign (not (int_lt n (pos 0))) (nat_abs n / g)
int_div-neg (pos zero) g = rw zero-div
int_div-neg (pos (suc a)) g = rw ltb-zero
int_div-neg (negsuc a) g = refl

-- a number with a sign times a natural number
with_sign-scaled : (s : Bool) (m n : ℕ) → with_sign s m *ℤ pos n ≡ with_sign s (m * n)
with_sign-scaled false m n = refl
with_sign-scaled true m n = neg_mul (pos m) (pos n)

-- the size of a number by its sign and size
pub nat_abs-with_sign : (s : Bool) (n : ℕ) → nat_abs (with_sign s n) ≡ n
nat_abs-with_sign false n = refl
nat_abs-with_sign true n = nat_abs-neg n

-- a number is its sign and its size
pub with_sign-own : (n : ℤ) → with_sign (int_lt n (pos 0)) (nat_abs n) ≡ n
with_sign-own (pos a) = rw ltb-zero
with_sign-own (negsuc a) = refl

-- a quotient by its sign and size
pub with_sign-int_div : (n : ℤ) (g : ℕ) → int_div n (pos g) ≡ with_sign (int_lt n (pos 0)) (nat_abs n / g)
with_sign-int_div (pos a) g = rw ltb-zero
with_sign-int_div (negsuc a) g = refl

-- ---- one fraction

-- the terms of a fraction
frac_terms : (n : ℤ) (d : ℕ) → 0 < d → ((frac n d).num ≡ with_sign (int_lt n (pos 0)) (nat_abs n / gcd (nat_abs n) d)) × ((frac n d).den ≡ d / gcd (nat_abs n) d)
unfolding frac
frac_terms n zero some = absurd (omega arith)
frac_terms n (suc d) some = (with_sign-int_div n _, refl)

-- what `reduced` makes
pub reduced_is : (n s : ℤ) (d size common : ℕ) → 0 < d → IsNarrow n → d < 2 ^ 127 → size ≡ nat_abs n → common ≡ gcd size d → s ≡ with_sign (int_lt n (pos 0)) (size / common) → Makes (frac n d) s (d / common)
reduced_is n s d size common some narrow small is_size is_common is =
    let q = frac n d in
    let g_is : common ≡ gcd (nat_abs n) d = is_common ∙ ap (λ k. gcd k d) is_size in
    let num_is : q.num ≡ s = (frac_terms n d some).0 ∙ ap (λ k. with_sign (int_lt n (pos 0)) (nat_abs n / k)) (sym g_is) ∙ ap (λ k. with_sign (int_lt n (pos 0)) (k / common)) (sym is_size) ∙ sym is in
    let den_is : q.den ≡ d / common = (frac_terms n d some).1 ∙ ap (λ k. d / k) (sym g_is) in
    let num_fits : nat_abs q.num < 2 ^ 127 = lt_of_le_of_lt (subst (λ k. k ≤ nat_abs n) (sym (ap nat_abs (frac_terms n d some).0 ∙ nat_abs-with_sign (int_lt n (pos 0)) _)) (div-le_self (nat_abs n) (gcd (nat_abs n) d))) narrow in
    let den_fits : q.den < 2 ^ 127 = lt_of_le_of_lt (subst (λ k. k ≤ d) (sym (frac_terms n d some).1) (div-le_self d (gcd (nat_abs n) d))) small in
    made_of q num_is den_is (record { num = num_fits; den = den_fits })

-- ---- the ratio of two numbers with signs

-- a sign beside none
not-one : (s : Bool) → differ s false ≡ s
not-one true = refl
not-one false = refl

-- a sign beside a minus
not-other : (s : Bool) → differ s true ≡ not s
not-other true = refl
not-other false = refl

-- a sign changes no divisor
gcd-neg : (n : ℤ) (d : ℕ) → gcd (nat_abs (neg_ℤ n)) d ≡ gcd (nat_abs n) d
gcd-neg n d = ap (λ k. gcd k d) (nat_abs-neg_ℤ n)

-- the terms of the ratio
ratio_terms : (n d : ℤ) → d ≢ pos 0 → ((ratio n d).num ≡ with_sign (differ (int_lt n (pos 0)) (int_lt d (pos 0))) (nat_abs n / gcd (nat_abs n) (nat_abs d))) × ((ratio n d).den ≡ nat_abs d / gcd (nat_abs n) (nat_abs d))
unfolding ratio frac
ratio_terms n (pos zero) ne = absurd (ne refl)
ratio_terms n (pos (suc d)) ne =
    (with_sign-int_div n _ ∙ ap (λ s. with_sign s (nat_abs n / gcd (nat_abs n) (suc d))) (sym (not-one (int_lt n (pos 0))) ∙ ap (differ (int_lt n (pos 0))) (sym (ltb-zero (suc d)))), refl)
ratio_terms n (negsuc d) ne =
    (int_div-neg n _ ∙ ap (λ k. with_sign (not (int_lt n (pos 0))) (nat_abs n / k)) (gcd-neg n (suc d)) ∙ ap (λ s. with_sign s (nat_abs n / gcd (nat_abs n) (suc d))) (sym (not-other (int_lt n (pos 0)))), ap (λ k. suc d / k) (gcd-neg n (suc d)))

-- what `new` makes of numbers with signs
pub ratio_is : (n d : ℤ) {size divisor common s v : ℕ} → d ≢ pos 0 → size ≡ nat_abs n → divisor ≡ nat_abs d → common ≡ gcd size divisor → s ≡ size / common → v ≡ divisor / common →
    ((ratio n d).num ≡ with_sign (differ (int_lt n (pos 0)) (int_lt d (pos 0))) s) × ((ratio n d).den ≡ v) × (nat_abs (ratio n d).num ≡ s)
ratio_is n d {size} {divisor} {s = s} ne is_size is_divisor is_common is_s is_v =
    let Terms : ℕ → ℕ → ℕ → Type 0 = λ m e g. ((ratio n d).num ≡ with_sign (differ (int_lt n (pos 0)) (int_lt d (pos 0))) (m / g)) × ((ratio n d).den ≡ e / g) in
    let t : Terms size divisor _ = subst (Terms size divisor) (sym is_common) (subst₂ (λ m e. Terms m e (gcd m e)) (sym is_size) (sym is_divisor) (ratio_terms n d ne)) in
    let num_is = t.0 ∙ ap (with_sign (differ (int_lt n (pos 0)) (int_lt d (pos 0)))) (sym is_s) in
    (num_is, t.1 ∙ sym is_v, ap nat_abs num_is ∙ nat_abs-with_sign _ s)

-- ---- products

-- a product by its sign and size
with_sign-mul : (s t : Bool) (m n : ℕ) → with_sign s m *ℤ with_sign t n ≡ with_sign (differ s t) (m * n)
with_sign-mul false false m n = refl
with_sign-mul false true m n = mul_neg (pos m) (pos n)
with_sign-mul true false m n = neg_mul (pos m) (pos n)
with_sign-mul true true m n = neg_mul (pos m) (neg_ℤ (pos n)) ∙ ap neg_ℤ (mul_neg (pos m) (pos n)) ∙ neg_neg (pos (m * n))

-- factors in another order
turned : (g h a b c d : ℕ) → (g * a) * (h * c) * (b * d) ≡ (a * c) * ((h * b) * (g * d))
turned g h a b c d = omega arith

-- the value of a product stays when common factors are divided out crosswise
crossed : (m n b d : ℕ) → m * n * (b / gcd n b * (d / gcd m d)) ≡ m / gcd m d * (n / gcd n b) * (b * d)
crossed m n b d =
    let g = gcd m d in
    let h = gcd n b in
    ap (λ k. k * n * (b / h * (d / g))) (sym (gcd-mul-div_left m d)) ∙ ap (λ k. g * (m / g) * k * (b / h * (d / g))) (sym (gcd-mul-div_left n b)) ∙ turned g h (m / g) (b / h) (n / h) (d / g)
    ∙ ap (λ k. m / g * (n / h) * (k * (g * (d / g)))) (gcd-mul-div_right n b) ∙ ap (λ k. m / g * (n / h) * (b * k)) (gcd-mul-div_right m d)

-- and then its terms are lowest
product_lowest : (m n b d : ℕ) → gcd m b ≡ 1 → gcd n d ≡ 1 → 0 < b → 0 < d → gcd (m / gcd m d * (n / gcd n b)) (b / gcd n b * (d / gcd m d)) ≡ 1
product_lowest m n b d p q hb hd =
    let g = gcd m d in
    let h = gcd n b in
    let mg = quotient_dvd g m (gcd_dvd_left m d) in
    let dg = quotient_dvd g d (gcd_dvd_right m d) in
    let nh = quotient_dvd h n (gcd_dvd_left n b) in
    let bh = quotient_dvd h b (gcd_dvd_right n b) in
    gcd-product (m / g) (n / h) _ (gcd-product_right (b / h) (d / g) (m / g) (gcd-one_from_dvd m b _ _ p mg bh) (gcd-quotients m d (gcd_pos_right m d hd)))
    (gcd-product_right (b / h) (d / g) (n / h) (gcd-quotients n b (gcd_pos_right n b hb)) (gcd-one_from_dvd n d _ _ q nh dg))

-- the lowered denominator is above 0
pub quotient_pos : (m d : ℕ) → 0 < d → 0 < d / gcd m d
quotient_pos m d hd = ltb→lt 0 _ (reduced_positive m d hd)

-- the terms of a product, common factors divided out crosswise
product_terms : (p q : ℚ) → let g = gcd (nat_abs p.num) q.den in let h = gcd (nat_abs q.num) p.den in
    ((p *ℚ q).num ≡ with_sign (differ (int_lt p.num (pos 0)) (int_lt q.num (pos 0))) (nat_abs p.num / g * (nat_abs q.num / h))) × ((p *ℚ q).den ≡ p.den / h * (q.den / g))
unfolding ◌*ℚ◌
product_terms p q =
    let m = nat_abs p.num in
    let n = nat_abs q.num in
    let g = gcd m q.den in
    let h = gcd n p.den in
    let negative = differ (int_lt p.num (pos 0)) (int_lt q.num (pos 0)) in
    let size = m / g * (n / h) in
    let den = p.den / h * (q.den / g) in
    let den_some : 0 < den = mul-pos (quotient_pos n p.den (den_pos p)) (quotient_pos m q.den (den_pos q)) in
    let num_is : p.num *ℤ q.num ≡ with_sign negative (m * n) = ap₂ ◌*ℤ◌ (sym (with_sign-own p.num)) (sym (with_sign-own q.num)) ∙ with_sign-mul _ _ m n in
    let cross : (p.num *ℤ q.num) *ℤ pos den ≡ with_sign negative size *ℤ pos (p.den * q.den) = ap (λ k. k *ℤ pos den) num_is ∙ with_sign-scaled negative (m * n) den ∙ ap (with_sign negative) (crossed m n p.den q.den) ∙ sym (with_sign-scaled negative size (p.den * q.den)) in
    let same : p *ℚ q ≡ frac (with_sign negative size) den = same_frac _ _ (p.den * q.den) den (mul-pos (den_pos p) (den_pos q)) den_some cross in
    let lowest = frac-lowest (with_sign negative size) den den_some (ap (λ k. gcd k den) (nat_abs-with_sign negative size) ∙ product_lowest m n p.den q.den (terms_lowest p) (terms_lowest q) (den_pos p) (den_pos q)) in
    (ap (λ r. r.num) same ∙ lowest.0, ap (λ r. r.den) same ∙ lowest.1)

-- ---- sizes that are not 0

-- the size of a number other than 0
pub abs_pos : (n : ℤ) → n ≢ pos 0 → 0 < nat_abs n
abs_pos (pos zero) ne = absurd (ne refl)
abs_pos (pos (suc n)) ne = omega arith
abs_pos (negsuc n) ne = omega arith

-- a divisor of a positive number is above 0
pub gcd_some : (m n g : ℕ) → g ≡ gcd m n → 0 < n → 0 < g
gcd_some m n g e h = subst (λ k. 0 < k) (sym e) (gcd_pos_right m n h)

-- ---- a number with its sign changed, and one over a number

-- the negated number is in range
pub neg_made : (q : ℚ) (n : ℤ) (d : ℕ) → n ≡ q.num → d ≡ q.den → nat_abs q.num < 2 ^ 127 → q.den < 2 ^ 127 → Makes (neg_ℚ q) (pos 0 -ℤ n) d
unfolding neg_ℚ
neg_made q n d e f num den =
    let is : neg_ℤ q.num ≡ pos 0 -ℤ n = ap neg_ℤ (sym e) ∙ sym (zero_add (neg_ℤ n)) in
    let narrow : nat_abs (neg_ℤ q.num) < 2 ^ 127 = subst (λ k. k < 2 ^ 127) (sym (nat_abs-neg_ℤ q.num)) num in
    made_of (neg_ℚ q) is (sym f) (record { num = narrow; den = den })

-- the terms of the inverse
inverse_terms : (n : ℤ) (d : ℕ) → n ≢ pos 0 → gcd (nat_abs n) d ≡ 1 → ((ratio (pos d) n).num ≡ with_sign (int_lt n (pos 0)) d) × ((ratio (pos d) n).den ≡ nat_abs n)
unfolding ratio
inverse_terms (pos zero) d ne one = absurd (ne refl)
inverse_terms (pos (suc n)) d ne one =
    let t = frac-lowest (pos d) (suc n) (omega arith) (gcd_comm d (suc n) ∙ one) in
    (t.0 ∙ sym (ap (λ s. with_sign s d) (ltb-zero (suc n))), t.1)
inverse_terms (negsuc n) d ne one =
    frac-lowest (neg_ℤ (pos d)) (suc n) (omega arith) (ap (λ k. gcd k (suc n)) (nat_abs-neg d) ∙ gcd_comm d (suc n) ∙ one)

-- the inverse is in range
pub inverse_made : (q : ℚ) (n s : ℤ) (d size : ℕ) → q.num ≢ pos 0 → n ≡ q.num → d ≡ q.den → nat_abs q.num < 2 ^ 127 → q.den < 2 ^ 127 → size ≡ nat_abs n → s ≡ with_sign (int_lt n (pos 0)) d → Makes (inv_ℚ q) s size
unfolding inv_ℚ
inverse_made q n s d size ne e f num den is_size is =
    let t = inverse_terms q.num q.den ne (terms_lowest q) in
    let num_is : (inv_ℚ q).num ≡ s = t.0 ∙ sym (is ∙ ap₂ (λ m k. with_sign (int_lt m (pos 0)) k) e f) in
    let den_is : (inv_ℚ q).den ≡ size = t.1 ∙ sym (is_size ∙ ap nat_abs e) in
    made_of (inv_ℚ q) num_is den_is (record { num = subst (λ k. k < 2 ^ 127) (sym (ap nat_abs t.0 ∙ nat_abs-with_sign _ q.den)) den; den = subst (λ k. k < 2 ^ 127) (sym t.1) num })

-- the terms of a product, each as the code computes it
pub product_is : (p q : ℚ) {m n b d g h : ℕ} → m ≡ nat_abs p.num → n ≡ nat_abs q.num → b ≡ p.den → d ≡ q.den → g ≡ gcd m d → h ≡ gcd n b →
    ((p *ℚ q).num ≡ with_sign (differ (int_lt p.num (pos 0)) (int_lt q.num (pos 0))) (m / g * (n / h))) × ((p *ℚ q).den ≡ b / h * (d / g)) × (nat_abs (p *ℚ q).num ≡ m / g * (n / h))
product_is p q {m} {n} {b} {d} {g} {h} is_m is_n is_b is_d is_g is_h =
    let negative = differ (int_lt p.num (pos 0)) (int_lt q.num (pos 0)) in
    let g_is : g ≡ gcd (nat_abs p.num) q.den = is_g ∙ ap₂ gcd is_m is_d in
    let h_is : h ≡ gcd (nat_abs q.num) p.den = is_h ∙ ap₂ gcd is_n is_b in
    let t = product_terms p q in
    let size_is : m / g * (n / h) ≡ nat_abs p.num / gcd (nat_abs p.num) q.den * (nat_abs q.num / gcd (nat_abs q.num) p.den) = ap₂ ◌*◌ (ap₂ ◌/◌ is_m g_is) (ap₂ ◌/◌ is_n h_is) in
    let num_is : (p *ℚ q).num ≡ with_sign negative (m / g * (n / h)) = t.0 ∙ ap (with_sign negative) (sym size_is) in
    (num_is, t.1 ∙ sym (ap₂ ◌*◌ (ap₂ ◌/◌ is_b h_is) (ap₂ ◌/◌ is_d g_is)), ap nat_abs num_is ∙ nat_abs-with_sign negative _)

-- the same, the quotients being known by their values
pub product_of : (p q : ℚ) {m n b d g h s t u v : ℕ} → m ≡ nat_abs p.num → n ≡ nat_abs q.num → b ≡ p.den → d ≡ q.den → g ≡ gcd m d → h ≡ gcd n b → s ≡ m / g → t ≡ n / h → u ≡ b / h → v ≡ d / g →
    ((p *ℚ q).num ≡ with_sign (differ (int_lt p.num (pos 0)) (int_lt q.num (pos 0))) (s * t)) × ((p *ℚ q).den ≡ u * v) × (nat_abs (p *ℚ q).num ≡ s * t)
product_of p q is_m is_n is_b is_d is_g is_h is_s is_t is_u is_v =
    let r = product_is p q is_m is_n is_b is_d is_g is_h in
    let size_is = sym (ap₂ ◌*◌ is_s is_t) in
    (r.0 ∙ ap (with_sign (differ (int_lt p.num (pos 0)) (int_lt q.num (pos 0)))) size_is, r.1 ∙ sym (ap₂ ◌*◌ is_u is_v), r.2 ∙ size_is)

-- ---- an answer that is an error, where nothing fits

-- an error is right where the fact does not hold
pub refused : {T E : Type 0} (r : Result T E) (P : Type 0) (v : T) (y : E) → r ≡ Err y → (P → ⊥) → OkIff r P v
refused r P v y e h = subst (λ s. OkIff s P v) (sym e) h

-- ---- sums

-- the parts of a sum, each as the code computes it
pub parts_are : (p q : ℚ) {a c : ℤ} {b d common : ℕ} → a ≡ p.num → c ≡ q.num → b ≡ p.den → d ≡ q.den → common ≡ gcd b d →
    (a *ℤ pos (d / common) ≡ p.num *ℤ pos (q.den / gcd p.den q.den)) × (c *ℤ pos (b / common) ≡ q.num *ℤ pos (p.den / gcd p.den q.den)) × (b / common * d ≡ p.den / gcd p.den q.den * q.den)
parts_are p q {common = common} is_a is_c is_b is_d is_common =
    let g_is : common ≡ gcd p.den q.den = is_common ∙ ap₂ gcd is_b is_d in
    (ap₂ (λ n k. n *ℤ pos k) is_a (ap₂ ◌/◌ is_d g_is), ap₂ (λ n k. n *ℤ pos k) is_c (ap₂ ◌/◌ is_b g_is), ap₂ ◌*◌ (ap₂ ◌/◌ is_b g_is) is_d)

-- the same, the quotients being known by their values
pub parts_of : (p q : ℚ) {a c : ℤ} {b d common l r : ℕ} → a ≡ p.num → c ≡ q.num → b ≡ p.den → d ≡ q.den → common ≡ gcd b d → l ≡ b / common → r ≡ d / common →
    (a *ℤ pos r ≡ p.num *ℤ pos (q.den / gcd p.den q.den)) × (c *ℤ pos l ≡ q.num *ℤ pos (p.den / gcd p.den q.den)) × (l * d ≡ p.den / gcd p.den q.den * q.den)
parts_of p q {a} {c} {d = d} is_a is_c is_b is_d is_common is_l is_r =
    let parts = parts_are p q is_a is_c is_b is_d is_common in
    (ap (λ k. a *ℤ pos k) is_r ∙ parts.0, ap (λ k. c *ℤ pos k) is_l ∙ parts.1, ap (λ k. k * d) is_l ∙ parts.2)

-- the value of a sum stays over the least common denominator
sum_cross : (a c e l r : ℤ) → (a *ℤ r +ℤ c *ℤ l) *ℤ ((e *ℤ l) *ℤ (e *ℤ r)) ≡ (a *ℤ (e *ℤ r) +ℤ c *ℤ (e *ℤ l)) *ℤ (l *ℤ (e *ℤ r))
sum_cross a c e l r = simp expand (omega linear)

-- the same at natural denominators
sum_cross_at : (a c : ℤ) (b d e l r : ℕ) → e * l ≡ b → e * r ≡ d → (a *ℤ pos r +ℤ c *ℤ pos l) *ℤ pos (b * d) ≡ (a *ℤ pos d +ℤ c *ℤ pos b) *ℤ pos (l * d)
sum_cross_at a c b d e l r f g =
    subst₂ (λ b d. (a *ℤ pos r +ℤ c *ℤ pos l) *ℤ pos (b * d) ≡ (a *ℤ pos d +ℤ c *ℤ pos b) *ℤ pos (l * d)) f g (sum_cross a c (pos e) (pos l) (pos r))

-- the sum over the least common denominator
pub sum_is : (p q : ℚ) → let e = gcd p.den q.den in
    (0 < p.den / e * q.den) × (frac (p.num *ℤ pos (q.den / e) +ℤ q.num *ℤ pos (p.den / e)) (p.den / e * q.den) ≡ p +ℚ q)
unfolding ◌+ℚ◌
sum_is p q =
    let e = gcd p.den q.den in
    let left_some : 0 < p.den / e = ltb→lt 0 _ (subst (λ k. T (nat_lt 0 (p.den / k))) (gcd_comm q.den p.den) (reduced_positive q.den p.den (den_pos p))) in
    let some : 0 < p.den / e * q.den = mul-pos left_some (den_pos q) in
    (some, same_frac _ _ _ (p.den * q.den) some (mul-pos (den_pos p) (den_pos q)) (sum_cross_at p.num q.num p.den q.den e (p.den / e) (q.den / e) (gcd-mul-div_left p.den q.den) (gcd-mul-div_right p.den q.den)))

-- a number that passed through a call
again : (z : ℤ) → mag z < 2 ^ 127 → to_z w128 (of_z w128 z) ≡ z
again z h = to_z-of_z w128 z (record { sfits = h })

-- what `multiple` answers: a product that fits, or one that does not
pub multiple_is : (a first x : ℤ) (k : ℕ) → mag a < 2 ^ 127 → a *ℤ pos k ≡ x → IsNarrow (to_z w128 (of_z w128 a) *ℤ pos k) × (first ≡ to_z w128 (of_z w128 a) *ℤ pos k) → (first ≡ x) × IsNarrow x
multiple_is a first x k fits e h =
    let is : to_z w128 (of_z w128 a) *ℤ pos k ≡ x = ap (λ z. z *ℤ pos k) (again a fits) ∙ e in
    (h.1 ∙ is, subst IsNarrow is h.0)

-- a product that does not fit
pub multiple_is_not : (a x : ℤ) (k : ℕ) → mag a < 2 ^ 127 → a *ℤ pos k ≡ x → (IsNarrow (to_z w128 (of_z w128 a) *ℤ pos k) → ⊥) → IsNarrow x → ⊥
multiple_is_not a x k fits e wide h =
    wide (subst IsNarrow (sym (ap (λ z. z *ℤ pos k) (again a fits) ∙ e)) h)

-- and what `sum` answers
sum_at : (a c x y : ℤ) → a ≡ x → c ≡ y → IsNarrow x → IsNarrow y → to_z w128 (of_z w128 a) +ℤ to_z w128 (of_z w128 c) ≡ x +ℤ y
sum_at a c x y e f hx hy =
    ap₂ ◌+ℤ◌ (ap (λ z. to_z w128 (of_z w128 z)) e ∙ to_z-of_z w128 x (fits_from_narrow x hx)) (ap (λ z. to_z w128 (of_z w128 z)) f ∙ to_z-of_z w128 y (fits_from_narrow y hy))

-- a sum that fits
pub sum_is_narrow : (a c num x y : ℤ) → (a ≡ x) × IsNarrow x → (c ≡ y) × IsNarrow y → IsNarrow (to_z w128 (of_z w128 a) +ℤ to_z w128 (of_z w128 c)) × (num ≡ to_z w128 (of_z w128 a) +ℤ to_z w128 (of_z w128 c)) → (num ≡ x +ℤ y) × IsNarrow (x +ℤ y)
sum_is_narrow a c num x y e f h =
    let is = sum_at a c x y e.0 f.0 e.1 f.1 in
    (h.1 ∙ is, subst IsNarrow is h.0)

-- a sum that does not fit
pub sum_is_wide : (a c x y : ℤ) → (a ≡ x) × IsNarrow x → (c ≡ y) × IsNarrow y → (IsNarrow (to_z w128 (of_z w128 a) +ℤ to_z w128 (of_z w128 c)) → ⊥) → IsNarrow (x +ℤ y) → ⊥
sum_is_wide a c x y e f wide h = wide (subst IsNarrow (sym (sum_at a c x y e.0 f.0 e.1 f.1)) h)

-- numbers with the same bits are equal
pub same_from_bits : (x y : ℤ) → mag x < 2 ^ 127 → mag y < 2 ^ 127 → of_z w128 x ≡ of_z w128 y → x ≡ y
same_from_bits x y h k e = sym (again x h) ∙ ap (to_z w128) e ∙ again y k

-- ---- numbers of 63 bits

-- a product of quotients of 63-bit numbers
pub quotients_small : (m n g h : ℕ) → m < 2 ^ 63 → n < 2 ^ 63 → m / g * (n / h) < 2 ^ 127
quotients_small m n g h p q =
    let low : m / g * (n / h) < 2 ^ 63 * 2 ^ 63 = mul-lt _ _ _ _ (lt_of_le_of_lt (div-le_self m g) p) (lt_of_le_of_lt (div-le_self n h) q) in
    omega arith

-- a sum of two such products
pub word_sum_narrow : (x y : ℤ) → nat_abs x < 2 ^ 126 → nat_abs y < 2 ^ 126 → IsNarrow (x +ℤ y)
word_sum_narrow x y h k = omega (arith, abs_add_le x y)

-- the least common denominator of 63-bit ones
pub word_den_small : (b d g : ℕ) → b < 2 ^ 63 → d < 2 ^ 63 → b / g * d < 2 ^ 127
word_den_small b d g p q =
    let low : b / g * d < 2 ^ 63 * 2 ^ 63 = mul-lt _ _ _ _ (lt_of_le_of_lt (div-le_self b g) p) q in
    omega arith

-- a small product of 63-bit numbers is in range
pub word_narrow : (x : ℤ) → nat_abs x < 2 ^ 126 → IsNarrow x
word_narrow x h = omega arith

-- ---- whole numbers

module _ (p q : ℚ) (p_whole : p.den ≡ 1) (q_whole : q.den ≡ 1) where
  -- their denominators over the common divisor
  part_one : (q.den / gcd p.den q.den ≡ 1) × (p.den / gcd p.den q.den ≡ 1)
  part_one =
      let e : gcd p.den q.den ≡ 1 = ap (gcd p.den) q_whole ∙ gcd-one p.den in
      (ap₂ ◌/◌ q_whole e, ap₂ ◌/◌ p_whole e)

  -- the parts of their sum
  whole_parts : (p.num *ℤ pos (q.den / gcd p.den q.den) ≡ p.num) × (q.num *ℤ pos (p.den / gcd p.den q.den) ≡ q.num) × (p.den / gcd p.den q.den * q.den ≡ 1)
  whole_parts =
      (ap (λ k. p.num *ℤ pos k) part_one.0 ∙ mul_one p.num, ap (λ k. q.num *ℤ pos k) part_one.1 ∙ mul_one q.num, ap₂ ◌*◌ part_one.1 q_whole)

  -- the sum is the numerators' sum
  pub whole_sum : p +ℚ q ≡ frac (p.num +ℤ q.num) 1
  whole_sum = sym (sum_is p q).1 ∙ ap₂ frac (ap₂ ◌+ℤ◌ whole_parts.0 whole_parts.1) whole_parts.2

  -- the sum is in range where the numerators' sum is
  pub whole_sum_range : IsNarrow p.num → IsNarrow q.num → IsNarrow (p.num +ℤ q.num) → SumInRange p q
  whole_sum_range h k s = record {
    first = subst IsNarrow (sym whole_parts.0) h;
    second = subst IsNarrow (sym whole_parts.1) k;
    sum = subst IsNarrow (sym (ap₂ ◌+ℤ◌ whole_parts.0 whole_parts.1)) s;
    den = subst (λ k. k < 2 ^ 127) (sym whole_parts.2) (omega arith);
  }

  -- and back
  pub narrow_from_range : SumInRange p q → IsNarrow (p.num +ℤ q.num)
  narrow_from_range h = subst IsNarrow (ap₂ ◌+ℤ◌ whole_parts.0 whole_parts.1) h.sum

  -- the product is the numerators' product
  pub whole_product : {m n : ℕ} → m ≡ nat_abs p.num → n ≡ nat_abs q.num → ((p *ℚ q).num ≡ with_sign (differ (int_lt p.num (pos 0)) (int_lt q.num (pos 0))) (m * n)) × ((p *ℚ q).den ≡ 1) × (nat_abs (p *ℚ q).num ≡ m * n)
  whole_product {m} {n} is_m is_n =
      let t = product_is p q is_m is_n (sym p_whole) (sym q_whole) (sym (gcd-one m)) (sym (gcd-one n)) in
      let size_is : m / 1 * (n / 1) ≡ m * n = ap₂ ◌*◌ (div-one m) (div-one n) in
      (t.0 ∙ ap (with_sign (differ (int_lt p.num (pos 0)) (int_lt q.num (pos 0)))) size_is, t.1, t.2 ∙ size_is)

-- a whole number in range is a `Frac`
pub whole_made : (n : ℤ) → IsNarrow n → IsReduced n 1
whole_made n h = record { positive = omega arith; lowest = gcd-one (nat_abs n); num_narrow = h; den_narrow = omega arith }
