-- The laws of the greatest common divisor, and of numbers with no common divisor but 1.
use Rattle.std.proofs.Common.{◌≡◌, ◌==◌, ℕ, zero, suc, ℤ, pos, negsuc, neg_ℤ, nat_abs, int_div, T, nat_lt, lt→ltb, ◌-◌, ◌*◌, ◌/◌, ◌%◌, ◌≤◌, ◌<◌, refl, sym, ap, ◌∙◌, subst, arith, mul_comm, one-mul, mul-zero, zero-mul, mul-le-mul_left}
use Rattle.std.specs.Int.{IsGcd, ◌∣◌}
use Rattle.std.proofs.Math.Nat.{dvd-mul_left, dvd-mul_right, eq-one_of_dvd-one, dvd_of_mul-dvd-mul_left, mul-dvd-mul_left, pos_of_dvd_of_pos, mul-div_cancel'}
use Rattle.std.proofs.lemmas.Nat.Gcd.{IsGcd-from_zero, IsGcd-from_mod, IsGcd-from_sub, IsGcd-swap, same_from_IsGcd, dvd_trans, dvd_antisymm, le_of_dvd, dvd_refl}
use Rattle.exact_math.specs.Gcd.{gcd, gcd_within}

-- enough steps find the greatest common divisor
IsGcd-gcd_within : (steps a b : ℕ) → b ≤ steps → IsGcd a b (gcd_within steps a b)
unfolding gcd_within
IsGcd-gcd_within zero a b h = IsGcd-from_zero a b (omega arith)
IsGcd-gcd_within (suc steps) a zero h = IsGcd-from_zero a 0 refl
IsGcd-gcd_within (suc steps) a (suc b) h =
    IsGcd-from_mod a (suc b) _ (IsGcd-gcd_within steps (suc b) (a % suc b) (omega arith))

-- it divides both, and each common divisor divides it
pub gcd-is : (a b : ℕ) → IsGcd a b (gcd a b)
unfolding gcd
gcd-is a b = IsGcd-gcd_within b a b (omega arith)

-- no other number does
pub gcd_from_IsGcd : (a b g : ℕ) → IsGcd a b g → gcd a b ≡ g
gcd_from_IsGcd a b g h = same_from_IsGcd a b _ g (gcd-is a b) h

-- it divides the first number
pub gcd_dvd_left : (a b : ℕ) → gcd a b ∣ a
gcd_dvd_left a b = (gcd-is a b).0

-- it divides the second
pub gcd_dvd_right : (a b : ℕ) → gcd a b ∣ b
gcd_dvd_right a b = (gcd-is a b).1

-- each common divisor divides it
pub dvd_gcd : (a b d : ℕ) → d ∣ a → d ∣ b → d ∣ gcd a b
dvd_gcd a b d p q = (gcd-is a b).2 d p q

-- the two numbers change places
pub gcd_comm : (a b : ℕ) → gcd a b ≡ gcd b a
gcd_comm a b = gcd_from_IsGcd a b (gcd b a) (IsGcd-swap b a _ (gcd-is b a))

-- beside 0 it is the other number
pub gcd-zero : (a : ℕ) → gcd a 0 ≡ a
gcd-zero a = gcd_from_IsGcd a 0 a (IsGcd-from_zero a 0 refl)

-- the same on the left
pub gcd-zero_left : (a : ℕ) → gcd 0 a ≡ a
gcd-zero_left a = gcd_comm 0 a ∙ gcd-zero a

-- beside 1 it is 1
pub gcd-one : (a : ℕ) → gcd a 1 ≡ 1
gcd-one a = eq-one_of_dvd-one (gcd_dvd_right a 1)

-- the same on the left
pub gcd-one_left : (a : ℕ) → gcd 1 a ≡ 1
gcd-one_left a = eq-one_of_dvd-one (gcd_dvd_left 1 a)

-- of a number and itself
pub gcd_self : (a : ℕ) → gcd a a ≡ a
gcd_self a = gcd_from_IsGcd a a a (dvd_refl a, dvd_refl a, λ d p q. p)

-- Euclid's step
pub gcd-mod : (a b : ℕ) → gcd a b ≡ gcd b (a % b)
gcd-mod a b = gcd_from_IsGcd a b _ (IsGcd-from_mod a b _ (gcd-is b (a % b)))

-- it is above 0 where the second number is
pub gcd_pos_right : (a b : ℕ) → 0 < b → 0 < gcd a b
gcd_pos_right a b h = pos_of_dvd_of_pos (gcd_dvd_right a b) h

-- and where the first is
pub gcd_pos_left : (a b : ℕ) → 0 < a → 0 < gcd a b
gcd_pos_left a b h = pos_of_dvd_of_pos (gcd_dvd_left a b) h

-- it is below what both numbers are below
pub gcd_below : (a b limit : ℕ) → a < limit → b < limit → gcd a b < limit
gcd_below a zero limit h k = subst (λ n. n < limit) (sym (gcd-zero a)) h
gcd_below a (suc b) limit h k =
    let at_most : gcd a (suc b) ≤ suc b = le_of_dvd (omega arith) (gcd_dvd_right a (suc b)) in
    omega arith

-- both divided by the greatest common divisor, and multiplied again
pub gcd-mul-div_left : (a b : ℕ) → gcd a b * (a / gcd a b) ≡ a
gcd-mul-div_left a b = mul-div_cancel' _ (gcd_dvd_left a b)

-- the same of the second number
pub gcd-mul-div_right : (a b : ℕ) → gcd a b * (b / gcd a b) ≡ b
gcd-mul-div_right a b = mul-div_cancel' _ (gcd_dvd_right a b)

-- such a quotient divides the number
pub quotient_dvd : (g n : ℕ) → g ∣ n → n / g ∣ n
quotient_dvd g n h = subst (λ m. n / g ∣ m) (mul-div_cancel' g h) (dvd-mul_left (n / g) g)

-- a common factor of both is one of their greatest common divisor
scaled : (k a b : ℕ) → 0 < k → IsGcd (k * a) (k * b) (k * gcd a b)
scaled k a b some = (
  mul-dvd-mul_left _ k (gcd_dvd_left a b),
  mul-dvd-mul_left _ k (gcd_dvd_right a b),
  λ d p q.
      let whole = gcd (k * a) (k * b) in
      let part : ℕ = whole / k in
      let is : k * part ≡ whole = mul-div_cancel' k (dvd_gcd (k * a) (k * b) k (dvd-mul_right k a) (dvd-mul_right k b)) in
      let in_a : part ∣ a = dvd_of_mul-dvd-mul_left part some (subst (λ n. n ∣ k * a) (sym is) (gcd_dvd_left (k * a) (k * b))) in
      let in_b : part ∣ b = dvd_of_mul-dvd-mul_left part some (subst (λ n. n ∣ k * b) (sym is) (gcd_dvd_right (k * a) (k * b))) in
      let up : whole ∣ k * gcd a b = subst (λ n. n ∣ k * gcd a b) is (mul-dvd-mul_left part k (dvd_gcd a b part in_a in_b)) in
      dvd_trans d (dvd_gcd (k * a) (k * b) d p q) up,
)

-- a common factor comes out
pub gcd-mul_left : (k a b : ℕ) → gcd (k * a) (k * b) ≡ k * gcd a b
gcd-mul_left zero a b =
    ap (λ n. gcd n (0 * b)) (zero-mul a) ∙ ap (gcd 0) (zero-mul b) ∙ gcd-zero 0 ∙ sym (zero-mul (gcd a b))
gcd-mul_left (suc k) a b = gcd_from_IsGcd _ _ _ (scaled (suc k) a b (omega arith))

-- the same on the right
pub gcd-mul_right : (k a b : ℕ) → gcd (a * k) (b * k) ≡ gcd a b * k
gcd-mul_right k a b =
    ap (λ n. gcd n (b * k)) (mul_comm a k) ∙ ap (gcd (k * a)) (mul_comm b k) ∙ gcd-mul_left k a b ∙ mul_comm k (gcd a b)

-- ---- numbers with no common divisor but 1

-- a common divisor of two such numbers is 1
pub one_from_dvd : (a b d : ℕ) → gcd a b ≡ 1 → d ∣ a → d ∣ b → d ≡ 1
one_from_dvd a b d e p q = eq-one_of_dvd-one (subst (λ n. d ∣ n) e (dvd_gcd a b d p q))

-- Euclid's lemma: what divides a product, and has no divisor in common with one factor, divides the other
pub dvd_from_product : (d a b : ℕ) → gcd d a ≡ 1 → d ∣ a * b → d ∣ b
dvd_from_product d a b e h =
    let is : gcd (d * b) (a * b) ≡ b = gcd-mul_right b d a ∙ ap (λ n. n * b) e ∙ one-mul b in
    subst (λ n. d ∣ n) is (dvd_gcd (d * b) (a * b) d (dvd-mul_right d b) h)

-- a factor that has no divisor in common with the other number drops out
pub gcd-strip : (k m n : ℕ) → gcd k n ≡ 1 → gcd (k * m) n ≡ gcd m n
gcd-strip k m n e =
    let g = gcd (k * m) n in
    let apart : gcd g k ≡ 1 = one_from_dvd k n _ e (gcd_dvd_right g k) (dvd_trans _ (gcd_dvd_left g k) (gcd_dvd_right (k * m) n)) in
    dvd_antisymm (dvd_gcd m n g (dvd_from_product g k m apart (gcd_dvd_left (k * m) n)) (gcd_dvd_right (k * m) n))
    (dvd_gcd (k * m) n _ (dvd_trans _ (gcd_dvd_left m n) (dvd-mul_left m k)) (gcd_dvd_right m n))

-- a difference in place of the greater number
pub gcd-sub : (a b : ℕ) → b ≤ a → gcd (a - b) b ≡ gcd a b
gcd-sub a b h = sym (gcd_from_IsGcd a b _ (IsGcd-from_sub a b _ h (gcd-is (a - b) b)))

-- a product has no divisor in common with a number with which neither factor has one
pub gcd-product : (a b c : ℕ) → gcd a c ≡ 1 → gcd b c ≡ 1 → gcd (a * b) c ≡ 1
gcd-product a b c p q =
    let g = gcd (a * b) c in
    let in_c : g ∣ c = gcd_dvd_right (a * b) c in
    let apart : gcd g a ≡ 1 = one_from_dvd a c _ p (gcd_dvd_right g a) (dvd_trans _ (gcd_dvd_left g a) in_c) in
    one_from_dvd b c g q (dvd_from_product g a b apart (gcd_dvd_left (a * b) c)) in_c

-- the same with the number on the left
pub gcd-product_right : (a b c : ℕ) → gcd c a ≡ 1 → gcd c b ≡ 1 → gcd c (a * b) ≡ 1
gcd-product_right a b c p q =
    gcd_comm c (a * b) ∙ gcd-product a b c (gcd_comm a c ∙ p) (gcd_comm b c ∙ q)

-- divisors of such numbers are such numbers
pub gcd-one_from_dvd : (a b c d : ℕ) → gcd a b ≡ 1 → c ∣ a → d ∣ b → gcd c d ≡ 1
gcd-one_from_dvd a b c d e p q =
    one_from_dvd a b _ e (dvd_trans _ (gcd_dvd_left c d) p) (dvd_trans _ (gcd_dvd_right c d) q)

-- a factor that changes nothing is 1
one_from_mul : (g k : ℕ) → 0 < g → g * k ≡ g → k ≡ 1
one_from_mul g zero some e = absurd (omega (arith, mul-zero g))
one_from_mul g (suc zero) some e = refl
one_from_mul g (suc (suc k)) some e = absurd (omega (arith, mul-le-mul_left g (two_le k)))
  where
    two_le : (k : ℕ) → 2 ≤ suc (suc k)
    two_le k = omega arith

-- both divided by their greatest common divisor
pub gcd-quotients : (a b : ℕ) → 0 < gcd a b → gcd (a / gcd a b) (b / gcd a b) ≡ 1
gcd-quotients a b some =
    let g = gcd a b in
    let is : g * gcd (a / g) (b / g) ≡ g = sym (gcd-mul_left g (a / g) (b / g)) ∙ ap (λ n. gcd n (g * (b / g))) (gcd-mul-div_left a b) ∙ ap (gcd a) (gcd-mul-div_right a b) in
    one_from_mul g _ some is

-- two fractions in lowest terms that are equal have the same terms
pub same_lowest : (a b c d : ℕ) → gcd a b ≡ 1 → gcd c d ≡ 1 → a * d ≡ c * b → (a ≡ c) × (b ≡ d)
same_lowest a b c d p q e = (
  dvd_antisymm (dvd_from_product a b c p (subst (λ n. a ∣ n) (e ∙ mul_comm c b) (dvd-mul_right a d)))
      (dvd_from_product c d a q (subst (λ n. c ∣ n) (sym e ∙ mul_comm a d) (dvd-mul_right c b))),
  dvd_antisymm (dvd_from_product b a d (gcd_comm b a ∙ p) (subst (λ n. b ∣ n) (sym e) (dvd-mul_left b c)))
      (dvd_from_product d c b (gcd_comm d c ∙ q) (subst (λ n. d ∣ n) e (dvd-mul_left d a))),
)

-- ---- the terms of a fraction, whose numerator has a sign

-- a divisor as the test of a fraction in lowest terms has it
pub test_of : {g : ℕ} → g ≡ 1 → T (g == 1)
test_of e = subst (λ g. T (g == 1)) (sym e) tt

-- the size of a negated natural number
pub nat_abs-neg : (n : ℕ) → nat_abs (neg_ℤ (pos n)) ≡ n
nat_abs-neg zero = refl
nat_abs-neg (suc n) = refl

-- a sign does not change the size
pub nat_abs-neg_ℤ : (z : ℤ) → nat_abs (neg_ℤ z) ≡ nat_abs z
nat_abs-neg_ℤ (pos n) = nat_abs-neg n
nat_abs-neg_ℤ (negsuc n) = refl

-- the size of a quotient that is rounded toward 0
pub nat_abs-int_div : (n : ℤ) (g : ℕ) → nat_abs (int_div n (pos g)) ≡ nat_abs n / g
nat_abs-int_div (pos a) g = refl
nat_abs-int_div (negsuc a) g = nat_abs-neg (suc a / g)

-- both terms divided by their greatest common divisor: the denominator is above 0 ..
pub reduced_positive : (n d : ℕ) → 0 < d → T (nat_lt 0 (d / gcd n d))
reduced_positive n d some =
    let g = gcd n d in
    lt→ltb 0 (d / g) (pos_of_factor g (d / g) (subst (λ k. 0 < k) (sym (gcd-mul-div_right n d)) some))
  where
    pos_of_factor : (g k : ℕ) → 0 < g * k → 0 < k
    pos_of_factor g zero h = absurd (omega (arith, mul-zero g))
    pos_of_factor g (suc k) h = omega arith

-- .. and they are lowest
pub reduced_lowest : (n : ℤ) (d : ℕ) → 0 < d → T (gcd (nat_abs (int_div n (pos (gcd (nat_abs n) d)))) (d / gcd (nat_abs n) d) == 1)
reduced_lowest n d some =
    let g = gcd (nat_abs n) d in
    test_of (ap (λ k. gcd k (d / g)) (nat_abs-int_div n g) ∙ gcd-quotients (nat_abs n) d (gcd_pos_right (nat_abs n) d some))
