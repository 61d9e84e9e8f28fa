-- The comparison of quotients by their whole parts and what remains.
use Rattle.std.proofs.Common.{◌≡◌, ◌≢◌, ◌⊎◌, ⊎_elim, mul_comm, ℕ, suc, ◌+◌, ◌*◌, ◌/◌, ◌%◌, ◌<◌, ◌≤◌, refl, sym, ap, ap₂, ◌∙◌, arith, mul-pos, mul-le-mul, mul-le-mul_left, mul-lt-mul_of_pos_right, div-add-mod', mod-lt, Less, Equal, Greater}
use Rattle.std.proofs.Common.{ℤ, pos, negsuc, ◌*ℤ◌, ◌<ℤ◌, nat_abs, int_lt, true, false, true≢false}
use Rattle.std.proofs.Common.{Ordering, eqb, eqb-true, eq-eqb}
use Rattle.std.specs.Cmp.{both_ways}
use Rattle.std.specs.Ordering.{nat_cmp, int_cmp, is_eq, MatchOrdering}
use Rattle.std.proofs.lemmas.Bool.Decides.{nat_tests}
use Rattle.std.proofs.lemmas.Cmp.{ranked, int_ranked, by_ranked, tied_itself}
use Rattle.exact_math.specs.Rational.{ℚ, rational_cmp}
use Rattle.exact_math.specs.RationalCode.{den_pos, same_terms}
use Rattle.exact_math.specs.RationalOrder.{rational_cmp_total, ranked as rational_ranked}
use Rattle.exact_math.specs.IntegerOrder.{mul_lt}
use Rattle.exact_math.specs.IntegerRing.{linear, mul_comm as mul_comm_ℤ}
use Rattle.frac128.proofs.Terms.{ltb-zero}

-- the answer for a lesser number
less : (x y : ℕ) → x < y → nat_cmp x y ≡ Less
less x y h = grind (arith, nat_tests)

-- for an equal one
same : (x y : ℕ) → x ≡ y → nat_cmp x y ≡ Equal
same x y h = grind (arith, nat_tests)

-- for a greater one
greater : (x y : ℕ) → y < x → nat_cmp x y ≡ Greater
greater x y h = grind (arith, nat_tests)

-- two pairs that stand alike compare alike
alike : (x y u v : ℕ) → (x < y → u < v) → (x ≡ y → u ≡ v) → (y < x → v < u) → nat_cmp x y ≡ nat_cmp u v
alike x y u v f g h =
    by_ranked _ _ _ (nat_cmp x y) (ranked x y _ refl) (λ e k. e ∙ sym (less u v (f k))) (λ e k. e ∙ sym (same u v (g k))) (λ e k. e ∙ sym (greater u v (h k)))

-- a lesser whole part makes a lesser quotient
below : (a b c d q s : ℕ) → 0 < d → a < (q + 1) * b → s * d ≤ c → q < s → a * d < c * b
below a b c d q s some h k l =
    let up : a * d < (q + 1) * b * d = mul-lt-mul_of_pos_right h some in
    let over : (q + 1) * (b * d) ≤ s * (b * d) = mul-le-mul (omega arith) (omega arith) in
    let top : b * (s * d) ≤ b * c = mul-le-mul_left b k in
    omega arith

-- unequal whole parts decide
pub by_whole_parts : (a b c d : ℕ) → 0 < b → 0 < d → a / b ≢ c / d → nat_cmp (a / b) (c / d) ≡ nat_cmp (a * d) (c * b)
by_whole_parts a b c d hb hd ne =
    alike (a / b) (c / d) (a * d) (c * b)
    (λ h. below a b c d (a / b) (c / d) hd (omega (arith, div-add-mod' a b, mod-lt a hb)) (omega (arith, div-add-mod' c d)) h)
    (λ e. absurd (ne e))
    (λ h. below c d a b (c / d) (a / b) hb (omega (arith, div-add-mod' c d, mod-lt c hd)) (omega (arith, div-add-mod' a b)) h)

-- where they are equal, what remains decides
by_rests : (a b c d : ℕ) → a / b ≡ c / d → nat_cmp (a % b * d) (c % d * b) ≡ nat_cmp (a * d) (c * b)
by_rests a b c d e =
    let left = ap (λ x. x * d) (div-add-mod' a b) in
    let right = ap (λ x. x * b) (div-add-mod' c d) in
    let whole = ap (λ x. x * b * d) e in
    alike (a % b * d) (c % d * b) (a * d) (c * b) (λ h. omega (arith, left, right, whole)) (λ h. omega (arith, left, right, whole)) (λ h. omega (arith, left, right, whole))

-- a rest of 0 on one side
pub by_zero : (a b c d : ℕ) → 0 < b → 0 < d → a / b ≡ c / d → (a % b ≡ 0) ⊎ (c % d ≡ 0) → nat_cmp (a % b) (c % d) ≡ nat_cmp (a * d) (c * b)
by_zero a b c d hb hd e zero_side =
    alike (a % b) (c % d) (a % b * d) (c % d * b)
    (λ h. let z : a % b ≡ 0 = ⊎_elim (λ z. z) (λ z. absurd (omega arith)) zero_side in omega (arith, ap (λ x. x * d) z, mul-pos {m = c % d} (omega arith) hb))
    (λ h. let z : a % b ≡ 0 = ⊎_elim (λ z. z) (λ z. omega arith) zero_side in let y : c % d ≡ 0 = omega arith in omega (arith, ap (λ x. x * d) z, ap (λ x. x * b) y))
    (λ h. let z : c % d ≡ 0 = ⊎_elim (λ z. absurd (omega arith)) (λ z. z) zero_side in omega (arith, ap (λ x. x * b) z, mul-pos {m = a % b} (omega arith) hd))
    ∙ by_rests a b c d e

-- the quotients that remain, turned over
pub by_turning : (a b c d : ℕ) → a / b ≡ c / d → nat_cmp (d * (a % b)) (b * (c % d)) ≡ nat_cmp (a * d) (c * b)
by_turning a b c d e = ap₂ nat_cmp (mul_comm d (a % b)) (mul_comm b (c % d)) ∙ by_rests a b c d e

-- ---- numbers with signs

-- the answer for a lesser number with a sign
int_less : (u v : ℤ) → u <ℤ v → int_cmp u v ≡ Less
int_less u v h = grind linear

-- for an equal one
int_same : (u v : ℤ) → u ≡ v → int_cmp u v ≡ Equal
int_same u v h = grind linear

-- for a greater one
int_greater : (u v : ℤ) → v <ℤ u → int_cmp u v ≡ Greater
int_greater u v h = grind linear

-- sizes that stand as two numbers with signs do compare as they do
int_alike : (x y : ℕ) (u v : ℤ) → (x < y → u <ℤ v) → (x ≡ y → u ≡ v) → (y < x → v <ℤ u) → nat_cmp x y ≡ int_cmp u v
int_alike x y u v f g h =
    by_ranked _ _ _ (nat_cmp x y) (ranked x y _ refl) (λ e k. e ∙ sym (int_less u v (f k))) (λ e k. e ∙ sym (int_same u v (g k))) (λ e k. e ∙ sym (int_greater u v (h k)))

-- no test is both
not_false : true ≡ false → ⊥
not_false e = true≢false e

-- of two numbers that are not negative the quotients of the sizes decide
cross_positive : (n m : ℤ) (b d : ℕ) → int_lt n (pos 0) ≡ false → int_lt m (pos 0) ≡ false → nat_cmp (nat_abs n * d) (nat_abs m * b) ≡ int_cmp (n *ℤ pos d) (m *ℤ pos b)
cross_positive (pos n) (pos m) b d e f =
    int_alike (n * d) (m * b) (pos n *ℤ pos d) (pos m *ℤ pos b) (λ h. omega linear) (λ h. omega linear) (λ h. omega linear)
cross_positive (negsuc n) m b d e f = absurd (not_false e)
cross_positive (pos n) (negsuc m) b d e f = absurd (not_false f)

-- of two negative numbers too, the other way round
cross_negative : (n m : ℤ) (b d : ℕ) → int_lt n (pos 0) ≡ true → int_lt m (pos 0) ≡ true → nat_cmp (nat_abs m * b) (nat_abs n * d) ≡ int_cmp (n *ℤ pos d) (m *ℤ pos b)
cross_negative (negsuc n) (negsuc m) b d e f =
    int_alike (suc m * b) (suc n * d) (negsuc n *ℤ pos d) (negsuc m *ℤ pos b) (λ h. omega linear) (λ h. omega linear) (λ h. omega linear)
cross_negative (pos n) m b d e f = absurd (not_false (sym e ∙ ltb-zero n))
cross_negative (negsuc n) (pos m) b d e f = absurd (not_false (sym f ∙ ltb-zero m))

-- a negative number is below the others
cross_less : (n m : ℤ) (b d : ℕ) → 0 < d → int_lt n (pos 0) ≡ true → int_lt m (pos 0) ≡ false → int_cmp (n *ℤ pos d) (m *ℤ pos b) ≡ Less
cross_less (negsuc n) (pos m) b d hd e f = int_less (negsuc n *ℤ pos d) (pos m *ℤ pos b) (omega linear)
cross_less (pos n) m b d hd e f = absurd (not_false (sym e ∙ ltb-zero n))
cross_less (negsuc n) (negsuc m) b d hd e f = absurd (not_false f)

-- and the others are above it
cross_greater : (n m : ℤ) (b d : ℕ) → 0 < b → int_lt n (pos 0) ≡ false → int_lt m (pos 0) ≡ true → int_cmp (n *ℤ pos d) (m *ℤ pos b) ≡ Greater
cross_greater (pos n) (negsuc m) b d hb e f = int_greater (pos n *ℤ pos d) (negsuc m *ℤ pos b) (omega linear)
cross_greater (negsuc n) m b d hb e f = absurd (not_false e)
cross_greater (pos n) (pos m) b d hb e f = absurd (not_false (sym f ∙ ltb-zero m))

-- a strict inequality is multiplied by a number above 0
scaled_lt : (n m : ℤ) (d : ℕ) → 0 < d → n <ℤ m → (n *ℤ pos d) <ℤ (m *ℤ pos d)
scaled_lt n m d some h =
    omega (linear, mul_lt (pos d) n m (omega linear) h, mul_comm_ℤ n (pos d), mul_comm_ℤ m (pos d))

-- a common factor above 0 leaves the comparison as it is
scaled : (n m : ℤ) (d : ℕ) → 0 < d → int_cmp n m ≡ int_cmp (n *ℤ pos d) (m *ℤ pos d)
scaled n m d some =
    by_ranked _ _ _ (int_cmp n m) (int_ranked n m _ refl) (λ e k. e ∙ sym (int_less _ _ (scaled_lt n m d some k))) (λ e k. e ∙ sym (int_same _ _ (ap (λ z. z *ℤ pos d) k))) (λ e k. e ∙ sym (int_greater _ _ (scaled_lt m n d some k)))

module _ (p q : ℚ) where
  -- over one denominator the numerators decide
  pub by_nums : p.den ≡ q.den → int_cmp p.num q.num ≡ rational_cmp p q
  unfolding rational_cmp
  by_nums e =
      scaled p.num q.num q.den (den_pos q) ∙ ap (λ d. int_cmp (p.num *ℤ pos q.den) (q.num *ℤ pos d)) (sym e)

  -- two numbers that are not negative
  pub both_positive : (m n b d : ℕ) → m ≡ nat_abs p.num → n ≡ nat_abs q.num → b ≡ p.den → d ≡ q.den → int_lt p.num (pos 0) ≡ false → int_lt q.num (pos 0) ≡ false → nat_cmp (m * d) (n * b) ≡ rational_cmp p q
  unfolding rational_cmp
  both_positive m n b d is_m is_n is_b is_d e f =
      ap₂ nat_cmp (ap₂ ◌*◌ is_m is_d) (ap₂ ◌*◌ is_n is_b) ∙ cross_positive p.num q.num p.den q.den e f

  -- two negative numbers
  pub both_negative : (m n b d : ℕ) → m ≡ nat_abs p.num → n ≡ nat_abs q.num → b ≡ p.den → d ≡ q.den → int_lt p.num (pos 0) ≡ true → int_lt q.num (pos 0) ≡ true → nat_cmp (n * b) (m * d) ≡ rational_cmp p q
  unfolding rational_cmp
  both_negative m n b d is_m is_n is_b is_d e f =
      ap₂ nat_cmp (ap₂ ◌*◌ is_n is_b) (ap₂ ◌*◌ is_m is_d) ∙ cross_negative p.num q.num p.den q.den e f

  -- a negative number and another
  pub negative_below : int_lt p.num (pos 0) ≡ true → int_lt q.num (pos 0) ≡ false → Less ≡ rational_cmp p q
  unfolding rational_cmp
  negative_below e f = sym (cross_less p.num q.num p.den q.den (den_pos q) e f)

  -- another number and a negative one
  pub positive_above : int_lt p.num (pos 0) ≡ false → int_lt q.num (pos 0) ≡ true → Greater ≡ rational_cmp p q
  unfolding rational_cmp
  positive_above e f = sym (cross_greater p.num q.num p.den q.den (den_pos p) e f)

-- ---- equality

-- the comparison answers `Equal` exactly for equal numbers
eq_from_same : (p q : ℚ) → p ≡ q → is_eq (rational_cmp p q) ≡ true
eq_from_same p q e =
    ap (λ r. is_eq (rational_cmp p r)) (sym e) ∙ ap is_eq (tied_itself rational_cmp_total p)

-- the fact behind the answer `Equal`
equal_from : (o : Ordering) (A B C : Type 0) → MatchOrdering o A B C → is_eq o ≡ true → B
equal_from Less A B C h e = absurd (true≢false (sym e))
equal_from Equal A B C h e = h
equal_from Greater A B C h e = absurd (true≢false (sym e))

-- and back
same_from_eq : (p q : ℚ) → is_eq (rational_cmp p q) ≡ true → p ≡ q
same_from_eq p q e = equal_from (rational_cmp p q) _ _ _ (rational_ranked p q) e

-- numerators that are equal leave the denominators to decide
pub eq_by_dens : (p q : ℚ) (b d : ℕ) → b ≡ p.den → d ≡ q.den → p.num ≡ q.num → eqb b d ≡ is_eq (rational_cmp p q)
eq_by_dens p q b d is_b is_d e =
    both_ways _ _
    (λ t. eq_from_same p q (same_terms p q e (sym is_b ∙ eqb-true b d t ∙ is_d)))
    (λ t. eq-eqb b d (is_b ∙ ap (λ r. r.den) (same_from_eq p q t) ∙ sym is_d))

-- numerators that differ decide
pub ne_by_nums : (p q : ℚ) → (p.num ≡ q.num → ⊥) → false ≡ is_eq (rational_cmp p q)
ne_by_nums p q ne =
    both_ways false _ (λ t. absurd (true≢false (sym t))) (λ t. absurd (ne (ap (λ r. r.num) (same_from_eq p q t))))
