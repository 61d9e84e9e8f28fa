-- The greatest common divisor by shifts and differences: factors of 2 drop out beside an odd number.
use Rattle.std.proofs.Common.{max, ◌≡◌, ◌≢◌, ⊎_elim, ℕ, zero, suc, ◌+◌, ◌-◌, ◌*◌, ◌/◌, ◌%◌, ◌^◌, ◌<◌, min, sym, ap, ap₂, ◌∙◌, subst, arith, mul_comm, mul_assoc, mod-eq_of_lt, pow-suc, pow-add, one-add}
use Rattle.std.specs.Int.{Width, abs_diff, trailing_zeros}
use mir.Val.{bits}
use Rattle.std.proofs.Math.Nat.{mod-one}
use Rattle.std.proofs.lemmas.Nat.{mod-pow-add, shr_split}
use Rattle.std.proofs.lemmas.Nat.Bits.{bit_at-trailing_zeros}
use Rattle.std.proofs.lemmas.Bool.{cases_lt}
use Rattle.std.proofs.lemmas.Bool.Decides.{nat_tests}
use Rattle.exact_math.specs.Gcd.{gcd}
use Rattle.exact_math.specs.GcdLaws.{gcd-mod, gcd_comm, gcd-one, gcd-one_left, gcd-strip, gcd-sub, gcd-product, gcd-mul_left, gcd_below}

-- a number whose low k bits are 0 is a multiple of 2^k
low_zero : (n k : ℕ) → ((i : ℕ) → i < k → n / 2 ^ i % 2 ≡ 0) → n % 2 ^ k ≡ 0
low_zero n zero h = mod-one n
low_zero n (suc k) h =
    ap (λ j. n % 2 ^ j) (sym (one-add k)) ∙ mod-pow-add n 1 k ∙ ap₂ (λ a b. a * 2 ^ k + b) (h k (omega arith)) (low_zero n k (λ i l. h i (omega arith))) ∙ none (2 ^ k)
  where
    none : (m : ℕ) → 0 * m + 0 ≡ 0
    none m = omega arith

-- an odd number and a power of 2
gcd_two : (n : ℕ) → n % 2 ≡ 1 → gcd 2 n ≡ 1
gcd_two n odd = gcd_comm 2 n ∙ gcd-mod n 2 ∙ ap (gcd 2) odd ∙ gcd-one 2

-- the same for each power of 2
gcd_power : (k n : ℕ) → n % 2 ≡ 1 → gcd (2 ^ k) n ≡ 1
gcd_power zero n odd = gcd-one_left n
gcd_power (suc k) n odd =
    ap (λ m. gcd m n) (pow-suc 2 k) ∙ gcd-product (2 ^ k) 2 n (gcd_power k n odd) (gcd_two n odd)

-- what is left of a number without its factors of 2
module _ (w : Width) (n : ℕ) (some : 0 < n) (fits : n < 2 ^ bits w) where
  -- it is odd
  pub odd_part : n / 2 ^ trailing_zeros w n % 2 ≡ 1
  odd_part = (bit_at-trailing_zeros w n some fits).1

  -- with its factors of 2 it is the number
  pub split : 2 ^ trailing_zeros w n * (n / 2 ^ trailing_zeros w n) ≡ n
  split =
      let k = trailing_zeros w n in
      let low : n % 2 ^ k ≡ 0 = low_zero n k (bit_at-trailing_zeros w n some fits).2 in
      omega (arith, shr_split n k, low, mul_comm (2 ^ k) (n / 2 ^ k))

  -- beside an odd number it has the same greatest common divisor
  pub gcd_odd_part : (m : ℕ) → m % 2 ≡ 1 → gcd (n / 2 ^ trailing_zeros w n) m ≡ gcd n m
  gcd_odd_part m odd =
      sym (gcd-strip (2 ^ trailing_zeros w n) (n / 2 ^ trailing_zeros w n) m (gcd_power _ m odd)) ∙ ap (λ k. gcd k m) split

-- the greater number first
pub ordered : (x y : ℕ) → gcd (max x y) (min x y) ≡ gcd x y
ordered x y = ⊎_elim
    (λ h. let low : min x y ≡ x = omega arith in let high : max x y ≡ y = omega arith in ap₂ gcd high low ∙ gcd_comm y x)
    (λ h. let low : min x y ≡ y = omega arith in let high : max x y ≡ x = omega arith in ap₂ gcd high low)
    (cases_lt x y)

-- one step: the smaller number, and the difference
apart : (x y : ℕ) → x ≢ y → (0 < abs_diff x y) × (gcd (abs_diff x y) (min x y) ≡ gcd x y)
apart x y ne = ⊎_elim
    (λ h. let low : min x y ≡ x = omega arith in let is : abs_diff x y ≡ y - x = grind (arith, nat_tests) in
    (omega arith, ap₂ gcd is low ∙ gcd-sub y x (omega arith) ∙ gcd_comm y x))
    (λ h. let low : min x y ≡ y = omega arith in let is : abs_diff x y ≡ x - y = grind (arith, nat_tests) in
    (omega arith, ap₂ gcd is low ∙ gcd-sub x y (omega arith)))
    (cases_lt x y)

-- a difference is below what both numbers are below
below : (x y limit : ℕ) → x < limit → y < limit → abs_diff x y < limit
below x y limit h k = grind (arith, nat_tests)

-- the smaller of two odd numbers is odd
min_odd : (x y : ℕ) → x % 2 ≡ 1 → y % 2 ≡ 1 → min x y % 2 ≡ 1
min_odd x y h k = ⊎_elim
    (λ l. let low : min x y ≡ x = omega arith in ap (λ n. n % 2) low ∙ h)
    (λ l. let low : min x y ≡ y = omega arith in ap (λ n. n % 2) low ∙ k)
    (cases_lt x y)

-- both numbers stay odd, and the greatest common divisor stays
pub step_is : (w : Width) (x y rest low : ℕ) → x % 2 ≡ 1 → y % 2 ≡ 1 → x ≢ y → x < 2 ^ bits w → y < 2 ^ bits w → rest ≡ abs_diff x y → low ≡ min x y →
    (low % 2 ≡ 1) × (rest / 2 ^ trailing_zeros w rest % 2 ≡ 1) × (gcd low (rest / 2 ^ trailing_zeros w rest) ≡ gcd x y)
step_is w x y rest low x_odd y_odd ne hx hy is_rest is_low =
    let a = apart x y ne in
    let some : 0 < rest = subst (λ n. 0 < n) (sym is_rest) a.0 in
    let fits : rest < 2 ^ bits w = subst (λ n. n < 2 ^ bits w) (sym is_rest) (below x y (2 ^ bits w) hx hy) in
    let odd : low % 2 ≡ 1 = ap (λ n. n % 2) is_low ∙ min_odd x y x_odd y_odd in
    (odd, odd_part w rest some fits, gcd_comm low _ ∙ gcd_odd_part w rest some fits low odd ∙ ap₂ gcd is_rest is_low ∙ a.1)

-- ---- the common factors of 2

module _ (m n : ℕ) (m_odd : m % 2 ≡ 1) (n_odd : n % 2 ≡ 1) where
  -- where the first number has fewer of them
  fewer : (i k : ℕ) → gcd (2 ^ i * m) (2 ^ (i + k) * n) ≡ 2 ^ i * gcd m n
  fewer i k =
      ap (λ x. gcd (2 ^ i * m) (x * n)) (pow-add 2 i k) ∙ ap (gcd (2 ^ i * m)) (mul_assoc (2 ^ i) (2 ^ k) n) ∙ gcd-mul_left (2 ^ i) m (2 ^ k * n)
      ∙ ap (λ g. 2 ^ i * g) (gcd_comm m (2 ^ k * n) ∙ gcd-strip (2 ^ k) n m (gcd_power k m m_odd) ∙ gcd_comm n m)

  -- where the second number has fewer
  more : (j k : ℕ) → gcd (2 ^ (j + k) * m) (2 ^ j * n) ≡ 2 ^ j * gcd m n
  more j k =
      ap (λ x. gcd (x * m) (2 ^ j * n)) (pow-add 2 j k) ∙ ap (λ x. gcd x (2 ^ j * n)) (mul_assoc (2 ^ j) (2 ^ k) m) ∙ gcd-mul_left (2 ^ j) (2 ^ k * m) n
      ∙ ap (λ g. 2 ^ j * g) (gcd-strip (2 ^ k) m n (gcd_power k n n_odd))

  -- the lesser power of 2 comes out
  powers : (i j : ℕ) → gcd (2 ^ i * m) (2 ^ j * n) ≡ gcd m n * 2 ^ min i j
  powers i j = ⊎_elim
      (λ h. let e : i + (j - i) ≡ j = omega arith in let low : min i j ≡ i = omega arith in
      ap (λ k. gcd (2 ^ i * m) (2 ^ k * n)) (sym e) ∙ fewer i (j - i) ∙ mul_comm (2 ^ i) (gcd m n) ∙ ap (λ k. gcd m n * 2 ^ k) (sym low))
      (λ h. let e : j + (i - j) ≡ i = omega arith in let low : min i j ≡ j = omega arith in
      ap (λ k. gcd (2 ^ k * m) (2 ^ j * n)) (sym e) ∙ more j (i - j) ∙ mul_comm (2 ^ j) (gcd m n) ∙ ap (λ k. gcd m n * 2 ^ k) (sym low))
      (cases_lt i j)

-- the divisor of the odd parts, with the common factors of 2, fits the width
pub words_are : (w : Width) (a b g common : ℕ) → 0 < a → 0 < b → a < 2 ^ bits w → b < 2 ^ bits w → g ≡ gcd (a / 2 ^ trailing_zeros w a) (b / 2 ^ trailing_zeros w b) → common ≡ min (trailing_zeros w a) (trailing_zeros w b) → g * 2 ^ common % 2 ^ bits w ≡ gcd a b
words_are w a b g common some_a some_b ha hb is_g is_common =
    let whole : g * 2 ^ common ≡ gcd a b = ap₂ (λ n k. n * 2 ^ k) is_g is_common ∙ sym (powers _ _ (odd_part w a some_a ha) (odd_part w b some_b hb) (trailing_zeros w a) (trailing_zeros w b)) ∙ ap₂ gcd (split w a some_a ha) (split w b some_b hb) in
    ap (λ n. n % 2 ^ bits w) whole ∙ mod-eq_of_lt (gcd_below a b (2 ^ bits w) ha hb)
