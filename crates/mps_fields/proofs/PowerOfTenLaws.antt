-- When m * 10^e fits, and what it is, for m and e by sign and size.
use Rattle.std.proofs.Common.{◌≡◌, ℕ, zero, suc, ◌+◌, ◌-◌, ◌*◌, ◌^◌, ◌<◌, ◌≤◌, Bool, true, false, true≢false, IsTrue, eqb, ℤ, pos, negsuc, neg_ℤ, ◌*ℤ◌, ◌-ℤ◌, nat_abs, Option, Some, None, SomeIff, refl, sym, ap, subst, ◌∙◌, arith}
use Rattle.std.proofs.lemmas.Bool.{or_right, eqb-true, ltb-true, leb-true, lt-ltb, le-leb, and_parts, and_from}
use Rattle.exact_math.specs.Rational.{ℚ, frac, whole}
use Rattle.exact_math.specs.IntegerRing.{linear, neg_mul, mul_one, zero_mul}
use Rattle.exact_math.specs.RationalLaws.{whole-frac, same_frac}
use Rattle.frac128.specs.Sign.{with_sign}
use Rattle.mps_fields.proofs.FractionLaws.{nat_abs-with_sign}
use Rattle.mps_fields.specs.Decimal.{scaled, fits_scaled, fits_product}
use Rattle.mps_fields.specs.BooleanLaws.{some_of}
use Rattle.mps_fields.proofs.DigitLaws.{power_pos, power_large, at_least}

-- the same answer under another name
some_same : {T : Type 0} (r : Option T) (P Q : Type 0) (v w : T) → (P → Q) → (Q → P) → v ≡ w → SomeIff r P v → SomeIff r Q w
some_same (Some x) P Q v w to from e h = (to h.0, h.1 ∙ e)
some_same None P Q v w to from e h = λ q. h (from q)

-- ---- the tests

-- for a size above 0, only the second test counts
fits_nonzero : (m e : ℤ) → 0 < nat_abs m → fits_product m e ≡ true → fits_scaled m e ≡ true
fits_nonzero m e some h =
    some_of (eqb (nat_abs m) 0) (fits_scaled m e) h (λ t. let zero_size : nat_abs m ≡ 0 = eqb-true (nat_abs m) 0 t in absurd (omega arith)) (λ t. t)

-- ---- a size that is too large

-- a size of 2^127 or more fits with no power
too_large : (m e : ℤ) → (nat_abs m < 2 ^ 127 → ⊥) → fits_scaled m e ≡ true → ⊥
too_large m (pos k) large h =
    let small : nat_abs m * 10 ^ k < 2 ^ 127 = ltb-true _ _ h in
    large (omega (arith, at_least (nat_abs m) (10 ^ k) 0 (power_pos k), small))
too_large m (negsuc k) large h = large (ltb-true _ _ (and_parts _ _ h).0)

-- an M that is too large
pub large_mantissa : (s : Bool) (n : ℕ) (e : ℤ) → (n < 2 ^ 127 → ⊥) → IsTrue (fits_product (with_sign s n) e) → ⊥
large_mantissa s n e large h =
    let size = nat_abs-with_sign s n in
    too_large (with_sign s n) e (λ small. large (subst (λ k. k < 2 ^ 127) size small)) (fits_nonzero (with_sign s n) e (subst (λ k. 0 < k) (sym size) (omega arith)) h)

-- ---- zero

-- 0 has no sign
with_sign-zero : (s : Bool) → with_sign s 0 ≡ pos 0
with_sign-zero true = refl
with_sign-zero false = refl

-- 0 over any divisor
zero_frac : (d : ℕ) → 0 < d → frac (pos 0) d ≡ whole (pos 0)
zero_frac d some = same_frac (pos 0) (pos 0) d 1 some (omega arith) (zero_mul (pos 1) ∙ sym (zero_mul (pos d))) ∙ sym (whole-frac (pos 0))

-- 0 with any power
scaled-zero : (e : ℤ) → scaled (pos 0) e ≡ whole (pos 0)
scaled-zero (pos k) = ap whole (zero_mul (pos (10 ^ k)))
scaled-zero (negsuc k) = zero_frac (10 ^ suc k) (power_pos (suc k))

-- M = 0 fits
pub zero_fits : (r : Option ℚ) (s : Bool) (n : ℕ) (e : ℤ) → n ≡ 0 → SomeIff r (0 ≤ 38) (frac (pos 0) 1) → SomeIff r (IsTrue (fits_product (with_sign s n) e)) (scaled (with_sign s n) e)
zero_fits r s n e none h =
    let m : with_sign s n ≡ pos 0 = ap (with_sign s) none ∙ with_sign-zero s in
    some_same r _ _ _ _ (λ _. ap (λ z. fits_product z e) m) (λ _. omega arith) (zero_frac 1 (omega arith) ∙ sym (ap (λ z. scaled z e) m ∙ scaled-zero e)) h

-- ---- e at most 0

-- when M fits with e = -k
fits_down : (m : ℤ) (k : ℕ) → 0 < nat_abs m → nat_abs m < 2 ^ 127 → (k ≤ 38 → IsTrue (fits_product m (neg_ℤ (pos k)))) × (IsTrue (fits_product m (neg_ℤ (pos k))) → k ≤ 38)
fits_down m zero some small =
    (λ _. or_right (eqb (nat_abs m) 0) _ (lt-ltb (nat_abs m * 10 ^ 0) (2 ^ 127) (omega arith)), λ _. omega arith)
fits_down m (suc k) some small = (
  λ few. or_right (eqb (nat_abs m) 0) _ (and_from _ _ (lt-ltb (nat_abs m) (2 ^ 127) small) (le-leb (suc k) 38 few)),
  λ h. leb-true (suc k) 38 (and_parts _ _ (fits_nonzero m (negsuc k) some h)).1,
)

-- M with e = -k is M over a power of ten
scaled-down : (m : ℤ) (k : ℕ) → frac m (10 ^ k) ≡ scaled m (neg_ℤ (pos k))
scaled-down m zero = sym (whole-frac m) ∙ ap whole (sym (mul_one m))
scaled-down m (suc k) = refl

-- an answer for e = -k
pub down : (r : Option ℚ) (s : Bool) (n k : ℕ) (e : ℤ) → e ≡ neg_ℤ (pos k) → 0 < n → n < 2 ^ 127 → SomeIff r (k ≤ 38) (frac (with_sign s n) (10 ^ k)) → SomeIff r (IsTrue (fits_product (with_sign s n) e)) (scaled (with_sign s n) e)
down r s n k e is some small h =
    let size = nat_abs-with_sign s n in
    let m = with_sign s n in
    let fit = fits_down m k (subst (λ x. 0 < x) (sym size) some) (subst (λ x. x < 2 ^ 127) (sym size) small) in
    subst (λ x. SomeIff r (IsTrue (fits_product m x)) (scaled m x)) (sym is) (some_same r _ _ _ _ fit.0 fit.1 (scaled-down m k) h)

-- ---- e at least 0

-- the sign of a product
with_sign-times : (s : Bool) (n p : ℕ) → with_sign s (n * p) ≡ with_sign s n *ℤ pos p
with_sign-times false n p = refl
with_sign-times true n p = sym (neg_mul (pos n) (pos p))

-- an answer for e = k
pub raise : (r : Option ℚ) (s : Bool) (n k : ℕ) (e : ℤ) → e ≡ pos k → 0 < n → SomeIff r (n * 10 ^ k < 2 ^ 127) (whole (with_sign s (n * 10 ^ k))) → SomeIff r (IsTrue (fits_product (with_sign s n) e)) (scaled (with_sign s n) e)
raise r s n k e is some h =
    let size = nat_abs-with_sign s n in
    let m = with_sign s n in
    subst (λ x. SomeIff r (IsTrue (fits_product m x)) (scaled m x)) (sym is)
    (some_same r _ _ _ _
    (λ small. or_right (eqb (nat_abs m) 0) _ (lt-ltb (nat_abs m * 10 ^ k) (2 ^ 127) (subst (λ x. x * 10 ^ k < 2 ^ 127) (sym size) small)))
    (λ t. subst (λ x. x * 10 ^ k < 2 ^ 127) size (ltb-true _ _ (fits_nonzero m (pos k) (subst (λ x. 0 < x) (sym size) some) t)))
    (ap whole (with_sign-times s n (10 ^ k))) h)

-- ---- e as an exponent less the number of places

-- e where the exponent is negative
pub negative_power : (t : Bool) (x f : ℕ) → t ≡ true → with_sign t x -ℤ pos f ≡ neg_ℤ (pos (x + f))
negative_power true x f h = omega linear
negative_power false x f h = absurd (true≢false (sym h))

-- e where there are fewer
pub fewer_places : (t : Bool) (x f : ℕ) → t ≡ false → f ≤ x → with_sign t x -ℤ pos f ≡ pos (x - f)
fewer_places true x f h more = absurd (true≢false h)
fewer_places false x f h more = omega linear

-- an exponent that is too large
pub large_power : (s t : Bool) (n x f : ℕ) → 0 < n → n < 2 ^ 127 → (x < 2 ^ 127 → ⊥) → f < 2 ^ 64 → IsTrue (fits_product (with_sign s n) (with_sign t x -ℤ pos f)) → ⊥
large_power s true n x f some small large few = down None s n (x + f) _ (negative_power true x f refl) some small (λ h. large (omega arith))
large_power s false n x f some small large few =
    raise None s n (x - f) _ (fewer_places false x f refl (omega arith)) some (power_large n (x - f) some (omega arith))

-- ---- a size with an exponent and a number of places

-- an answer for a size, an exponent and a number of places
abbrev pub Scales : Option ℚ → Bool → ℕ → Bool → ℕ → ℕ → Type 0
Scales r s n t x f = SomeIff r (IsTrue (fits_product (with_sign s n) (with_sign t x -ℤ pos f))) (scaled (with_sign s n) (with_sign t x -ℤ pos f))

-- the same under equal numbers
pub scales_same : (r : Option ℚ) (s t : Bool) (n m x y f : ℕ) → n ≡ m → x ≡ y → Scales r s n t x f → Scales r s m t y f
scales_same r s t n m x y f p q h = subst (λ k. Scales r s k t y f) p (subst (λ k. Scales r s n t k f) q h)
