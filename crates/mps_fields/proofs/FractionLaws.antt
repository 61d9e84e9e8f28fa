-- A fraction of two numbers in range is in range.
use Rattle.std.proofs.Common.{◌≡◌, ℕ, zero, suc, ◌^◌, ◌<◌, Bool, true, false, ℤ, pos, nat_abs, Result, Ok, Err, OkIff, refl, sym, ap, subst, ◌∙◌, arith, div-le_self, to_z, of_z}
use Rattle.std.specs.Int.{w128}
use Rattle.std.proofs.lemmas.Int.{to_z-of_z, fits_signed_from_abs}
use Rattle.exact_math.specs.Gcd.{gcd}
use Rattle.exact_math.specs.GcdLaws.{nat_abs-int_div, nat_abs-neg}
use Rattle.exact_math.specs.Rational.{ratio, frac}
use Rattle.frac128.specs.Range.{InRange}
use Rattle.frac128.specs.Sign.{with_sign}

-- the size of a signed number
pub nat_abs-with_sign : (negative : Bool) (size : ℕ) → nat_abs (with_sign negative size) ≡ size
nat_abs-with_sign false size = refl
nat_abs-with_sign true size = nat_abs-neg size

-- lowest terms are no larger than the terms
in_range : (n : ℤ) (d : ℕ) → nat_abs n < 2 ^ 127 → 0 < d → d < 2 ^ 127 → InRange (frac n d)
unfolding frac
in_range n zero small some below = absurd (omega arith)
in_range n (suc d) small some below =
    let g = gcd (nat_abs n) (suc d) in
    record { num = omega (arith, nat_abs-int_div n g, div-le_self (nat_abs n) g); den = omega (arith, div-le_self (suc d) g) }

-- a signed number that is passed
pub passed : (s : ℤ) (negative : Bool) (size : ℕ) → size < 2 ^ 127 → s ≡ with_sign negative size → to_z w128 (of_z w128 s) ≡ with_sign negative size
passed s negative size small e =
    ap (λ z. to_z w128 (of_z w128 z)) e ∙ to_z-of_z w128 (with_sign negative size) (fits_signed_from_abs w128 (with_sign negative size) (subst (λ n. n < 2 ^ 127) (sym (nat_abs-with_sign negative size)) small))

-- an answer whose condition is met
ok_of : {T E : Type 0} (r : Result T E) (P : Type 0) (v : T) → OkIff r P v → P → r ≡ Ok v
ok_of (Ok x) P v h p = ap Ok h.1
ok_of (Err e) P v h p = absurd (h p)

-- a fraction of a signed size and a divisor
pub is_made : {E : Type 0} (r : Result _ E) (a b : ℤ) (negative : Bool) (size d : ℕ) → OkIff r (InRange (ratio a b)) (ratio a b) → a ≡ with_sign negative size → b ≡ pos d → size < 2 ^ 127 → 0 < d → d < 2 ^ 127 → r ≡ Ok (frac (with_sign negative size) d)
unfolding ratio
is_made r a b negative size d h e f small some below =
    let made : OkIff r (InRange (ratio (with_sign negative size) (pos d))) (frac (with_sign negative size) d) = subst (λ n. OkIff r (InRange (ratio n (pos d))) (ratio n (pos d))) e (subst (λ m. OkIff r (InRange (ratio a m)) (ratio a m)) f h) in
    ok_of r _ _ made (in_range (with_sign negative size) d (subst (λ n. n < 2 ^ 127) (sym (nat_abs-with_sign negative size)) small) some below)
