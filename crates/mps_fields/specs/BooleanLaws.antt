-- Cases of a test that holds or fails.
use Rattle.std.proofs.Common.{◌≡◌, ℕ, zero, suc, ◌<◌, eqb, arith, Bool, true, false, ◌||◌, true≢false, ⊎_elim}
use Rattle.std.proofs.lemmas.Bool.{cases_Bool, or_cases}

-- a test holds or fails
pub either : {P : Type 0} (b : Bool) → (b ≡ true → P) → (b ≡ false → P) → P
either b f g = ⊎_elim f g (cases_Bool b)

-- one of two tests holds
pub some_of : {P : Type 0} (a b : Bool) → (a || b) ≡ true → (a ≡ true → P) → (b ≡ true → P) → P
some_of a b h f g = ⊎_elim f g (or_cases a b h)

-- a number that is not 0
pub above_zero : (n : ℕ) → eqb n 0 ≡ false → 0 < n
above_zero zero e = absurd (true≢false e)
above_zero (suc n) e = omega arith
