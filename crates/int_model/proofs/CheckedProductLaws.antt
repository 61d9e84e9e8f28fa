-- The factor of a value, as a checked product answers it.
use Rattle.std.proofs.Common.{◌≡◌, ◌<◌, ◌^◌, ℕ, zero, suc, ℤ, pos, negsuc, ◌*ℤ◌, ◌≤ℤ◌, ◌<ℤ◌, of_z, nat_abs, int_div, Option, Some, None, FitsSigned, refl}
use Rattle.std.specs.Prelude.{SomeIff}
use Rattle.std.specs.Int.{w128}
use Rattle.exact_math.specs.IntegerRing.{linear}
use Rattle.int_model.specs.ObjectiveValues.{value_factor}

-- a positive number
pub above_zero : (n : ℕ) → 0 < n → pos 0 <ℤ pos n
above_zero n h = omega linear

-- the quotient times the numerator, where that is not 0
pub factor_answered : (r : Option ℤ) (d l n : ℤ) → pos 0 ≤ℤ d → pos 0 <ℤ l → pos 0 ≤ℤ n → (of_z w128 n ≡ 0 → ⊥) → SomeIff r (FitsSigned w128 (int_div d l *ℤ n)) (int_div d l *ℤ n) → SomeIff r (value_factor (nat_abs d) (nat_abs l) (nat_abs n) < 2 ^ 127) (pos (value_factor (nat_abs d) (nat_abs l) (nat_abs n)))
factor_answered r d l (pos zero) p q s some h = absurd (some refl)
factor_answered None (pos d) (pos l) (pos (suc n)) p q s some h = λ narrow. h (record { sfits = narrow })
factor_answered (Some x) (pos d) (pos l) (pos (suc n)) p q s some h = (h.0.sfits, h.1)
factor_answered r (negsuc d) l (pos (suc n)) p q s some h = absurd (omega linear)
factor_answered r (pos d) (negsuc l) (pos (suc n)) p q s some h = absurd (omega linear)
factor_answered r d l (negsuc n) p q s some h = absurd (omega linear)
