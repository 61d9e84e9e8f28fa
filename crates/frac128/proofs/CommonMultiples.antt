-- The least common multiple, as a checked product answers it.
use Rattle.std.proofs.Common.{◌<◌, ◌^◌, ℕ, ℤ, pos, negsuc, ◌*ℤ◌, ◌<ℤ◌, nat_abs, int_div, Option, Some, None, FitsSigned}
use Rattle.std.specs.Prelude.{SomeIff}
use Rattle.std.specs.Int.{w128}
use Rattle.exact_math.specs.Gcd.{gcd, lcm}
use Rattle.exact_math.specs.GcdLaws.{gcd_pos_left}
use Rattle.exact_math.specs.IntegerRing.{linear}

-- the quotient by the greatest common divisor, times the other number
pub lcm_answered : (r : Option ℤ) (a b : ℤ) → pos 0 <ℤ a → pos 0 <ℤ b → SomeIff r (FitsSigned w128 (int_div a (pos (gcd (nat_abs a) (nat_abs b))) *ℤ b)) (int_div a (pos (gcd (nat_abs a) (nat_abs b))) *ℤ b) → SomeIff r (lcm (nat_abs a) (nat_abs b) < 2 ^ 127) (pos (lcm (nat_abs a) (nat_abs b)))
unfolding lcm
lcm_answered None (pos m) (pos n) p q h = λ narrow. h (record { sfits = narrow })
lcm_answered (Some x) (pos m) (pos n) p q h = (h.0.sfits, h.1)
lcm_answered r (negsuc m) b p q h = absurd (omega linear)
lcm_answered r (pos m) (negsuc n) p q h = absurd (omega linear)

-- the greatest common divisor of positive numbers is positive
pub gcd_above : (a b : ℤ) → pos 0 <ℤ a → 0 < gcd (nat_abs a) (nat_abs b)
gcd_above a b h = gcd_pos_left (nat_abs a) (nat_abs b) (omega linear)

-- a positive number
pub above_zero : (n : ℕ) → 0 < n → pos 0 <ℤ pos n
above_zero n h = omega linear
