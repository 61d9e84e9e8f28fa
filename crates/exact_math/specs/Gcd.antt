-- The greatest common divisor of two natural numbers.
use Rattle.std.specs.Prelude.{ℕ, zero, suc, ◌*◌, ◌/◌, ◌%◌}

-- at most so many of Euclid's steps, each of which puts `b` and the remainder of `a` by `b` in place of `a` and `b`
unfoldable pub gcd_within : ℕ → ℕ → ℕ → ℕ
gcd_within zero a b = a
gcd_within (suc steps) a zero = a
gcd_within (suc steps) a (suc b) = gcd_within steps (suc b) (a % suc b)

-- The number that divides `a` and `b` and that each common divisor of them divides, and 0 for two zeros
-- (`Rattle.exact_math.specs.GcdLaws.gcd-is`). A remainder is below the divisor, so there are at most `b` steps.
unfoldable pub gcd : ℕ → ℕ → ℕ
gcd a b = gcd_within b a b

-- the least common multiple: both numbers divide it, and it divides each number that both divide
-- (`Rattle.exact_math.specs.LcmLaws`); 0 where one of them is 0
unfoldable pub lcm : ℕ → ℕ → ℕ
lcm a b = a / gcd a b * b
