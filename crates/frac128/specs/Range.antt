-- When the exact result of an operation on fractions fits the type `Frac`.
use Rattle.std.specs.Prelude.{◌≡◌, ℕ, ◌*◌, ◌/◌, ◌^◌, ◌<◌, ℤ, pos, ◌+ℤ◌, ◌*ℤ◌, nat_abs}
use Rattle.exact_math.specs.Gcd.{gcd}
use Rattle.exact_math.specs.Rational.{ℚ, ◌*ℚ◌}

-- the size of a whole number is at most 2^127 - 1
abbrev pub IsNarrow : ℤ → Type 0
IsNarrow z = nat_abs z < 2 ^ 127

-- a fraction is in range where, in lowest terms, both its numbers are at most 2^127 - 1 in size
pub record InRange (q : ℚ) : Type 0 where
  pub num : IsNarrow q.num
  pub den : q.den < 2 ^ 127

-- For the sum of a/b and c/d in lowest terms, e being the greatest common divisor of b and d: each of the four numbers
-- a*(d/e), c*(b/e), their sum and (b/e)*d is at most 2^127 - 1 in size. A difference is the sum with the negated number.
pub record SumInRange (p q : ℚ) : Type 0 where
  pub first : IsNarrow (p.num *ℤ pos (q.den / gcd p.den q.den))
  pub second : IsNarrow (q.num *ℤ pos (p.den / gcd p.den q.den))
  pub sum : IsNarrow (p.num *ℤ pos (q.den / gcd p.den q.den) +ℤ q.num *ℤ pos (p.den / gcd p.den q.den))
  pub den : (p.den / gcd p.den q.den) * q.den < 2 ^ 127

-- the product, in lowest terms, is in range
abbrev pub ProductInRange : ℚ → ℚ → Type 0
ProductInRange p q = InRange (p *ℚ q)

-- a number and a denominator that are the terms of a fraction in range
pub record IsReduced (n : ℤ) (d : ℕ) : Type 0 where
  pub positive : 0 < d
  pub lowest : gcd (nat_abs n) d ≡ 1
  pub num_narrow : IsNarrow n
  pub den_narrow : d < 2 ^ 127

-- both numbers of the fraction have at most 63 bits, so that products of two such numbers have 126
pub record IsWord (q : ℚ) : Type 0 where
  pub num : nat_abs q.num < 2 ^ 63
  pub den : q.den < 2 ^ 63
