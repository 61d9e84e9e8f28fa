-- The rational numbers. Each is a fraction in lowest terms, so that equal numbers are equal values.
use Rattle.std.specs.Prelude.{◌≡◌, ℕ, suc, zero, ◌*◌, ◌/◌, T, nat_lt, ◌==◌, ℤ, pos, negsuc, ◌+ℤ◌, ◌*ℤ◌, neg_ℤ, nat_abs, int_div, ◌≤ℤ◌, ◌<ℤ◌}
use Rattle.std.proofs.Common.{arith, subst, sym}
use Rattle.std.specs.declared.cmp.Ordering.{Ordering}
use Rattle.std.specs.Ordering.{int_cmp}
use Rattle.exact_math.specs.Gcd.{gcd}
use Rattle.exact_math.specs.Quotient.{floor_div, ceil_div, round_div}
use Rattle.exact_math.specs.GcdLaws.{gcd-one, nat_abs-neg_ℤ, reduced_positive, reduced_lowest, test_of}

-- A fraction in lowest terms: the denominator is above 0, and has no divisor in common with the numerator but 1.
-- Both facts are tests, which have one proof each, so that numbers with the same terms are equal.
pub record ℚ : Type 0 where
  pub num : ℤ
  pub den : ℕ
  pub positive : T (nat_lt 0 den)
  pub lowest : T (gcd (nat_abs num) den == 1)

-- a whole number
unfoldable pub whole : ℤ → ℚ
whole z = record { num = z; den = 1; positive = tt; lowest = test_of (gcd-one (nat_abs z)) }

-- n/d, for d above 0; 0 for d = 0
unfoldable pub frac : ℤ → ℕ → ℚ
frac n zero = whole (pos 0)
frac n (suc d) = record {
  num = int_div n (pos (gcd (nat_abs n) (suc d)));
  den = suc d / gcd (nat_abs n) (suc d);
  positive = reduced_positive (nat_abs n) (suc d) (omega arith);
  lowest = reduced_lowest n (suc d) (omega arith);
}

-- n/d, where d may have a sign
unfoldable pub ratio : ℤ → ℤ → ℚ
ratio n (pos d) = frac n d
ratio n (negsuc d) = frac (neg_ℤ n) (suc d)

-- a/b + c/d = (a*d + c*b)/(b*d)
infixl 6 ◌+ℚ◌
unfoldable pub ◌+ℚ◌ : ℚ → ℚ → ℚ
p +ℚ q = frac (p.num *ℤ pos q.den +ℤ q.num *ℤ pos p.den) (p.den * q.den)

-- the number with its sign changed
unfoldable pub neg_ℚ : ℚ → ℚ
neg_ℚ p = record {
  num = neg_ℤ p.num;
  den = p.den;
  positive = p.positive;
  lowest = subst (λ n. T (gcd n p.den == 1)) (sym (nat_abs-neg_ℤ p.num)) p.lowest;
}

-- the sum with the negated number
infixl 6 ◌-ℚ◌
abbrev pub ◌-ℚ◌ : ℚ → ℚ → ℚ
p -ℚ q = p +ℚ neg_ℚ q

-- a/b * c/d = (a*c)/(b*d)
infixl 7 ◌*ℚ◌
unfoldable pub ◌*ℚ◌ : ℚ → ℚ → ℚ
p *ℚ q = frac (p.num *ℤ q.num) (p.den * q.den)

-- 1/p, and 0 for 0
unfoldable pub inv_ℚ : ℚ → ℚ
inv_ℚ p = ratio (pos p.den) p.num

-- the product with the inverse
infixl 7 ◌/ℚ◌
abbrev pub ◌/ℚ◌ : ℚ → ℚ → ℚ
p /ℚ q = p *ℚ inv_ℚ q

-- the order, by the cross products
infix 50 ◌≤ℚ◌ ◌<ℚ◌
pub record ◌≤ℚ◌ (p q : ℚ) : Type 0 where
  pub le : (p.num *ℤ pos q.den) ≤ℤ (q.num *ℤ pos p.den)

-- the strict order
pub record ◌<ℚ◌ (p q : ℚ) : Type 0 where
  pub lt : (p.num *ℤ pos q.den) <ℤ (q.num *ℤ pos p.den)

-- the comparison, by the cross products too
unfoldable pub rational_cmp : ℚ → ℚ → Ordering
rational_cmp p q = int_cmp (p.num *ℤ pos q.den) (q.num *ℤ pos p.den)

-- the greatest whole number that is at most q
abbrev pub floor : ℚ → ℤ
floor q = floor_div q.num q.den

-- the least whole number that is at least q
abbrev pub ceil : ℚ → ℤ
ceil q = ceil_div q.num q.den

-- the whole number nearest to q, and of two the greater
abbrev pub round : ℚ → ℤ
round q = round_div q.num q.den

-- a whole number has the denominator 1
abbrev pub IsWhole : ℚ → Type 0
IsWhole q = q.den ≡ 1
