-- The test of a sum's range is what the range of exact fractions says.
use Rattle.std.proofs.Common.{ℕ, ◌/◌, ◌*◌, ◌^◌, ◌<◌, ◌&&◌, nat_lt, pos, ◌+ℤ◌, ◌*ℤ◌, nat_abs}
use Rattle.std.proofs.lemmas.Bool.Decides.{Decides-and, Decides-ltb}
use Rattle.std.specs.Bool.{Decides}
use Rattle.exact_math.specs.Gcd.{gcd}
use Rattle.exact_math.specs.Rational.{ℚ}
use Rattle.frac128.specs.Range.{SumInRange}
use Rattle.mps_model.specs.Sides.{sum_fits}

-- four numbers are below another
four : (a b c d n : ℕ) → Decides (((nat_lt a n && nat_lt b n) && nat_lt c n) && nat_lt d n) ((((a < n) × (b < n)) × (c < n)) × (d < n))
four a b c d n =
    Decides-and ((nat_lt a n && nat_lt b n) && nat_lt c n) (nat_lt d n)
    (Decides-and (nat_lt a n && nat_lt b n) (nat_lt c n) (Decides-and (nat_lt a n) (nat_lt b n) (Decides-ltb a n) (Decides-ltb b n)) (Decides-ltb c n))
    (Decides-ltb d n)

pub sum_fits_decides : (p q : ℚ) → Decides (sum_fits p q) (SumInRange p q)
sum_fits_decides p q =
    let e : ℕ = gcd p.den q.den in
    let found = four (nat_abs (p.num *ℤ pos (q.den / e))) (nat_abs (q.num *ℤ pos (p.den / e)))
    (nat_abs (p.num *ℤ pos (q.den / e) +ℤ q.num *ℤ pos (p.den / e))) (p.den / e * q.den) (2 ^ 127) in (
      λ t. let r = found.0 t in record { first = r.0.0.0; second = r.0.0.1; sum = r.0.1; den = r.1 },
      λ s. found.1 (((s.first, s.second), s.sum), s.den),
    )
