-- A sum over the least common denominator has no common divisor with it but those of the greatest common divisor of the two denominators (Knuth, The Art of Computer Programming, 4.5.1).
use Rattle.std.proofs.Common.{ap₂, ◌^◌, ◌≡◌, ℕ, suc, ◌+◌, ◌-◌, ◌*◌, ◌/◌, ◌<◌, ℤ, pos, negsuc, ◌+ℤ◌, ◌*ℤ◌, neg_ℤ, nat_abs, sym, ap, ◌∙◌, subst, mul_comm}
use Rattle.std.specs.Int.{◌∣◌}
use Rattle.std.proofs.Math.Nat.{dvd-add, dvd-sub, dvd-mul_left}
use Rattle.std.proofs.lemmas.Nat.Gcd.{dvd_trans, dvd_refl}
use Rattle.std.proofs.lemmas.Int.{unsigned_abs-mul}
use Rattle.exact_math.specs.Gcd.{gcd}
use Rattle.exact_math.specs.Rational.{ℚ, frac, ◌+ℚ◌}
use Rattle.exact_math.specs.RationalCode.{terms_lowest, den_pos}
use Rattle.frac128.specs.Range.{IsNarrow, SumInRange}
use Rattle.frac128.proofs.Terms.{sum_is}
use Rattle.exact_math.specs.GcdLaws.{gcd_comm, gcd-strip, gcd_dvd_left, gcd_dvd_right, gcd-one_from_dvd, gcd-quotients, gcd_pos_right, gcd-mul-div_right, one_from_dvd, dvd_from_product, quotient_dvd, nat_abs-neg_ℤ}
use Rattle.exact_math.specs.IntegerRing.{linear, add_comm}

-- what divides two numbers divides their sum
dvd_abs_add : (g : ℕ) (x y : ℤ) → g ∣ nat_abs x → g ∣ nat_abs y → g ∣ nat_abs (x +ℤ y)
dvd_abs_add g (pos a) (pos b) h k = dvd-add g h k
dvd_abs_add g (pos a) (negsuc b) h k =
    let is : (a - suc b) + (suc b - a) ≡ nat_abs (pos a +ℤ negsuc b) = omega linear in
    subst (λ n. g ∣ n) is (dvd-add g (dvd-sub g h k) (dvd-sub g k h))
dvd_abs_add g (negsuc a) (pos b) h k =
    let is : (b - suc a) + (suc a - b) ≡ nat_abs (negsuc a +ℤ pos b) = omega linear in
    subst (λ n. g ∣ n) is (dvd-add g (dvd-sub g k h) (dvd-sub g h k))
dvd_abs_add g (negsuc a) (negsuc b) h k =
    let is : suc a + suc b ≡ nat_abs (negsuc a +ℤ negsuc b) = omega linear in
    subst (λ n. g ∣ n) is (dvd-add g h k)

-- what divides a sum and one summand divides the other
dvd_summand : (g : ℕ) (x y : ℤ) → g ∣ nat_abs (x +ℤ y) → g ∣ nat_abs y → g ∣ nat_abs x
dvd_summand g x y h k =
    let is : (x +ℤ y) +ℤ neg_ℤ y ≡ x = omega linear in
    subst (λ z. g ∣ nat_abs z) is (dvd_abs_add g (x +ℤ y) (neg_ℤ y) h (subst (λ n. g ∣ n) (sym (nat_abs-neg_ℤ y)) k))

-- a sum x*r + y*l has no divisor in common with l, where neither x nor r has
apart : (x y : ℤ) (l r : ℕ) → gcd (nat_abs x) l ≡ 1 → gcd r l ≡ 1 → gcd l (nat_abs (x *ℤ pos r +ℤ y *ℤ pos l)) ≡ 1
apart x y l r p q =
    let n = nat_abs (x *ℤ pos r +ℤ y *ℤ pos l) in
    let g = gcd l n in
    let in_l : g ∣ l = gcd_dvd_left l n in
    let in_second : g ∣ nat_abs (y *ℤ pos l) = subst (λ k. g ∣ k) (sym (unsigned_abs-mul y (pos l))) (dvd_trans g in_l (dvd-mul_left l (nat_abs y))) in
    let in_first : g ∣ nat_abs x * r = subst (λ k. g ∣ k) (unsigned_abs-mul x (pos r)) (dvd_summand g (x *ℤ pos r) (y *ℤ pos l) (gcd_dvd_right l n) in_second) in
    let from_x : gcd g (nat_abs x) ≡ 1 = gcd_comm g (nat_abs x) ∙ one_from_dvd (nat_abs x) l _ p (gcd_dvd_left (nat_abs x) g) (dvd_trans _ (gcd_dvd_right (nat_abs x) g) in_l) in
    one_from_dvd r l g q (dvd_from_product g (nat_abs x) r from_x in_first) in_l

module _ (a c : ℤ) (b d : ℕ) (a_lowest : gcd (nat_abs a) b ≡ 1) (c_lowest : gcd (nat_abs c) d ≡ 1) (d_some : 0 < d) where
  -- the sum and the least common denominator have no more in common than the sum and the divisor of the denominators
  pub sum_gcd : gcd (nat_abs (a *ℤ pos (d / gcd b d) +ℤ c *ℤ pos (b / gcd b d))) (b / gcd b d * d) ≡ gcd (nat_abs (a *ℤ pos (d / gcd b d) +ℤ c *ℤ pos (b / gcd b d))) (gcd b d)
  sum_gcd =
      let e = gcd b d in
      let l = b / e in
      let r = d / e in
      let n = nat_abs (a *ℤ pos r +ℤ c *ℤ pos l) in
      let l_in : l ∣ b = quotient_dvd e b (gcd_dvd_left b d) in
      let r_in : r ∣ d = quotient_dvd e d (gcd_dvd_right b d) in
      let parts : gcd l r ≡ 1 = gcd-quotients b d (gcd_pos_right b d d_some) in
      let l_apart : gcd l n ≡ 1 = apart a c l r (gcd_from a b l a_lowest l_in) (gcd_comm r l ∙ parts) in
      let r_apart : gcd r n ≡ 1 = turned ∙ apart c a r l (gcd_from c d r c_lowest r_in) parts in
      gcd_comm n (l * d) ∙ gcd-strip l d n l_apart ∙ ap (λ k. gcd k n) (sym (gcd-mul-div_right b d) ∙ mul_comm e r) ∙ gcd-strip r e n r_apart ∙ gcd_comm e n
    where
      gcd_from : (x : ℤ) (m k : ℕ) → gcd (nat_abs x) m ≡ 1 → k ∣ m → gcd (nat_abs x) k ≡ 1
      gcd_from x m k one h = gcd-one_from_dvd (nat_abs x) m (nat_abs x) k one (dvd_refl (nat_abs x)) h

      turned : gcd (d / gcd b d) (nat_abs (a *ℤ pos (d / gcd b d) +ℤ c *ℤ pos (b / gcd b d))) ≡ gcd (d / gcd b d) (nat_abs (c *ℤ pos (b / gcd b d) +ℤ a *ℤ pos (d / gcd b d)))
      turned = ap (λ z. gcd (d / gcd b d) (nat_abs z)) (add_comm (a *ℤ pos (d / gcd b d)) (c *ℤ pos (b / gcd b d)))

-- n and d are the terms of the sum of p and q over the least common denominator, before they are lowered: all four numbers fit
pub record MakesSum (p q : ℚ) (n : ℤ) (d common : ℕ) : Type 0 where
  pub in_range : SumInRange p q
  pub narrow : IsNarrow n
  pub positive : 0 < d
  pub small : d < 2 ^ 127
  pub divisors : gcd (nat_abs n) d ≡ gcd (nat_abs n) common
  pub value : frac n d ≡ p +ℚ q

module _ (p q : ℚ) {x y : ℤ} {d common : ℕ} where
  -- the parts of the sum, each as the code computes it
  pub makes_sum : x ≡ p.num *ℤ pos (q.den / gcd p.den q.den) → y ≡ q.num *ℤ pos (p.den / gcd p.den q.den) → d ≡ p.den / gcd p.den q.den * q.den → common ≡ gcd p.den q.den →
      IsNarrow x → IsNarrow y → IsNarrow (x +ℤ y) → d < 2 ^ 127 → MakesSum p q (x +ℤ y) d common
  makes_sum is_x is_y is_d is_common x_narrow y_narrow narrow small =
      let total = ap₂ ◌+ℤ◌ is_x is_y in
      let sum = sum_is p q in
      record {
        in_range = record {
          first = subst IsNarrow is_x x_narrow;
          second = subst IsNarrow is_y y_narrow;
          sum = subst IsNarrow total narrow;
          den = subst (λ k. k < 2 ^ 127) is_d small;
        };
        narrow = narrow;
        positive = subst (λ k. 0 < k) (sym is_d) sum.0;
        small = small;
        divisors = ap₂ (λ n d. gcd (nat_abs n) d) total is_d ∙ sum_gcd p.num q.num p.den q.den (terms_lowest p) (terms_lowest q) (den_pos q) ∙ sym (ap₂ (λ n d. gcd (nat_abs n) d) total is_common);
        value = ap₂ frac total is_d ∙ sum.1;
      }
