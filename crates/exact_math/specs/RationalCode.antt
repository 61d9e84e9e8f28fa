-- The code of the rational numbers, by which a proof tells values apart: numerator and denominator. A number is made again from its terms.
use Rattle.std.proofs.Common.{◌≡◌, ◌==◌, ℕ, zero, suc, ◌/◌, ◌<◌, T, nat_lt, ltb→lt, eqb→eq, ℤ, pos, negsuc, neg_ℤ, nat_abs, int_div, ap, ◌∙◌, subst₂, arith, div-one}
use Rattle.std.proofs.Math.Dec.{T_prop}
use Rattle.std.specs.Coded.{Coded, code_by, coded×, coded_ℤ, coded_ℕ}
use Rattle.exact_math.specs.Gcd.{gcd}
use Rattle.exact_math.specs.Rational.{ℚ, frac}

-- the same numerator and the same denominator
pub same_terms : (p q : ℚ) → p.num ≡ q.num → p.den ≡ q.den → p ≡ q
same_terms p q e f =
    let Same : ℤ → ℕ → Type 0 = λ n d. (a : T (nat_lt 0 d)) (b : T (gcd (nat_abs n) d == 1)) → p ≡ record { num = n; den = d; positive = a; lowest = b } in
    let own : Same p.num p.den = λ a b.
    ap (λ x. record { num = p.num; den = p.den; positive = x; lowest = p.lowest }) (T_prop _ p.positive a) ∙ ap (λ x. record { num = p.num; den = p.den; positive = a; lowest = x }) (T_prop _ p.lowest b) in
    subst₂ Same e f own q.positive q.lowest

-- the denominator is above 0
pub den_pos : (q : ℚ) → 0 < q.den
den_pos q = ltb→lt 0 q.den q.positive

-- the terms have no common divisor but 1
pub terms_lowest : (q : ℚ) → gcd (nat_abs q.num) q.den ≡ 1
terms_lowest q = eqb→eq _ 1 q.lowest

-- a quotient by 1
by_one : (n : ℤ) → int_div n (pos 1) ≡ n
by_one (pos a) = ap pos (div-one a)
by_one (negsuc a) = ap (λ k. neg_ℤ (pos k)) (div-one (suc a))

-- terms that are lowest stay
pub frac-lowest : (n : ℤ) (d : ℕ) → 0 < d → gcd (nat_abs n) d ≡ 1 → ((frac n d).num ≡ n) × ((frac n d).den ≡ d)
unfolding frac
frac-lowest n zero some one = absurd (omega arith)
frac-lowest n (suc d) some one =
    (ap (λ g. int_div n (pos g)) one ∙ by_one n, ap (λ g. suc d / g) one ∙ div-one (suc d))

-- a number is made from its terms
pub frac-self : (q : ℚ) → frac q.num q.den ≡ q
frac-self q =
    let t = frac-lowest q.num q.den (den_pos q) (terms_lowest q) in
    same_terms (frac q.num q.den) q t.0 t.1

-- the code: the two terms
abbrev pub rational_code : Coded ℚ
rational_code =
    code_by (ℤ × ℕ) (coded× coded_ℤ coded_ℕ) (λ q. (q.num, q.den)) (λ p. frac p.0 p.1) frac-self
