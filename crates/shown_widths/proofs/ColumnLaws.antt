-- What the checks of columns show: common divisors, and columns that are as wide as a form.
use Rattle.std.proofs.Common.{◌≡◌, ℕ, suc, ◌<◌, List, [], ◌∷◌, length, get_or, ℤ, pos, negsuc, nat_abs, ◌*ℤ◌, refl, ap, sym, subst, ◌∙◌, arith}
use Rattle.std.specs.Prelude.{All}
use Rattle.std.specs.Int.{◌∣◌}
use Rattle.std.proofs.lemmas.List.{ext_get_or}
use Rattle.std.proofs.lemmas.List.Elements.{All-nil, All-cons, All-head, All-tail, All-map}
use Rattle.std.proofs.Math.Nat.{dvd-mul_right, eq-one_of_dvd-one, eq-zero_of_zero-dvd}
use Rattle.std.proofs.lemmas.Nat.Gcd.{dvd-zero}
use Rattle.exact_math.specs.GcdLaws.{dvd_gcd, gcd_dvd_left, gcd_dvd_right}
use Rattle.exact_math.specs.IntegerOrder.{abs_mul}
use Rattle.exact_math.specs.Ring.{integers}
use Rattle.exact_vectors.specs.Vectors.{scale}
use Rattle.exact_vectors.specs.Matrices.{HasWidth, column, combination}
use Rattle.exact_vectors.specs.MatrixLaws as Matrix
use Rattle.farkas_rows.specs.Inequalities.{unit}
use Rattle.farkas_rows.specs.NodeLaws.{dot-unit}
use Rattle.form_widths.specs.Widths.{IsPrimitive}
use Rattle.unimodular_pair.specs.Gathering.{common_divisor}

-- ---- common divisors

-- what divides each factor divides the greatest common divisor
pub greatest : (form : List ℤ) (d : ℕ) → All (λ factor. d ∣ nat_abs factor) form → d ∣ common_divisor form
greatest [] d h = dvd-zero d
greatest (a ∷ form) d h = dvd_gcd (nat_abs a) (common_divisor form) d (All-head (λ (factor : ℤ). d ∣ nat_abs factor) a form h) (greatest form d (All-tail (λ (factor : ℤ). d ∣ nat_abs factor) a form h))

-- factors whose greatest common divisor is 1
pub primitive_by : (form : List ℤ) → common_divisor form ≡ 1 → IsPrimitive form
primitive_by form e d h = eq-one_of_dvd-one (subst (λ (n : ℕ). d ∣ n) e (greatest form d h))

-- the multiples of a form have the multiplier as a divisor
pub divisor_of_multiple : (g : ℕ) (form : List ℤ) → g ∣ common_divisor (scale integers (pos g) form)
divisor_of_multiple g form =
    greatest (scale integers (pos g) form) g
    (All-map (λ (factor : ℤ). g ∣ nat_abs factor) (λ (factor : ℤ). pos g *ℤ factor) form (λ k d lt. subst (λ n. g ∣ n) (sym (abs_mul (pos g) (get_or form k d))) (dvd-mul_right g (nat_abs (get_or form k d)))))

-- a greatest common divisor of 0
pub none_by : (form : List ℤ) → common_divisor form ≡ 0 → All (λ factor. factor ≡ pos 0) form
none_by [] e = All-nil (λ (factor : ℤ). factor ≡ pos 0)
none_by (a ∷ form) e =
    All-cons (λ (factor : ℤ). factor ≡ pos 0) a form (zero_by a (subst (λ n. n ∣ nat_abs a) e (gcd_dvd_left (nat_abs a) (common_divisor form))))
    (none_by form (zero_nat (common_divisor form) (subst (λ n. n ∣ common_divisor form) e (gcd_dvd_right (nat_abs a) (common_divisor form)))))
  where
    zero_nat : (n : ℕ) → 0 ∣ n → n ≡ 0
    zero_nat n h = eq-zero_of_zero-dvd h

    zero_by : (z : ℤ) → 0 ∣ nat_abs z → z ≡ pos 0
    zero_by (pos n) h = ap pos (zero_nat n h)
    zero_by (negsuc n) h = absurd (not_zero n (zero_nat (suc n) h))
      where
        not_zero : (n : ℕ) → suc n ≡ 0 → ⊥
        not_zero n e = omega arith

-- ---- the values of a column

-- the combination with a unit form is the row in its place
pub combination-unit : (r : ℕ) (rows : List (List ℤ)) (n j : ℕ) → HasWidth r rows → length rows ≡ n → j < n → combination integers r (unit n j) rows ≡ get_or rows j []
combination-unit r rows n j width count lt =
    ext_get_or (pos 0) (combination integers r (unit n j) rows) (get_or rows j [])
    (Matrix.length-combination integers r (unit n j) rows width ∙ sym (Matrix.HasWidth-at integers r rows j [] width (omega (arith, count, lt))))
    (λ k below. Matrix.combination-at integers r (unit n j) rows k width ∙ dot-unit n j (column integers rows k) (long rows k ∙ count) lt ∙ Matrix.column-at integers rows k j [] (pos 0) (omega (arith, count, lt)))
  where
    long : (rows : List (List ℤ)) (k : ℕ) → length (column integers rows k) ≡ length rows
    long [] k = refl
    long (row ∷ rows) k = ap suc (long rows k)
