-- Forms without a common divisor.
use Rattle.std.proofs.Common.{◌≡◌, ℕ, ◌*◌, ◌<◌, ℤ, pos, nat_abs, ◌*ℤ◌, List, refl, sym, subst, arith}
use Rattle.std.specs.Int.{◌∣◌}
use Rattle.std.specs.Prelude.{All}
use Rattle.std.proofs.Math.Nat.{dvd_of_mul-dvd-mul_left, eq-one_of_dvd-one, mul-dvd-mul_left}
use Rattle.std.proofs.lemmas.List.Elements.{All-map, All-weaker}
use Rattle.std.proofs.lemmas.Nat.Gcd.{dvd-zero}
use Rattle.exact_math.specs.IntegerOrder.{abs_mul}
use Rattle.exact_math.specs.Ring.{integers}
use Rattle.exact_vectors.specs.Vectors.{scale}
use Rattle.form_widths.specs.Widths.{IsNonzero, IsPrimitive}

-- The quotients of factors by their greatest common divisor have no common divisor but 1.
pub primitive_part : (g : ℕ) (form : List ℤ) → 0 < g → ((e : ℕ) → All (λ factor. e ∣ nat_abs factor) (scale integers (pos g) form) → e ∣ g) → IsPrimitive form
primitive_part g form some greatest d divides =
    let multiples = All-map (λ (factor : ℤ). (g * d) ∣ nat_abs factor) (λ (factor : ℤ). pos g *ℤ factor) form
    (All-weaker (λ (factor : ℤ). d ∣ nat_abs factor) (λ (factor : ℤ). (g * d) ∣ nat_abs (pos g *ℤ factor)) (λ factor h. subst (λ n. (g * d) ∣ n) (sym (abs_mul (pos g) factor)) (mul-dvd-mul_left d g h)) form divides) in
    let one : g ≡ g * 1 = omega arith in
    eq-one_of_dvd-one (dvd_of_mul-dvd-mul_left d some (subst (λ n. (g * d) ∣ n) one (greatest (g * d) multiples)))

-- two is not one
two_not_one : (d : ℕ) → d ≡ 2 → d ≡ 1 → ⊥
two_not_one d e f = omega arith

-- such a form is not all 0
pub primitive_nonzero : (form : List ℤ) → IsPrimitive form → IsNonzero form
primitive_nonzero form primitive none =
    two_not_one 2 refl (primitive 2 (All-weaker (λ (factor : ℤ). factor ≡ pos 0) (λ (factor : ℤ). 2 ∣ nat_abs factor) (λ factor e. subst (λ (z : ℤ). 2 ∣ nat_abs z) (sym e) (dvd-zero 2)) form none))
