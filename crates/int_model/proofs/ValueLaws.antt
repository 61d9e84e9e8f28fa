-- The value of a point, as its terms make it.
use Rattle.std.proofs.Common.{◌≡◌, ℕ, zero, suc, ◌*◌, ◌<◌, ◌≤◌, ◌^◌, List, ℤ, pos, ◌+ℤ◌, ◌*ℤ◌, nat_abs, sym, ap, subst, ◌∙◌, arith, mul-pos}
use Rattle.std.proofs.Math.Nat.{mul-le-mul_left, div-le_self}
use Rattle.exact_math.specs.Gcd.{gcd}
use Rattle.exact_math.specs.GcdLaws.{nat_abs-int_div}
use Rattle.exact_math.specs.Ring.{integers}
use Rattle.exact_math.specs.Rational.{whole, frac, ratio, ◌+ℚ◌, ◌*ℚ◌}
use Rattle.exact_math.specs.IntegerRing.{expand, linear}
use Rattle.exact_math.specs.IntegerOrder.{abs_mul, abs_add_le}
use Rattle.exact_math.specs.RationalLaws.{frac-add, frac-mul, same_frac, whole-frac}
use Rattle.exact_vectors.specs.Vectors.{dot}
use Rattle.frac128.specs.Range.{InRange}
use Rattle.whole_rows.specs.declared.bounds.Bounds.{Bounds}
use Rattle.int_model.specs.declared.objective.ValueTerms.{ValueTerms}
use Rattle.whole_rows.specs.WholeRows.{WholeRows, LiesIn, cut_value}
use Rattle.int_model.specs.IntegerRows.{IntegerRows, value_in}
use Rattle.int_model.specs.ObjectiveValues.{IsLightValue, with_values}
use Rattle.whole_rows.specs.WeightLaws.{dot_within}

-- within the box the factor times a cut value is light, and the sum with the constant
product_light : (box : List Bounds) (cost : List ℤ) (terms : ValueTerms) (x : List ℤ) → IsLightValue box cost terms → LiesIn box x → nat_abs (terms.factor *ℤ dot integers cost x) ≤ 2 ^ 96
product_light box cost terms x light lies =
    omega (arith, light.light, abs_mul terms.factor (dot integers cost x), mul-le-mul_left (nat_abs terms.factor) (dot_within cost box x lies))

sum_light : (box : List Bounds) (cost : List ℤ) (terms : ValueTerms) (x : List ℤ) → IsLightValue box cost terms → LiesIn box x → nat_abs (terms.constant +ℤ terms.factor *ℤ dot integers cost x) ≤ 2 ^ 96
sum_light box cost terms x light lies =
    omega (arith, light.light, abs_add_le terms.constant (terms.factor *ℤ dot integers cost x), abs_mul terms.factor (dot integers cost x), mul-le-mul_left (nat_abs terms.factor) (dot_within cost box x lies))

-- a light number over a divisor that is not wide is in range
quotient_in_range : (n : ℤ) (d : ℕ) → nat_abs n ≤ 2 ^ 96 → 0 < d → d < 2 ^ 127 → InRange (ratio n (pos d))
unfolding ratio frac
quotient_in_range n zero h l k = absurd (omega arith)
quotient_in_range n (suc d) h l k = record {
  num = omega (arith, h, nat_abs-int_div n (gcd (nat_abs n) (suc d)), div-le_self (nat_abs n) (gcd (nat_abs n) (suc d)));
  den = omega (arith, k, div-le_self (suc d) (gcd (nat_abs n) (suc d)));
}

value_in_range : (box : List Bounds) (cost : List ℤ) (terms : ValueTerms) (x : List ℤ) → IsLightValue box cost terms → LiesIn box x → InRange (ratio (terms.constant +ℤ terms.factor *ℤ dot integers cost x) terms.divisor)
value_in_range box cost terms x light lies =
    subst (λ d. InRange (ratio (terms.constant +ℤ terms.factor *ℤ dot integers cost x) d)) (sym light.divisor) (quotient_in_range (terms.constant +ℤ terms.factor *ℤ dot integers cost x) (nat_abs terms.divisor) (sum_light box cost terms x light lies) light.positive light.narrow)

-- the sum over the divisor is the constant, and the step times the cut value
sum_over : (k m z : ℤ) (d : ℕ) → 0 < d → ratio (k +ℤ m *ℤ z) (pos d) ≡ ratio k (pos d) +ℚ ratio m (pos d) *ℚ whole z
unfolding ratio
sum_over k m z d h =
    let product : frac m d *ℚ whole z ≡ frac (m *ℤ z) (d * 1) = ap (λ t. frac m d *ℚ t) (whole-frac z) ∙ frac-mul m z d 1 h (omega arith) in
    sym (ap (λ t. frac k d +ℚ t) product ∙ frac-add k (m *ℤ z) d (d * 1) h (mul-pos h (omega arith)) ∙ same_frac (k *ℤ pos (d * 1) +ℤ (m *ℤ z) *ℤ pos d) (k +ℤ m *ℤ z) (d * (d * 1)) d (mul-pos h (mul-pos h (omega arith))) h (cross k (m *ℤ z) (pos d)))
  where
    cross : (k p d : ℤ) → (k *ℤ (d *ℤ pos 1) +ℤ p *ℤ d) *ℤ d ≡ (k +ℤ p) *ℤ (d *ℤ (d *ℤ pos 1))
    cross k p d = simp expand (omega linear)

-- what a value is made of stays small, and the value is in range
pub record IsSmallValue (terms : ValueTerms) (cut : ℤ) : Type 0 where
  pub product : nat_abs (terms.factor *ℤ cut) ≤ 2 ^ 96
  pub sum : nat_abs (terms.constant +ℤ terms.factor *ℤ cut) ≤ 2 ^ 96
  pub range : InRange (ratio (terms.constant +ℤ terms.factor *ℤ cut) terms.divisor)

pub small_value : (dense : WholeRows) (terms : ValueTerms) (rows : IntegerRows) (x : List ℤ) (cut : ℤ) → with_values dense terms ≡ rows → IsLightValue dense.box dense.cost terms → LiesIn rows.whole.box x → cut ≡ cut_value rows.whole x → IsSmallValue terms cut
small_value dense terms rows x cut is light lies is_cut =
    let lies_in : LiesIn dense.box x = subst (λ (rows : IntegerRows). LiesIn rows.whole.box x) (sym is) lies in
    let here : cut ≡ cut_value dense x = is_cut ∙ ap (λ (rows : IntegerRows). cut_value rows.whole x) (sym is) in
    subst (IsSmallValue terms) (sym here) (record {
      product = product_light dense.box dense.cost terms x light lies_in;
      sum = sum_light dense.box dense.cost terms x light lies_in;
      range = value_in_range dense.box dense.cost terms x light lies_in;
    })

-- what was divided is the value
pub value_found : (dense : WholeRows) (terms : ValueTerms) (rows : IntegerRows) (x : List ℤ) (cut : ℤ) → with_values dense terms ≡ rows → IsLightValue dense.box dense.cost terms → cut ≡ cut_value rows.whole x → ratio (terms.constant +ℤ terms.factor *ℤ cut) terms.divisor ≡ value_in rows x
value_found dense terms rows x cut is light is_cut =
    ap (λ cut. ratio (terms.constant +ℤ terms.factor *ℤ cut) terms.divisor) is_cut ∙ subst (λ (rows : IntegerRows). ratio (terms.constant +ℤ terms.factor *ℤ cut_value rows.whole x) terms.divisor ≡ value_in rows x) is (subst (λ d. ratio (terms.constant +ℤ terms.factor *ℤ cut_value dense x) d ≡ ratio terms.constant d +ℚ ratio terms.factor d *ℚ whole (cut_value dense x)) (sym light.divisor) (sum_over terms.constant terms.factor (cut_value dense x) (nat_abs terms.divisor) light.positive))
