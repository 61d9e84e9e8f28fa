-- What the division by the greatest common divisor uses.
use Rattle.std.proofs.Common.{◌≡◌, ◌≢◌, ℕ, suc, ◌+◌, ◌*◌, ◌/◌, ◌<◌, ◌≤◌, ℤ, pos, negsuc, neg_ℤ, nat_abs, int_div, ◌*ℤ◌, ◌<ℤ◌, List, [], ◌∷◌, ◌++◌, length, get_or, take, refl, sym, ap, ap₂, subst, ◌∙◌, arith, mul-le-mul}
use Rattle.std.specs.Int.{◌∣◌}
use Rattle.std.specs.Prelude.{All}
use Rattle.std.proofs.Math.Nat.{dvd-mul_right, eq-zero_of_zero-dvd, mul-div_cancel'}
use Rattle.std.proofs.lemmas.Int.{ints}
use Rattle.std.proofs.lemmas.List.{map-append, take_more, take_all}
use Rattle.std.proofs.lemmas.List.Elements.{All-cons, All-head, All-nil, All-tail, All-weaker}
use Rattle.std.proofs.lemmas.Nat.Gcd.{dvd-zero, dvd_trans}
use Rattle.exact_math.specs.GcdLaws.{dvd_gcd, gcd_dvd_left, gcd_dvd_right}
use Rattle.exact_math.specs.IntegerLaws as Z
use Rattle.exact_math.specs.IntegerOrder.{abs_mul, mul_cancel, zero_of_mul}
use Rattle.exact_math.specs.Ring.{integers}
use Rattle.exact_vectors.specs.MatrixLaws as Matrix
use Rattle.exact_vectors.specs.Vectors.{scale}
use Rattle.form_widths.specs.Directions.{IsFreeColumn}
use Rattle.form_widths.specs.PrimitiveLaws.{primitive_nonzero, primitive_part}
use Rattle.frac128.specs.Range.{IsNarrow}
use Rattle.unimodular_pair.specs.Gathering.{common_divisor}
use Rattle.thin_forms.specs.Parts.{IsPrimitivePart}

-- ---- the greatest common divisor

-- it divides each factor
pub divisor_divides : (v : List ℤ) → All (λ factor. common_divisor v ∣ nat_abs factor) v
divisor_divides [] = All-nil (λ (factor : ℤ). 0 ∣ nat_abs factor)
divisor_divides (a ∷ v) =
    let d = common_divisor (a ∷ v) in
    All-cons (λ (factor : ℤ). d ∣ nat_abs factor) a v (gcd_dvd_left (nat_abs a) (common_divisor v))
    (All-weaker (λ (factor : ℤ). common_divisor v ∣ nat_abs factor) (λ (factor : ℤ). d ∣ nat_abs factor) (λ factor h. dvd_trans d (gcd_dvd_right (nat_abs a) (common_divisor v)) h) v (divisor_divides v))

-- each common divisor divides it
pub divisor_greatest : (v : List ℤ) (e : ℕ) → All (λ factor. e ∣ nat_abs factor) v → e ∣ common_divisor v
divisor_greatest [] e h = dvd-zero e
divisor_greatest (a ∷ v) e h =
    dvd_gcd (nat_abs a) (common_divisor v) e (All-head (λ (factor : ℤ). e ∣ nat_abs factor) a v h) (divisor_greatest v e (All-tail (λ (factor : ℤ). e ∣ nat_abs factor) a v h))

-- it is 0 where all factors are
pub none_but_zeros : (v : List ℤ) → common_divisor v ≡ 0 → All (λ factor. factor ≡ pos 0) v
none_but_zeros v e =
    All-weaker (λ (factor : ℤ). 0 ∣ nat_abs factor) (λ (factor : ℤ). factor ≡ pos 0) (λ factor h. size factor (eq-zero_of_zero-dvd h)) v (subst (λ (d : ℕ). All (λ (factor : ℤ). d ∣ nat_abs factor) v) e (divisor_divides v))
  where
    size : (z : ℤ) → nat_abs z ≡ 0 → z ≡ pos 0
    size z h = omega (arith, ints, h)

-- ---- exact quotients

pub quotient_exact : (z : ℤ) (g : ℕ) → g ∣ nat_abs z → pos g *ℤ int_div z (pos g) ≡ z
quotient_exact (pos n) g h = ap pos (mul-div_cancel' g h)
quotient_exact (negsuc n) g h = Z.mul_neg (pos g) (pos (suc n / g)) ∙ ap (λ k. neg_ℤ (pos k)) (mul-div_cancel' g h)

-- the same of a divisor above 0
pub quotient_whole : (z d : ℤ) → pos 0 <ℤ d → nat_abs d ∣ nat_abs z → d *ℤ int_div z d ≡ z
quotient_whole z (pos g) positive h = quotient_exact z g h
quotient_whole z (negsuc g) positive h = absurd (omega (arith, ints, positive))

-- one more factor
pub quotients_more : (d : ℤ) (factors items new : List ℤ) (j : ℕ) (q a : ℤ) → j < length factors → scale integers d items ≡ take j factors → a ≡ get_or factors j (pos 0) → d *ℤ q ≡ a → new ≡ items ++ q ∷ [] → scale integers d new ≡ take (j + 1) factors
quotients_more d factors items new j q a h before at is put =
    ap (scale integers d) put ∙ map-append (λ z. d *ℤ z) items (q ∷ []) ∙ ap₂ (λ (l : List ℤ) (z : ℤ). l ++ z ∷ []) before (is ∙ at) ∙ sym (take_more factors j (pos 0) h)

pub quotients_all : (d : ℤ) (factors items : List ℤ) (j : ℕ) → length factors ≤ j → scale integers d items ≡ take j factors → scale integers d items ≡ factors
quotients_all d factors items j h e = e ∙ take_all j factors h

-- ---- primitive parts

pub part_of_quotients : (factors form : List ℤ) (d : ℤ) → d ≡ pos (common_divisor factors) → d ≢ pos 0 → scale integers d form ≡ factors → IsPrimitivePart factors form
part_of_quotients factors form d is some e = record {
  divisor = common_divisor factors;
  positive = above (common_divisor factors) (λ z. some (is ∙ ap pos z));
  multiple = sym e ∙ ap (λ k. scale integers k form) is;
  greatest = divisor_greatest factors;
}
  where
    above : (n : ℕ) → n ≢ 0 → 0 < n
    above n h = omega (arith, h)

-- it has as many factors
pub part_length : (factors form : List ℤ) → IsPrimitivePart factors form → length form ≡ length factors
part_length factors form part = sym (Matrix.length-scale integers (pos part.divisor) form) ∙ ap length (sym part.multiple)

-- the greatest common divisor as a number of the code
pub divisor_common : (factors : List ℤ) (d : ℤ) → d ≡ pos (common_divisor factors) → All (λ factor. nat_abs d ∣ nat_abs factor) factors
divisor_common factors d is = subst (λ (z : ℤ). All (λ (factor : ℤ). nat_abs z ∣ nat_abs factor) factors) (sym is) (divisor_divides factors)

pub zero_divisor : (factors : List ℤ) (d : ℤ) → d ≡ pos (common_divisor factors) → d ≡ pos 0 → All (λ factor. factor ≡ pos 0) factors
zero_divisor factors d is none = none_but_zeros factors (omega (arith, ints, is, none))

-- its factors are no larger
pub part_narrow : (factors form : List ℤ) → IsPrimitivePart factors form → All IsNarrow factors → All IsNarrow form
part_narrow factors form part h = go part.divisor part.positive form (subst (All IsNarrow) part.multiple h)
  where
    product_le : (a b c d : ℕ) → a ≤ b → c ≤ d → a * c ≤ b * d
    product_le a b c d h k = mul-le-mul h k

    smaller : (g : ℕ) (a : ℤ) → 0 < g → IsNarrow (pos g *ℤ a) → IsNarrow a
    smaller g a some n = omega (arith, n, abs_mul (pos g) a, product_le 1 g (nat_abs a) (nat_abs a) some (omega arith))

    go : (g : ℕ) → 0 < g → (form : List ℤ) → All IsNarrow (scale integers (pos g) form) → All IsNarrow form
    go g some [] n = All-nil IsNarrow
    go g some (a ∷ form) n = All-cons IsNarrow a form (smaller g a some (All-head IsNarrow (pos g *ℤ a) (scale integers (pos g) form) n)) (go g some form (All-tail IsNarrow (pos g *ℤ a) (scale integers (pos g) form) n))

-- a column with such a part is free
pub part_is_free : (lines : List (List ℤ)) (column : ℕ) (form : List ℤ) → column < length lines → IsPrimitivePart (get_or lines column []) form → IsFreeColumn lines column form
part_is_free lines column form inside part = record {
  there = inside;
  divisor = part.divisor;
  positive = part.positive;
  line = part.multiple;
  primitive = primitive_part part.divisor form part.positive (λ e h. part.greatest e (subst (All (λ factor. e ∣ nat_abs factor)) (sym part.multiple) h));
}

-- multiples of a multiple, and by 1
scale-scale : (k l : ℤ) (v : List ℤ) → scale integers k (scale integers l v) ≡ scale integers (k *ℤ l) v
scale-scale k l [] = refl
scale-scale k l (a ∷ v) = ap₂ (λ (z : ℤ) (w : List ℤ). z ∷ w) (sym (Z.mul_assoc k l a)) (scale-scale k l v)

scale-one : (v : List ℤ) → scale integers (pos 1) v ≡ v
scale-one [] = refl
scale-one (a ∷ v) = ap₂ (λ (z : ℤ) (w : List ℤ). z ∷ w) (Z.one_mul a) (scale-one v)

-- a factor other than 0 may be left out
same_head : (a b : ℤ) (v w : List ℤ) → a ∷ v ≡ b ∷ w → a ≡ b
same_head a b v w e = cc

same_tail : (a b : ℤ) (v w : List ℤ) → a ∷ v ≡ b ∷ w → v ≡ w
same_tail a b v w e = cc

scale-cancel : (k : ℤ) (v w : List ℤ) → k ≢ pos 0 → scale integers k v ≡ scale integers k w → v ≡ w
scale-cancel k [] [] some e = refl
scale-cancel k [] (b ∷ w) some e = cc
scale-cancel k (a ∷ v) [] some e = cc
scale-cancel k (a ∷ v) (b ∷ w) some e = ap₂ (λ (z : ℤ) (l : List ℤ). z ∷ l) (mul_cancel k a b some (same_head _ _ _ _ e)) (scale-cancel k v w some (same_tail _ _ _ _ e))

-- a divisor divides the factors of a multiple
divides_multiple : (k : ℕ) (v : List ℤ) → All (λ factor. k ∣ nat_abs factor) (scale integers (pos k) v)
divides_multiple k [] = All-nil (λ (factor : ℤ). k ∣ nat_abs factor)
divides_multiple k (a ∷ v) =
    All-cons (λ (factor : ℤ). k ∣ nat_abs factor) (pos k *ℤ a) (scale integers (pos k) v) (subst (λ n. k ∣ n) (sym (abs_mul (pos k) a)) (dvd-mul_right k (nat_abs a))) (divides_multiple k v)

positive_some : (n : ℕ) → 0 < n → pos n ≢ pos 0
positive_some n h e = absurd (omega (arith, ints, e))

-- A free column has one primitive form.
pub part_is_only : (lines : List (List ℤ)) (column : ℕ) (form other : List ℤ) → IsPrimitivePart (get_or lines column []) form → IsFreeColumn lines column other → other ≡ form
part_is_only lines column form other part free =
    let d = free.divisor in
    let divides : d ∣ part.divisor = part.greatest d (subst (All (λ factor. d ∣ nat_abs factor)) (sym free.line) (divides_multiple d other)) in
    let k : ℕ = part.divisor / d in
    let whole_divisor : d * k ≡ part.divisor = mul-div_cancel' d divides in
    let same : scale integers (pos d) other ≡ scale integers (pos d) (scale integers (pos k) form) =
    sym free.line ∙ part.multiple ∙ ap (λ n. scale integers (pos n) form) (sym whole_divisor) ∙ sym (scale-scale (pos d) (pos k) form) in
    let times : other ≡ scale integers (pos k) form = scale-cancel (pos d) other (scale integers (pos k) form) (positive_some d free.positive) same in
    let one : k ≡ 1 = free.primitive k (subst (All (λ factor. k ∣ nat_abs factor)) (sym times) (divides_multiple k form)) in
    times ∙ ap (λ n. scale integers (pos n) form) one ∙ scale-one form

-- A column whose factors are all 0 is not free.
pub zeros_not_free : (lines : List (List ℤ)) (column : ℕ) (other : List ℤ) → All (λ factor. factor ≡ pos 0) (get_or lines column []) → IsFreeColumn lines column other → ⊥
zeros_not_free lines column other none free = primitive_nonzero other free.primitive (go other (subst (All (λ factor. factor ≡ pos 0)) free.line none))
  where
    go : (form : List ℤ) → All (λ factor. factor ≡ pos 0) (scale integers (pos free.divisor) form) → All (λ factor. factor ≡ pos 0) form
    go [] h = All-nil (λ (factor : ℤ). factor ≡ pos 0)
    go (a ∷ form) h =
        All-cons (λ (factor : ℤ). factor ≡ pos 0) a form (zero_of_mul (pos free.divisor) a (positive_some free.divisor free.positive) (All-head (λ (factor : ℤ). factor ≡ pos 0) (pos free.divisor *ℤ a) (scale integers (pos free.divisor) form) h))
        (go form (All-tail (λ (factor : ℤ). factor ≡ pos 0) (pos free.divisor *ℤ a) (scale integers (pos free.divisor) form) h))
