-- The multipliers of a least whole line by their ratios to the first one, both ways.
use Rattle.std.proofs.Common.{◌≡◌, ℕ, zero, suc, ◌*◌, ◌/◌, ◌^◌, ◌<◌, ◌≤◌, List, [], ◌∷◌, map, ℤ, pos, ◌*ℤ◌, ◌≤ℤ◌, ◌<ℤ◌, nat_abs, refl, sym, ap, ◌∙◌, subst, arith, mul_comm, mul_assoc}
use Rattle.std.specs.Prelude.{Option, Some, None, All, option_map}
use Rattle.std.specs.List.{AllZip}
use Rattle.std.specs.Int.{◌∣◌}
use Rattle.std.proofs.Math.Nat.{dvd-mul_right, mul-div_cancel', dvd_of_mul-dvd-mul_left, mul-le-mul_left}
use Rattle.std.proofs.lemmas.Nat.Gcd.{le_of_dvd}
use Rattle.std.proofs.lemmas.List.Elements.{All-nil, All-cons, All-head, All-tail}
use Rattle.exact_math.specs.GcdLaws.{gcd_comm, dvd_from_product}
use Rattle.exact_math.specs.IntegerRing.{linear}
use Rattle.exact_math.specs.IntegerOrder as Order
use Rattle.exact_math.specs.Rational.{ℚ, whole, ◌*ℚ◌, ◌/ℚ◌, ◌<ℚ◌}
use Rattle.exact_math.specs.RationalLaws as Rational
use Rattle.exact_math.specs.RationalRing as Ring
use Rattle.exact_math.specs.RationalOrder as Ordered
use Rattle.frac128.specs.Range.{InRange}
use Rattle.farkas_rows.specs.declared.fracs.FracUse.{FracUse}
use Rattle.farkas_rows.specs.declared.fracs.CutFrac.{CutFrac}
use Rattle.farkas_rows.specs.declared.line.Use.{Use}
use Rattle.farkas_rows.specs.declared.line.CutUse.{CutUse}
use Rattle.farkas_rows.specs.declared.line.Line.{Line}
use Rattle.farkas_rows.specs.Refutes.{multipliers}
use Rattle.farkas_rows.specs.LeastLine.{IsInRatio, IsCommon, IsLeastLine, fractions, first_of, cut_with}
use Rattle.farkas_rows.proofs.RatioLemmas.{ratio_terms, ratio_positive, ratio_narrow}
use Rattle.farkas_rows.proofs.LeastLemmas.{num_nonzero, quotient_positive, ratio_of_factor, factor_of_ratio, ratio_of_first, whole_num}
use Rattle.farkas_rows.proofs.LeastLineLemmas.{multiple_positive}

-- ---- the fractions are positive

-- those of the items
images : (items : List FracUse) → All (λ part. whole (pos 0) <ℚ part) (map (λ (item : FracUse). item.times) items) → All (λ (item : FracUse). whole (pos 0) <ℚ item.times) items
images [] h = All-nil _
images (item ∷ items) h = All-cons (λ (item : FracUse). whole (pos 0) <ℚ item.times) item items (All-head (λ part. whole (pos 0) <ℚ part) item.times (map (λ (item : FracUse). item.times) items) h) (images items (All-tail (λ part. whole (pos 0) <ℚ part) item.times (map (λ (item : FracUse). item.times) items) h))

pub items_positive : (cut : Option CutFrac) (items : List FracUse) → All (λ part. whole (pos 0) <ℚ part) (fractions cut items) → All (λ (item : FracUse). whole (pos 0) <ℚ item.times) items
items_positive None items h = images items h
items_positive (Some cut) items h = images items (All-tail (λ part. whole (pos 0) <ℚ part) cut.times (map (λ (item : FracUse). item.times) items) h)

-- the first one
pub first_positive : (cut : Option CutFrac) (items : List FracUse) → (fractions cut items ≡ [] → ⊥) → All (λ part. whole (pos 0) <ℚ part) (fractions cut items) → whole (pos 0) <ℚ first_of cut items
first_positive (Some cut) items some h = All-head (λ part. whole (pos 0) <ℚ part) cut.times (map (λ (item : FracUse). item.times) items) h
first_positive None [] some h = absurd (some refl)
first_positive None (item ∷ items) some h = All-head (λ part. whole (pos 0) <ℚ part) item.times (map (λ (item : FracUse). item.times) items) h

-- the numerators of the quotients by the first one
pub ratios_positive : (first : ℚ) (items : List FracUse) → whole (pos 0) <ℚ first → All (λ (item : FracUse). whole (pos 0) <ℚ item.times) items → All (λ (item : FracUse). pos 0 <ℤ (item.times /ℚ first).num) items
ratios_positive first [] hf h = All-nil _
ratios_positive first (item ∷ items) hf h =
    All-cons (λ (item : FracUse). pos 0 <ℤ (item.times /ℚ first).num) item items (quotient_positive item.times first (All-head (λ (item : FracUse). whole (pos 0) <ℚ item.times) item items h) hf) (ratios_positive first items hf (All-tail (λ (item : FracUse). whole (pos 0) <ℚ item.times) item items h))

-- ---- from a least line to the ratios

-- of numbers that are multiples by one factor
to_ratios : (factor first : ℚ) (m : ℤ) (items : List FracUse) (numbers : List ℤ) → (first.num ≡ pos 0 → ⊥) → whole m ≡ factor *ℚ first → AllZip (λ part number. whole number ≡ factor *ℚ part) (map (λ (item : FracUse). item.times) items) numbers → All (λ number. number <ℤ pos (2 ^ 127)) numbers → AllZip (λ (item : FracUse) (number : ℤ). IsInRatio m first item.times number × (number <ℤ pos (2 ^ 127))) items numbers
to_ratios factor first m [] [] some hm h small = tt
to_ratios factor first m [] (w ∷ numbers) some hm h small = absurd h
to_ratios factor first m (item ∷ items) [] some hm h small = absurd h
to_ratios factor first m (item ∷ items) (w ∷ numbers) some hm h small =
    ((ratio_of_factor factor first item.times m w some hm h.0, All-head (λ number. number <ℤ pos (2 ^ 127)) w numbers small), to_ratios factor first m items numbers some hm h.1 (All-tail (λ number. number <ℤ pos (2 ^ 127)) w numbers small))

-- what a least line without wide multipliers has: a multiplier of the first, and the others in ratio to it
pub record IsNarrowBy (first : ℚ) (items : List FracUse) (numbers : List ℤ) (m : ℤ) : Type 0 where
  pub one : pos 1 ≤ℤ m
  pub small : m <ℤ pos (2 ^ 127)
  pub ratios : AllZip (λ (item : FracUse) (number : ℤ). IsInRatio m first item.times number × (number <ℤ pos (2 ^ 127))) items numbers

pub narrow_ratios : (cut : Option CutFrac) (items : List FracUse) (line : Line) → (fractions cut items ≡ [] → ⊥) → All (λ part. whole (pos 0) <ℚ part) (fractions cut items) → IsLeastLine cut items line → All (λ number. number <ℤ pos (2 ^ 127)) (multipliers line) → (m : ℤ) × IsNarrowBy (first_of cut items) items (map (λ (item : Use). item.times) line.items) m
narrow_ratios cut items line some positive least small =
    go cut items line.cut line.items some positive least.same_cut least.least.multiple.0 least.least.multiple.1.0 least.least.multiple.1.1 small
  where
    go : (cut : Option CutFrac) (items : List FracUse) (used : Option CutUse) (uses : List Use) → (fractions cut items ≡ [] → ⊥) → All (λ part. whole (pos 0) <ℚ part) (fractions cut items)
        → option_map (λ (cut : CutUse). cut.value) used ≡ option_map (λ (cut : CutFrac). cut.value) cut → (factor : ℚ) → whole (pos 0) <ℚ factor
        → AllZip (λ part number. whole number ≡ factor *ℚ part) (fractions cut items) (multipliers (record { cut = used; items = uses }))
        → All (λ number. number <ℤ pos (2 ^ 127)) (multipliers (record { cut = used; items = uses }))
        → (m : ℤ) × IsNarrowBy (first_of cut items) items (map (λ (item : Use). item.times) uses) m
    go None items (Some used) uses some positive e factor hf h small = cc
    go (Some cut) items None uses some positive e factor hf h small = cc
    go None [] None uses some positive e factor hf h small = absurd (some refl)
    go None (item ∷ items) None [] some positive e factor hf h small = absurd h
    go None (item ∷ items) None (use_of ∷ uses) some positive e factor hf h small =
        let first = first_positive None (item ∷ items) some positive in (
          use_of.times,
          record {
            one = multiple_positive factor item.times use_of.times hf first h.0;
            small = All-head (λ number. number <ℤ pos (2 ^ 127)) use_of.times (map (λ (item : Use). item.times) uses) small;
            ratios = to_ratios factor item.times use_of.times (item ∷ items) (map (λ (item : Use). item.times) (use_of ∷ uses)) (num_nonzero item.times first) h.0 h small;
          },
        )
    go (Some cut) items (Some used) uses some positive e factor hf h small =
        let first = first_positive (Some cut) items some positive in (
          used.times,
          record {
            one = multiple_positive factor cut.times used.times hf first h.0;
            small = All-head (λ number. number <ℤ pos (2 ^ 127)) used.times (map (λ (item : Use). item.times) uses) small;
            ratios = to_ratios factor cut.times used.times items (map (λ (item : Use). item.times) uses) (num_nonzero cut.times first) h.0 h.1 (All-tail (λ number. number <ℤ pos (2 ^ 127)) used.times (map (λ (item : Use). item.times) uses) small);
          },
        )

-- the quotients are then in range, and their denominators divide the multiplier of the first
pub quotients_narrow : (first : ℚ) (items : List FracUse) (numbers : List ℤ) (m : ℤ) → whole (pos 0) <ℚ first → All (λ (item : FracUse). whole (pos 0) <ℚ item.times) items → IsNarrowBy first items numbers m → All (λ (item : FracUse). InRange (item.times /ℚ first)) items × All (λ (item : FracUse). (item.times /ℚ first).den ∣ nat_abs m) items
quotients_narrow first items numbers m hf positive h = go items numbers positive h.ratios
  where
    go : (items : List FracUse) (numbers : List ℤ) → All (λ (item : FracUse). whole (pos 0) <ℚ item.times) items → AllZip (λ (item : FracUse) (number : ℤ). IsInRatio m first item.times number × (number <ℤ pos (2 ^ 127))) items numbers → All (λ (item : FracUse). InRange (item.times /ℚ first)) items × All (λ (item : FracUse). (item.times /ℚ first).den ∣ nat_abs m) items
    go [] numbers positive ratios = (All-nil _, All-nil _)
    go (item ∷ items) [] positive ratios = absurd ratios
    go (item ∷ items) (w ∷ numbers) positive ratios =
        let r = item.times /ℚ first in
        let above : pos 0 <ℤ r.num = quotient_positive item.times first (All-head (λ (item : FracUse). whole (pos 0) <ℚ item.times) item items positive) hf in
        let one : pos 1 ≤ℤ w = ratio_positive m w r ratios.0.0 h.one above in
        let small = ratio_narrow m w r ratios.0.0 h.one one h.small ratios.0.1 in
        let rest = go items numbers (All-tail (λ (item : FracUse). whole (pos 0) <ℚ item.times) item items positive) ratios.1 in (
          All-cons (λ (item : FracUse). InRange (item.times /ℚ first)) item items (record { num = small.0; den = small.1 }) rest.0,
          All-cons (λ (item : FracUse). (item.times /ℚ first).den ∣ nat_abs m) item items (ratio_terms m w r ratios.0.0).0 rest.1,
        )

-- ---- from the ratios to a least line

-- numbers in ratio are multiples by one factor
from_ratios : (first : ℚ) (common : ℤ) (items : List FracUse) (uses : List Use) → (first.num ≡ pos 0 → ⊥) → AllZip (λ (item : FracUse) (use_of : Use). IsInRatio common first item.times use_of.times) items uses → AllZip (λ part number. whole number ≡ (whole common /ℚ first) *ℚ part) (map (λ (item : FracUse). item.times) items) (map (λ (item : Use). item.times) uses)
from_ratios first common [] [] some h = tt
from_ratios first common [] (use_of ∷ uses) some h = absurd h
from_ratios first common (item ∷ items) [] some h = absurd h
from_ratios first common (item ∷ items) (use_of ∷ uses) some h = (factor_of_ratio first item.times common use_of.times some h.0, from_ratios first common items uses some h.1)

-- all of a line's are
multiples : (cut : Option CutFrac) (items : List FracUse) (common : ℤ) (uses : List Use) → whole (pos 0) <ℚ first_of cut items → AllZip (λ (item : FracUse) (use_of : Use). IsInRatio common (first_of cut items) item.times use_of.times) items uses → AllZip (λ part number. whole number ≡ (whole common /ℚ first_of cut items) *ℚ part) (fractions cut items) (multipliers (record { cut = cut_with common cut; items = uses }))
multiples None items common uses hf h = from_ratios (first_of None items) common items uses (num_nonzero (first_of None items) hf) h
multiples (Some cut) items common uses hf h = (sym (Ring.div_mul (whole common) cut.times (num_nonzero cut.times hf)), from_ratios cut.times common items uses (num_nonzero cut.times hf) h)

-- a common divisor of the multipliers divides that of the first
divides_common : (cut : Option CutFrac) (items : List FracUse) (common : ℤ) (uses : List Use) (d : ℕ) → (fractions cut items ≡ [] → ⊥) → whole (pos 0) <ℚ first_of cut items → AllZip (λ (item : FracUse) (use_of : Use). IsInRatio common (first_of cut items) item.times use_of.times) items uses → All (λ number. d ∣ nat_abs number) (multipliers (record { cut = cut_with common cut; items = uses })) → (d ∣ nat_abs common) × All (λ number. d ∣ nat_abs number) (map (λ (item : Use). item.times) uses)
divides_common (Some cut) items common uses d some hf h all =
    (All-head (λ number. d ∣ nat_abs number) common (map (λ (item : Use). item.times) uses) all, All-tail (λ number. d ∣ nat_abs number) common (map (λ (item : Use). item.times) uses) all)
divides_common None [] common uses d some hf h all = absurd (some refl)
divides_common None (item ∷ items) common [] d some hf h all = absurd h
divides_common None (item ∷ items) common (use_of ∷ uses) d some hf h all =
    let same : use_of.times ≡ common = ratio_of_first item.times common use_of.times (num_nonzero item.times hf) h.0 in
    (subst (λ z. d ∣ nat_abs z) same (All-head (λ number. d ∣ nat_abs number) use_of.times (map (λ (item : Use). item.times) uses) all), all)

-- a denominator divides the quotient by a common divisor
denominator_divides : (r : ℚ) (common w : ℤ) (d : ℕ) → 0 < d → w *ℤ pos r.den ≡ common *ℤ r.num → d ∣ nat_abs common → d ∣ nat_abs w → r.den ∣ nat_abs common / d
denominator_divides r common w d some e hc hw =
    let C = nat_abs common in
    let W = nat_abs w in
    let a = nat_abs r.num in
    let b = r.den in
    let sizes : W * b ≡ C * a = sym (Order.abs_mul w (pos b)) ∙ ap nat_abs e ∙ Order.abs_mul common r.num in
    let whole_c : d * (C / d) ≡ C = mul-div_cancel' d hc in
    let whole_w : d * (W / d) ≡ W = mul-div_cancel' d hw in
    let left : (d * b) * (W / d) ≡ W * b = ap (λ t. t * (W / d)) (mul_comm d b) ∙ mul_assoc b d (W / d) ∙ ap (λ t. b * t) whole_w ∙ mul_comm b W in
    let right : C * a ≡ d * (C / d * a) = ap (λ t. t * a) (sym whole_c) ∙ mul_assoc d (C / d) a in
    let both : d * b ∣ d * (C / d * a) = subst (λ t. d * b ∣ t) (left ∙ sizes ∙ right) (dvd-mul_right (d * b) (W / d)) in
    let inner : b ∣ C / d * a = dvd_of_mul-dvd-mul_left b some both in
    dvd_from_product b a (C / d) (gcd_comm b a ∙ Rational.terms_lowest r) (subst (λ t. b ∣ t) (mul_comm (C / d) a) inner)

denominators_divide : (first : ℚ) (common : ℤ) (d : ℕ) (items : List FracUse) (uses : List Use) → 0 < d → d ∣ nat_abs common → AllZip (λ (item : FracUse) (use_of : Use). IsInRatio common first item.times use_of.times) items uses → All (λ number. d ∣ nat_abs number) (map (λ (item : Use). item.times) uses) → All (λ (item : FracUse). (item.times /ℚ first).den ∣ nat_abs common / d) items
denominators_divide first common d [] uses some hc h all = All-nil _
denominators_divide first common d (item ∷ items) [] some hc h all = absurd h
denominators_divide first common d (item ∷ items) (use_of ∷ uses) some hc h all =
    All-cons (λ (item : FracUse). (item.times /ℚ first).den ∣ nat_abs common / d) item items
    (denominator_divides (item.times /ℚ first) common use_of.times d some h.0 hc (All-head (λ number. d ∣ nat_abs number) use_of.times (map (λ (item : Use). item.times) uses) all))
    (denominators_divide first common d items uses some hc h.1 (All-tail (λ number. d ∣ nat_abs number) use_of.times (map (λ (item : Use). item.times) uses) all))

-- a positive number that divides its quotient by another one
one_of_quotient : (C d : ℕ) → 0 < C → d ∣ C → C ∣ C / d → d ≡ 1
one_of_quotient C zero some hd h = let none : zero * (C / zero) ≡ C = mul-div_cancel' zero hd in omega (arith, none)
one_of_quotient C (suc zero) some hd h = refl
one_of_quotient C (suc (suc d)) some hd h =
    let back : suc (suc d) * (C / suc (suc d)) ≡ C = mul-div_cancel' (suc (suc d)) hd in
    let least = le_of_dvd (part (C / suc (suc d)) back) h in
    absurd (omega (arith, twice (C / suc (suc d)), back, least, part (C / suc (suc d)) back))
  where
    part : (q : ℕ) → suc (suc d) * q ≡ C → 0 < q
    part zero e = omega arith
    part (suc q) e = omega arith

    twice : (q : ℕ) → 2 * q ≤ suc (suc d) * q
    twice q = omega (arith, mul_comm 2 q, mul_comm (suc (suc d)) q, mul-le-mul_left q two)
      where
        two : 2 ≤ suc (suc d)
        two = omega arith

-- the line with the common multiple as multiplier of the first, and the others in ratio to it, is the least
pub IsLeastLine-of : (cut : Option CutFrac) (items : List FracUse) (common : ℤ) (uses : List Use) → (fractions cut items ≡ [] → ⊥) → All (λ part. whole (pos 0) <ℚ part) (fractions cut items) → IsCommon (λ (item : FracUse). (item.times /ℚ first_of cut items).den) items common → map (λ (item : Use). item.index) uses ≡ map (λ (item : FracUse). item.index) items → AllZip (λ (item : FracUse) (use_of : Use). IsInRatio common (first_of cut items) item.times use_of.times) items uses → IsLeastLine cut items (record { cut = cut_with common cut; items = uses })
IsLeastLine-of cut items common uses some positive h numbers ratios =
    let first = first_positive cut items some positive in
    let above : whole (pos 0) <ℚ whole common = Ordered.pos_from_num (whole common) (subst (λ z. pos 0 <ℤ z) (sym (whole_num common).0) (omega (linear, h.positive))) in
    let factor : whole (pos 0) <ℚ (whole common /ℚ first_of cut items) = Ordered.pos_from_num (whole common /ℚ first_of cut items) (quotient_positive (whole common) (first_of cut items) above first) in
    record {
      same_cut = cut_same cut;
      same_numbers = numbers;
      least = record {
        multiple = (whole common /ℚ first_of cut items, (factor, multiples cut items common uses first ratios));
        lowest = λ d all.
            let parts = divides_common cut items common uses d some first ratios all in
            let C_some : 0 < nat_abs common = omega (linear, h.positive) in
            let d_some : 0 < d = divisor_some d (nat_abs common) C_some parts.0 in
            one_of_quotient (nat_abs common) d C_some parts.0 (h.least (nat_abs common / d) (denominators_divide (first_of cut items) common d items uses d_some parts.0 ratios parts.1));
      };
    }
  where
    cut_same : (cut : Option CutFrac) → option_map (λ (cut : CutUse). cut.value) (cut_with common cut) ≡ option_map (λ (cut : CutFrac). cut.value) cut
    cut_same None = refl
    cut_same (Some cut) = refl

    divisor_some : (d C : ℕ) → 0 < C → d ∣ C → 0 < d
    divisor_some zero C some h = let none : zero * (C / zero) ≡ C = mul-div_cancel' zero h in omega (arith, none)
    divisor_some (suc d) C some h = omega arith
