-- What the factors of items have in common, and that their coefficients have the same in common.
use Rattle.std.proofs.Common.{◌≡◌, ◌≢◌, of_z, false, ℕ, zero, suc, ◌+◌, ◌<◌, ◌≤◌, ◌^◌, List, [], ◌∷◌, ◌++◌, length, take, get_or, ℤ, pos, ◌<ℤ◌, nat_abs, refl, sym, ap, ap₂, subst, ◌∙◌, arith}
use Rattle.std.specs.Prelude.{Result, Ok, IsOk, OkIff, ◌==◌}
use Rattle.std.specs.Result.{is_ok}
use Rattle.std.specs.Int.{◌∣◌, w128}
use Rattle.std.proofs.lemmas.Result.{Ok-from_Ok_iff, OkIff-at_ok}
use Rattle.std.proofs.Math.Nat.{one-dvd}
use Rattle.std.proofs.lemmas.Nat.Gcd.{dvd_trans, dvd_antisymm, dvd-zero, le_of_dvd}
use Rattle.std.proofs.lemmas.Bool.{ne_eqb}
use Rattle.std.proofs.lemmas.List.{map_more, take-map, length-map, get_or-map}
use Rattle.exact_math.specs.Gcd.{gcd, lcm}
use Rattle.exact_math.specs.GcdLaws.{gcd_dvd_left, gcd_dvd_right, dvd_gcd, gcd_below}
use Rattle.exact_math.specs.Rational.{ℚ, whole, ratio}
use Rattle.exact_math.specs.IntegerRing.{linear}
use Rattle.exact_math.specs.RationalFloor.{whole-is}
use Rattle.exact_math.specs.LcmLaws.{lcm_dvd}
use Rattle.frac128.specs.Range.{InRange}
use Rattle.frac128.specs.declared.narrow.Wide.{Wide}
use Rattle.int_model.specs.declared.model.Item.{Item}
use Rattle.int_model.specs.Scale.{common_denominator, common_numerator, over_or_one, scale}
use Rattle.int_model.specs.IntegerRows.{coefficients_of, IsDistinctBelow}
use Rattle.int_model.specs.ItemFactors.{factors_in, row_scale}
use Rattle.int_model.proofs.CoefficientLaws.{coefficient-at, coefficient_of-item, of_coefficients}
use Rattle.int_model.proofs.ScaleLaws.{common_denominator_pos}
use Rattle.int_model.proofs.LargeLaws.{common_denominator-push, common_denominator-take, coefficients_long}
use Rattle.int_model.proofs.MultipleLaws.{den_dvd_common, common_numerator-push, quotient_in_range}

-- ---- one item after another

-- the factors of one item more
factors_in-more : (items : List Item) (i : ℕ) (d : Item) → i < length items → factors_in (take (i + 1) items) ≡ factors_in (take i items) ++ (get_or items i d).factor ∷ []
factors_in-more items i d h = map_more (λ (item : Item). item.factor) items i d h

pub common_denominator-more : (items : List Item) (i : ℕ) (d : Item) → i < length items → common_denominator (factors_in (take (i + 1) items)) ≡ lcm (common_denominator (factors_in (take i items))) (get_or items i d).factor.den
common_denominator-more items i d h =
    ap common_denominator (factors_in-more items i d h) ∙ common_denominator-push (factors_in (take i items)) (get_or items i d).factor

pub common_numerator-more : (items : List Item) (i : ℕ) (d : Item) → i < length items → common_numerator (factors_in (take (i + 1) items)) ≡ gcd (common_numerator (factors_in (take i items))) (nat_abs (get_or items i d).factor.num)
common_numerator-more items i d h =
    ap common_numerator (factors_in-more items i d h) ∙ common_numerator-push (factors_in (take i items)) (get_or items i d).factor

-- the common denominator of the first items is at most that of all
pub common_denominator-part : (items : List Item) (i : ℕ) → common_denominator (factors_in (take i items)) ≤ common_denominator (factors_in items)
common_denominator-part items i =
    le_of_dvd (common_denominator_pos (factors_in items)) (subst (λ a. common_denominator a ∣ common_denominator (factors_in items)) (take-map (λ (item : Item). item.factor) i items) (common_denominator-take i (factors_in items)))

-- ---- what a loop over the items keeps

-- the common numerator of the items so far, and of one more
pub numerator_step : (items : List Item) (i : ℕ) (item : Item) (common num result : ℤ) → item ≡ get_or items i item → i < length items → common ≡ pos (common_numerator (factors_in (take i items))) → num ≡ item.factor.num → result ≡ pos (gcd (nat_abs common) (nat_abs num)) → result ≡ pos (common_numerator (factors_in (take (i + 1) items)))
numerator_step items i item common num result is h is_common is_num is_result =
    is_result ∙ ap pos (ap₂ gcd (ap nat_abs is_common) (ap nat_abs (is_num ∙ ap (λ (item : Item). item.factor.num) is)) ∙ sym (common_numerator-more items i item h))

pub numerator_narrow : (items : List Item) (i : ℕ) (item : Item) → item ≡ get_or items i item → i < length items → common_numerator (factors_in (take i items)) < 2 ^ 127 → nat_abs item.factor.num < 2 ^ 127 → common_numerator (factors_in (take (i + 1) items)) < 2 ^ 127
numerator_narrow items i item is h narrow low =
    subst (λ n. n < 2 ^ 127) (sym (common_numerator-more items i item h)) (gcd_below _ _ (2 ^ 127) narrow (subst (λ (t : Item). nat_abs t.factor.num < 2 ^ 127) is low))

-- the common denominator of one item more
pub denominator_step : (items : List Item) (i : ℕ) (item : Item) (common den : ℤ) → item ≡ get_or items i item → i < length items → common ≡ pos (common_denominator (factors_in (take i items))) → den ≡ pos item.factor.den → lcm (nat_abs common) (nat_abs den) ≡ common_denominator (factors_in (take (i + 1) items))
denominator_step items i item common den is h is_common is_den =
    ap₂ lcm (ap nat_abs is_common) (ap nat_abs (is_den ∙ ap (λ (item : Item). pos item.factor.den) is)) ∙ sym (common_denominator-more items i item h)

-- the common denominator is above 0
pub denominator_above : (items : List Item) (i : ℕ) (common : ℤ) → common ≡ pos (common_denominator (factors_in (take i items))) → pos 0 <ℤ common
denominator_above items i common is = subst (λ z. pos 0 <ℤ z) (sym is) (above _ (common_denominator_pos (factors_in (take i items))))
  where
    above : (n : ℕ) → 0 < n → pos 0 <ℤ pos n
    above n h = omega linear

-- ---- the coefficients have the same common denominator and numerator

-- what each denominator divides
pub common_denominator-dvd : (a : List ℚ) (m : ℕ) → ((k : ℕ) (d : ℚ) → k < length a → (get_or a k d).den ∣ m) → common_denominator a ∣ m
common_denominator-dvd [] m each = one-dvd m
common_denominator-dvd (q ∷ a) m each =
    lcm_dvd q.den (common_denominator a) m (common_denominator_pos a) (each zero q (omega arith)) (common_denominator-dvd a m (λ k d h. each (suc k) d (omega arith)))

-- what divides each numerator
dvd-common_numerator : (a : List ℚ) (n : ℕ) → ((k : ℕ) (d : ℚ) → k < length a → n ∣ nat_abs (get_or a k d).num) → n ∣ common_numerator a
dvd-common_numerator [] n each = dvd-zero n
dvd-common_numerator (q ∷ a) n each =
    dvd_gcd (nat_abs q.num) (common_numerator a) n (each zero q (omega arith)) (dvd-common_numerator a n (λ k d h. each (suc k) d (omega arith)))

-- the common numerator divides each numerator
pub common_dvd_num : (a : List ℚ) (k : ℕ) (d : ℚ) → k < length a → common_numerator a ∣ nat_abs (get_or a k d).num
common_dvd_num [] k d h = absurd (omega arith)
common_dvd_num (q ∷ a) zero d h = gcd_dvd_left (nat_abs q.num) (common_numerator a)
common_dvd_num (q ∷ a) (suc k) d h =
    dvd_trans _ (gcd_dvd_right (nat_abs q.num) (common_numerator a)) (common_dvd_num a k d (omega arith))

-- the coefficient of an item's column, by its place
item-coefficient : (n : ℕ) (items : List Item) (k : ℕ) (d : Item) (e : ℚ) → IsDistinctBelow n items → k < length items → get_or (coefficients_of n items) (get_or items k d).column e ≡ (get_or items k d).factor
item-coefficient n items k d e distinct h =
    coefficient-at n (get_or items k d).column items e (distinct.in_range k d h) ∙ coefficient_of-item items k d distinct.rising h

-- the factor at a place
factor-at : (items : List Item) (k : ℕ) (d : ℚ) (e : Item) → k < length items → get_or (factors_in items) k d ≡ (get_or items k e).factor
factor-at items k d e h = get_or-map (λ (item : Item). item.factor) items k e d h

no_item : Item
no_item = record { column = 0; factor = whole (pos 0) }

pub same_denominator : (n : ℕ) (items : List Item) → IsDistinctBelow n items → common_denominator (coefficients_of n items) ≡ common_denominator (factors_in items)
same_denominator n items distinct =
    dvd_antisymm
    (common_denominator-dvd (coefficients_of n items) _ (λ k d h.
    subst (λ (q : ℚ). q.den ∣ common_denominator (factors_in items)) (sym (coefficient-at n k items d (omega (arith, coefficients_long n items))))
    (of_coefficients (λ (q : ℚ). q.den ∣ common_denominator (factors_in items)) items k distinct.rising none (λ i e l.
    subst (λ (q : ℚ). q.den ∣ common_denominator (factors_in items)) (factor-at items i e.factor e l) (den_dvd_common (factors_in items) i e.factor (omega (arith, length-map items (λ (item : Item). item.factor))))))))
    (common_denominator-dvd (factors_in items) _ (λ k d h.
    let l : k < length items = omega (arith, length-map items (λ (item : Item). item.factor)) in
    subst (λ (q : ℚ). q.den ∣ common_denominator (coefficients_of n items)) (item-coefficient n items k no_item d distinct l ∙ sym (factor-at items k d no_item l)) (den_dvd_common (coefficients_of n items) (get_or items k no_item).column d (omega (arith, coefficients_long n items, distinct.in_range k no_item l)))))
  where
    none : (whole (pos 0)).den ∣ common_denominator (factors_in items)
    none = subst (λ m. m ∣ common_denominator (factors_in items)) (sym (whole-is (pos 0)).0) (one-dvd _)

pub same_numerator : (n : ℕ) (items : List Item) → IsDistinctBelow n items → common_numerator (coefficients_of n items) ≡ common_numerator (factors_in items)
same_numerator n items distinct =
    dvd_antisymm
    (dvd-common_numerator (factors_in items) _ (λ k d h.
    let l : k < length items = omega (arith, length-map items (λ (item : Item). item.factor)) in
    subst (λ (q : ℚ). common_numerator (coefficients_of n items) ∣ nat_abs q.num) (item-coefficient n items k no_item d distinct l ∙ sym (factor-at items k d no_item l)) (common_dvd_num (coefficients_of n items) (get_or items k no_item).column d (omega (arith, coefficients_long n items, distinct.in_range k no_item l)))))
    (dvd-common_numerator (coefficients_of n items) _ (λ k d h.
    subst (λ (q : ℚ). common_numerator (factors_in items) ∣ nat_abs q.num) (sym (coefficient-at n k items d (omega (arith, coefficients_long n items))))
    (of_coefficients (λ (q : ℚ). common_numerator (factors_in items) ∣ nat_abs q.num) items k distinct.rising none (λ i e l.
    subst (λ (q : ℚ). common_numerator (factors_in items) ∣ nat_abs q.num) (factor-at items i e.factor e l) (common_dvd_num (factors_in items) i e.factor (omega (arith, length-map items (λ (item : Item). item.factor))))))))
  where
    none : common_numerator (factors_in items) ∣ nat_abs (whole (pos 0)).num
    none = subst (λ z. common_numerator (factors_in items) ∣ nat_abs z) (sym (whole-is (pos 0)).1) (dvd-zero _)

-- so they have the same scale
pub same_scale : (n : ℕ) (items : List Item) → IsDistinctBelow n items → scale (coefficients_of n items) ≡ scale (factors_in items)
same_scale n items distinct =
    ap₂ over_or_one (same_denominator n items distinct) (same_numerator n items distinct)

-- ---- the scale as a fraction that was made

-- a number that is not 0 in its bits
pub not_zero_bits : (z : ℤ) (n : ℕ) → z ≡ pos n → (of_z w128 z ≡ 0 → ⊥) → n ≢ 0
not_zero_bits z n is h e = h (ap (of_z w128) (is ∙ ap pos e))

-- one over the other, where the numerator is not 0
ratio_is_scale : (a : List ℚ) (den num : ℤ) → den ≡ pos (common_denominator a) → num ≡ pos (common_numerator a) → common_numerator a ≢ 0 → ratio den num ≡ scale a
unfolding ratio
ratio_is_scale a den num is_den is_num some = ap₂ ratio is_den is_num ∙ over (common_denominator a) (common_numerator a) some
  where
    over : (m n : ℕ) → n ≢ 0 → ratio (pos m) (pos n) ≡ over_or_one m n
    over m zero ne = absurd (ne refl)
    over m (suc n) ne = refl

-- it is in range
pub scale_is_made : (a : List ℚ) (den num : ℤ) (r : Result ℚ Wide) → common_denominator a < 2 ^ 127 → den ≡ pos (common_denominator a) → num ≡ pos (common_numerator a) → common_numerator a < 2 ^ 127 → common_numerator a ≢ 0 → OkIff r (InRange (ratio den num)) (ratio den num) → IsOk r
scale_is_made a den num r den_narrow is_den is_num num_narrow some answered =
    ap is_ok (Ok-from_Ok_iff r (InRange (ratio den num)) (ratio den num) answered (subst InRange (sym (ratio_is_scale a den num is_den is_num some)) (quotient_in_range (common_denominator a) (common_numerator a) den_narrow num_narrow)))

-- and is the scale
pub scale_is_answered : (a : List ℚ) (den num : ℤ) (r : Result ℚ Wide) (q : ℚ) → den ≡ pos (common_denominator a) → num ≡ pos (common_numerator a) → common_numerator a ≢ 0 → OkIff r (InRange (ratio den num)) (ratio den num) → r ≡ Ok q → q ≡ scale a
scale_is_answered a den num r q is_den is_num some answered is =
    (OkIff-at_ok r (InRange (ratio den num)) (ratio den num) q answered is).1 ∙ ratio_is_scale a den num is_den is_num some

-- and with it the scale of a row where not all coefficients are 0
pub row_scale_is : (a : List ℚ) (times : ℚ) (denominator numerator : ℤ) → times ≡ scale a → denominator ≡ pos (common_denominator a) → numerator ≡ pos (common_numerator a) → common_numerator a ≢ 0
    → record { times = times; denominator = denominator; numerator = numerator; zeros = false } ≡ row_scale a
row_scale_is a times denominator numerator is is_denominator is_numerator some =
    let none : false ≡ (common_numerator a == 0) = sym (ne_eqb (common_numerator a) 0 some) in
    cc
