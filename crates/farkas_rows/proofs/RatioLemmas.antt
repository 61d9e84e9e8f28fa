-- Whole numbers that are to one another as fractions.
use Rattle.std.proofs.Common.{◌≡◌, ℕ, zero, suc, ◌+◌, ◌*◌, ◌/◌, ◌^◌, ◌<◌, List, [], ◌∷◌, ◌++◌, length, get_or, take, map, ℤ, pos, negsuc, ◌*ℤ◌, ◌≤ℤ◌, ◌<ℤ◌, int_div, nat_abs, refl, sym, ap, ◌∙◌, subst, arith, mul_comm, FitsSigned, Option, Some, None}
use Rattle.std.specs.Prelude.{All, SomeIff, IfSome, IfNone}
use Rattle.std.proofs.lemmas.Int.{fits_signed_from_abs}
use Rattle.std.specs.Int.{w128, ◌∣◌}
use Rattle.std.proofs.Math.Nat.{dvd-mul_left, mul-div_cancel', one-dvd, dvd_trans}
use Rattle.std.proofs.lemmas.Nat.Gcd.{le_of_dvd}
use Rattle.std.proofs.lemmas.List.{take-take, get_or-take, length-take-le, take_more, map-append}
use Rattle.std.proofs.lemmas.Slice.Zip.{all_zipped_more}
use Rattle.std.specs.List.{AllZip}
use Rattle.std.proofs.lemmas.List.Elements.{All-more, All-take, All-weaker}
use Rattle.exact_math.specs.Gcd.{gcd, lcm}
use Rattle.exact_math.specs.GcdLaws.{gcd_comm, gcd_pos_left, dvd_from_product}
use Rattle.exact_math.specs.LcmLaws.{dvd_lcm_left, dvd_lcm_right, lcm_dvd, lcm_pos}
use Rattle.exact_math.specs.IntegerRing.{linear, expand}
use Rattle.exact_math.specs.IntegerOrder.{mul_le, mul_pos, le_of_mul_le, lt_of_mul_lt, abs_mul}
use Rattle.exact_math.specs.Rational.{ℚ}
use Rattle.farkas_rows.specs.LeastLine.{IsCommon}
use Rattle.exact_math.specs.RationalLaws.{terms_lowest, den_pos}

-- a positive number
pub above_zero : (n : ℕ) → 0 < n → pos 0 <ℤ pos n
above_zero n h = omega linear

-- ---- one ratio

-- numbers in the ratio of a fraction in lowest terms are multiples of its terms
pub ratio_terms : (number result : ℤ) (r : ℚ) → result *ℤ pos r.den ≡ number *ℤ r.num → (r.den ∣ nat_abs number) × (nat_abs r.num ∣ nat_abs result)
ratio_terms number result r e =
    let sizes : nat_abs result * r.den ≡ nat_abs number * nat_abs r.num = sym (abs_mul result (pos r.den)) ∙ ap nat_abs e ∙ abs_mul number r.num in (
      dvd_from_product r.den (nat_abs r.num) (nat_abs number) (gcd_comm r.den (nat_abs r.num) ∙ terms_lowest r) (subst (λ n. r.den ∣ n) (sizes ∙ mul_comm (nat_abs number) (nat_abs r.num)) (dvd-mul_left r.den (nat_abs result))),
      dvd_from_product (nat_abs r.num) r.den (nat_abs result) (terms_lowest r) (subst (λ n. nat_abs r.num ∣ n) (sym sizes ∙ mul_comm (nat_abs result) r.den) (dvd-mul_left (nat_abs r.num) (nat_abs number))),
    )

-- the second is positive where the first and the fraction are
pub ratio_positive : (number result : ℤ) (r : ℚ) → result *ℤ pos r.den ≡ number *ℤ r.num → pos 1 ≤ℤ number → pos 0 <ℤ r.num → pos 1 ≤ℤ result
ratio_positive number result r e one positive =
    let den : pos 0 <ℤ pos r.den = above_zero r.den (den_pos r) in
    let product : pos 0 <ℤ (number *ℤ r.num) = mul_pos number r.num (omega linear) positive in
    let turned : (pos r.den *ℤ pos 0) <ℤ (pos r.den *ℤ result) = omega (linear, e, product, commute result (pos r.den)) in
    let above : pos 0 <ℤ result = lt_of_mul_lt (pos r.den) (pos 0) result den turned in
    omega linear
  where
    commute : (a b : ℤ) → a *ℤ b ≡ b *ℤ a
    commute a b = simp expand (omega linear)

-- both terms are below a bound of the two
pub ratio_narrow : (number result : ℤ) (r : ℚ) → result *ℤ pos r.den ≡ number *ℤ r.num → pos 1 ≤ℤ number → pos 1 ≤ℤ result → number <ℤ pos (2 ^ 127) → result <ℤ pos (2 ^ 127) → (nat_abs r.num < 2 ^ 127) × (r.den < 2 ^ 127)
ratio_narrow number result r e one two narrow small =
    let terms = ratio_terms number result r e in
    (omega (linear, le_of_dvd (above result two) terms.1), omega (linear, le_of_dvd (above number one) terms.0))
  where
    above : (z : ℤ) → pos 1 ≤ℤ z → 0 < nat_abs z
    above z h = omega linear

-- ---- a quotient that leaves no rest

-- times the divisor it is the number
pub quotient_times : (common : ℤ) (den : ℕ) → pos 1 ≤ℤ common → den ∣ nat_abs common → int_div common (pos den) *ℤ pos den ≡ common
quotient_times (pos m) den h p = ap pos (mul_comm (m / den) den ∙ mul-div_cancel' den p)
quotient_times (negsuc m) den h p = absurd (omega linear)

-- what is in ratio to a number is the quotient's multiple
pub times_some : (q den num common : ℤ) → q *ℤ den ≡ common → (q *ℤ num) *ℤ den ≡ common *ℤ num
times_some q den num common e = simp expand (omega (linear, simp expand at (ap (λ t. t *ℤ num) e)))

-- what is in ratio to no smaller number is no smaller
pub times_least : (q den num common number result : ℤ) → pos 0 <ℤ den → pos 0 <ℤ num → q *ℤ den ≡ common → common ≤ℤ number → result *ℤ den ≡ number *ℤ num → (q *ℤ num) ≤ℤ result
times_least q den num common number result above positive e le in_ratio =
    le_of_mul_le den (q *ℤ num) result above (simp expand (omega (linear, simp expand at (ap (λ t. t *ℤ num) e), simp expand at in_ratio, mul_le num common number (omega linear) le)))

-- ---- the common multiple of denominators

module _ {X : Type 0} (den : X → ℕ) where
  -- 1 for no denominator
  pub IsCommon-none : IsCommon den [] (pos 1)
  IsCommon-none = record { positive = omega linear; multiple = λ k d lt. absurd (omega arith); least = λ n h. one-dvd n }

  -- the least common multiple with one more
  pub IsCommon-more : (items : List X) (i : ℕ) (d : X) (common : ℤ) → i < length items → 0 < den (get_or items i d) → IsCommon den (take i items) common → IsCommon den (take (i + 1) items) (pos (lcm (nat_abs common) (den (get_or items i d))))
  IsCommon-more items i d common lt some h =
      let c = nat_abs common in
      let b = den (get_or items i d) in
      record {
        positive = above (lcm c b) (lcm_pos c b (above_abs common h.positive) some);
        multiple = All-more (λ item. den item ∣ lcm c b) items i d lt (All-weaker (λ item. den item ∣ c) (λ item. den item ∣ lcm c b) (λ item p. dvd_trans (den item) p (dvd_lcm_left c b)) (take i items) h.multiple) (dvd_lcm_right c b);
        least = λ n all. lcm_dvd c b n some (h.least n (first n all)) (last n all);
      }
    where
      above : (n : ℕ) → 0 < n → pos 1 ≤ℤ pos n
      above n h = omega linear

      above_abs : (z : ℤ) → pos 1 ≤ℤ z → 0 < nat_abs z
      above_abs z h = omega linear

      first : (n : ℕ) → All (λ item. den item ∣ n) (take (i + 1) items) → All (λ item. den item ∣ n) (take i items)
      first n all = subst (All (λ item. den item ∣ n)) (take-take i (i + 1) items (omega arith)) (All-take (λ item. den item ∣ n) i (take (i + 1) items) all)

      last : (n : ℕ) → All (λ item. den item ∣ n) (take (i + 1) items) → den (get_or items i d) ∣ n
      last n all = subst (λ (x : X). den x ∣ n) (get_or-take (i + 1) items i d (omega arith)) (all i d (omega (arith, length-take-le (i + 1) items (omega arith))))

  -- a number that all denominators divide is no smaller
  pub IsCommon-le : (items : List X) (common number : ℤ) → IsCommon den items common → pos 1 ≤ℤ number → All (λ item. den item ∣ nat_abs number) items → common ≤ℤ number
  IsCommon-le items common number h one all = omega (linear, h.positive, le_of_dvd (above number one) (h.least (nat_abs number) all))
    where
      above : (z : ℤ) → pos 1 ≤ℤ z → 0 < nat_abs z
      above z h = omega linear

  -- a number below a bound that all denominators divide keeps the least common multiple below it
  pub IsCommon-narrow : (items : List X) (i : ℕ) (d : X) (common : ℤ) (n : ℕ) → i < length items → 0 < den (get_or items i d) → IsCommon den (take i items) common → 0 < n → n < 2 ^ 127 → All (λ item. den item ∣ n) items → lcm (nat_abs common) (den (get_or items i d)) < 2 ^ 127
  IsCommon-narrow items i d common n lt some h above small all =
      let p : lcm (nat_abs common) (den (get_or items i d)) ∣ n = lcm_dvd (nat_abs common) (den (get_or items i d)) n some (h.least n (All-take (λ item. den item ∣ n) i items all)) (all i d lt) in
      omega (arith, le_of_dvd above p)

-- ---- a checked multiple of a quotient

-- what it answers is in ratio
pub times_answered : (r : Option ℤ) (q den num common : ℤ) → q *ℤ den ≡ common → SomeIff r (FitsSigned w128 (q *ℤ num)) (q *ℤ num) → IfSome r (λ result. result *ℤ den ≡ common *ℤ num)
times_answered None q den num common e h = tt
times_answered (Some x) q den num common e h = rw h.1 (times_some q den num common e)

-- where it answers none, nothing below 2^127 is in ratio to a number that is no smaller
pub times_refused : (r : Option ℤ) (q den num common : ℤ) → pos 0 <ℤ den → pos 0 <ℤ num → pos 1 ≤ℤ common → q *ℤ den ≡ common → SomeIff r (FitsSigned w128 (q *ℤ num)) (q *ℤ num) → IfNone r ((number result : ℤ) → common ≤ℤ number → result *ℤ den ≡ number *ℤ num → result <ℤ pos (2 ^ 127) → ⊥)
times_refused (Some x) q den num common above positive one e h = tt
times_refused None q den num common above positive one e h = λ number result le in_ratio small.
    let least : (q *ℤ num) ≤ℤ result = times_least q den num common number result above positive e le in_ratio in
    let turned : (den *ℤ pos 0) <ℤ (den *ℤ q) = simp expand (omega (linear, e, one)) in
    let some : pos 0 <ℤ q = lt_of_mul_lt den (pos 0) q above turned in
    let product : pos 0 <ℤ (q *ℤ num) = mul_pos q num some positive in
    h (fits_signed_from_abs w128 (q *ℤ num) (omega linear))

-- ---- two lists side by side

-- a place of both
pub zip-at : {X Y : Type 0} (R : X → Y → Type 0) (xs : List X) (ys : List Y) (i : ℕ) (d : X) (e : Y) → AllZip R xs ys → i < length xs → R (get_or xs i d) (get_or ys i e)
zip-at R [] ys i d e h lt = absurd (omega arith)
zip-at R (x ∷ xs) [] i d e h lt = absurd h
zip-at R (x ∷ xs) (y ∷ ys) zero d e h lt = h.0
zip-at R (x ∷ xs) (y ∷ ys) (suc i) d e h lt = zip-at R xs ys i d e h.1 (omega arith)

-- one more of both
pub zip-more : {X Y : Type 0} (R : X → Y → Type 0) (xs : List X) (i : ℕ) (d : X) (ys : List Y) (y : Y) → i < length xs → AllZip R (take i xs) ys → R (get_or xs i d) y → AllZip R (take (i + 1) xs) (ys ++ y ∷ [])
zip-more R xs i d ys y lt h k = rw (take_more xs i d lt) (all_zipped_more R (take i xs) ys (get_or xs i d) y h k)

-- one more of both images
pub images-more : {X Y Z : Type 0} (f : Y → Z) (g : X → Z) (xs : List X) (i : ℕ) (d : X) (ys : List Y) (y : Y) → i < length xs → map f ys ≡ map g (take i xs) → f y ≡ g (get_or xs i d) → map f (ys ++ y ∷ []) ≡ map g (take (i + 1) xs)
images-more f g xs i d ys y lt h k =
    rw (take_more xs i d lt, map-append f ys (y ∷ []), map-append g (take i xs) (get_or xs i d ∷ []), h, k) refl
