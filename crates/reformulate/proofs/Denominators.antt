-- The least common denominator of fractions, and that their whole times have no common divisor but 1.
use Rattle.std.proofs.Common.{◌≡◌, ℕ, zero, suc, ◌+◌, ◌*◌, ◌/◌, ◌<◌, ◌≤◌, Bool, true, false, ℤ, pos, negsuc, neg_ℤ, nat_abs, ◌*ℤ◌, ◌<ℤ◌, List, [], ◌∷◌, ◌++◌, length, map, get_or, take, refl, sym, ap, subst, ◌∙◌, arith, All, mul_comm, mul_assoc}
use Rattle.std.specs.Int.{◌∣◌}
use Rattle.std.proofs.Math.Nat.{dvd-mul_right, mul-div_cancel', mul-div_cancel_left, one-dvd, dvd_trans}
use Rattle.std.proofs.lemmas.Nat.Gcd.{dvd_antisymm, le_of_dvd}
use Rattle.std.proofs.lemmas.List.{take-take, get_or-take, length-take-le}
use Rattle.std.proofs.lemmas.List.Elements.{All-nil, All-cons, All-head, All-tail, All-more, All-take, All-weaker}
use Rattle.exact_math.specs.Gcd.{gcd, lcm}
use Rattle.exact_math.specs.GcdLaws.{gcd_comm, gcd_dvd_left, gcd_dvd_right, dvd_from_product, nat_abs-neg_ℤ}
use Rattle.exact_math.specs.IntegerOrder.{abs_mul}
use Rattle.exact_math.specs.IntegerRing.{linear}
use Rattle.exact_math.specs.LcmLaws.{dvd_lcm_left, dvd_lcm_right, lcm_dvd, lcm_pos}
use Rattle.exact_math.specs.Rational.{ℚ}
use Rattle.exact_math.specs.RationalLaws.{den_pos, terms_lowest}
use Rattle.exact_math.specs.Ring.{integers}
use Rattle.exact_vectors.specs.Vectors.{zeros}
use Rattle.unimodular_pair.specs.Gathering.{common_divisor}
use Rattle.reformulate.specs.GapTimes.{common_denominator, sign_of, time_of, times_of}

-- each denominator divides it, and it divides each such number
pub record IsCommon (m : List ℚ) (common : ℕ) : Type 0 where
  pub positive : 0 < common
  pub multiple : All (λ (q : ℚ). q.den ∣ common) m
  pub least : (k : ℕ) → All (λ (q : ℚ). q.den ∣ k) m → common ∣ k

-- the definition is this number
pub common-is : (m : List ℚ) → IsCommon m (common_denominator m)
common-is [] = record { positive = omega arith; multiple = All-nil (λ (q : ℚ). q.den ∣ 1); least = λ k h. one-dvd k }
common-is (q ∷ m) =
    let rest = common-is m in
    let c = common_denominator m in
    record {
      positive = lcm_pos q.den c (den_pos q) rest.positive;
      multiple = All-cons (λ (p : ℚ). p.den ∣ lcm q.den c) q m (dvd_lcm_left q.den c) (All-weaker (λ (p : ℚ). p.den ∣ c) (λ (p : ℚ). p.den ∣ lcm q.den c) (λ p h. dvd_trans p.den h (dvd_lcm_right q.den c)) m rest.multiple);
      least = λ k h. lcm_dvd q.den c k rest.positive (All-head (λ (p : ℚ). p.den ∣ k) q m h) (rest.least k (All-tail (λ (p : ℚ). p.den ∣ k) q m h));
    }

-- no other number is
pub common-unique : (m : List ℚ) (a : ℕ) → IsCommon m a → a ≡ common_denominator m
common-unique m a h = let c = common-is m in dvd_antisymm (h.least (common_denominator m) c.multiple) (c.least a h.multiple)

-- 1 for no fraction
pub IsCommon-none : IsCommon [] 1
IsCommon-none = common-is []

-- and one more
pub IsCommon-more : (m : List ℚ) (i : ℕ) (d : ℚ) (common : ℕ) → i < length m → IsCommon (take i m) common → IsCommon (take (i + 1) m) (lcm common (get_or m i d).den)
IsCommon-more m i d common lt h =
    let b = (get_or m i d).den in
    record {
      positive = lcm_pos common b h.positive (den_pos (get_or m i d));
      multiple = All-more (λ (q : ℚ). q.den ∣ lcm common b) m i d lt (All-weaker (λ (q : ℚ). q.den ∣ common) (λ (q : ℚ). q.den ∣ lcm common b) (λ q p. dvd_trans q.den p (dvd_lcm_left common b)) (take i m) h.multiple) (dvd_lcm_right common b);
      least = λ k all. lcm_dvd common b k (den_pos (get_or m i d)) (h.least k (first k all)) (last k all);
    }
  where
    first : (k : ℕ) → All (λ (q : ℚ). q.den ∣ k) (take (i + 1) m) → All (λ (q : ℚ). q.den ∣ k) (take i m)
    first k all = subst (All (λ (q : ℚ). q.den ∣ k)) (take-take i (i + 1) m (omega arith)) (All-take (λ (q : ℚ). q.den ∣ k) i (take (i + 1) m) all)

    last : (k : ℕ) → All (λ (q : ℚ). q.den ∣ k) (take (i + 1) m) → (get_or m i d).den ∣ k
    last k all = subst (λ (x : ℚ). x.den ∣ k) (get_or-take (i + 1) m i d (omega arith)) (all i d (omega (arith, length-take-le (i + 1) m (omega arith))))

-- that of the first fractions is no greater than that of all
pub IsCommon-below : (m : List ℚ) (i : ℕ) (d : ℚ) (common : ℕ) → i < length m → IsCommon (take i m) common → lcm common (get_or m i d).den ≤ common_denominator m
IsCommon-below m i d common lt h =
    let c = common-is m in
    let all = c.multiple in
    le_of_dvd c.positive (lcm_dvd common (get_or m i d).den (common_denominator m) (den_pos (get_or m i d)) (h.least (common_denominator m) (All-take (λ (q : ℚ). q.den ∣ common_denominator m) i m all)) (all i d lt))

-- a positive number
pub above_zero : (n : ℕ) → 0 < n → pos 0 <ℤ pos n
above_zero n h = omega linear

-- it is its size
pub positive_is : (z : ℤ) → pos 0 <ℤ z → z ≡ pos (nat_abs z)
positive_is (pos n) h = refl
positive_is (negsuc n) h = absurd (omega (linear, h))

-- ---- common divisors

-- the greatest common divisor of joined lists divides that of each
divides_first : (v w : List ℤ) → common_divisor (v ++ w) ∣ common_divisor w
divides_first [] w = subst (λ k. common_divisor w ∣ k) (one_times (common_divisor w)) (dvd-mul_right (common_divisor w) 1)
  where
    one_times : (k : ℕ) → k * 1 ≡ k
    one_times k = omega arith
divides_first (a ∷ v) w = dvd_trans (gcd (nat_abs a) (common_divisor (v ++ w))) (gcd_dvd_right (nat_abs a) (common_divisor (v ++ w))) (divides_first v w)

-- it divides each time, in which the quotient of the common denominator is a factor
divides_times : (negative : Bool) (common : ℕ) (m : List ℚ) (w : List ℤ) (g : ℕ) → g ∣ common_divisor (map (time_of negative common) m ++ w) → All (λ (q : ℚ). g ∣ nat_abs q.num * (common / q.den)) m
divides_times negative common [] w g h = All-nil (λ (q : ℚ). g ∣ nat_abs q.num * (common / q.den))
divides_times negative common (q ∷ m) w g h =
    let rest = common_divisor (map (time_of negative common) m ++ w) in
    All-cons (λ (q : ℚ). g ∣ nat_abs q.num * (common / q.den)) q m
    (subst (λ k. g ∣ k) (size negative q) (dvd_trans g h (gcd_dvd_left (nat_abs (time_of negative common q)) rest)))
    (divides_times negative common m w g (dvd_trans g h (gcd_dvd_right (nat_abs (time_of negative common q)) rest)))
  where
    signed : (negative : Bool) (z : ℤ) → nat_abs (neg_ℤ (sign_of negative *ℤ z)) ≡ nat_abs z
    signed true z = nat_abs-neg_ℤ (negsuc 0 *ℤ z) ∙ abs_mul (negsuc 0) z ∙ one (nat_abs z)
      where
        one : (k : ℕ) → 1 * k ≡ k
        one k = omega arith
    signed false z = nat_abs-neg_ℤ (pos 1 *ℤ z) ∙ abs_mul (pos 1) z ∙ one (nat_abs z)
      where
        one : (k : ℕ) → 1 * k ≡ k
        one k = omega arith

    size : (negative : Bool) (q : ℚ) → nat_abs (time_of negative common q) ≡ nat_abs q.num * (common / q.den)
    size negative q = abs_mul (neg_ℤ (sign_of negative *ℤ q.num)) (pos (common / q.den)) ∙ ap (λ k. k * (common / q.den)) (signed negative q.num)

-- where a number divides the common denominator and each time, the denominators divide the quotient
divides_quotient : (common g k : ℕ) (q : ℚ) → 0 < g → g * k ≡ common → q.den ∣ common → g ∣ nat_abs q.num * (common / q.den) → q.den ∣ k
divides_quotient common g k q some split h divides =
    let e = common / q.den in
    let j = nat_abs q.num * e / g in
    let den_e : q.den * e ≡ common = mul-div_cancel' q.den h in
    let g_j : g * j ≡ nat_abs q.num * e = mul-div_cancel' g divides in
    dvd_from_product q.den (nat_abs q.num) k (gcd_comm q.den (nat_abs q.num) ∙ terms_lowest q)
    (subst (λ x. q.den ∣ x) (same g (nat_abs q.num) k q.den e j common some split den_e g_j) (dvd-mul_right q.den j))
  where
    cancel : (g x y : ℕ) → 0 < g → g * x ≡ g * y → x ≡ y
    cancel g x y some e = sym (mul-div_cancel_left x some) ∙ ap (λ z. z / g) e ∙ mul-div_cancel_left y some

    same : (g num k den e j common : ℕ) → 0 < g → g * k ≡ common → den * e ≡ common → g * j ≡ num * e → den * j ≡ num * k
    same g num k den e j common some p q r =
        cancel g (den * j) (num * k) some
        (sym (mul_assoc g den j) ∙ ap (λ x. x * j) (mul_comm g den) ∙ mul_assoc den g j ∙ ap (λ x. den * x) r
        ∙ sym (mul_assoc den num e) ∙ ap (λ x. x * e) (mul_comm den num) ∙ mul_assoc num den e ∙ ap (λ x. num * x) (q ∙ sym p)
        ∙ sym (mul_assoc num g k) ∙ ap (λ x. x * k) (mul_comm num g) ∙ mul_assoc g num k)

-- the times have no common divisor but 1
pub times_are_lowest : (negative : Bool) (m : List ℚ) (later : ℕ) → common_divisor (times_of negative m later) ≡ 1
times_are_lowest negative m later =
    let c = common-is m in
    let common = common_denominator m in
    let w : List ℤ = (sign_of negative *ℤ pos common) ∷ zeros integers later in
    let g = common_divisor (map (time_of negative common) m ++ w) in
    let here : g ∣ common = subst (λ k. g ∣ k) (signed negative common) (dvd_trans g (divides_first (map (time_of negative common) m) w) (gcd_dvd_left (nat_abs (sign_of negative *ℤ pos common)) (common_divisor (zeros integers later)))) in
    let k = common / g in
    let split : g * k ≡ common = mul-div_cancel' g here in
    let some : 0 < g = factor_pos g k common split c.positive in
    let each = divides_times negative common m w g (subst (λ x. g ∣ x) (one_times g) (dvd-mul_right g 1)) in
    let all : All (λ (q : ℚ). q.den ∣ k) m = λ i d lt. divides_quotient common g k (get_or m i d) some split (c.multiple i d lt) (each i d lt) in
    let at_most : common ≤ k = le_of_dvd (factor_pos k g common (mul_comm k g ∙ split) c.positive) (c.least k all) in
    one_of g k (factor_pos k g common (mul_comm k g ∙ split) c.positive) some (subst (λ x. x ≤ k) (sym split) at_most)
  where
    one_times : (k : ℕ) → k * 1 ≡ k
    one_times k = omega arith

    signed : (negative : Bool) (k : ℕ) → nat_abs (sign_of negative *ℤ pos k) ≡ k
    signed true k = abs_mul (negsuc 0) (pos k) ∙ one k
      where
        one : (k : ℕ) → 1 * k ≡ k
        one k = omega arith
    signed false k = abs_mul (pos 1) (pos k) ∙ one k
      where
        one : (k : ℕ) → 1 * k ≡ k
        one k = omega arith

    factor_pos : (a b c : ℕ) → a * b ≡ c → 0 < c → 0 < a
    factor_pos zero b c e h = absurd (omega (arith, e))
    factor_pos (suc a) b c e h = omega arith

    one_of : (g k : ℕ) → 0 < k → 0 < g → g * k ≤ k → g ≡ 1
    one_of zero k some h le = absurd (omega arith)
    one_of (suc zero) k some h le = refl
    one_of (suc (suc g)) k some h le = absurd (let e = mul_comm (suc (suc g)) k in omega (arith, le, some))
