-- The value of digits with a power of ten.
use Rattle.std.proofs.Common.{◌≡◌, ℕ, ◌+◌, ◌-◌, ◌*◌, ◌^◌, ◌<◌, ◌≤◌, List, [], ◌∷◌, ◌++◌, length, drop, get_or, refl, sym, ap, subst, ◌∙◌, arith, lit<, lt_of_le_of_lt, pow-add}
use Rattle.std.proofs.Math.Nat.{pow-le-pow_right, pow-succ', mul-le-mul_left, mul-le-mul_right}
use Rattle.std.proofs.lemmas.List.{drop_all, drop_more, length-append}
use Rattle.mps_fields.specs.Decimal.{digits_value}
use Rattle.mps_fields.specs.DecimalParts.{whole_of}

-- digits of which the front is read: the value so far, continued by the rest, is the whole
pub record IsContinued (number : ℕ) (digits : List ℕ) (value place : ℕ) : Type 0 where
  pub so_far : whole_of value (drop place digits) ≡ whole_of number digits
  pub small : value < 2 ^ 127

-- one digit moves to the front
moved : (value digit p rest : ℕ) → value * (10 * p) + (digit * p + rest) ≡ (10 * value + digit) * p + rest
moved value digit p rest = omega arith

-- the first digit joins the number
whole_of-cons : (value digit : ℕ) (digits : List ℕ) → whole_of value (digit ∷ digits) ≡ whole_of (10 * value + (digit - 48)) digits
unfolding digits_value
whole_of-cons value digit digits =
    ap (λ p. value * p + ((digit - 48) * 10 ^ length digits + digits_value digits)) (pow-succ' 10 (length digits)) ∙ moved value (digit - 48) (10 ^ length digits) (digits_value digits)

-- one digit is read
step : (number : ℕ) (digits : List ℕ) (value place digit : ℕ) → place < length digits → digit ≡ get_or digits place 0 → IsContinued number digits value place
    → whole_of (10 * value + (digit - 48)) (drop (place + 1) digits) ≡ whole_of number digits
step number digits value place digit within at now =
    sym (whole_of-cons value digit (drop (place + 1) digits))
    ∙ ap (whole_of value) (ap (λ d. d ∷ drop (place + 1) digits) at ∙ sym (drop_more digits place 0 within)) ∙ now.so_far

-- a number that stays small
pub continued_more : (number : ℕ) (digits : List ℕ) (value place digit next : ℕ) → place < length digits → digit ≡ get_or digits place 0 → IsContinued number digits value place
    → (10 * value + (digit - 48) < 2 ^ 127) × (next ≡ 10 * value + (digit - 48)) → IsContinued number digits next (place + 1)
continued_more number digits value place digit next within at now told = record {
  so_far = ap (λ v. whole_of v (drop (place + 1) digits)) told.1 ∙ step number digits value place digit within at now;
  small = subst (λ v. v < 2 ^ 127) (sym told.1) told.0;
}

-- no digits are left
whole_of-nil : (value : ℕ) → whole_of value [] ≡ value
unfolding digits_value
whole_of-nil value = omega arith

-- all digits are read
pub continued_all : (number : ℕ) (digits : List ℕ) (value place : ℕ) → length digits ≤ place → IsContinued number digits value place → (whole_of number digits < 2 ^ 127) × (value ≡ whole_of number digits)
continued_all number digits value place all now =
    let whole : value ≡ whole_of number digits = sym (whole_of-nil value) ∙ ap (whole_of value) (sym (drop_all place digits all)) ∙ now.so_far in
    (subst (λ n. n < 2 ^ 127) whole now.small, whole)

-- more digits make no number smaller
pub at_least : (x p rest : ℕ) → 1 ≤ p → x ≤ x * p + rest
at_least x p rest h = omega (arith, mul-le-mul_left x h)

-- a power of ten is at least 1
pub power_pos : (k : ℕ) → 1 ≤ 10 ^ k
power_pos k = let least : 0 ≤ k = omega arith in pow-le-pow_right (lit< tt) least

-- a number is no larger than one that continues it
whole_of-ge : (value : ℕ) (digits : List ℕ) → value ≤ whole_of value digits
whole_of-ge value digits = at_least value (10 ^ length digits) (digits_value digits) (power_pos (length digits))

-- a number that is too large stays so
pub continued_wide : (number : ℕ) (digits : List ℕ) (value place digit : ℕ) → place < length digits → digit ≡ get_or digits place 0 → IsContinued number digits value place
    → (10 * value + (digit - 48) < 2 ^ 127 → ⊥) → whole_of number digits < 2 ^ 127 → ⊥
continued_wide number digits value place digit within at now wide narrow =
    let next : ℕ = 10 * value + (digit - 48) in
    let whole = step number digits value place digit within at now in
    wide (lt_of_le_of_lt (whole_of-ge next (drop (place + 1) digits)) (subst (λ n. n < 2 ^ 127) (sym whole) narrow))

-- ---- digits before and after the point

-- digits before others
shifted : (d p q v w : ℕ) → d * (p * q) + (v * q + w) ≡ (d * p + v) * q + w
shifted d p q v w = omega arith

-- the value of digits before others
digits_value-append : (a b : List ℕ) → digits_value (a ++ b) ≡ digits_value a * 10 ^ length b + digits_value b
unfolding digits_value
digits_value-append [] b = omega arith
digits_value-append (digit ∷ a) b =
    let power : 10 ^ length (a ++ b) ≡ 10 ^ length a * 10 ^ length b = ap (λ n. 10 ^ n) (length-append a b) ∙ pow-add 10 (length a) (length b) in
    ap (λ p. (digit - 48) * p + digits_value (a ++ b)) power ∙ ap (λ v. (digit - 48) * (10 ^ length a * 10 ^ length b) + v) (digits_value-append a b)
    ∙ shifted (digit - 48) (10 ^ length a) (10 ^ length b) (digits_value a) (digits_value b)

-- digits alone
pub whole_of-zero : (digits : List ℕ) → whole_of 0 digits ≡ digits_value digits
whole_of-zero digits = omega arith

-- digits before and after the point
pub joined_is : (n : ℕ) (a b : List ℕ) → n ≡ whole_of 0 a → whole_of n b ≡ digits_value (a ++ b)
joined_is n a b e = ap (λ m. whole_of m b) (e ∙ whole_of-zero a) ∙ sym (digits_value-append a b)

-- digits before the point that are too large
pub joined_wide : (a b : List ℕ) → (whole_of 0 a < 2 ^ 127 → ⊥) → digits_value (a ++ b) < 2 ^ 127 → ⊥
joined_wide a b wide narrow =
    wide (lt_of_le_of_lt (whole_of-ge (whole_of 0 a) b) (subst (λ n. n < 2 ^ 127) (sym (joined_is (whole_of 0 a) a b refl)) narrow))

-- ---- powers of ten

-- powers of ten up to 10^38 are small
pub power_small : (k : ℕ) → k ≤ 38 → 10 ^ k < 2 ^ 127
power_small k h = lt_of_le_of_lt (pow-le-pow_right (lit< tt) h) (lit< tt)

-- the others are not
pub power_large : (size k : ℕ) → 0 < size → 38 < k → size * 10 ^ k < 2 ^ 127 → ⊥
power_large size k some above narrow =
    let p : 10 ^ 39 ≤ 10 ^ k = pow-le-pow_right (lit< tt) above in
    let q : 1 * 10 ^ k ≤ size * 10 ^ k = mul-le-mul_right (10 ^ k) some in
    omega (arith, p, q)
