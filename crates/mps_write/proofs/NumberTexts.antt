-- How a whole number is spelled: its bytes, its length, and that it is read again.
use Rattle.std.proofs.Common.{◌≡◌, ℕ, suc, ◌+◌, ◌-◌, ◌*◌, ◌/◌, ◌%◌, ◌^◌, ◌<◌, ◌≤◌, ℤ, pos, negsuc, true, leb, eqb, ◌&&◌, List, [], ◌∷◌, ◌++◌, length, decimal, None, Ok, refl, sym, ap, subst, ◌∙◌, append-nil, length-append, arith}
use Rattle.std.specs.Prelude.{nat_abs, ◌*ℤ◌, cond, Err}
use Rattle.std.specs.Fmt.{signed_decimal}
use Rattle.std.specs.List.{list_all}
use Rattle.std.proofs.lemmas.Bool.{and_from, and_parts, le-leb, leb-true, or_right, lt-ltb}
use Rattle.std.proofs.lemmas.Fmt.{decimal_by_steps_wide, length-decimal-le_wide}
use Rattle.std.proofs.Math.Nat.{pow-succ'}
use Rattle.exact_math.specs.Rational.{whole}
use Rattle.exact_math.specs.IntegerRing.{linear}
use Rattle.mps_fields.specs.declared.numbers.NumberFault.TheVariants.{WideNumber}
use Rattle.mps_fields.specs.Decimal.{is_digit, is_digits, digits_value, Sign, sign_text, unsigned, minus, Decimal, Spells, means_number, fits_product, fits_scaled, fits, mantissa, signed}
use Rattle.mps_write.proofs.LineTexts.{is_field_byte, is_field}
use Rattle.mps_fields.specs.Reading.{value_of, number_of}
use Rattle.mps_fields.specs.ReadingLaws.{spells_found}

-- ---- digits

push_value : (first p q v d : ℕ) → q ≡ 10 * p → first * q + (10 * v + d) ≡ 10 * (first * p + v) + d
push_value first p q v d e = rw e (omega arith)

digits_value-push : (digits : List ℕ) (digit : ℕ) → digits_value (digits ++ digit ∷ []) ≡ 10 * digits_value digits + (digit - 48)
unfolding digits_value
digits_value-push [] digit = omega arith
digits_value-push (first ∷ digits) digit =
    let longer : length (digits ++ digit ∷ []) ≡ suc (length digits) = length-append digits (digit ∷ []) ∙ omega arith in
    ap (λ n. (first - 48) * 10 ^ n + digits_value (digits ++ digit ∷ [])) longer
    ∙ ap (λ v. (first - 48) * 10 ^ suc (length digits) + v) (digits_value-push digits digit)
    ∙ push_value (first - 48) (10 ^ length digits) (10 ^ suc (length digits)) (digits_value digits) (digit - 48) (pow-succ' 10 (length digits))

-- these digits spell this number
record AreDigitsOf (n : ℕ) (word : List ℕ) : Type 0 where
  digits : is_digits word ≡ true
  value : digits_value word ≡ n

digit_is : (d : ℕ) → 48 ≤ d → d ≤ 57 → is_digit d ≡ true
digit_is d low high = and_from (leb 48 d) (leb d 57) (le-leb 48 d low) (le-leb d 57 high)

one_digit : (n : ℕ) → n < 10 → AreDigitsOf n ((48 + n) ∷ [])
unfolding digits_value
one_digit n h = record {
  digits = and_from (is_digit (48 + n)) true (digit_is (48 + n) (omega arith) (omega arith)) refl;
  value = omega arith;
}

digits-push : (word : List ℕ) (digit : ℕ) → is_digits word ≡ true → is_digit digit ≡ true → is_digits (word ++ digit ∷ []) ≡ true
digits-push [] digit h k = and_from (is_digit digit) true k refl
digits-push (first ∷ []) digit h k = and_from (is_digit first) (is_digit digit && true) (and_parts (is_digit first) true h).0 (and_from (is_digit digit) true k refl)
digits-push (first ∷ second ∷ rest) digit h k =
    let both = and_parts (is_digit first) (list_all is_digit (second ∷ rest)) h in
    and_from (is_digit first) (list_all is_digit ((second ∷ rest) ++ digit ∷ [])) both.0 (digits-push (second ∷ rest) digit both.1 k)

more_digits : (n : ℕ) (word : List ℕ) → 10 ≤ n → AreDigitsOf (n / 10) word → AreDigitsOf n (word ++ (48 + n % 10) ∷ [])
more_digits n word large h = record {
  digits = digits-push word (48 + n % 10) h.digits (digit_is (48 + n % 10) (omega arith) (omega arith));
  value = digits_value-push word (48 + n % 10) ∙ omega (arith, h.value);
}

decimal_is : (n : ℕ) → n < 10 ^ 64 → AreDigitsOf n (decimal n)
decimal_is = decimal_by_steps_wide AreDigitsOf one_digit more_digits

pub decimal_digits : (n : ℕ) → n < 10 ^ 64 → is_digits (decimal n) ≡ true
decimal_digits n small = (decimal_is n small).digits

-- ---- numbers that are read

-- digits behind a sign
abbrev as_decimal : Sign → ℕ → Decimal
as_decimal sign n = record { sign = sign; whole = decimal n; fraction = None; exponent = None }

times_one : (y : ℤ) → y *ℤ pos 1 ≡ y
times_one y = omega linear

of_digits : (sign : Sign) (n : ℕ) (z : ℤ) (word : List ℕ) → n < 2 ^ 127 → signed sign n ≡ z → nat_abs z ≡ n → sign_text sign ++ decimal n ≡ word → number_of word ≡ Ok (whole z)
unfolding value_of
of_digits sign n z word small is size text =
    let told = decimal_is n (omega (arith, small)) in
    let none = append-nil (decimal n) in
    let spells : Spells (as_decimal sign n) word = record {
      parts = ap (λ w. sign_text sign ++ w) none ∙ text;
      digits = ap is_digits none ∙ told.digits;
      exponent = refl;
    } in
    let m : mantissa (as_decimal sign n) ≡ z = ap (signed sign) (ap digits_value none ∙ told.value) ∙ is in
    let fit : fits (as_decimal sign n) ≡ true = subst (λ y. fits_product y (pos 0) ≡ true) (sym m) (or_right (eqb (nat_abs z) 0) (fits_scaled z (pos 0)) (lt-ltb (nat_abs z * 1) (2 ^ 127) (omega (arith, size, small)))) in
    ap value_of (spells_found word (as_decimal sign n) spells)
    ∙ ap (λ b. cond b (Ok (means_number (as_decimal sign n))) (Err WideNumber)) fit
    ∙ ap (λ y. Ok (whole y)) (times_one (mantissa (as_decimal sign n)) ∙ m)

-- a number of at most 127 bits is read as itself
pub number_read : (z : ℤ) → nat_abs z < 2 ^ 127 → number_of (signed_decimal z) ≡ Ok (whole z)
number_read (pos n) small = of_digits unsigned n (pos n) (decimal n) small refl refl refl
number_read (negsuc n) small = of_digits minus (suc n) (negsuc n) (45 ∷ decimal (suc n)) small refl refl refl

-- ---- bytes and length

digit_field : (digit : ℕ) → is_digit digit ≡ true → is_field_byte digit ≡ true
digit_field digit h =
    let both = and_parts (leb 48 digit) (leb digit 57) h in
    and_from (leb 33 digit) (leb digit 126) (le-leb 33 digit (omega (arith, leb-true 48 digit both.0))) (le-leb digit 126 (omega (arith, leb-true digit 57 both.1)))

digits_fields : (digits : List ℕ) → list_all is_digit digits ≡ true → list_all is_field_byte digits ≡ true
digits_fields [] h = refl
digits_fields (digit ∷ digits) h =
    let both = and_parts (is_digit digit) (list_all is_digit digits) h in
    and_from (is_field_byte digit) (list_all is_field_byte digits) (digit_field digit both.0) (digits_fields digits both.1)

digits_field : (digits : List ℕ) → is_digits digits ≡ true → is_field digits ≡ true
digits_field [] h = h
digits_field (digit ∷ digits) h = digits_fields (digit ∷ digits) h

behind_sign : (digits : List ℕ) → is_digits digits ≡ true → is_field (45 ∷ digits) ≡ true
behind_sign [] h = refl
behind_sign (digit ∷ digits) h = digits_fields (digit ∷ digits) h

-- a number can stand in a field
pub number_field : (z : ℤ) → nat_abs z < 2 ^ 127 → is_field (signed_decimal z) ≡ true
number_field (pos n) small = digits_field (decimal n) (decimal_is n (omega (arith, small))).digits
number_field (negsuc n) small = behind_sign (decimal (suc n)) (decimal_is (suc n) (omega (arith, small))).digits

-- at most 30 bytes
pub number_short : (z : ℤ) → nat_abs z ≤ 2 ^ 96 → length (signed_decimal z) ≤ 30
number_short (pos n) small = omega (arith, length-decimal-le_wide 30 n (omega arith) (omega (arith, small)) (omega (arith, small)))
number_short (negsuc n) small = omega (arith, length-decimal-le_wide 29 (suc n) (omega arith) (omega (arith, small)) (omega (arith, small)))

pub range_short : (n : ℕ) → n ≤ 2 ^ 97 → length (signed_decimal (pos n)) ≤ 30
range_short n small = length-decimal-le_wide 30 n (omega arith) (omega (arith, small)) (omega (arith, small))
