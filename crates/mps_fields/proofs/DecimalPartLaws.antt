-- The parts that the code cuts from a text are those of the number that it is.
use Rattle.std.proofs.Common.{◌≡◌, ℕ, suc, ◌+◌, ◌-◌, ◌<◌, ◌≤◌, true, false, cond, eqb, List, [], ◌∷◌, ◌++◌, length, take, drop, get_or, Option, Some, None, pos, ◌-ℤ◌, refl, sym, ap, subst, ◌∙◌, arith, sub-one}
use Rattle.std.specs.List.{list_all}
use Rattle.std.proofs.lemmas.List.{nil_from_length, length-append}
use Rattle.std.proofs.lemmas.List.Folds.{list_all-append}
use Rattle.std.proofs.Math.Seq.{take-length}
use Rattle.frac128.specs.Sign.{with_sign}
use Rattle.mps_fields.specs.Decimal.{Sign, unsigned, plus, minus, signed, Exponent, Decimal, is_digit, is_digits, is_exponent_letter, digits_value, fraction_digits, exponent_value}
use Rattle.mps_fields.specs.Reading.{sign_of, after_sign, front_digits, after_digits, fraction_of, after_fraction, exponent_of, decimal_with, decimal_of}
use Rattle.mps_fields.specs.DecimalParts.{is_minus, IsPowerOf, ArePartsOf}
use Rattle.mps_fields.specs.declared.decimal_parts.Power.{Power}
use Rattle.mps_fields.specs.declared.decimal_parts.Parts.{Parts}
use Rattle.std.proofs.lemmas.Bool.{and_from}
use Rattle.mps_fields.specs.BooleanLaws.{either}
use Rattle.mps_fields.specs.FrontLaws.{front-all}
use Rattle.mps_fields.specs.ReadingLaws.{is_digits-all}

-- a text with a byte is its first byte and the rest
pub head_and_rest : (text : List ℕ) → 1 ≤ length text → text ≡ get_or text 0 0 ∷ take (length text - 1) (drop 1 text)
head_and_rest [] h = absurd (omega arith)
head_and_rest (byte ∷ bytes) h = ap (λ rest. byte ∷ rest) (sym (ap (λ n. take n bytes) (sub-one (suc (length bytes))) ∙ take-length bytes))

-- ---- the exponent

-- a sign by whether it is a minus
with_sign-minus : (s : Sign) (n : ℕ) → with_sign (is_minus s) n ≡ signed s n
with_sign-minus unsigned n = refl
with_sign-minus plus n = refl
with_sign-minus minus n = refl

-- an empty text is no exponent, which counts as 0
pub no_power : (x : Power) (text : List ℕ) → x.is_negative ≡ false → x.digits.now ≡ text → length text < 1 → IsPowerOf x text
unfolding digits_value
no_power x [] negative now short = record {
  exponent = None;
  found = refl;
  value = ap (λ d. with_sign x.is_negative (digits_value d)) now ∙ ap (λ b. with_sign b 0) negative;
  digits = ap (list_all is_digit) now;
}
no_power x (byte ∷ bytes) negative now short = absurd (omega arith)

-- a letter, a sign and digits are an exponent
exponent_of-cons : (letter : ℕ) (rest : List ℕ) → is_exponent_letter letter ≡ true → is_digits (after_sign rest) ≡ true → exponent_of (letter ∷ rest) ≡ Some (Some (record { letter = letter; sign = sign_of rest; digits = after_sign rest }))
exponent_of-cons letter rest is_letter digits = rw (is_letter, digits) refl

-- what the code cuts behind the letter is the exponent
pub power_is : (x : Power) (text rest : List ℕ) (letter : ℕ) → text ≡ letter ∷ rest → x.is_negative ≡ is_minus (sign_of rest) → x.digits.now ≡ after_sign rest → is_exponent_letter letter ≡ true → is_digits x.digits.now ≡ true → IsPowerOf x text
power_is x text rest letter e negative now is_letter digits = record {
  exponent = Some (record { letter = letter; sign = sign_of rest; digits = after_sign rest });
  found = ap exponent_of e ∙ exponent_of-cons letter rest is_letter (ap is_digits (sym now) ∙ digits);
  value = ap (λ b. with_sign b (digits_value x.digits.now)) negative ∙ with_sign-minus (sign_of rest) (digits_value x.digits.now) ∙ ap (λ d. signed (sign_of rest) (digits_value d)) now;
  digits = is_digits-all x.digits.now digits;
}

-- ---- the whole text

-- the whole digits, the fraction's digits and the end of a text behind its sign
pub record AreCut (text whole fraction end : List ℕ) : Type 0 where
  pub whole_is : whole ≡ front_digits (after_sign text)
  pub fraction_is : fraction ≡ fraction_digits (fraction_of (after_digits (after_sign text)))
  pub end_is : end ≡ after_fraction (after_digits (after_sign text))

-- cuts one behind another
pub are_cut : (text number whole rest fraction end : List ℕ) → number ≡ after_sign text → whole ≡ front_digits number → rest ≡ after_digits number → fraction ≡ fraction_digits (fraction_of rest) → end ≡ after_fraction rest → AreCut text whole fraction end
are_cut text number whole rest fraction end n w r f e =
    let behind : rest ≡ after_digits (after_sign text) = r ∙ ap after_digits n in
    record {
      whole_is = w ∙ ap front_digits n;
      fraction_is = f ∙ ap (λ t. fraction_digits (fraction_of t)) behind;
      end_is = e ∙ ap after_fraction behind;
    }

-- no number without a digit
decimal_with-no_digit : (s : Sign) (w : List ℕ) (f : Option (List ℕ)) (x : Option (Option Exponent)) → length w ≡ 0 → length (fraction_digits f) ≡ 0 → decimal_with s w f x ≡ None
unfolding decimal_with
decimal_with-no_digit s w f None p q = refl
decimal_with-no_digit s w f (Some x) p q =
    let none : w ++ fraction_digits f ≡ [] = nil_from_length (w ++ fraction_digits f) (omega (arith, length-append w (fraction_digits f))) in
    ap (λ d. cond (is_digits d) (Some (record { sign = s; whole = w; fraction = f; exponent = x })) None) none

-- a text whose cuts have no digit
pub no_decimal : (text whole fraction end : List ℕ) → AreCut text whole fraction end → length whole ≡ 0 → length fraction ≡ 0 → decimal_of text ≡ None
unfolding decimal_of
no_decimal text whole fraction end cut p q =
    let rest = after_digits (after_sign text) in
    decimal_with-no_digit (sign_of text) (front_digits (after_sign text)) (fraction_of rest) (exponent_of (after_fraction rest)) (sym (ap length cut.whole_is) ∙ p) (sym (ap length cut.fraction_is) ∙ q)

-- a text whose end is no exponent
pub no_exponent : (text whole fraction end : List ℕ) → AreCut text whole fraction end → exponent_of end ≡ None → decimal_of text ≡ None
unfolding decimal_of decimal_with
no_exponent text whole fraction end cut e =
    let rest = after_digits (after_sign text) in
    ap (decimal_with (sign_of text) (front_digits (after_sign text)) (fraction_of rest)) (sym (ap exponent_of cut.end_is) ∙ e)

-- some digits
is_digits-from_all : (xs : List ℕ) → 0 < length xs → list_all is_digit xs ≡ true → is_digits xs ≡ true
is_digits-from_all [] some all = absurd (omega arith)
is_digits-from_all (x ∷ xs) some all = all

-- a fraction has digits alone
fraction-all : (text : List ℕ) → list_all is_digit (fraction_digits (fraction_of text)) ≡ true
fraction-all [] = refl
fraction-all (byte ∷ bytes) =
    either (eqb byte 46)
    (λ t. subst (λ f. list_all is_digit (fraction_digits f) ≡ true) (sym (ap (λ b. cond b (Some (front_digits bytes)) None) t)) (front-all is_digit bytes))
    (λ t. subst (λ f. list_all is_digit (fraction_digits f) ≡ true) (sym (ap (λ b. cond b (Some (front_digits bytes)) None) t)) refl)

-- a number with a digit and an exponent, or none
decimal_with-some : (s : Sign) (w : List ℕ) (f : Option (List ℕ)) (x : Option (Option Exponent)) (y : Option Exponent) → x ≡ Some y → is_digits (w ++ fraction_digits f) ≡ true → decimal_with s w f x ≡ Some (record { sign = s; whole = w; fraction = f; exponent = y })
unfolding decimal_with
decimal_with-some s w f x y e h = rw (e, h) refl

module _ (p : Parts) (text end : List ℕ) (negative : p.is_negative ≡ is_minus (sign_of text)) (cut : AreCut text p.whole.now p.fraction.now end) (power : IsPowerOf p.power end) where
  abbrev found : Decimal
  found = record { sign = sign_of text; whole = front_digits (after_sign text); fraction = fraction_of (after_digits (after_sign text)); exponent = power.exponent }

  pub parts_are : 0 < length p.whole.now + length p.fraction.now → ArePartsOf p text
  unfolding decimal_of
  parts_are some =
      let rest = after_digits (after_sign text) in
      let both : p.whole.now ++ p.fraction.now ≡ found.whole ++ fraction_digits found.fraction = ap (λ w. w ++ p.fraction.now) cut.whole_is ∙ ap (λ f. found.whole ++ f) cut.fraction_is in
      let all : list_all is_digit (found.whole ++ fraction_digits found.fraction) ≡ true =
      list_all-append is_digit found.whole (fraction_digits found.fraction) ∙ and_from _ _ (front-all is_digit (after_sign text)) (fraction-all rest) in
      let one : 0 < length (found.whole ++ fraction_digits found.fraction) = omega (arith, length-append p.whole.now p.fraction.now, ap length both) in
      record {
        decimal = found;
        found = decimal_with-some (sign_of text) found.whole found.fraction (exponent_of (after_fraction rest)) power.exponent (sym (ap exponent_of cut.end_is) ∙ power.found) (is_digits-from_all _ one all);
        mantissa = ap (λ b. with_sign b (digits_value (p.whole.now ++ p.fraction.now))) negative ∙ with_sign-minus (sign_of text) (digits_value (p.whole.now ++ p.fraction.now)) ∙ ap (λ d. signed (sign_of text) (digits_value d)) both;
        power = ap (λ v. v -ℤ pos (length p.fraction.now)) power.value ∙ ap (λ f. exponent_value power.exponent -ℤ pos (length f)) cut.fraction_is;
        digits = record {
          whole = ap (list_all is_digit) cut.whole_is ∙ front-all is_digit (after_sign text);
          fraction = ap (list_all is_digit) cut.fraction_is ∙ fraction-all rest;
          power = power.digits;
        };
      }
