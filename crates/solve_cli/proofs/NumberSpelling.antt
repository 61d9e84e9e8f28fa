-- The numbers that words spell are those that are printed so.
use Rattle.std.proofs.Common.{◌≡◌, ⊎_elim, ◌≤◌, ◌<◌, ◌^◌, leb, ℕ, zero, suc, Bool, true, false, not, ◌&&◌, ◌||◌, cond, List, [], ◌∷◌, length, get_or, Option, Some, None, refl, sym, ap, ◌∙◌, subst, arith, rules}
use Rattle.std.specs.Prelude.{◌==◌, decimal, Result, Ok, Err}
use Rattle.std.specs.List.{list_all}
use Rattle.std.specs.Result.{OkIff}
use Rattle.std.specs.Str.Parse.{ParsesUnsigned}
use Rattle.std.proofs.lemmas.Bool.{and_parts, and_from, or_cases, or_right, eqb-true, ne_eqb, not-true, not_from_false, eqb-false, cases_eq, cond-true, leb-true, le-leb, lt-leb}
use Rattle.std.proofs.Math.Bool.{and-false}
use Rattle.std.proofs.lemmas.Option.{same_Some}
use Rattle.std.proofs.lemmas.Fmt.{digits_decimal, digits_value-decimal, decimal-digits_value, decimal_nonempty, decimal_digit, first_decimal}
use Rattle.std.proofs.lemmas.Str.Parse.{IsNumeralModel, numerals_by_weight, parse_digits}
use Rattle.mps_fields.specs.Decimal.{is_digit, is_digits, digits_value}
use Rattle.solve_cli.specs.Words.{is_plain_number, number_within}

-- ---- digits

own : IsNumeralModel (λ ds. list_all is_digit ds ≡ true) digits_value
unfolding digits_value
own = numerals_by_weight (λ ds. list_all is_digit ds ≡ true) (search rules) digits_value (search rules)

digits_parts : (word : List ℕ) → is_digits word ≡ true → (list_all is_digit word ≡ true) × (0 < length word)
digits_parts [] e = absurd cc
digits_parts (byte ∷ word) e = (e, omega arith)

digits_from : (word : List ℕ) → list_all is_digit word ≡ true → 0 < length word → is_digits word ≡ true
digits_from [] e some = absurd (omega arith)
digits_from (byte ∷ word) e some = e

-- the first digit is no 0, unless it is the only one
abbrev leads : List ℕ → Bool
leads word = (length word == 1) || not (get_or word 0 0 == 48)

-- a word of digits is parsed as their value, where that fits 64 bits
pub parses : {E : Type 0} (word : List ℕ) (result : Result ℕ E) → is_plain_number word ≡ true → ParsesUnsigned 64 10 word result
    → OkIff result (digits_value word < 2 ^ 64) (digits_value word)
parses {E = E} word result plain parsed =
    let digits = digits_parts word (and_parts (is_digits word) (leads word) plain).0 in
    by digits.1 result (parse_digits own 64 word result parsed digits.0)
  where
    by : 0 < length word → (result : Result ℕ E) → OkIff result ((0 < length word) × (digits_value word < 2 ^ 64)) (digits_value word) → OkIff result (digits_value word < 2 ^ 64) (digits_value word)
    by some (Ok n) told = (told.0.1, told.1)
    by some (Err e) told = λ small. told (some, small)

-- ---- numbers in a range

module _ (low high : ℕ) (word : List ℕ) (plain : is_plain_number word ≡ true) where
  abbrev value : ℕ
  value = digits_value word

  abbrev found : Bool → Option ℕ
  found inside = cond inside (Some value) None

  at : number_within low high word ≡ found (leb low value && leb value high)
  at = ap (λ b. found (b && (leb low value && leb value high))) plain

  pub is_within : (n : ℕ) → n ≡ value → low ≤ n → n ≤ high → Some n ≡ number_within low high word
  is_within n same above below =
      let inside = and_from (leb low value) (leb value high) (le-leb low value (omega (arith, same, above))) (le-leb value high (omega (arith, same, below))) in
      ap Some same ∙ sym (at ∙ ap found inside)

  pub is_below : (n : ℕ) → n ≡ value → n < low → None ≡ number_within low high word
  is_below n same below = sym (at ∙ ap (λ b. found (b && leb value high)) (lt-leb low value (omega (arith, same, below))))

  pub is_above : (n : ℕ) → n ≤ value → high < n → None ≡ number_within low high word
  is_above n least above =
      sym (at ∙ ap (λ b. found (leb low value && b)) (lt-leb value high (omega (arith, least, above))) ∙ ap found (and-false (leb low value)))

-- ---- the words of numbers

when_true : {A : Type 0} (b : Bool) (o : Option A) (x : A) → cond b o None ≡ Some x → (b ≡ true) × (o ≡ Some x)
when_true true o x e = (refl, e)
when_true false o x e = absurd cc

pos_from : (u : ℕ) → (u ≡ 0 → ⊥) → 0 < u
pos_from zero some = absurd (some refl)
pos_from (suc u) some = omega arith

-- what is printed begins with no 0, unless it is all of it
no_lead : (u : ℕ) → u < 2 ^ 64 → leads (decimal u) ≡ true
no_lead u small =
    ⊎_elim (λ (none : u ≡ 0). subst (λ n. leads (decimal n) ≡ true) (sym none)
    (subst (λ word. leads word ≡ true) (sym (decimal_digit 0 (omega arith))) refl))
    (λ (some : u ≡ 0 → ⊥).
    let above = first_decimal u (pos_from u some) small in
    or_right (length (decimal u) == 1) (not (get_or (decimal u) 0 0 == 48))
    (not_from_false (get_or (decimal u) 0 0 == 48) (ne_eqb (get_or (decimal u) 0 0) 48 (λ same. absurd (omega (arith, above, same))))))
    (cases_eq u 0)

module _ (low high : ℕ) (limit : high < 2 ^ 64) where
  abbrev in_range : ℕ → Bool
  in_range n = leb low n && leb n high

  -- a word that spells a number is that number printed
  pub number_spelled : (word : List ℕ) (n : ℕ) → number_within low high word ≡ Some n → (low ≤ n) × (n ≤ high) × (word ≡ decimal n)
  number_spelled word n e =
      let told = when_true (is_plain_number word && in_range (digits_value word)) (Some (digits_value word)) n e in
      let both = and_parts (is_plain_number word) (in_range (digits_value word)) told.0 in
      let plain = and_parts (is_digits word) (leads word) both.0 in
      let range = and_parts (leb low (digits_value word)) (leb (digits_value word) high) both.1 in
      let digits = digits_parts word plain.0 in
      let lead : get_or word 0 0 ≡ 48 → length word ≡ 1 = λ zero.
      ⊎_elim (λ one. eqb-true (length word) 1 one) (λ other. absurd (eqb-false (get_or word 0 0) 48 (not-true (get_or word 0 0 == 48) other) zero))
      (or_cases (length word == 1) (not (get_or word 0 0 == 48)) plain.1) in
      let above = leb-true low (digits_value word) range.0 in
      let below = leb-true (digits_value word) high range.1 in
      let small : digits_value word < 2 ^ 64 = omega (arith, below, limit) in
      subst (λ v. (low ≤ v) × (v ≤ high) × (word ≡ decimal v)) (same_Some (digits_value word) n told.1)
      (above, below, sym (decimal-digits_value own word digits.0 digits.1 lead small))

  -- and a number in the range that is printed is spelled so
  pub spelled_number : (n : ℕ) → low ≤ n → n ≤ high → number_within low high (decimal n) ≡ Some n
  spelled_number n above below =
      let fits : n < 2 ^ 64 = omega (arith, below, limit) in
      let digits = digits_from (decimal n) (digits_decimal own n fits) (decimal_nonempty n fits) in
      let plain = and_from (is_digits (decimal n)) (leads (decimal n)) digits (no_lead n fits) in
      let value : digits_value (decimal n) ≡ n = digits_value-decimal own n fits in
      let range : in_range n ≡ true = and_from (leb low n) (leb n high) (le-leb low n above) (le-leb n high below) in
      cond-true (is_plain_number (decimal n) && in_range (digits_value (decimal n))) (Some (digits_value (decimal n))) None
      (and_from (is_plain_number (decimal n)) (in_range (digits_value (decimal n))) plain (ap in_range value ∙ range))
      ∙ ap Some value
