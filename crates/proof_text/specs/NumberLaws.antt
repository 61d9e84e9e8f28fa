-- Decimal digits spell one number, and a number has one spelling.
use Rattle.std.proofs.Common.{◌≡◌, ◌≢◌, ℕ, zero, suc, ◌+◌, ◌-◌, ◌*◌, ◌/◌, ◌%◌, ◌^◌, ◌<◌, ◌≤◌, List, [], ◌∷◌, ◌++◌, All, codes, decimal, refl, sym, ap, subst, ◌∙◌, append-nil, append_assoc, arith, inl, inr, ⊎_elim}
use Rattle.std.proofs.lemmas.Fmt.{decimal_digit, decimal_step_wide, decimal_by_steps_wide}
use Rattle.std.proofs.lemmas.List.Elements.{All-nil, All-cons, All-head, All-tail, All-push}
use Rattle.proof_text.specs.Shapes.{IsDigit, IsDigitsWord}
use Rattle.proof_text.specs.Numbers.{continued, IsPlainWord}

-- ---- a number, spelled and read

continued-push : (value : ℕ) (digits : List ℕ) (digit : ℕ) → continued value (digits ++ digit ∷ []) ≡ 10 * continued value digits + (digit - 48)
continued-push value [] digit = refl
continued-push value (first ∷ digits) digit = continued-push (10 * value + (first - 48)) digits digit

-- digits that begin with no 0 are no less than their first
abbrev IsAbove : ℕ → List ℕ → Type 0
IsAbove n word = IsPlainWord word × (continued 0 word ≡ n)

one_digit : (n : ℕ) → n < 10 → IsAbove n ((48 + n) ∷ [])
one_digit zero h = (inl refl, refl)
one_digit (suc n) h = (inr (omega arith, omega arith, All-nil IsDigit), omega arith)

digits_word-push : (word : List ℕ) (digit : ℕ) → IsDigitsWord word → IsDigit digit → IsDigitsWord (word ++ digit ∷ [])
digits_word-push [] digit h k = absurd h
digits_word-push (first ∷ digits) digit h k = (h.0, h.1, All-push IsDigit digits digit h.2 k)

plain-push : (n : ℕ) (word : List ℕ) → 10 ≤ n → IsAbove (n / 10) word → IsAbove n (word ++ (48 + n % 10) ∷ [])
plain-push n word large h =
    let value : continued 0 (word ++ (48 + n % 10) ∷ []) ≡ n = continued-push 0 word (48 + n % 10) ∙ omega (arith, h.1) in
    let last : IsDigit (48 + n % 10) = (omega arith, omega arith) in (
      ⊎_elim
          (λ (zero_word : word ≡ codes "0"). absurd (omega (arith, h.1, ap (continued 0) zero_word)))
          (λ (digits : IsDigitsWord word). inr (digits_word-push word (48 + n % 10) digits last))
          h.0,
      value,
    )

-- how a number is spelled
pub decimal-is_plain : (n : ℕ) → n < 10 ^ 64 → IsPlainWord (decimal n) × (continued 0 (decimal n) ≡ n)
decimal-is_plain = decimal_by_steps_wide IsAbove one_digit plain-push

-- ---- digits, read and spelled

-- further digits make no number smaller
pub continued-ge : (value : ℕ) (digits : List ℕ) → value ≤ continued value digits
continued-ge value [] = omega arith
continued-ge value (digit ∷ digits) = omega (arith, continued-ge (10 * value + (digit - 48)) digits)

decimal-continued : (value : ℕ) (digits : List ℕ) → 0 < value → All IsDigit digits → continued value digits < 10 ^ 64 → decimal (continued value digits) ≡ decimal value ++ digits
decimal-continued value [] some all small = sym (append-nil (decimal value))
decimal-continued value (digit ∷ digits) some all small =
    let is_digit = All-head IsDigit digit digits all in
    let next : ℕ = 10 * value + (digit - 48) in
    let front : next / 10 ≡ value = omega (arith, is_digit.0, is_digit.1) in
    let last : 48 + next % 10 ≡ digit = omega (arith, is_digit.0, is_digit.1) in
    decimal-continued next digits (omega arith) (All-tail IsDigit digit digits all) small
    ∙ ap (λ word. word ++ digits) (decimal_step_wide next (omega arith) (omega (arith, continued-ge next digits)) ∙ ap (λ n. decimal n ++ (48 + next % 10) ∷ []) front ∙ ap (λ d. decimal value ++ d ∷ []) last)
    ∙ append_assoc (decimal value) (digit ∷ []) digits

digits_word-spelled : (word : List ℕ) → IsDigitsWord word → continued 0 word < 10 ^ 64 → decimal (continued 0 word) ≡ word
digits_word-spelled [] h small = absurd h
digits_word-spelled (first ∷ digits) h small =
    let value : ℕ = 10 * 0 + (first - 48) in
    let is : 48 + value ≡ first = omega (arith, h.0) in
    decimal-continued value digits (omega (arith, h.0)) h.2 small ∙ ap (λ word. word ++ digits) (decimal_digit value (omega (arith, h.1)) ∙ ap (λ d. d ∷ []) is)

-- digits without a leading 0 are how their value is spelled
pub plain-spelled : (word : List ℕ) → IsPlainWord word → continued 0 word < 10 ^ 64 → decimal (continued 0 word) ≡ word
plain-spelled word plain small = ⊎_elim
    (λ (none : word ≡ codes "0"). ap (λ w. decimal (continued 0 w)) none ∙ decimal_digit 0 (omega arith) ∙ sym none)
    (λ (digits : IsDigitsWord word). digits_word-spelled word digits small)
    plain

-- ---- one number for a spelling

plain-digits : (word : List ℕ) → IsPlainWord word → All IsDigit word
plain-digits word plain = ⊎_elim (λ (none : word ≡ codes "0"). subst (All IsDigit) (sym none) (All-cons IsDigit 48 [] (omega arith, omega arith) (All-nil IsDigit))) (digits-digits word) plain
  where
    digits-digits : (word : List ℕ) → IsDigitsWord word → All IsDigit word
    digits-digits [] h = absurd h
    digits-digits (first ∷ digits) h = All-cons IsDigit first digits (omega (arith, h.0), omega (arith, h.1)) h.2

-- a number is spelled by digits
pub decimal-digits : (n : ℕ) → n < 10 ^ 64 → All IsDigit (decimal n)
decimal-digits n small = plain-digits (decimal n) (decimal-is_plain n small).0

-- two numbers with one spelling are the same
pub decimal-same : (m n : ℕ) → m < 10 ^ 64 → n < 10 ^ 64 → decimal m ≡ decimal n → m ≡ n
decimal-same m n small narrow e = sym (decimal-is_plain m small).1 ∙ ap (continued 0) e ∙ (decimal-is_plain n narrow).1

-- digits are no minus
pub decimal-no_minus : (n : ℕ) (rest : List ℕ) → n < 10 ^ 64 → decimal n ≢ 45 ∷ rest
decimal-no_minus n rest small e = omega (arith, (All-head IsDigit 45 rest (subst (All IsDigit) e (decimal-digits n small))).0)
