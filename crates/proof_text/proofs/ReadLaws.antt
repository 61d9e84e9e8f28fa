-- The number that is read is the one that the word spells.
use Rattle.std.proofs.Common.{◌≡◌, ◌≢◌, ℕ, zero, suc, ◌+◌, ◌-◌, ◌*◌, ◌^◌, ◌<◌, ◌≤◌, ℤ, pos, negsuc, neg_ℤ, List, [], ◌∷◌, length, get_or, drop, All, codes, decimal, Option, Some, None, MatchOption, SomeIff, refl, sym, ap, subst, ◌∙◌, arith, inr, ⊎_elim}
use Rattle.std.proofs.lemmas.Fmt.{decimal_digit}
use Rattle.std.proofs.lemmas.List.{drop_more}
use Rattle.std.proofs.lemmas.Int.{ints}
use Rattle.std.proofs.lemmas.List.Elements.{All-cons}
use Rattle.proof_tree.specs.Trees.{IsOfSize}
use Rattle.proof_text.specs.Shapes.{IsDigit, IsDigitsWord}
use Rattle.proof_text.specs.Numbers.{continued, IsPlainWord, SpellsSize, SpellsNumber}
use Rattle.proof_text.specs.NumberLaws.{continued-ge, decimal-is_plain, plain-spelled, decimal-same, decimal-no_minus}

-- a number that is too large stays so
pub too_large : (digits : List ℕ) (value place digit : ℕ) → place < length digits → digit ≡ get_or digits place 0 → continued value (drop place digits) ≡ continued 0 digits → (10 * value + (digit - 48) ≤ 2 ^ 126 → ⊥)
    → continued 0 digits ≤ 2 ^ 126 → ⊥
too_large digits value place digit within at so_far wide narrow =
    let next : ℕ = 10 * value + (digit - 48) in
    let step : continued next (drop (place + 1) digits) ≡ continued 0 digits =
    ap (λ d. continued (10 * value + (d - 48)) (drop (place + 1) digits)) at ∙ ap (continued value) (sym (drop_more digits place 0 within)) ∙ so_far in
    wide (omega (arith, continued-ge next (drop (place + 1) digits), step, narrow))

pub digits_of_word : (word : List ℕ) → IsDigitsWord word → All IsDigit word
digits_of_word [] h = absurd h
digits_of_word (first ∷ digits) h = All-cons IsDigit first digits (omega (arith, h.0), omega (arith, h.1)) h.2

narrow : (n : ℕ) → n ≤ 2 ^ 126 → n < 10 ^ 64
narrow n h = omega (arith, h)

-- `0` is read
pub zero_size : (word : List ℕ) → word ≡ codes "0" → SpellsSize word 0
zero_size word e = (e ∙ sym (decimal_digit 0 (omega arith)), omega arith)

-- what has not the form of a number is none
pub no_size : (word : List ℕ) → (word ≡ codes "0" → ⊥) → (IsDigitsWord word → ⊥) → (number : ℕ) → SpellsSize word number → ⊥
no_size word zero_word digits number spells = ⊎_elim zero_word digits (subst IsPlainWord (sym spells.0) (decimal-is_plain number (narrow number spells.1)).0)

pub size_value : (result : Option ℕ) (word : List ℕ) → IsDigitsWord word → SomeIff result (continued 0 word ≤ 2 ^ 126) (continued 0 word) → MatchOption result ((number : ℕ) → SpellsSize word number → ⊥) (SpellsSize word)
size_value None word digits told = λ number spells.
    let value : continued 0 word ≡ number = ap (continued 0) spells.0 ∙ (decimal-is_plain number (narrow number spells.1)).1 in
    told (omega (arith, value, spells.1))
size_value (Some number) word digits told =
    let spelled : decimal (continued 0 word) ≡ word = plain-spelled word (inr digits) (narrow (continued 0 word) told.0) in
    (sym spelled ∙ ap decimal (sym told.1), omega (arith, told.0, told.1))

-- ---- with a sign

size_of_pos : (n : ℕ) → IsOfSize (2 ^ 126) (pos n) → n ≤ 2 ^ 126
size_of_pos n h = omega (arith, ints, h.1)

size_of_negsuc : (n : ℕ) → IsOfSize (2 ^ 126) (negsuc n) → suc n ≤ 2 ^ 126
size_of_negsuc n h = omega (arith, ints, h.0)

pub no_number : (word : List ℕ) → ((rest : List ℕ) → word ≢ 45 ∷ rest) → ((number : ℕ) → SpellsSize word number → ⊥) → (number : ℤ) → SpellsNumber word number → ⊥
no_number word plain none (pos n) spells = none n (spells.0, size_of_pos n spells.1)
no_number word plain none (negsuc n) spells = plain (decimal (suc n)) spells.0

not_pos : (n : ℕ) (digits : List ℕ) → IsOfSize (2 ^ 126) (pos n) → 45 ∷ digits ≡ decimal n → ⊥
not_pos n digits size e = decimal-no_minus n digits (narrow n (size_of_pos n size)) (sym e)

pub no_negative : (word digits : List ℕ) → word ≡ 45 ∷ digits → ((number : ℕ) → SpellsSize digits number → ⊥) → (number : ℤ) → SpellsNumber word number → ⊥
no_negative word digits e none (pos n) spells = not_pos n digits spells.1 (sym e ∙ spells.0)
no_negative word digits e none (negsuc n) spells = none (suc n) (cc (e, spells.0), size_of_negsuc n spells.1)

pub no_minus_zero : (word digits : List ℕ) (size : ℕ) → word ≡ 45 ∷ digits → SpellsSize digits size → size ≡ 0 → (number : ℤ) → SpellsNumber word number → ⊥
no_minus_zero word digits size e zero_size is (pos n) spells = not_pos n digits spells.1 (sym e ∙ spells.0)
no_minus_zero word digits size e zero_size is (negsuc n) spells =
    let same : decimal size ≡ decimal (suc n) = cc (e, spells.0, zero_size.0) in
    omega (arith, decimal-same size (suc n) (narrow size zero_size.1) (narrow (suc n) (size_of_negsuc n spells.1)) same, is)

pub positive : (word : List ℕ) (size : ℕ) → SpellsSize word size → SpellsNumber word (pos size)
positive word size spells = (spells.0, (omega (arith, ints), omega (arith, ints, spells.1)))

pub negative : (word digits : List ℕ) (size : ℕ) → word ≡ 45 ∷ digits → SpellsSize digits size → (size ≡ 0 → ⊥) → SpellsNumber word (neg_ℤ (pos size))
negative word digits zero e spells some = absurd (some refl)
negative word digits (suc n) e spells some = (e ∙ ap (λ d. 45 ∷ d) spells.0, (omega (arith, ints, spells.1), omega (arith, ints)))
