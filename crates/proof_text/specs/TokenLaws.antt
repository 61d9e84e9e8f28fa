-- Spelled numbers are tokens, and what is printed of a line has the shape of one.
use Rattle.std.proofs.Common.{◌≡◌, ◌≢◌, ℕ, suc, ◌^◌, ◌<◌, ◌≤◌, ℤ, pos, negsuc, List, [], ◌∷◌, All, codes, decimal, refl, sym, ap, arith, inl, inr, ⊎_elim}
use Rattle.std.specs.Fmt.{signed_decimal}
use Rattle.std.proofs.lemmas.Int.{ints}
use Rattle.std.proofs.lemmas.List.Elements.{All-cons, All-weaker}
use Rattle.proof_tree.specs.Trees.{IsOfSize}
use Rattle.proof_text.specs.Shapes.{IsToken, IsDigit, IsDigitsWord, IsNumberWord}
use Rattle.proof_text.specs.Numbers.{continued, IsPlainWord}
use Rattle.proof_text.specs.NumberLaws.{decimal-is_plain, decimal-digits, decimal-same, decimal-no_minus}

abbrev NoMark : ℕ → Type 0
NoMark byte = (byte ≢ 32) × (byte ≢ 58)

pub digits_token : (digits : List ℕ) → All IsDigit digits → All NoMark digits
digits_token digits h = All-weaker IsDigit NoMark (λ byte d. (λ e. omega (arith, d.0, e), λ e. omega (arith, d.1, e))) digits h

plain_some : (word : List ℕ) → IsPlainWord word → word ≢ []
plain_some [] plain e = ⊎_elim (λ (none : [] ≡ codes "0"). absurd cc) (λ h. absurd h) plain
plain_some (byte ∷ word) plain e = absurd cc

-- a number without a sign is a token
pub decimal-token : (n : ℕ) → n < 10 ^ 64 → IsToken (decimal n)
decimal-token n small = (plain_some (decimal n) (decimal-is_plain n small).0, digits_token (decimal n) (decimal-digits n small))

-- a token behind one byte more is a token
pub token-cons : (byte : ℕ) (word : List ℕ) → byte ≢ 32 → byte ≢ 58 → IsToken word → IsToken (byte ∷ word)
token-cons byte word no_blank no_colon t = (λ e. absurd cc, All-cons NoMark byte word (no_blank, no_colon) t.1)

size_narrow : (n : ℕ) → n ≤ 2 ^ 126 → n < 10 ^ 64
size_narrow n h = omega (arith, h)

-- a number is a token
pub signed-token : (z : ℤ) → IsOfSize (2 ^ 126) z → IsToken (signed_decimal z)
signed-token (pos n) h = decimal-token n (size_narrow n (omega (arith, ints, h.1)))
signed-token (negsuc n) h = token-cons 45 (decimal (suc n)) (λ e. omega (arith, e)) (λ e. omega (arith, e)) (decimal-token (suc n) (size_narrow (suc n) (omega (arith, ints, h.0))))

-- two numbers with one spelling are the same
pub signed-same : (y z : ℤ) → IsOfSize (2 ^ 126) y → IsOfSize (2 ^ 126) z → signed_decimal y ≡ signed_decimal z → y ≡ z
signed-same (pos m) (pos n) h k e = ap pos (decimal-same m n (size_narrow m (omega (arith, ints, h.1))) (size_narrow n (omega (arith, ints, k.1))) e)
signed-same (pos m) (negsuc n) h k e = absurd (decimal-no_minus m (decimal (suc n)) (size_narrow m (omega (arith, ints, h.1))) e)
signed-same (negsuc m) (pos n) h k e = absurd (decimal-no_minus n (decimal (suc m)) (size_narrow n (omega (arith, ints, k.1))) (sym e))
signed-same (negsuc m) (negsuc n) h k e =
    let same : decimal (suc m) ≡ decimal (suc n) = cc in
    ap negsuc (omega (arith, decimal-same (suc m) (suc n) (size_narrow (suc m) (omega (arith, ints, h.0))) (size_narrow (suc n) (omega (arith, ints, k.0))) same))

-- how a number is spelled, it is a number word
pub signed-number_word : (z : ℤ) → IsOfSize (2 ^ 126) z → IsNumberWord (signed_decimal z)
signed-number_word (pos n) h = ⊎_elim (λ (none : decimal n ≡ codes "0"). inl none) (λ (digits : IsDigitsWord (decimal n)). inr (inl digits)) (decimal-is_plain n (size_narrow n (omega (arith, ints, h.1)))).0
signed-number_word (negsuc n) h =
    let plain = decimal-is_plain (suc n) (size_narrow (suc n) (omega (arith, ints, h.0))) in
    ⊎_elim
    (λ (none : decimal (suc n) ≡ codes "0"). absurd (omega (arith, plain.1, ap (continued 0) none)))
    (λ (digits : IsDigitsWord (decimal (suc n))). inr (inr (decimal (suc n), refl, digits)))
    plain.0
