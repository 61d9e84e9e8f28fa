-- The shape of a line, before its numbers are read: any bytes but blank and colon do for a number.
use Rattle.std.specs.Prelude.{◌≡◌, ◌≢◌, ◌⊎◌, ℕ, ◌≤◌, List, [], ◌∷◌, ◌++◌, All, codes}
use Rattle.proof_text.specs.Spelling.{in_words}

-- some bytes, none of which is a blank or a colon
abbrev pub IsToken : List ℕ → Type 0
IsToken word = (word ≢ []) × All (λ byte. (byte ≢ 32) × (byte ≢ 58)) word

-- a digit; the digits are the bytes from 48 to 57
abbrev pub IsDigit : ℕ → Type 0
IsDigit byte = (48 ≤ byte) × (byte ≤ 57)

-- digits without a leading 0
abbrev pub IsDigitsWord : List ℕ → Type 0
IsDigitsWord [] = ⊥
IsDigitsWord (first ∷ digits) = (49 ≤ first) × (first ≤ 57) × All IsDigit digits

-- a number of any length: `0`, or digits without a leading 0 behind a `-` (the byte 45) or none
abbrev pub IsNumberWord : List ℕ → Type 0
IsNumberWord word = (word ≡ codes "0") ⊎ (IsDigitsWord word ⊎ ((digits : List ℕ) × (word ≡ 45 ∷ digits) × IsDigitsWord digits))

-- two tokens with a colon between them
abbrev pub IsPair : List ℕ → Type 0
IsPair word = (first : List ℕ) × (second : List ℕ) × (word ≡ first ++ 58 ∷ second) × IsToken first × IsToken second

-- one pair or more
abbrev pub ArePairs : List (List ℕ) → Type 0
ArePairs words = (words ≢ []) × All IsPair words

-- a line of multipliers behind its first word
abbrev pub HasLineShape : List ℕ → List ℕ → Type 0
HasLineShape first line = (words : List (List ℕ)) × (line ≡ in_words (first ∷ words)) × ArePairs words

-- `T` or `P`
abbrev pub IsMarkWord : List ℕ → Type 0
IsMarkWord word = (word ≡ codes "T") ⊎ (word ≡ codes "P")

-- the first line of a split
pub record HasSplitShape (line : List ℕ) : Type 0 where
  pub mark : List ℕ
  pub lo : List ℕ
  pub count : List ℕ
  pub words : List (List ℕ)
  pub spelled : line ≡ in_words (codes "S" ∷ mark ∷ lo ∷ count ∷ words)
  pub is_mark : IsMarkWord mark
  pub is_lo : IsToken lo
  pub is_count : IsToken count
  pub pairs : ArePairs words

-- `OPTIMAL` with some numbers, of any length
abbrev pub HasPointShape : List ℕ → Type 0
HasPointShape line = (words : List (List ℕ)) × (line ≡ in_words (codes "OPTIMAL" ∷ words)) × All IsNumberWord words
