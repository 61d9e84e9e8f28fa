-- The value of digits, and which words spell a number.
use Rattle.std.specs.Prelude.{◌≡◌, ◌⊎◌, ℕ, ◌+◌, ◌-◌, ◌*◌, ◌^◌, ◌≤◌, ℤ, List, [], ◌∷◌, codes, decimal}
use Rattle.std.specs.Fmt.{signed_decimal}
use Rattle.proof_tree.specs.Trees.{IsOfSize}
use Rattle.proof_text.specs.Shapes.{IsDigitsWord}

-- the number whose digits are those of `value` and then these
abbrev pub continued : ℕ → List ℕ → ℕ
continued value [] = value
continued value (digit ∷ digits) = continued (10 * value + (digit - 48)) digits

-- digits alone, in the one way in which a number is spelled
abbrev pub IsPlainWord : List ℕ → Type 0
IsPlainWord word = (word ≡ codes "0") ⊎ IsDigitsWord word

-- the word is the number without a sign, which is at most 2 to the power 126
abbrev pub SpellsSize : List ℕ → ℕ → Type 0
SpellsSize word number = (word ≡ decimal number) × (number ≤ 2 ^ 126)

-- the word is the number, whose size is at most 2 to the power 126
abbrev pub SpellsNumber : List ℕ → ℤ → Type 0
SpellsNumber word number = (word ≡ signed_decimal number) × IsOfSize (2 ^ 126) number
