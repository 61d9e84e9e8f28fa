-- What the lent parts of a line are.
use Rattle.std.specs.Prelude.{◌≡◌, ℕ, List, ◌∷◌, ◌++◌, codes}
use Rattle.proof_text.specs.declared.shapes.Pair.{Pair}
use Rattle.proof_text.specs.declared.shapes.SplitWords.{SplitWords}
use Rattle.proof_text.specs.Spelling.{in_words, mark_word}
use Rattle.proof_text.specs.Shapes.{IsToken, ArePairs}

-- two tokens that make a word with a colon between them
pub record IsPairOf (word : List ℕ) (pair : Pair) : Type 0 where
  pub spelled : word ≡ pair.first.now ++ 58 ∷ pair.second.now
  pub first : IsToken pair.first.now
  pub second : IsToken pair.second.now

-- the words that make the first line of a split
pub record AreSplitWords (line : List ℕ) (words : SplitWords) : Type 0 where
  pub spelled : line ≡ in_words (codes "S" ∷ mark_word words.mark ∷ words.lo.now ∷ words.count.now ∷ words.form)
  pub lo : IsToken words.lo.now
  pub count : IsToken words.count.now
  pub pairs : ArePairs words.form
