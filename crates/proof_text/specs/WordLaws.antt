-- A line is its words in order, and words without blanks are those of their line.
use Rattle.std.proofs.Common.{◌≡◌, ◌≢◌, ℕ, false, List, [], ◌∷◌, ◌++◌, All, refl, sym, ap, ◌∙◌, append-nil, ne_eqb}
use Rattle.std.specs.List.{join_with_byte}
use Rattle.std.proofs.lemmas.List.Elements.{All-head, All-tail, All-weaker}
use Rattle.std.proofs.lemmas.List.Splits.{slice_split_none, slice_split_at, join_with_byte-slice_split}
use Rattle.proof_text.specs.Spelling.{in_words}
use Rattle.proof_text.specs.Words.{is_blank, IsWord, words_of}

words_joined : (words : List (List ℕ)) → in_words words ≡ join_with_byte 32 words
words_joined [] = refl
words_joined (word ∷ []) = append-nil word
words_joined (word ∷ next ∷ words) = ap (λ rest. word ++ 32 ∷ rest) (words_joined (next ∷ words))

-- the words of a line, with a blank between neighbours, are the line
pub in_words-of : (line : List ℕ) → in_words (words_of line) ≡ line
in_words-of line = words_joined (words_of line) ∙ join_with_byte-slice_split 32 line

no_blank : (word : List ℕ) → IsWord word → All (λ byte. is_blank byte ≡ false) word
no_blank word h = All-weaker (λ byte. byte ≢ 32) (λ byte. is_blank byte ≡ false) (λ byte other. ne_eqb byte 32 other) word h

-- a line without a blank is one word
pub words_of-one : (line : List ℕ) → IsWord line → words_of line ≡ line ∷ []
words_of-one line h = slice_split_none is_blank line (no_blank line h)

-- the first word ends at the first blank
pub words_of-first : (word rest : List ℕ) → IsWord word → words_of (word ++ 32 ∷ rest) ≡ word ∷ words_of rest
words_of-first word rest h = slice_split_at is_blank word 32 rest (no_blank word h) refl

-- words without blanks are the words of their line
pub words_of-in : (word : List ℕ) (words : List (List ℕ)) → All IsWord (word ∷ words) → words_of (in_words (word ∷ words)) ≡ word ∷ words
words_of-in word [] h = ap words_of (append-nil word) ∙ words_of-one word (All-head IsWord word [] h)
words_of-in word (next ∷ words) h =
    words_of-first word (in_words (next ∷ words)) (All-head IsWord word (next ∷ words) h) ∙ ap (λ rest. word ∷ rest) (words_of-in next words (All-tail IsWord word (next ∷ words) h))

-- two lists of words without blanks that make one line are the same
pub same_words : (word other : List ℕ) (words others : List (List ℕ)) → All IsWord (word ∷ words) → All IsWord (other ∷ others) → in_words (word ∷ words) ≡ in_words (other ∷ others) → word ∷ words ≡ other ∷ others
same_words word other words others h k e = sym (words_of-in word words h) ∙ ap words_of e ∙ words_of-in other others k
