-- A word with a colon between tokens has one pair of them, and a line with pairs behind its first byte has one list of them.
use Rattle.std.proofs.Common.{◌≡◌, ◌≢◌, ℕ, List, [], ◌∷◌, ◌++◌, All, refl, sym, ap, subst, ◌∙◌, arith}
use Rattle.std.proofs.lemmas.List.Elements.{All-cons, All-head, All-tail, All-append, All-weaker}
use Rattle.proof_text.specs.Spelling.{in_words}
use Rattle.proof_text.specs.Words.{IsFreeOf, IsWord, words_of}
use Rattle.proof_text.specs.WordLaws.{words_of-in}
use Rattle.proof_text.specs.Shapes.{IsToken, IsPair}

-- a text is cut at its first byte of a kind in one way
pub same_cut : (byte : ℕ) (front first back second : List ℕ) → IsFreeOf byte front → IsFreeOf byte first → front ++ byte ∷ back ≡ first ++ byte ∷ second → (front ≡ first) × (back ≡ second)
same_cut byte [] [] back second h k e = (refl, cc)
same_cut byte [] (b ∷ first) back second h k e = absurd (All-head (λ other. other ≢ byte) b first k (cc))
same_cut byte (a ∷ front) [] back second h k e = absurd (All-head (λ other. other ≢ byte) a front h (cc))
same_cut byte (a ∷ front) (b ∷ first) back second h k e =
    let rest : front ++ byte ∷ back ≡ first ++ byte ∷ second = cc in
    let same = same_cut byte front first back second (All-tail (λ x. x ≢ byte) a front h) (All-tail (λ x. x ≢ byte) b first k) rest in
    let head : a ≡ b = cc in
    (cc (head, same.0), same.1)

-- a token has no colon and no blank
pub token_free : (word : List ℕ) → IsToken word → IsFreeOf 58 word
token_free word t = All-weaker (λ byte. (byte ≢ 32) × (byte ≢ 58)) (λ byte. byte ≢ 58) (λ byte both. both.1) word t.1

pub token_word : (word : List ℕ) → IsToken word → IsWord word
token_word word t = All-weaker (λ byte. (byte ≢ 32) × (byte ≢ 58)) (λ byte. byte ≢ 32) (λ byte both. both.0) word t.1

-- so a pair has no blank
pub pair_word : (word : List ℕ) → IsPair word → IsWord word
pair_word word p =
    subst IsWord (sym p.2)
    (All-append (λ byte. byte ≢ 32) p.0 (58 ∷ p.1) (token_word p.0 p.3) (All-cons (λ byte. byte ≢ 32) 58 p.1 (λ e. omega arith) (token_word p.1 p.4)))

pub pairs_words : (words : List (List ℕ)) → All IsPair words → All IsWord words
pairs_words words h = All-weaker IsPair IsWord pair_word words h

-- words without blanks behind a first byte are known by their line
pub words_behind : (first : ℕ) (words others : List (List ℕ)) → All IsWord words → All IsWord others → in_words ((first ∷ []) ∷ words) ≡ in_words ((first ∷ []) ∷ others) → words ≡ others
words_behind first [] [] h k e = refl
words_behind first [] (other ∷ others) h k e = absurd cc
words_behind first (word ∷ words) [] h k e = absurd cc
words_behind first (word ∷ words) (other ∷ others) h k e =
    let rest : in_words (word ∷ words) ≡ in_words (other ∷ others) = cc in
    sym (words_of-in word words h) ∙ ap words_of rest ∙ words_of-in other others k
