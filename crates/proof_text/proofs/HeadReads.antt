-- What is read of the first lines of a proof text is what they spell.
use Rattle.std.proofs.Common.{◌≡◌, ℕ, ◌^◌, ℤ, List, [], ◌∷◌, ◌++◌, length, map, All, codes, sym, ap, ◌∙◌, append_assoc}
use Rattle.std.specs.Fmt.{signed_decimal}
use Rattle.std.proofs.lemmas.List.{map-append, length-map}
use Rattle.std.proofs.lemmas.List.Elements.{All-nil, All-cons, All-head, All-tail, All-weaker}
use Rattle.whole_rows.specs.WholeRows.{WholeRows}
use Rattle.proof_tree.specs.Trees.{IsOfSize}
use Rattle.proof_text.specs.declared.claim.Claim.{Claim}
use Rattle.proof_text.specs.declared.claim.Claim.TheVariants as claims
use Rattle.proof_text.specs.Spelling.{in_words}
use Rattle.proof_text.specs.Printable.{IsPrintableClaim}
use Rattle.proof_text.specs.Words.{IsWord}
use Rattle.proof_text.specs.Shapes.{IsNumberWord, HasPointShape}
use Rattle.proof_text.specs.TokenLaws.{signed-number_word}
use Rattle.proof_text.specs.OneSplit.{value_of_size}
use Rattle.proof_text.specs.OneReading.{values_words, point_words}
use Rattle.proof_text.specs.Reads.{IsSizedClaim, SpellsClaim}
use Rattle.proof_text.proofs.ShapeLaws.{number_is_word}

-- ---- a point

-- the word behind those that are spelled by as many values is spelled by the next value
pub next_value : (read values : List ℤ) (word : List ℕ) (rest : List (List ℕ)) → All (IsOfSize (2 ^ 96)) values → map signed_decimal read ++ word ∷ rest ≡ map signed_decimal values → (value : ℤ) × IsOfSize (2 ^ 96) value × (word ≡ signed_decimal value)
next_value [] [] word rest h e = absurd cc
next_value [] (value ∷ values) word rest h e = (value, All-head (IsOfSize (2 ^ 96)) value values h, cc)
next_value (r ∷ read) [] word rest h e = absurd cc
next_value (r ∷ read) (value ∷ values) word rest h e =
    let tail : map signed_decimal read ++ word ∷ rest ≡ map signed_decimal values = cc in
    next_value read values word rest (All-tail (IsOfSize (2 ^ 96)) value values h) tail

-- the same words are those of as many values
pub same_count : (x y : List ℤ) → map signed_decimal x ≡ map signed_decimal y → length x ≡ length y
same_count x y e = sym (length-map x signed_decimal) ∙ ap length e ∙ length-map y signed_decimal

-- one value more
pub value_more : (whole words rest : List (List ℕ)) (values : List ℤ) (value : ℤ) (word : List ℕ) → whole ≡ map signed_decimal values ++ words → words ≡ word ∷ rest → word ≡ signed_decimal value → whole ≡ map signed_decimal (values ++ value ∷ []) ++ rest
value_more whole words rest values value word e f g =
    e
    ∙ ap (λ ws. map signed_decimal values ++ ws) (f ∙ ap (λ w. w ∷ rest) g)
    ∙ sym (append_assoc (map signed_decimal values) (signed_decimal value ∷ []) rest)
    ∙ ap (λ ws. ws ++ rest) (sym (map-append signed_decimal values (value ∷ [])))

values_numbers : (x : List ℤ) → All (IsOfSize (2 ^ 96)) x → All IsNumberWord (map signed_decimal x)
values_numbers [] h = All-nil IsNumberWord
values_numbers (value ∷ x) h =
    All-cons IsNumberWord (signed_decimal value) (map signed_decimal x) (signed-number_word value (value_of_size value (All-head (IsOfSize (2 ^ 96)) value x h))) (values_numbers x (All-tail (IsOfSize (2 ^ 96)) value x h))

-- ---- a claim

-- a spelled claim that is not that there is none is a point
pub record IsPointLine (columns : ℕ) (text : List ℕ) : Type 0 where
  pub x : List ℤ
  pub spelled : text ≡ in_words (codes "OPTIMAL" ∷ map signed_decimal x)
  pub count : length x ≡ columns
  pub size : All (IsOfSize (2 ^ 96)) x

pub point_line : (columns : ℕ) (text : List ℕ) (claim : Claim) → (text ≡ codes "INFEASIBLE" → ⊥) → SpellsClaim columns text claim → IsPointLine columns text
point_line columns text claims.Infeasible other s = absurd (other s.spelled)
point_line columns text (claims.Optimal x) other s = record { x = x; spelled = s.spelled; count = s.sized.0; size = s.sized.1 }
point_line columns text claims.Open other s = absurd s.sized

-- it has the shape of one
pub point_shape : (columns : ℕ) (text : List ℕ) → IsPointLine columns text → HasPointShape text
point_shape columns text p = (map signed_decimal p.x, p.spelled, values_numbers p.x p.size)

-- and its words are its values
pub point_values : (columns : ℕ) (text : List ℕ) (words : List (List ℕ)) → (p : IsPointLine columns text) → (text ≡ in_words (codes "OPTIMAL" ∷ words)) × All IsNumberWord words → words ≡ map signed_decimal p.x
point_values columns text words p w = point_words words (map signed_decimal p.x) (All-weaker IsNumberWord IsWord number_is_word words w.1) (values_words p.x p.size) (sym w.0 ∙ p.spelled)

-- claims are sized where they are printable
pub printable_sized : (rows : WholeRows) (claim : Claim) → IsPrintableClaim rows claim → IsSizedClaim (length rows.box) claim
printable_sized rows claims.Infeasible h = tt
printable_sized rows (claims.Optimal x) h = h
printable_sized rows claims.Open h = absurd h

pub sized_printable : (rows : WholeRows) (claim : Claim) → IsSizedClaim (length rows.box) claim → IsPrintableClaim rows claim
sized_printable rows claims.Infeasible h = tt
sized_printable rows (claims.Optimal x) h = h
sized_printable rows claims.Open h = absurd h
