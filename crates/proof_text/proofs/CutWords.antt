-- A text is cut at the first byte that is a given one.
use Rattle.std.proofs.Common.{◌≡◌, ◌≢◌, ℕ, ◌+◌, ◌<◌, ◌≤◌, Bool, true, false, cond, not, ltb, List, [], ◌∷◌, ◌++◌, length, get_or, take, drop, Some, None, sym, ap, subst, ◌∙◌, arith, drop-drop, ⊎_elim, get_or-take, take-append-drop, eqb-true, length-take-le}
use Rattle.std.specs.Prelude.{if◌then◌else◌, position, ◌==◌}
use Rattle.std.specs.List.{position_or_len}
use Rattle.std.proofs.lemmas.Bool.{cases_Bool, ltb-false, eqb-false}
use Rattle.std.proofs.lemmas.Option.{none-some}
use Rattle.std.proofs.lemmas.List.{drop_more}
use Rattle.std.proofs.lemmas.List.Elements.{All-nil, All-cons, All-from_get_or}
use Rattle.std.proofs.lemmas.List.Quantifiers.{position-Some}
use Rattle.proof_text.specs.Words.{IsFreeOf, words_of}
use Rattle.proof_text.specs.WordLaws.{words_of-one, words_of-first}

abbrev is : ℕ → ℕ → Bool
is byte other = other == byte

free : (byte : ℕ) (text : List ℕ) → length text ≤ position_or_len (is byte) text → IsFreeOf byte text
free byte [] h = All-nil (λ other. other ≢ byte)
free byte (first ∷ text) h = ⊎_elim
    (λ (t : is byte first ≡ true). absurd (omega (arith, ap (λ b. cond (not b) (1 + position_or_len (is byte) text) 0) t)))
    (λ (t : is byte first ≡ false).
    All-cons (λ other. other ≢ byte) first text (eqb-false first byte t) (free byte text (omega (arith, ap (λ b. cond (not b) (1 + position_or_len (is byte) text) 0) t))))
    (cases_Bool (is byte first))

-- where no place is found, the byte is not there
pub none_there : (byte : ℕ) (text : List ℕ) → position (is byte) text ≡ None → IsFreeOf byte text
none_there byte text e =
    let place : ℕ = position_or_len (is byte) text in
    ⊎_elim
    (λ (t : ltb place (length text) ≡ true). absurd (none-some place (sym e ∙ ap (λ b. cond b (Some place) None) t)))
    (λ (t : ltb place (length text) ≡ false). free byte text (ltb-false place (length text) t))
    (cases_Bool (ltb place (length text)))

-- what stands at the place that is found
pub cut_there : (byte : ℕ) (text : List ℕ) (place : ℕ) → position (is byte) text ≡ Some place → (text ≡ take place text ++ byte ∷ drop 1 (drop place text)) × IsFreeOf byte (take place text) × (place < length text)
cut_there byte text place e =
    let found = position-Some (is byte) text place 0 e in
    let here : get_or text place 0 ≡ byte = eqb-true (get_or text place 0) byte found.1 in
    let rest : drop place text ≡ byte ∷ drop 1 (drop place text) =
    drop_more text place 0 found.0 ∙ ap (λ b. b ∷ drop (place + 1) text) here ∙ ap (λ r. byte ∷ r) (sym (drop-drop 1 place text)) in (
      sym (take-append-drop place text) ∙ ap (λ r. take place text ++ r) rest,
      All-from_get_or (λ other. other ≢ byte) (take place text) 0 (λ k h.
          let below : k < place = omega (arith, h, length-take-le place text (omega (arith, found.0))) in
          subst (λ b. b ≢ byte) (sym (get_or-take place text k 0 below)) (eqb-false (get_or text k 0) byte (found.2 k below))),
      found.0,
    )

-- the parts as they are cut
pub parts_there : (byte : ℕ) (text front behind back : List ℕ) (place : ℕ) → position (is byte) text ≡ Some place → front ≡ take place text → behind ≡ drop place text → back ≡ drop 1 behind
    → (text ≡ front ++ byte ∷ back) × IsFreeOf byte front
parts_there byte text front behind back place e f b r =
    let there = cut_there byte text place e in
    (there.0 ∙ ap (λ w. w ++ byte ∷ drop 1 (drop place text)) (sym f) ∙ ap (λ d. front ++ byte ∷ d) (sym (r ∙ ap (drop 1) b)), subst (IsFreeOf byte) (sym f) there.1)

abbrev pub left : Bool → List ℕ → List (List ℕ)
left done line = if done then [] else words_of line

-- the last word is taken
pub last_taken : (done : Bool) (line : List ℕ) (words : List (List ℕ)) → done ≡ false → left done line ≡ words → IsFreeOf 32 line → words ≡ line ∷ []
last_taken done line words f view free = sym view ∙ ap (λ d. left d line) f ∙ words_of-one line free

-- one of several words is taken
pub one_taken : (done : Bool) (line word rest : List ℕ) (words : List (List ℕ)) → done ≡ false → left done line ≡ words → (line ≡ word ++ 32 ∷ rest) × IsFreeOf 32 word → words ≡ word ∷ left done rest
one_taken done line word rest words f view parts =
    sym view ∙ ap (λ d. left d line) f ∙ ap words_of parts.0 ∙ words_of-first word rest parts.1 ∙ ap (λ d. word ∷ left d rest) (sym f)
