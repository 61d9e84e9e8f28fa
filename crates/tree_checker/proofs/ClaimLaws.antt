-- What is read of a claim is what it spells.
use Rattle.std.proofs.Common.{◌≡◌, ◌≢◌, ℕ, ◌+◌, ◌^◌, ◌<◌, ◌≤◌, ℤ, pos, neg_ℤ, List, [], ◌∷◌, ◌++◌, length, take, set, map, All, codes, sym, ap, subst, ◌∙◌, arith, ⊎_elim}
use Rattle.std.specs.Fmt.{signed_decimal}
use Rattle.std.proofs.lemmas.List.{map-append, append_assoc, take_more_set, length-set}
use Rattle.std.proofs.lemmas.List.Elements.{All-nil, All-cons, All-head, All-tail, All-push, All-weaker}
use Rattle.whole_rows.specs.WholeRows.{WholeRows, IsWithinLimits, Meets}
use Rattle.proof_tree.specs.Trees.{IsOfSize}
use Rattle.proof_text.specs.declared.claim.Claim.TheVariants as claims
use Rattle.proof_text.specs.Spelling.{in_words}
use Rattle.proof_text.specs.Words.{IsWord}
use Rattle.proof_text.specs.OneReading.{values_words, same_values, point_words}
use Rattle.proof_text.specs.Shapes.{IsDigit, IsDigitsWord, IsNumberWord}
use Rattle.proof_text.specs.Items.{SpellsBetween}
use Rattle.tree_checker.specs.Faults.{SpellsPoint}
use Rattle.tree_checker.specs.Claims.{AreNumbers}
use Rattle.tree_checker.specs.Written.{claim_printable}

abbrev IsSmall : ℤ → Type 0
IsSmall z = IsOfSize (2 ^ 96) z

-- the numbers in front are what was read, and the words that are left are behind them
pub record IsPartOfPoint (whole rest : List (List ℕ)) (point : List ℤ) (filled : ℕ) : Type 0 where
  pub within : filled ≤ length point
  pub read : whole ≡ map signed_decimal (take filled point) ++ rest
  pub sized : All (IsOfSize (2 ^ 96)) (take filled point)

-- a word among spelled numbers spells one of them
one_of : (front : List (List ℕ)) (word : List ℕ) (rest : List (List ℕ)) (x : List ℤ) → front ++ word ∷ rest ≡ map signed_decimal x → All IsSmall x → (z : ℤ) × (word ≡ signed_decimal z) × IsSmall z
one_of [] word rest [] e sized = absurd cc
one_of [] word rest (z ∷ x) e sized = (z, cc, All-head IsSmall z x sized)
one_of (first ∷ front) word rest [] e sized = absurd cc
one_of (first ∷ front) word rest (z ∷ x) e sized =
    let later : front ++ word ∷ rest ≡ map signed_decimal x = cc in
    one_of front word rest x later (All-tail IsSmall z x sized)

-- a word that spells no number stands in no point
pub unread : (whole old rest : List (List ℕ)) (word : List ℕ) (point : List ℤ) (filled : ℕ) → IsPartOfPoint whole old point filled → old ≡ word ∷ rest → ((number : ℤ) → SpellsBetween (neg_ℤ (pos (2 ^ 96))) (pos (2 ^ 96)) word number → ⊥)
    → (x : List ℤ) → AreNumbers whole x → ⊥
unread whole old rest word point filled part left none x are =
    let one = one_of (map signed_decimal (take filled point)) word rest x (ap (λ words. map signed_decimal (take filled point) ++ words) (sym left) ∙ sym part.read ∙ are.0) are.1 in
    none one.0 (one.1, one.2.0, one.2.1)

-- one number more
pub more : (whole old rest : List (List ℕ)) (word : List ℕ) (point : List ℤ) (filled : ℕ) (number : ℤ) → IsPartOfPoint whole old point filled → old ≡ word ∷ rest → filled < length point → SpellsBetween (neg_ℤ (pos (2 ^ 96))) (pos (2 ^ 96)) word number
    → IsPartOfPoint whole rest (set point filled number) (filled + 1)
more whole old rest word point filled number part left room spells =
    let front : take (filled + 1) (set point filled number) ≡ take filled point ++ number ∷ [] = take_more_set point filled number room in
    record {
      within = omega (arith, room, length-set point filled number);
      read =
          part.read
          ∙ ap (λ words. map signed_decimal (take filled point) ++ words) (left ∙ ap (λ w. w ∷ rest) spells.0)
          ∙ sym (append_assoc (map signed_decimal (take filled point)) (signed_decimal number ∷ []) rest)
          ∙ ap (λ words. words ++ rest) (sym (map-append signed_decimal (take filled point) (number ∷ [])) ∙ ap (map signed_decimal) (sym front));
      sized = subst (All IsSmall) (sym front) (All-push IsSmall (take filled point) number part.sized (spells.1, spells.2));
    }

-- ---- words of digits

digits_word : (word : List ℕ) → IsDigitsWord word → IsWord word
digits_word [] h = absurd h
digits_word (first ∷ digits) h = All-cons (λ byte. byte ≢ 32) first digits (λ e. omega (arith, h.0, e)) (All-weaker IsDigit (λ byte. byte ≢ 32) (λ byte d e. omega (arith, d.0, e)) digits h.2)

number_word : (word : List ℕ) → IsNumberWord word → IsWord word
number_word word h = ⊎_elim
    (λ (none : word ≡ 48 ∷ []). subst IsWord (sym none) (All-cons (λ byte. byte ≢ 32) 48 [] (λ e. omega arith) (All-nil (λ byte. byte ≢ 32))))
    (λ h. ⊎_elim (digits_word word) (λ (digits, spelled, is). subst IsWord (sym spelled) (All-cons (λ byte. byte ≢ 32) 45 digits (λ e. omega arith) (digits_word digits is))) h)
    h

number_words : (words : List (List ℕ)) → All IsNumberWord words → All IsWord words
number_words words h = All-weaker IsNumberWord IsWord number_word words h

-- ---- the point of a line

module _ (rows : WholeRows) (limits : IsWithinLimits rows) (text : List ℕ) (words : List (List ℕ)) (spelled : text ≡ in_words (codes "OPTIMAL" ∷ words)) (are : All IsNumberWord words) where
  -- a point with this line has these words
  of_point : (x : List ℤ) → SpellsPoint text x → Meets rows x → (length x ≡ length rows.box) × AreNumbers words x
  of_point x spells meets =
      let printable = claim_printable rows (claims.Optimal x) limits meets in
      let words_same : words ≡ map signed_decimal x = point_words words (map signed_decimal x) (number_words words are) (values_words x printable.1) (sym spelled ∙ spells) in
      (printable.0, (words_same, printable.1))

  pub no_numbers : (columns : ℕ) → columns ≡ length rows.box → ((x : List ℤ) → length x ≡ columns → AreNumbers words x → ⊥) → (x : List ℤ) → SpellsPoint text x → Meets rows x → ⊥
  no_numbers columns dense none x spells meets = let of = of_point x spells meets in none x (of.0 ∙ sym dense) of.1

  pub no_point : (point : List ℤ) → AreNumbers words point → (Meets rows point → ⊥) → (x : List ℤ) → SpellsPoint text x → Meets rows x → ⊥
  no_point point numbers none x spells meets =
      let of = of_point x spells meets in
      none (subst (Meets rows) (same_values x point of.1.1 numbers.1 (sym of.1.0 ∙ numbers.0)) meets)
