-- The words of a form that is read from its first factor on.
use Rattle.std.proofs.Common.{◌≡◌, ℕ, suc, ◌+◌, ◌<◌, ℤ, pos, List, [], ◌∷◌, ◌++◌, length, get_or, take, ap, ◌∙◌, sym, arith, append_assoc, true, false}
use Rattle.std.specs.Prelude.{if◌then◌else◌, decimal}
use Rattle.std.specs.Ordering.{int_eq}
use Rattle.std.proofs.lemmas.List.{take_more, length-take}
use Rattle.std.proofs.lemmas.Grind.{flat_map-append}
use Rattle.proof_text.specs.Spelling.{pair, further, form_words}

-- the words of two parts, one behind the other
pub form_words-append : (column : ℕ) (form rest : List ℤ) → form_words column (form ++ rest) ≡ form_words column form ++ form_words (column + length form) rest
form_words-append column [] rest = ap (λ k. form_words k rest) (omega arith)
form_words-append column (factor ∷ form) rest =
    let later : form_words (suc column) (form ++ rest) ≡ form_words (suc column) form ++ form_words (column + suc (length form)) rest =
    form_words-append (suc column) form rest ∙ ap (λ k. form_words (suc column) form ++ form_words k rest) (omega arith) in
    elim (int_eq factor (pos 0)) as (λ b.
    (if b then form_words (suc column) (form ++ rest) else pair (decimal column) factor ∷ form_words (suc column) (form ++ rest))
    ≡ (if b then form_words (suc column) form else pair (decimal column) factor ∷ form_words (suc column) form) ++ form_words (column + suc (length form)) rest)
    [ true ↦ later | false ↦ ap (λ words. pair (decimal column) factor ∷ words) later ]

-- one factor more
pub further-form : (text : List ℕ) (form : List ℤ) (column : ℕ) (d : ℤ) → column < length form → (text ++ further (form_words 0 (take column form))) ++ further (form_words column (get_or form column d ∷ [])) ≡ text ++ further (form_words 0 (take (column + 1) form))
further-form text form column d below =
    let more : List ℤ = get_or form column d ∷ [] in
    let place : 0 + length (take column form) ≡ column = omega (arith, length-take column form) in
    append_assoc text (further (form_words 0 (take column form))) (further (form_words column more))
    ∙ ap (λ words. text ++ words) (sym (flat_map-append (λ word. 32 ∷ word) (form_words 0 (take column form)) (form_words column more))
    ∙ ap further (ap (λ k. form_words 0 (take column form) ++ form_words k more) (sym place) ∙ sym (form_words-append 0 (take column form) more) ∙ ap (form_words 0) (sym (take_more form column d below))))
