-- A line is taken off what is left of a text.
use Rattle.std.proofs.Common.{◌≡◌, ℕ, Bool, false, List, [], ◌∷◌, ◌++◌, sym, ap, ◌∙◌}
use Rattle.std.specs.Prelude.{if◌then◌else◌}
use Rattle.proof_text.specs.Lines.{IsOneLine, parts_of, parts_of-one, parts_of-first}

abbrev pub left : Bool → List ℕ → List (List ℕ)
left done text = if done then [] else parts_of text

-- the last part is taken
pub last_taken : (done : Bool) (text : List ℕ) (parts : List (List ℕ)) → done ≡ false → left done text ≡ parts → IsOneLine text → parts ≡ text ∷ []
last_taken done text parts f view free = sym view ∙ ap (λ d. left d text) f ∙ parts_of-one text free

-- a line is taken
pub one_taken : (done : Bool) (text line rest : List ℕ) (parts : List (List ℕ)) → done ≡ false → left done text ≡ parts → (text ≡ line ++ 10 ∷ rest) × IsOneLine line → parts ≡ line ∷ left done rest
one_taken done text line rest parts f view cut =
    sym view ∙ ap (λ d. left d text) f ∙ ap parts_of cut.0 ∙ parts_of-first line rest cut.1 ∙ ap (λ d. line ∷ left d rest) (sym f)
