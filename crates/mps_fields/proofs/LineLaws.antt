-- The first line of a text stands at its front.
use Rattle.std.proofs.Common.{◌≡◌, ℕ, ◌+◌, ◌<◌, true, false, cond, not, eqb, List, [], ◌∷◌, length, take, drop, map, refl, sym, ap, ◌∙◌, arith}
use Rattle.std.specs.List.{position_or_len}
use Rattle.std.proofs.lemmas.List.{nil_from_length}
use Rattle.mps_fields.specs.Lines.{pieces_of, onto_first, lines_of, without_return, numbered}
use Rattle.mps_fields.specs.FrontLaws.{one_more}

-- where the first piece ends
abbrev piece_end : List ℕ → ℕ
piece_end text = position_or_len (λ byte. eqb byte 10) text

-- these are the pieces of a text that is cut behind so many bytes
abbrev IsCut : List ℕ → List (List ℕ) → ℕ → Type 0
IsCut text pieces len = pieces ≡ take len text ∷ pieces_of (drop 1 (drop len text))

-- the first piece ends at the first line feed
pub first_piece : (text : List ℕ) → 0 < length text → pieces_of text ≡ take (piece_end text) text ∷ pieces_of (drop 1 (drop (piece_end text) text))
unfolding pieces_of
first_piece [] h = absurd (omega arith)
first_piece (byte ∷ []) h =
    elim (eqb byte 10) as (λ t. IsCut (byte ∷ []) (cond t ([] ∷ pieces_of []) (onto_first byte (pieces_of []))) (cond (not t) (1 + piece_end []) 0))
    [ true ↦ refl | false ↦ refl ]
first_piece (byte ∷ next ∷ bytes) h =
    let rest = first_piece (next ∷ bytes) (omega arith) in
    let longer : IsCut (byte ∷ next ∷ bytes) (onto_first byte (pieces_of (next ∷ bytes))) (1 + piece_end (next ∷ bytes)) =
    rw one_more (ap (onto_first byte) rest) in
    elim (eqb byte 10) as (λ t. IsCut (byte ∷ next ∷ bytes) (cond t ([] ∷ pieces_of (next ∷ bytes)) (onto_first byte (pieces_of (next ∷ bytes)))) (cond (not t) (1 + piece_end (next ∷ bytes)) 0))
    [ true ↦ refl | false ↦ longer ]

-- where no line feed is left, the piece is all of the text
pub last_piece : (text : List ℕ) → 0 < length text → length (drop (piece_end text) text) ≡ 0 → pieces_of text ≡ take (piece_end text) text ∷ pieces_of (drop (piece_end text) text)
last_piece text h none =
    let nothing : drop (piece_end text) text ≡ [] = nil_from_length _ none in
    first_piece text h ∙ ap (λ rest. take (piece_end text) text ∷ pieces_of rest) (ap (drop 1) nothing ∙ sym nothing)

-- an empty text has no lines
pub none_left : (number : ℕ) (text : List ℕ) → length text ≡ 0 → numbered number (lines_of text) ≡ []
unfolding numbered pieces_of
none_left number text e = ap (λ t. numbered number (lines_of t)) (nil_from_length text e)

-- the first line, and the lines of the rest
pub next_line : (number : ℕ) (text piece rest bytes : List ℕ) → pieces_of text ≡ piece ∷ pieces_of rest → bytes ≡ without_return piece
    → numbered number (lines_of text) ≡ (record { bytes = bytes; number = number }) ∷ numbered (number + 1) (lines_of rest)
unfolding numbered
next_line number text piece rest bytes e b =
    ap (λ pieces. numbered number (map without_return pieces)) e
    ∙ ap (λ line. (record { bytes = line; number = number }) ∷ numbered (number + 1) (lines_of rest)) (sym b)
