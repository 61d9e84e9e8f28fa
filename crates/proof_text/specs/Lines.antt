-- The lines of a text: what stands between its line feeds.
use Rattle.std.proofs.Common.{◌≡◌, ◌≢◌, ℕ, ◌≤◌, Bool, false, List, [], ◌∷◌, ◌++◌, length, All, refl, sym, ap, ◌∙◌, append-nil, append_assoc, ne_eqb, arith}
use Rattle.std.specs.Prelude.{◌==◌}
use Rattle.std.specs.List.{slice_split, join_with_byte}
use Rattle.std.proofs.lemmas.List.{length-append}
use Rattle.std.proofs.lemmas.List.Elements.{All-head, All-tail, All-weaker}
use Rattle.std.proofs.lemmas.List.Splits.{slice_split_none, slice_split_at, join_with_byte-slice_split}
use Rattle.proof_text.specs.Spelling.{in_lines}
use Rattle.proof_text.specs.Words.{IsFreeOf}

-- a line feed is the byte 10
abbrev pub is_line_feed : ℕ → Bool
is_line_feed byte = byte == 10

-- bytes without a line feed
abbrev pub IsOneLine : List ℕ → Type 0
IsOneLine text = IsFreeOf 10 text

-- a text with n line feeds has n + 1 parts: its n lines, and what stands behind them
abbrev pub parts_of : List ℕ → List (List ℕ)
parts_of text = slice_split is_line_feed text

no_feed : (line : List ℕ) → IsOneLine line → All (λ byte. is_line_feed byte ≡ false) line
no_feed line h = All-weaker (λ byte. byte ≢ 10) (λ byte. is_line_feed byte ≡ false) (λ byte other. ne_eqb byte 10 other) line h

-- a text without a line feed is one part
pub parts_of-one : (text : List ℕ) → IsOneLine text → parts_of text ≡ text ∷ []
parts_of-one text h = slice_split_none is_line_feed text (no_feed text h)

-- the first line ends at the first line feed
pub parts_of-first : (line rest : List ℕ) → IsOneLine line → parts_of (line ++ 10 ∷ rest) ≡ line ∷ parts_of rest
parts_of-first line rest h = slice_split_at is_line_feed line 10 rest (no_feed line h) refl

-- the parts of lines, and of nothing behind them
pub parts_of-lines : (lines : List (List ℕ)) → All IsOneLine lines → parts_of (in_lines lines) ≡ lines ++ [] ∷ []
parts_of-lines [] h = refl
parts_of-lines (line ∷ lines) h =
    ap parts_of (append_assoc line (10 ∷ []) (in_lines lines)) ∙ parts_of-first line (in_lines lines) (All-head IsOneLine line lines h) ∙ ap (λ rest. line ∷ rest) (parts_of-lines lines (All-tail IsOneLine line lines h))

joined : (lines : List (List ℕ)) → join_with_byte 10 (lines ++ [] ∷ []) ≡ in_lines lines
joined [] = refl
joined (line ∷ []) = sym (append-nil (line ++ 10 ∷ []))
joined (line ∷ next ∷ lines) = ap (λ rest. line ++ 10 ∷ rest) (joined (next ∷ lines)) ∙ sym (append_assoc line (10 ∷ []) (in_lines (next ∷ lines)))

-- a text with nothing behind its lines is these lines
pub in_lines-parts : (text : List ℕ) (lines : List (List ℕ)) → parts_of text ≡ lines ++ [] ∷ [] → text ≡ in_lines lines
in_lines-parts text lines e = sym (join_with_byte-slice_split 10 text) ∙ ap (join_with_byte 10) e ∙ joined lines

-- lines are no more than their bytes
pub few_lines : (lines : List (List ℕ)) → length lines ≤ length (in_lines lines)
few_lines [] = omega arith
few_lines (line ∷ lines) = omega (arith, few_lines lines, length-append (line ++ 10 ∷ []) (in_lines lines), length-append line (10 ∷ []))

cut_last : (lines others : List (List ℕ)) (last : List ℕ) → lines ++ last ∷ [] ≡ others ++ last ∷ [] → lines ≡ others
cut_last [] [] last e = refl
cut_last [] (o ∷ others) last e = absurd (omega (arith, ap length e, length-append others (last ∷ [])))
cut_last (l ∷ lines) [] last e = absurd (omega (arith, ap length e, length-append lines (last ∷ [])))
cut_last (l ∷ lines) (o ∷ others) last e =
    let head : l ≡ o = cc in
    let tail : lines ++ last ∷ [] ≡ others ++ last ∷ [] = cc in
    ap (λ x. x ∷ lines) head ∙ ap (λ r. o ∷ r) (cut_last lines others last tail)

-- two lists of lines that make one text are the same
pub same_lines : (lines others : List (List ℕ)) → All IsOneLine lines → All IsOneLine others → in_lines lines ≡ in_lines others → lines ≡ others
same_lines lines others h k e = cut_last lines others [] (sym (parts_of-lines lines h) ∙ ap parts_of e ∙ parts_of-lines others k)
