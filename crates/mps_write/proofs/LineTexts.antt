-- The lines of a text, and the fields of a line, are those that it was made of.
use Rattle.std.proofs.Common.{◌≡◌, ℕ, zero, suc, ◌+◌, ◌-◌, ◌<◌, ◌≤◌, Bool, true, false, true≢false, cond, leb, eqb, ◌&&◌, List, [], ◌∷◌, ◌++◌, length, map, get_or, take, refl, sym, ap, ◌∙◌, append_assoc, arith}
use Rattle.std.specs.List.{list_all, AllByRecursion}
use Rattle.std.proofs.lemmas.Bool.{and_from, and_parts, leb-true, le-leb, ne_eqb, or_from}
use Rattle.std.proofs.lemmas.List.Folds.{list_all-append}
use Rattle.mps_fields.specs.Lines.{onto_first, pieces_of, without_return, lines_of, is_blank, is_blank_line}
use Rattle.mps_fields.specs.FreeFields.{Span, ends_run, onto_first_field, fields_from, free_fields}
use Rattle.mps_write.specs.CanonicalText.{data_line, in_lines}

-- ---- bytes

-- printed ASCII and the blank
abbrev pub is_text_byte : ℕ → Bool
is_text_byte byte = leb 32 byte && leb byte 126

-- printed ASCII without the blank
abbrev pub is_field_byte : ℕ → Bool
is_field_byte byte = leb 33 byte && leb byte 126

no_text : (byte other : ℕ) → is_text_byte byte ≡ true → other < 32 → eqb byte other ≡ false
no_text byte other h low = ne_eqb byte other (λ same. absurd (omega (arith, leb-true 32 byte (and_parts (leb 32 byte) (leb byte 126) h).0, same, low)))

-- ---- the lines of a text

pieces-line : (line rest : List ℕ) → list_all is_text_byte line ≡ true → pieces_of (line ++ 10 ∷ rest) ≡ line ∷ pieces_of rest
unfolding pieces_of
pieces-line [] rest h = refl
pieces-line (byte ∷ line) rest h =
    let both = and_parts (is_text_byte byte) (list_all is_text_byte line) h in
    ap (λ b. cond b ([] ∷ pieces_of (line ++ 10 ∷ rest)) (onto_first byte (pieces_of (line ++ 10 ∷ rest)))) (no_text byte 10 both.0 (omega arith))
    ∙ ap (onto_first byte) (pieces-line line rest both.1)

-- no byte of a text line, nor 0, is a carriage return
byte_at : (line : List ℕ) (k : ℕ) → list_all is_text_byte line ≡ true → eqb (get_or line k 0) 13 ≡ false
byte_at [] k h = refl
byte_at (byte ∷ line) zero h = no_text byte 13 (and_parts (is_text_byte byte) (list_all is_text_byte line) h).0 (omega arith)
byte_at (byte ∷ line) (suc k) h = byte_at line k (and_parts (is_text_byte byte) (list_all is_text_byte line) h).1

no_return : (line : List ℕ) → list_all is_text_byte line ≡ true → without_return line ≡ line
no_return line h = ap (λ b. cond b (take (length line - 1) line) line) (byte_at line (length line - 1) h)

-- the lines of a text are those that it was made of
pub lines_of-in_lines : (lines : List (List ℕ)) → AllByRecursion (λ line. list_all is_text_byte line ≡ true) lines → lines_of (in_lines lines) ≡ lines
unfolding pieces_of
lines_of-in_lines [] h = refl
lines_of-in_lines (line ∷ lines) h =
    ap (λ text. lines_of text) (append_assoc line (10 ∷ []) (in_lines lines))
    ∙ ap (map without_return) (pieces-line line (in_lines lines) h.0)
    ∙ ap (λ first. first ∷ lines_of (in_lines lines)) (no_return line h.0)
    ∙ ap (λ rest. line ∷ rest) (lines_of-in_lines lines h.1)

-- ---- the fields of a line

-- at least one byte, all printed
abbrev pub is_field : List ℕ → Bool
is_field [] = false
is_field (byte ∷ bytes) = list_all is_field_byte (byte ∷ bytes)

abbrev texts_from : ℕ → List ℕ → List (List ℕ)
texts_from place bytes = map (λ (field : Span). field.text) (fields_from place bytes)

no_blank : (byte : ℕ) → is_field_byte byte ≡ true → is_blank byte ≡ false
no_blank byte h =
    let low : 33 ≤ byte = leb-true 33 byte (and_parts (leb 33 byte) (leb byte 126) h).0 in
    or_from (eqb byte 32) (eqb byte 9) (ne_eqb byte 32 (λ same. absurd (omega (arith, low, same)))) (ne_eqb byte 9 (λ same. absurd (omega (arith, low, same))))

onto_texts : (place byte : ℕ) (fields : List Span) (word : List ℕ) (words : List (List ℕ)) → map (λ (field : Span). field.text) fields ≡ word ∷ words
    → map (λ (field : Span). field.text) (onto_first_field place byte fields) ≡ (byte ∷ word) ∷ words
onto_texts place byte [] word words e = cc
onto_texts place byte (field ∷ fields) word words e = cc

-- a field in front, behind which the run ends
field-first : (place byte : ℕ) (bytes rest : List ℕ) (words : List (List ℕ)) → list_all is_field_byte (byte ∷ bytes) ≡ true → ends_run rest ≡ true
    → ((p : ℕ) → texts_from p rest ≡ words) → texts_from place (byte ∷ (bytes ++ rest)) ≡ (byte ∷ bytes) ∷ words
unfolding fields_from
field-first place byte [] rest words h ends then =
    let here = no_blank byte (and_parts (is_field_byte byte) true h).0 in
    rw (here, ends) (ap (λ ws. (byte ∷ []) ∷ ws) (then (place + 1)))
field-first place byte (next ∷ bytes) rest words h ends then =
    let both = and_parts (is_field_byte byte) (list_all is_field_byte (next ∷ bytes)) h in
    let here = no_blank byte both.0 in
    let there = no_blank next (and_parts (is_field_byte next) (list_all is_field_byte bytes) both.1).0 in
    let behind = fields_from (place + 1) (next ∷ (bytes ++ rest)) in
    let alone : List Span = (record { at = place; text = byte ∷ [] }) ∷ behind in
    ap (λ b. map (λ (field : Span). field.text) (cond b behind (cond (is_blank next) alone (onto_first_field place byte behind)))) here
    ∙ ap (λ b. map (λ (field : Span). field.text) (cond b alone (onto_first_field place byte behind))) there
    ∙ onto_texts place byte behind (next ∷ bytes) words (field-first (place + 1) next bytes rest words both.1 ends then)

data_line-ends : (fields : List (List ℕ)) → ends_run (data_line fields) ≡ true
data_line-ends [] = refl
data_line-ends (field ∷ fields) = refl

fields-from : (place : ℕ) (fields : List (List ℕ)) → AllByRecursion (λ field. is_field field ≡ true) fields → texts_from place (data_line fields) ≡ fields
unfolding fields_from
fields-from place [] h = refl
fields-from place ([] ∷ fields) h = absurd (true≢false (sym h.0))
fields-from place ((byte ∷ bytes) ∷ fields) h =
    field-first (place + 1) byte bytes (data_line fields) fields h.0 (data_line-ends fields) (λ p. fields-from p fields h.1)

-- the fields of a data line are those that it was made of
pub free_texts-data_line : (fields : List (List ℕ)) → AllByRecursion (λ field. is_field field ≡ true) fields → map (λ (field : Span). field.text) (free_fields (data_line fields)) ≡ fields
free_texts-data_line fields h = fields-from 0 fields h

-- ---- the kind of a data line

field_text : (byte : ℕ) → is_field_byte byte ≡ true → is_text_byte byte ≡ true
field_text byte h =
    let both = and_parts (leb 33 byte) (leb byte 126) h in
    and_from (leb 32 byte) (leb byte 126) (le-leb 32 byte (omega (arith, leb-true 33 byte both.0))) both.1

field_texts : (bytes : List ℕ) → list_all is_field_byte bytes ≡ true → list_all is_text_byte bytes ≡ true
field_texts [] h = refl
field_texts (byte ∷ bytes) h =
    let both = and_parts (is_field_byte byte) (list_all is_field_byte bytes) h in
    and_from (is_text_byte byte) (list_all is_text_byte bytes) (field_text byte both.0) (field_texts bytes both.1)

field_bytes : (field : List ℕ) → is_field field ≡ true → list_all is_text_byte field ≡ true
field_bytes [] h = refl
field_bytes (byte ∷ bytes) h = field_texts (byte ∷ bytes) h

-- a data line is printed
pub data_line-text : (fields : List (List ℕ)) → AllByRecursion (λ field. is_field field ≡ true) fields → list_all is_text_byte (data_line fields) ≡ true
data_line-text [] h = refl
data_line-text (field ∷ fields) h =
    list_all-append is_text_byte field (data_line fields)
    ∙ and_from (list_all is_text_byte field) (list_all is_text_byte (data_line fields)) (field_bytes field h.0) (data_line-text fields h.1)

-- it is not blank
pub data_line-blank : (fields : List (List ℕ)) (field : List ℕ) → is_field field ≡ true → is_blank_line (data_line (field ∷ fields)) ≡ false
data_line-blank fields [] h = absurd (true≢false (sym h))
data_line-blank fields (byte ∷ bytes) h =
    ap (λ b. b && list_all is_blank (bytes ++ data_line fields)) (no_blank byte (and_parts (is_field_byte byte) (list_all is_field_byte bytes) h).0)
