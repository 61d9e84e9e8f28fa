-- The fields of a line in free form are its fields in fixed form that are there, in order.
use Rattle.std.proofs.Common.{◌≡◌, ℕ, zero, suc, ◌+◌, ◌-◌, Bool, true, false, not, cond, List, [], ◌∷◌, ◌++◌, length, take, drop, reverse, map, Option, Some, None, refl, sym, ap, ◌∙◌, append_assoc, true≢false}
use Rattle.std.specs.Prelude.{option_map, slice_get, filter_map}
use Rattle.std.specs.List.{list_all, prefix_len, suffix_len, cons_option}
use Rattle.std.proofs.lemmas.Bool.{not-true, and_parts, and_from}
use Rattle.std.proofs.lemmas.List.{take-append-drop, length-drop, length-reverse, reverse-append, reverse-reverse, append-nil}
use Rattle.std.proofs.lemmas.List.Folds.{list_all-append}
use Rattle.std.proofs.Math.Seq.{take-append_seam}
use Rattle.mps_fields.specs.Lines.{is_blank, is_blank_line}
use Rattle.mps_fields.specs.FreeFields.{Span, ends_run, onto_first_field, fields_from}
use Rattle.mps_fields.specs.FixedFields.{is_space, trimmed, without_end, gaps, is_free_at, is_in_columns}
use Rattle.mps_fields.specs.BooleanLaws.{either}
use Rattle.mps_fields.specs.FrontLaws.{front-all}
use Rattle.std.proofs.lemmas.List.{drop-drop}
use Rattle.mps_model.specs.Sections.{free_texts}
use Rattle.mps_model.specs.SixFields.{Fields, fixed_texts}
use Rattle.mps_model.specs.FixedAsFree.{has_no_blank}

-- ---- the texts of free fields, without their places

onto_word : ℕ → List (List ℕ) → List (List ℕ)
onto_word byte [] = []
onto_word byte (word ∷ words) = (byte ∷ word) ∷ words

-- the texts of the fields, by the recursion that finds the fields
words_of : List ℕ → List (List ℕ)
words_of [] = []
words_of (byte ∷ bytes) = cond (is_blank byte) (words_of bytes) (cond (ends_run bytes) ((byte ∷ []) ∷ words_of bytes) (onto_word byte (words_of bytes)))

-- the texts of fields
abbrev texts : List Span → List (List ℕ)
texts fields = map (λ field. field.text) fields

texts-onto : (place byte : ℕ) (fields : List Span) → texts (onto_first_field place byte fields) ≡ onto_word byte (texts fields)
unfolding onto_word
texts-onto place byte [] = refl
texts-onto place byte (field ∷ fields) = refl

-- a choice between three lists of fields is one between their texts
texts-cond : (b c : Bool) (f g h : List Span) → texts (cond b f (cond c g h)) ≡ cond b (texts f) (cond c (texts g) (texts h))
texts-cond true c f g h = refl
texts-cond false true f g h = refl
texts-cond false false f g h = refl

texts-from : (place : ℕ) (bytes : List ℕ) → texts (fields_from place bytes) ≡ words_of bytes
unfolding fields_from words_of
texts-from place [] = refl
texts-from place (byte ∷ bytes) =
    let rest : List Span = fields_from (place + 1) bytes in
    let e : texts rest ≡ words_of bytes = texts-from (place + 1) bytes in
    texts-cond (is_blank byte) (ends_run bytes) rest ((record { at = place; text = byte ∷ [] }) ∷ rest) (onto_first_field place byte rest)
    ∙ ap (λ w. cond (is_blank byte) (texts rest) (cond (ends_run bytes) ((byte ∷ []) ∷ texts rest) w)) (texts-onto place byte rest)
    ∙ ap (λ w. cond (is_blank byte) w (cond (ends_run bytes) ((byte ∷ []) ∷ w) (onto_word byte w))) e

-- ---- what blanks and a run in front make of them

words-blank : (byte : ℕ) (bytes : List ℕ) → is_blank byte ≡ true → words_of (byte ∷ bytes) ≡ words_of bytes
unfolding words_of
words-blank byte bytes t = ap (λ b. cond b (words_of bytes) (cond (ends_run bytes) ((byte ∷ []) ∷ words_of bytes) (onto_word byte (words_of bytes)))) t

words-last : (byte : ℕ) (bytes : List ℕ) → is_blank byte ≡ false → ends_run bytes ≡ true → words_of (byte ∷ bytes) ≡ (byte ∷ []) ∷ words_of bytes
unfolding words_of
words-last byte bytes f t =
    ap (λ b. cond b (words_of bytes) (cond (ends_run bytes) ((byte ∷ []) ∷ words_of bytes) (onto_word byte (words_of bytes)))) f
    ∙ ap (λ b. cond b ((byte ∷ []) ∷ words_of bytes) (onto_word byte (words_of bytes))) t

words-more : (byte : ℕ) (bytes : List ℕ) → is_blank byte ≡ false → ends_run bytes ≡ false → words_of (byte ∷ bytes) ≡ onto_word byte (words_of bytes)
unfolding words_of
words-more byte bytes f t =
    ap (λ b. cond b (words_of bytes) (cond (ends_run bytes) ((byte ∷ []) ∷ words_of bytes) (onto_word byte (words_of bytes)))) f
    ∙ ap (λ b. cond b ((byte ∷ []) ∷ words_of bytes) (onto_word byte (words_of bytes))) t

-- blanks in front are passed over
words-front : (front rest : List ℕ) → list_all is_blank front ≡ true → words_of (front ++ rest) ≡ words_of rest
words-front [] rest h = refl
words-front (byte ∷ front) rest h =
    let both = and_parts (is_blank byte) (list_all is_blank front) h in
    words-blank byte (front ++ rest) both.0 ∙ words-front front rest both.1

-- a run in front is the first word
words-run : (byte : ℕ) (run rest : List ℕ) → list_all (λ b. not (is_blank b)) (byte ∷ run) ≡ true → ends_run rest ≡ true → words_of (byte ∷ (run ++ rest)) ≡ (byte ∷ run) ∷ words_of rest
unfolding onto_word
words-run byte [] rest h e = words-last byte rest (not-true (is_blank byte) (and_parts _ _ h).0) e
words-run byte (next ∷ run) rest h e =
    let both = and_parts (not (is_blank byte)) (list_all (λ b. not (is_blank b)) (next ∷ run)) h in
    let more = and_parts (not (is_blank next)) (list_all (λ b. not (is_blank b)) run) both.1 in
    words-more byte (next ∷ (run ++ rest)) (not-true (is_blank byte) both.0) (not-true (is_blank next) more.0)
    ∙ ap (onto_word byte) (words-run next run rest both.1 e)

-- ---- the blanks at the ends of a field's columns

all-reverse : (p : ℕ → Bool) (xs : List ℕ) → list_all p xs ≡ true → list_all p (reverse xs) ≡ true
all-reverse p [] h = refl
all-reverse p (x ∷ xs) h =
    let both = and_parts (p x) (list_all p xs) h in
    ap (list_all p) (reverse-append (x ∷ []) xs) ∙ list_all-append p (reverse xs) (x ∷ [])
    ∙ and_from (list_all p (reverse xs)) (list_all p (x ∷ [])) (all-reverse p xs both.1) (and_from (p x) true both.0 refl)

-- bytes are those without the blanks at their end, and blanks
record Ends (bytes front : List ℕ) : Type 0 where
  back : List ℕ
  joined : front ++ back ≡ bytes
  blank : list_all is_space back ≡ true

ends : (bytes : List ℕ) → Ends bytes (without_end bytes)
ends bytes =
    let n : ℕ = suffix_len is_space bytes in
    let back : List ℕ = reverse (take n (reverse bytes)) in
    let front : List ℕ = reverse (drop n (reverse bytes)) in
    let whole : front ++ back ≡ bytes =
    sym (reverse-append (take n (reverse bytes)) (drop n (reverse bytes))) ∙ ap reverse (take-append-drop n (reverse bytes)) ∙ reverse-reverse bytes in
    let size : length front ≡ length bytes - n = length-reverse (drop n (reverse bytes)) ∙ length-drop n (reverse bytes) ∙ ap (λ m. m - n) (length-reverse bytes) in
    let same : without_end bytes ≡ front =
    ap (λ m. take m bytes) (sym size) ∙ ap (take (length front)) (sym whole) ∙ take-append_seam front back in
    record {
      back = back;
      joined = ap (λ f. f ++ back) same ∙ whole;
      blank = all-reverse is_space (take n (reverse bytes)) (front-all is_space (reverse bytes));
    }

-- blanks without tabs are blanks
space-blank : (byte : ℕ) → is_space byte ≡ true → is_blank byte ≡ true
space-blank byte h = rw h refl

spaces-blank : (bytes : List ℕ) → list_all is_space bytes ≡ true → list_all is_blank bytes ≡ true
spaces-blank [] h = refl
spaces-blank (byte ∷ bytes) h =
    let both = and_parts (is_space byte) (list_all is_space bytes) h in
    and_from (is_blank byte) (list_all is_blank bytes) (space-blank byte both.0) (spaces-blank bytes both.1)

-- no run goes on into blanks, and then what ends a run
ends_run-behind : (back rest : List ℕ) → list_all is_space back ≡ true → ends_run rest ≡ true → ends_run (back ++ rest) ≡ true
ends_run-behind [] rest h e = e
ends_run-behind (byte ∷ back) rest h e = space-blank byte (and_parts (is_space byte) (list_all is_space back) h).0

-- ---- one field

-- the text of a field
abbrev text_of_field : Option Span → Option (List ℕ)
text_of_field field = option_map (λ f. f.text) field

-- a text with a byte and no blank, and blanks behind it
words-text : (text back rest : List ℕ) → (text ≡ [] → ⊥) → has_no_blank (Some text) ≡ true → list_all is_space back ≡ true → ends_run rest ≡ true → words_of ((text ++ back) ++ rest) ≡ text ∷ words_of rest
words-text [] back rest some h b e = absurd (some refl)
words-text (byte ∷ run) back rest some h b e =
    ap (λ r. words_of (byte ∷ r)) (append_assoc run back rest)
    ∙ words-run byte run (back ++ rest) h (ends_run-behind back rest b e)
    ∙ ap (λ w. (byte ∷ run) ∷ w) (words-front back rest (spaces-blank back b))

-- columns that are not all blank have a text
some_text : (lead bytes text back : List ℕ) → lead ++ (text ++ back) ≡ bytes → list_all is_space lead ≡ true → list_all is_space back ≡ true → list_all is_space bytes ≡ false → text ≡ [] → ⊥
some_text lead bytes text back joined l b f none =
    let same : lead ++ back ≡ bytes = ap (λ t. lead ++ (t ++ back)) (sym none) ∙ joined in
    true≢false (sym (ap (list_all is_space) (sym same) ∙ list_all-append is_space lead back ∙ and_from (list_all is_space lead) (list_all is_space back) l b) ∙ f)

-- the columns of a field, and what ends a run behind them
words-field : (place : ℕ) (bytes rest : List ℕ) → has_no_blank (text_of_field (trimmed place bytes)) ≡ true → ends_run rest ≡ true
    → words_of (bytes ++ rest) ≡ cons_option (text_of_field (trimmed place bytes)) (words_of rest)
words-field place bytes rest h e =
    let n : ℕ = prefix_len is_space bytes in
    let lead : List ℕ = take n bytes in
    let left : List ℕ = drop n bytes in
    let text : List ℕ = without_end left in
    let found : Span = record { at = place + n; text = text } in
    let cut : Ends left text = ends left in
    let joined : lead ++ (text ++ cut.back) ≡ bytes = ap (λ r. lead ++ r) cut.joined ∙ take-append-drop n bytes in
    let spaces : list_all is_space lead ≡ true = front-all is_space bytes in
    either (list_all is_space bytes)
    (λ t. words-front bytes rest (spaces-blank bytes t) ∙ sym (ap (λ b. cons_option (text_of_field (cond b None (Some found))) (words_of rest)) t))
    (λ f.
    let some : text ≡ [] → ⊥ = some_text lead bytes text cut.back joined spaces cut.blank f in
    let no_blank : has_no_blank (Some text) ≡ true = sym (ap (λ b. has_no_blank (text_of_field (cond b None (Some found)))) f) ∙ h in
    ap (λ b. words_of (b ++ rest)) (sym joined) ∙ ap words_of (append_assoc lead (text ++ cut.back) rest)
    ∙ words-front lead ((text ++ cut.back) ++ rest) (spaces-blank lead spaces)
    ∙ words-text text cut.back rest some no_blank cut.blank e
    ∙ sym (ap (λ b. cons_option (text_of_field (cond b None (Some found))) (words_of rest)) f))

-- ---- the columns of a line, one after another

-- a field's columns
step-field : (n w : ℕ) (line : List ℕ) {rest : List (List ℕ)} → has_no_blank (text_of_field (trimmed n (take w (drop n line)))) ≡ true → ends_run (drop (n + w) line) ≡ true
    → words_of (drop (n + w) line) ≡ rest → words_of (drop n line) ≡ cons_option (text_of_field (trimmed n (take w (drop n line)))) rest
step-field n w line h e next =
    let left : drop w (drop n line) ≡ drop (n + w) line = drop-drop w n line in
    ap words_of (sym (ap (λ r. take w (drop n line) ++ r) (sym left) ∙ take-append-drop w (drop n line)))
    ∙ words-field n (take w (drop n line)) (drop (n + w) line) h e ∙ ap (cons_option (text_of_field (trimmed n (take w (drop n line))))) next

-- a column between fields
step-gap : (n : ℕ) (line : List ℕ) {rest : List (List ℕ)} → list_all is_space (take 1 (drop n line)) ≡ true → words_of (drop (n + 1) line) ≡ rest → words_of (drop n line) ≡ rest
step-gap n line h next =
    let left : drop 1 (drop n line) ≡ drop (n + 1) line = drop-drop 1 n line in
    ap words_of (sym (ap (λ r. take 1 (drop n line) ++ r) (sym left) ∙ take-append-drop 1 (drop n line)))
    ∙ words-front (take 1 (drop n line)) (drop (n + 1) line) (spaces-blank (take 1 (drop n line)) h) ∙ next

-- a run ends before a column between fields
gap-ends : (bytes : List ℕ) → list_all is_space (take 1 bytes) ≡ true → ends_run bytes ≡ true
gap-ends [] h = refl
gap-ends (byte ∷ bytes) h = space-blank byte (and_parts (is_space byte) true h).0

blank-ends : (bytes : List ℕ) → is_blank_line bytes ≡ true → ends_run bytes ≡ true
blank-ends [] h = refl
blank-ends (byte ∷ bytes) h = (and_parts (is_blank byte) (list_all is_blank bytes) h).0

words-none : (bytes : List ℕ) → is_blank_line bytes ≡ true → words_of bytes ≡ []
unfolding words_of
words-none bytes h = ap words_of (sym (append-nil bytes)) ∙ words-front bytes [] h

-- what all pass, the one at a place passes
passes : {X : Type 0} (p : X → Bool) (xs : List X) (i : ℕ) (x : X) → list_all p xs ≡ true → slice_get xs i ≡ Some x → p x ≡ true
passes p [] i x h e = cc
passes p (y ∷ ys) zero x h e = let same : y ≡ x = cc in ap p (sym same) ∙ (and_parts (p y) (list_all p ys) h).0
passes p (y ∷ ys) (suc i) x h e = passes p ys i x (and_parts (p y) (list_all p ys) h).1 e

-- the fields that are there, in order
abbrev pub present : Fields → List (List ℕ)
present fields = filter_map (λ field. field) fields

pub fields_agree : (line : List ℕ) → is_in_columns line ≡ true → list_all has_no_blank (fixed_texts line) ≡ true → is_blank_line (drop 61 line) ≡ true
    → free_texts line ≡ present (fixed_texts line)
fields_agree line columns whole behind =
    let free : list_all (is_free_at line) gaps ≡ true = (and_parts _ _ columns).1 in
    let gap = λ (i column : ℕ) (there : slice_get gaps i ≡ Some column). passes (is_free_at line) gaps i column free there in
    let field = λ (i : ℕ) (text : Option (List ℕ)) (there : slice_get (fixed_texts line) i ≡ Some text). passes has_no_blank (fixed_texts line) i text whole there in
    texts-from 0 line ∙ (
    step-gap 0 line (gap 0 1 refl)
    (step-field 1 2 line (field 0 _ refl) (gap-ends (drop 3 line) (gap 1 4 refl))
    (step-gap 3 line (gap 1 4 refl)
    (step-field 4 8 line (field 1 _ refl) (gap-ends (drop 12 line) (gap 2 13 refl))
    (step-gap 12 line (gap 2 13 refl)
    (step-gap 13 line (gap 3 14 refl)
    (step-field 14 8 line (field 2 _ refl) (gap-ends (drop 22 line) (gap 4 23 refl))
    (step-gap 22 line (gap 4 23 refl)
    (step-gap 23 line (gap 5 24 refl)
    (step-field 24 12 line (field 3 _ refl) (gap-ends (drop 36 line) (gap 6 37 refl))
    (step-gap 36 line (gap 6 37 refl)
    (step-gap 37 line (gap 7 38 refl)
    (step-gap 38 line (gap 8 39 refl)
    (step-field 39 8 line (field 4 _ refl) (gap-ends (drop 47 line) (gap 9 48 refl))
    (step-gap 47 line (gap 9 48 refl)
    (step-gap 48 line (gap 10 49 refl)
    (step-field 49 12 line (field 5 _ refl) (blank-ends (drop 61 line) behind)
    (words-none (drop 61 line) behind)))))))))))))))))
    )
