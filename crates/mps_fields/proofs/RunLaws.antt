-- The first run of the bytes of a line begins behind the blanks in front.
use Rattle.std.proofs.Common.{◌≡◌, ℕ, suc, ◌+◌, ◌-◌, ◌<◌, ◌≤◌, true, false, cond, not, List, [], ◌∷◌, length, take, drop, refl, sym, ap, subst, ◌∙◌, arith}
use Rattle.std.specs.List.{position_or_len}
use Rattle.std.proofs.lemmas.List.{nil_from_length, length-drop}
use Rattle.std.proofs.lemmas.List.Sums.{prefix_len-le-length}
use Rattle.mps_fields.specs.Lines.{is_blank}
use Rattle.mps_fields.specs.FreeFields.{fields_from, onto_first_field}
use Rattle.mps_fields.specs.FieldViews.{cut_span, CutsFirst}
use Rattle.mps_fields.specs.declared.runs.Cut.{Cut}
use Rattle.mps_fields.specs.BooleanLaws.{either}
use Rattle.mps_fields.specs.FrontLaws.{one_more}

-- how many blanks stand in front
abbrev pub blanks : List ℕ → ℕ
blanks bytes = position_or_len (λ byte. not (is_blank byte)) bytes

-- how many bytes of a run stand in front
abbrev pub run_end : List ℕ → ℕ
run_end bytes = position_or_len is_blank bytes

-- one more byte of a run
pub run_end-cons : (byte : ℕ) (bytes : List ℕ) → is_blank byte ≡ false → run_end (byte ∷ bytes) ≡ suc (run_end bytes)
run_end-cons byte bytes e = rw e (one_more (run_end bytes))

-- a blank ends a run
pub run_end-none : (byte : ℕ) (bytes : List ℕ) → is_blank byte ≡ true → run_end (byte ∷ bytes) ≡ 0
run_end-none byte bytes e = rw e refl

-- ---- one byte

-- a blank in front
fields_from-blank : (place byte : ℕ) (bytes : List ℕ) → is_blank byte ≡ true → fields_from place (byte ∷ bytes) ≡ fields_from (place + 1) bytes
unfolding fields_from
fields_from-blank place byte bytes t = rw t refl

-- a run of one byte
fields_from-one : (place byte next : ℕ) (bytes : List ℕ) → is_blank byte ≡ false → is_blank next ≡ true → fields_from place (byte ∷ next ∷ bytes) ≡ (record { at = place; text = byte ∷ [] }) ∷ fields_from (place + 1) (next ∷ bytes)
unfolding fields_from
fields_from-one place byte next bytes e t =
    let fields = fields_from (place + 1) (next ∷ bytes) in
    ap (λ u. cond u fields (cond (is_blank next) ((record { at = place; text = byte ∷ [] }) ∷ fields) (onto_first_field place byte fields))) e
    ∙ ap (λ u. cond u ((record { at = place; text = byte ∷ [] }) ∷ fields) (onto_first_field place byte fields)) t

-- a byte in front of a run
fields_from-more : (place byte next : ℕ) (bytes : List ℕ) → is_blank byte ≡ false → is_blank next ≡ false → fields_from place (byte ∷ next ∷ bytes) ≡ onto_first_field place byte (fields_from (place + 1) (next ∷ bytes))
unfolding fields_from
fields_from-more place byte next bytes e t =
    let fields = fields_from (place + 1) (next ∷ bytes) in
    ap (λ u. cond u fields (cond (is_blank next) ((record { at = place; text = byte ∷ [] }) ∷ fields) (onto_first_field place byte fields))) e
    ∙ ap (λ u. cond u ((record { at = place; text = byte ∷ [] }) ∷ fields) (onto_first_field place byte fields)) t

-- ---- bytes that begin with a run

-- so many bytes in front are the first run
abbrev pub RunAt : ℕ → List ℕ → ℕ → ℕ → Type 0
RunAt place bytes len end = fields_from place bytes ≡ (record { at = place; text = take len bytes }) ∷ fields_from end (drop len bytes)

-- bytes that begin with a run have it as their first field
run_at : (place byte : ℕ) (bytes : List ℕ) → is_blank byte ≡ false → RunAt place (byte ∷ bytes) (suc (run_end bytes)) (place + suc (run_end bytes))
unfolding fields_from
run_at place byte [] e = ap (λ t. cond t [] ((record { at = place; text = byte ∷ [] }) ∷ [])) e
run_at place byte (next ∷ bytes) e =
    either (is_blank next)
    (λ t. subst (λ k. RunAt place (byte ∷ next ∷ bytes) (suc k) (place + suc k)) (sym (run_end-none next bytes t)) (fields_from-one place byte next bytes e t))
    (λ t.
    let shift : place + 1 + suc (run_end bytes) ≡ place + suc (suc (run_end bytes)) = omega arith in
    subst (λ k. RunAt place (byte ∷ next ∷ bytes) (suc k) (place + suc k)) (sym (run_end-cons next bytes t))
    (fields_from-more place byte next bytes e t ∙ ap (onto_first_field place byte) (run_at (place + 1) next bytes t)
    ∙ ap (λ end. (record { at = place; text = byte ∷ next ∷ take (run_end bytes) bytes }) ∷ fields_from end (drop (run_end bytes) bytes)) shift))

-- ---- blanks in front

-- one more blank
blanks-cons : (byte : ℕ) (bytes : List ℕ) → is_blank byte ≡ true → blanks (byte ∷ bytes) ≡ suc (blanks bytes)
blanks-cons byte bytes t = rw t (one_more (blanks bytes))

-- no blank in front
blanks-none : (byte : ℕ) (bytes : List ℕ) → is_blank byte ≡ false → blanks (byte ∷ bytes) ≡ 0
blanks-none byte bytes t = rw t refl

-- the fields of a line are those behind the blanks in front
pub behind_blanks : (place : ℕ) (bytes : List ℕ) → fields_from place bytes ≡ fields_from (place + blanks bytes) (drop (blanks bytes) bytes)
unfolding fields_from
behind_blanks place [] = refl
behind_blanks place (byte ∷ bytes) =
    either (is_blank byte)
    (λ t.
    let shift : place + 1 + blanks bytes ≡ place + suc (blanks bytes) = omega arith in
    subst (λ k. fields_from place (byte ∷ bytes) ≡ fields_from (place + k) (drop k (byte ∷ bytes))) (sym (blanks-cons byte bytes t))
    (fields_from-blank place byte bytes t ∙ behind_blanks (place + 1) bytes ∙ ap (λ p. fields_from p (drop (blanks bytes) bytes)) shift))
    (λ t.
    let still : place ≡ place + 0 = omega arith in
    subst (λ k. fields_from place (byte ∷ bytes) ≡ fields_from (place + k) (drop k (byte ∷ bytes))) (sym (blanks-none byte bytes t)) (ap (λ p. fields_from p (byte ∷ bytes)) still))

-- a byte of a run stands in front, if any
abbrev pub StartsRun : List ℕ → Type 0
StartsRun [] = Unit {0}
StartsRun (byte ∷ bytes) = is_blank byte ≡ false

-- behind the blanks stands a run, or nothing
pub starts_run : (bytes : List ℕ) → StartsRun (drop (blanks bytes) bytes)
starts_run [] = tt
starts_run (byte ∷ bytes) =
    either (is_blank byte)
    (λ t. subst (λ k. StartsRun (drop k (byte ∷ bytes))) (sym (blanks-cons byte bytes t)) (starts_run bytes))
    (λ t. subst (λ k. StartsRun (drop k (byte ∷ bytes))) (sym (blanks-none byte bytes t)) t)

-- the first run and what is behind it
pub run_first : (place : ℕ) (bytes : List ℕ) → StartsRun bytes → 0 < length bytes → RunAt place bytes (run_end bytes) (place + run_end bytes) × (0 < run_end bytes)
run_first place [] starts some = absurd (omega arith)
run_first place (byte ∷ bytes) starts some =
    subst (λ k. RunAt place (byte ∷ bytes) k (place + k) × (0 < k)) (sym (run_end-cons byte bytes starts)) (run_at place byte bytes starts, omega arith)

-- ---- what the code cuts

-- blanks alone have no field
pub no_run : (place : ℕ) (bytes : List ℕ) → length (drop (blanks bytes) bytes) ≡ 0 → fields_from place bytes ≡ []
unfolding fields_from
no_run place bytes none = behind_blanks place bytes ∙ ap (fields_from (place + blanks bytes)) (nil_from_length _ none)

-- what the code cuts is the first field
pub run_cut : (place : ℕ) (bytes rest : List ℕ) (cut : Cut) → rest ≡ drop (blanks bytes) bytes → 0 < length rest → cut.at ≡ place + blanks bytes → cut.text.now ≡ take (run_end rest) rest
    → cut.rest.now ≡ drop (run_end rest) rest → cut.end ≡ cut.at + run_end rest → CutsFirst place bytes cut
run_cut place bytes rest cut behind some at text left end =
    let first = run_first cut.at rest (subst StartsRun (sym behind) (starts_run bytes)) some in
    let start : fields_from place bytes ≡ fields_from cut.at rest =
    behind_blanks place bytes ∙ ap (λ p. fields_from p (drop (blanks bytes) bytes)) (sym at) ∙ ap (fields_from cut.at) (sym behind) in
    let len : length rest ≡ length bytes - blanks bytes = ap length behind ∙ length-drop (blanks bytes) bytes in
    let len' : length cut.rest.now ≡ length rest - run_end rest = ap length left ∙ length-drop (run_end rest) rest in
    let within : run_end rest ≤ length rest = prefix_len-le-length (λ x. not (is_blank x)) rest in
    record {
      first =
          start ∙ first.0 ∙ ap (λ t. (record { at = cut.at; text = t }) ∷ fields_from (cut.at + run_end rest) (drop (run_end rest) rest)) (sym text)
          ∙ ap (λ e. cut_span cut ∷ fields_from e (drop (run_end rest) rest)) (sym end) ∙ ap (λ r. cut_span cut ∷ fields_from cut.end r) (sym left);
      within = omega arith;
      shorter = omega (arith, first.1);
    }
