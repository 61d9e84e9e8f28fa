-- The sections and the tables of lines, where one more line comes at their end.
use Rattle.std.proofs.Common.{◌≡◌, ℕ, Bool, true, false, true≢false, cond, not, ◌&&◌, ◌||◌, List, [], ◌∷◌, ◌++◌, Option, Some, None, refl, sym, ap, ◌∙◌}
use Rattle.std.specs.Prelude.{find, bytes_eq}
use Rattle.std.specs.Option.{option_map_or}
use Rattle.std.specs.List.{list_any, cons_option}
use Rattle.std.proofs.lemmas.Option.{same_Some}
use Rattle.std.proofs.lemmas.List.Elements.{filter-append, filter_map-append}
use Rattle.std.proofs.lemmas.List.{append-nil}
use Rattle.std.proofs.lemmas.Slice.Eq.{bytes_eq-Decides}
use Rattle.std.proofs.lemmas.Bool.{and_parts}
use Rattle.mps_fields.specs.BooleanLaws.{either}
use Rattle.mps_fields.specs.Lines.{Line, is_blank, is_comment, is_blank_line, is_section_line}
use Rattle.mps_model.specs.declared.lines.section.Section.{Section}
use Rattle.mps_model.specs.declared.lines.section.Section.TheVariants.{Name as NAME, Rows as ROWS, Columns as COLUMNS, Rhs as RHS, Ranges as RANGES, Bounds as BOUNDS, Endata as ENDATA}
use Rattle.mps_model.specs.Sections.{word_of, word_at, all_sections, begins, section_at, is_content, content}
use Rattle.mps_model.specs.SectionOrder.{is_same, sections_in}
use Rattle.mps_model.specs.FirstItemLaws.{find_passes}

-- ---- which section a line begins

abbrev section_of_word : List ℕ → Option Section
section_of_word word = find (λ section. bytes_eq word (word_of section)) all_sections

word_known : (s : Section) → section_of_word (word_of s) ≡ Some s
word_known NAME = refl
word_known ROWS = refl
word_known COLUMNS = refl
word_known RHS = refl
word_known RANGES = refl
word_known BOUNDS = refl
word_known ENDATA = refl

word_found : (word : List ℕ) (s : Section) → bytes_eq word (word_of s) ≡ true → section_of_word word ≡ Some s
word_found word s h = ap section_of_word ((bytes_eq-Decides word (word_of s)).0 h) ∙ word_known s

pub same_section : (s t : Section) → is_same s t ≡ true → s ≡ t
same_section s t h = same_Some _ _ (sym (word_known s) ∙ word_found (word_of s) t h)

pub is_same_itself : (s : Section) → is_same s s ≡ true
is_same_itself s = (bytes_eq-Decides (word_of s) (word_of s)).1 refl

abbrev section_where : Bool → List ℕ → Option Section
section_where is_section word = find (λ section. is_section && bytes_eq word (word_of section)) all_sections

pub section_none : (line : Line) → is_section_line line.bytes ≡ false → section_at line ≡ None
section_none line h = ap (λ b. section_where b (word_at line)) h

section_of_line : (line : Line) → is_section_line line.bytes ≡ true → section_at line ≡ section_of_word (word_at line)
section_of_line line h = ap (λ b. section_where b (word_at line)) h

pub begins_found : (s : Section) (line : Line) → section_at line ≡ Some s → begins s line ≡ true
begins_found s line h = find_passes (λ t. begins t line) all_sections s h

pub begins_some : (s : Section) (line : Line) → begins s line ≡ true → section_at line ≡ Some s
begins_some s line h =
    let both = and_parts (is_section_line line.bytes) (bytes_eq (word_at line) (word_of s)) h in
    section_of_line line both.0 ∙ word_found (word_at line) s both.1

pub begins_at : (s : Section) (line : Line) (at : Option Section) → section_at line ≡ at → begins s line ≡ option_map_or (is_same s) at false
begins_at s line None e =
    either (begins s line) (λ t. let some = begins_some s line t in cc) (λ f. f)
begins_at s line (Some t) e =
    either (is_same s t)
    (λ same. begins_found s line (e ∙ ap Some (sym (same_section s t same))) ∙ sym same)
    (λ other. either (begins s line)
    (λ begun. let s≡t : s ≡ t = same_Some _ _ (sym (begins_some s line begun) ∙ e) in absurd (true≢false (sym (is_same_itself s) ∙ ap (is_same s) s≡t ∙ other)))
    (λ not_begun. not_begun ∙ sym other))

-- a section line says something
section_byte : (blank star rest : Bool) → (not blank && not star) ≡ true → (not star && not (blank && rest)) ≡ true
section_byte true star rest h = absurd (true≢false (sym h))
section_byte false true rest h = absurd (true≢false (sym h))
section_byte false false rest h = refl

section_bytes : (bytes : List ℕ) → is_section_line bytes ≡ true → (not (is_comment bytes) && not (is_blank_line bytes)) ≡ true
section_bytes [] h = absurd (true≢false (sym h))
section_bytes (byte ∷ bytes) h = section_byte (is_blank byte) _ (is_blank_line bytes) h

pub section_is_content : (line : Line) → is_section_line line.bytes ≡ true → is_content line ≡ true
section_is_content line h = section_bytes line.bytes h

pub silent_begins_none : (line : Line) → is_content line ≡ false → is_section_line line.bytes ≡ false
silent_begins_none line h = either (is_section_line line.bytes) (λ t. absurd (true≢false (sym (section_is_content line t) ∙ h))) (λ f. f)

-- ---- lines with one more at the end

pub content-push : (above : List Line) (line : Line) → content (above ++ line ∷ []) ≡ content above ++ cond (is_content line) (line ∷ []) []
content-push above line = filter-append is_content above (line ∷ [])

pub content_kept : (above : List Line) (line : Line) → is_content line ≡ true → content (above ++ line ∷ []) ≡ content above ++ line ∷ []
content_kept above line h = content-push above line ∙ ap (λ b. content above ++ cond b (line ∷ []) []) h

pub content_still : (above : List Line) (line : Line) → is_content line ≡ false → content (above ++ line ∷ []) ≡ content above
content_still above line h = content-push above line ∙ ap (λ b. content above ++ cond b (line ∷ []) []) h ∙ append-nil (content above)

sections-push : (above : List Line) (line : Line) → sections_in (above ++ line ∷ []) ≡ sections_in above ++ cons_option (section_at line) []
sections-push above line = filter_map-append section_at above (line ∷ [])

pub sections_none : (above : List Line) (line : Line) → section_at line ≡ None → sections_in (above ++ line ∷ []) ≡ sections_in above
sections_none above line h = sections-push above line ∙ ap (λ o. sections_in above ++ cons_option o []) h ∙ append-nil (sections_in above)

pub sections_still : (above : List Line) (line : Line) → is_section_line line.bytes ≡ false → sections_in (above ++ line ∷ []) ≡ sections_in above
sections_still above line h = sections_none above line (section_none line h)

pub sections_more : (above : List Line) (line : Line) (s : Section) → section_at line ≡ Some s → sections_in (above ++ line ∷ []) ≡ sections_in above ++ s ∷ []
sections_more above line s h = sections-push above line ∙ ap (λ o. sections_in above ++ cons_option o []) h

-- a section is begun where it is among the sections
pub any_at : (s : Section) (line : Line) (rest : List Section) (o : Option Section) → section_at line ≡ o
    → (begins s line || list_any (is_same s) rest) ≡ list_any (is_same s) (cons_option o rest)
any_at s line rest None e = ap (λ b. b || list_any (is_same s) rest) (begins_at s line None e)
any_at s line rest (Some t) e = ap (λ b. b || list_any (is_same s) rest) (begins_at s line (Some t) e)

any_content : (s : Section) (line : Line) (rest : List Line) (sections : List Section) (b : Bool) → is_content line ≡ b
    → list_any (begins s) rest ≡ list_any (is_same s) sections
    → list_any (begins s) (cond b (line ∷ rest) rest) ≡ list_any (is_same s) (cons_option (section_at line) sections)
any_content s line rest sections true e same = ap (λ b. begins s line || b) same ∙ any_at s line sections (section_at line) refl
any_content s line rest sections false e same =
    same ∙ ap (λ o. list_any (is_same s) (cons_option o sections)) (sym (section_none line (silent_begins_none line e)))

pub begun : (s : Section) (above : List Line) → list_any (begins s) (content above) ≡ list_any (is_same s) (sections_in above)
begun s [] = refl
begun s (line ∷ above) = any_content s line (content above) (sections_in above) (is_content line) refl (begun s above)
