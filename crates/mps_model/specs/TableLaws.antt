-- The tables of lines, where one more line comes at their end.
use Rattle.std.proofs.Common.{◌≡◌, Bool, true, false, true≢false, cond, not, ◌&&◌, ◌||◌, List, [], ◌∷◌, ◌++◌, filter_map, Option, Some, None, refl, sym, ap, ◌∙◌, append_assoc}
use Rattle.std.specs.Prelude.{option_to_list}
use Rattle.std.specs.Option.{option_map_or}
use Rattle.std.specs.List.{list_all, list_any, last_or, cons_option}
use Rattle.std.proofs.lemmas.List.Elements.{filter-append, filter_map-append}
use Rattle.std.proofs.lemmas.List.Folds.{list_all-append}
use Rattle.std.proofs.lemmas.Bool.{and_parts}
use Rattle.mps_fields.specs.Lines.{Line, is_section_line}
use Rattle.mps_model.specs.declared.layout.Layout.{Layout}
use Rattle.mps_model.specs.declared.lines.section.Section.{Section}
use Rattle.mps_model.specs.declared.lines.section.Section.TheVariants.{Name as NAME, Rows as ROWS, Columns as COLUMNS, Rhs as RHS, Ranges as RANGES, Bounds as BOUNDS, Endata as ENDATA}
use Rattle.mps_model.specs.Sections.{begins, section_at, is_content, content, table_of}
use Rattle.mps_model.specs.SectionOrder.{is_same, sections_in}
use Rattle.mps_model.specs.Tables.{RowLine, PairLine, ColumnLine, BoundLine, Tables, row_at, column_at, set_at, bound_at, tables_of}
use Rattle.mps_model.specs.AddedLines.{with_line}
use Rattle.mps_model.specs.FirstItemLaws.{last_or-push, part_of, is_open_part, part-push, part_so_far, open-push}
use Rattle.mps_model.specs.SectionLaws.{same_section, is_same_itself, begins_at, section_none, section_is_content, silent_begins_none, content_kept, content_still, sections_still, sections_more, begun}

-- ---- the section that goes on is the last one

abbrev ends : Line → Bool
ends line = is_section_line line.bytes

-- the table of a section goes on behind these lines
abbrev pub is_open : Section → List Line → Bool
is_open s lines = is_open_part (begins s) ends (content lines)

abbrev pub is_last : Section → List Section → Bool
is_last s sections = option_map_or (is_same s) (last_or None sections) false

-- the table that goes on is that of the last section, as it is where no section comes twice
pub record HasOpenLast (above : List Line) : Type 0 where
  pub each : (s : Section) → is_open s above ≡ is_last s (sections_in above)

pub open_none : HasOpenLast []
open_none = record { each = λ s. refl }

pub last_section : (above : List Line) (line : Line) (t : Section) → section_at line ≡ Some t → last_or None (sections_in (above ++ line ∷ [])) ≡ Some t
last_section above line t e = ap (last_or None) (sections_more above line t e) ∙ last_or-push None (sections_in above) t

-- a line that says nothing
pub open_silent : (above : List Line) (line : Line) → is_content line ≡ false → HasOpenLast above → HasOpenLast (above ++ line ∷ [])
open_silent above line h now = record {
  each = λ s.
      ap (is_open_part (begins s) ends) (content_still above line h) ∙ now.each s
      ∙ ap (is_last s) (sym (sections_still above line (silent_begins_none line h)));
}

not_first : (any begin end o : Bool) → begin ≡ false → end ≡ false → ((not any && begin) || (o && not end)) ≡ o
not_first any true end o e k = absurd (true≢false e)
not_first any false true o e k = absurd (true≢false k)
not_first true false false true e k = refl
not_first true false false false e k = refl
not_first false false false true e k = refl
not_first false false false false e k = refl

-- a data line
pub open_data : (above : List Line) (line : Line) → is_content line ≡ true → ends line ≡ false → HasOpenLast above → HasOpenLast (above ++ line ∷ [])
open_data above line says data_line now = record {
  each = λ s.
      ap (is_open_part (begins s) ends) (content_kept above line says)
      ∙ open-push (begins s) ends (content above) line
      ∙ not_first (list_any (begins s) (content above)) (begins s line) (ends line) (is_open s above) (begins_at s line None (section_none line data_line)) data_line
      ∙ now.each s ∙ ap (is_last s) (sym (sections_still above line data_line));
}

begins_now : (any begin end o : Bool) → end ≡ true → (begin ≡ true → any ≡ false) → ((not any && begin) || (o && not end)) ≡ begin
begins_now any begin false o e fresh = absurd (true≢false (sym e))
begins_now true true true o e fresh = absurd (true≢false (fresh refl))
begins_now false true true o e fresh = refl
begins_now true false true true e fresh = refl
begins_now true false true false e fresh = refl
begins_now false false true true e fresh = refl
begins_now false false true false e fresh = refl

-- a section line whose section comes for the first time
pub open_section : (above : List Line) (line : Line) (t : Section) → ends line ≡ true → section_at line ≡ Some t → list_any (is_same t) (sections_in above) ≡ false
    → HasOpenLast (above ++ line ∷ [])
open_section above line t end at fresh = record {
  each = λ s.
      ap (is_open_part (begins s) ends) (content_kept above line (section_is_content line end))
      ∙ open-push (begins s) ends (content above) line
      ∙ begins_now (list_any (begins s) (content above)) (begins s line) (ends line) (is_open s above) end
      (λ b.
      let same : s ≡ t = same_section s t (sym (begins_at s line (Some t) at) ∙ b) in
      begun s above ∙ ap (λ u. list_any (is_same u) (sections_in above)) same ∙ fresh)
      ∙ begins_at s line (Some t) at
      ∙ ap (λ o. option_map_or (is_same s) o false) (sym (last_section above line t at));
}

-- ---- the table of one section

pub table_silent : (s : Section) (above : List Line) (line : Line) → is_content line ≡ false → table_of s (above ++ line ∷ []) ≡ table_of s above
table_silent s above line h = ap (part_of (begins s) ends) (content_still above line h)

ended : {A : Type 0} (o end : Bool) (u v : A) → end ≡ true → cond (o && not end) u v ≡ v
ended o false u v e = absurd (true≢false (sym e))
ended true true u v e = refl
ended false true u v e = refl

pub table_section : (s : Section) (above : List Line) (line : Line) → ends line ≡ true → table_of s (above ++ line ∷ []) ≡ table_of s above
table_section s above line h =
    ap (part_of (begins s) ends) (content_kept above line (section_is_content line h))
    ∙ part-push (begins s) ends (content above) line
    ∙ ended (is_open s above) (ends line) _ _ h

goes_on : {A : Type 0} (o end last : Bool) (u v : A) → end ≡ false → o ≡ last → cond (o && not end) u v ≡ cond last u v
goes_on o true last u v e same = absurd (true≢false e)
goes_on true false true u v e same = refl
goes_on true false false u v e same = absurd (true≢false same)
goes_on false false true u v e same = absurd (true≢false (sym same))
goes_on false false false u v e same = refl

-- a data line is added to the table of the last section, and to no other
pub table_data : (s : Section) (last : Option Section) (above : List Line) (line : Line) → is_content line ≡ true → ends line ≡ false → HasOpenLast above
    → last_or None (sections_in above) ≡ last
    → table_of s (above ++ line ∷ []) ≡ cond (option_map_or (is_same s) last false) (table_of s above ++ line ∷ []) (table_of s above)
table_data s last above line says data_line now is =
    ap (part_of (begins s) ends) (content_kept above line says)
    ∙ part-push (begins s) ends (content above) line
    ∙ goes_on (is_open s above) (ends line) (option_map_or (is_same s) last false) _ _ data_line (now.each s ∙ ap (λ o. option_map_or (is_same s) o false) is)

-- what holds of a table holds of a data line that is added to it
pub table_has : (s : Section) (h : Line → Bool) (above rest : List Line) (line : Line) → is_content line ≡ true → ends line ≡ false → HasOpenLast above
    → last_or None (sections_in above) ≡ Some s → list_all h (table_of s (above ++ line ∷ rest)) ≡ true → h line ≡ true
table_has s h above rest line says data_line now is all =
    let split = ap content (sym (append_assoc above (line ∷ []) rest)) ∙ filter-append is_content (above ++ line ∷ []) rest in
    let so_far = part_so_far (begins s) ends h (content (above ++ line ∷ [])) (content rest) (sym (ap (λ lines. list_all h (part_of (begins s) ends lines)) split) ∙ all) in
    let added = table_data s (Some s) above line says data_line now is ∙ ap (λ b. cond b (table_of s above ++ line ∷ []) (table_of s above)) (is_same_itself s) in
    let both = and_parts (list_all h (table_of s above)) (h line && true) (sym (ap (list_all h) added ∙ list_all-append h (table_of s above) (line ∷ [])) ∙ so_far) in
    (and_parts (h line) true both.1).0

-- ---- all tables

same_tables : {r s : List RowLine} {c d : List ColumnLine} {e f g h : List PairLine} {b k : List BoundLine} → r ≡ s → c ≡ d → e ≡ f → g ≡ h → b ≡ k
    → ◌≡◌ {A = Tables} (record { rows = r; columns = c; sides = e; ranges = g; bounds = b }) (record { rows = s; columns = d; sides = f; ranges = h; bounds = k })
same_tables p q u v w = cc

-- tables that stay, one by one
stay : (layout : Layout) (before after : List Line) → ((s : Section) → table_of s after ≡ table_of s before) → tables_of layout after ≡ tables_of layout before
stay layout before after same =
    same_tables (ap (filter_map (row_at layout)) (same ROWS)) (ap (filter_map (column_at layout)) (same COLUMNS))
    (ap (filter_map (set_at layout)) (same RHS)) (ap (filter_map (set_at layout)) (same RANGES)) (ap (filter_map (bound_at layout)) (same BOUNDS))

-- a line that says nothing, and a section line, leave the tables as they are
pub tables_silent : (layout : Layout) (above : List Line) (line : Line) → is_content line ≡ false → tables_of layout (above ++ line ∷ []) ≡ tables_of layout above
tables_silent layout above line h = stay layout above (above ++ line ∷ []) (λ s. table_silent s above line h)

pub tables_section : (layout : Layout) (above : List Line) (line : Line) → is_section_line line.bytes ≡ true → tables_of layout (above ++ line ∷ []) ≡ tables_of layout above
tables_section layout above line h = stay layout above (above ++ line ∷ []) (λ s. table_section s above line h)

listed : {A : Type 0} (o : Option A) → cons_option o [] ≡ option_to_list o
listed None = refl
listed (Some x) = refl

chosen_map : {A B : Type 0} (f : List A → List B) (b : Bool) (xs ys : List A) (zs : List B) → f xs ≡ zs → f (cond b xs ys) ≡ cond b zs (f ys)
chosen_map f true xs ys zs e = e
chosen_map f false xs ys zs e = refl

-- a data line is added to the table of the last section alone
module _ (layout : Layout) (above : List Line) (line : Line) (says : is_content line ≡ true) (data_line : is_section_line line.bytes ≡ false) (now : HasOpenLast above) where
  -- what the lines of a section say, with this one where that section is the last
  said_more : {A : Type 0} (s : Section) (say : Line → Option A) (last : Option Section) → last_or None (sections_in above) ≡ last
      → filter_map say (table_of s (above ++ line ∷ []))
      ≡ cond (option_map_or (is_same s) last false) (filter_map say (table_of s above) ++ option_to_list (say line)) (filter_map say (table_of s above))
  said_more s say last is =
      ap (filter_map say) (table_data s last above line says data_line now is)
      ∙ chosen_map (filter_map say) (option_map_or (is_same s) last false) (table_of s above ++ line ∷ []) (table_of s above) _
      (filter_map-append say (table_of s above) (line ∷ []) ∙ ap (λ l. filter_map say (table_of s above) ++ l) (listed (say line)))

  all_said : (last : Option Section) → last_or None (sections_in above) ≡ last → tables_of layout (above ++ line ∷ []) ≡ record {
    rows = cond (option_map_or (is_same ROWS) last false) ((tables_of layout above).rows ++ option_to_list (row_at layout line)) (tables_of layout above).rows;
    columns = cond (option_map_or (is_same COLUMNS) last false) ((tables_of layout above).columns ++ option_to_list (column_at layout line)) (tables_of layout above).columns;
    sides = cond (option_map_or (is_same RHS) last false) ((tables_of layout above).sides ++ option_to_list (set_at layout line)) (tables_of layout above).sides;
    ranges = cond (option_map_or (is_same RANGES) last false) ((tables_of layout above).ranges ++ option_to_list (set_at layout line)) (tables_of layout above).ranges;
    bounds = cond (option_map_or (is_same BOUNDS) last false) ((tables_of layout above).bounds ++ option_to_list (bound_at layout line)) (tables_of layout above).bounds;
  }
  all_said last is =
      same_tables (said_more ROWS (row_at layout) last is) (said_more COLUMNS (column_at layout) last is) (said_more RHS (set_at layout) last is)
      (said_more RANGES (set_at layout) last is) (said_more BOUNDS (bound_at layout) last is)

  pub tables_line : (last : Option Section) → last_or None (sections_in above) ≡ last → tables_of layout (above ++ line ∷ []) ≡ with_line layout line (tables_of layout above) last
  tables_line (Some ROWS) is = all_said (Some ROWS) is
  tables_line (Some COLUMNS) is = all_said (Some COLUMNS) is
  tables_line (Some RHS) is = all_said (Some RHS) is
  tables_line (Some RANGES) is = all_said (Some RANGES) is
  tables_line (Some BOUNDS) is = all_said (Some BOUNDS) is
  tables_line (Some NAME) is = all_said (Some NAME) is
  tables_line (Some ENDATA) is = all_said (Some ENDATA) is
  tables_line None is = all_said None is
