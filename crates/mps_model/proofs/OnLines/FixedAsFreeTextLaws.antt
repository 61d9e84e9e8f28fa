-- A text in fixed form that can be read in free form means the same there: line by line, with the same tables above.
use Rattle.std.proofs.Common.{◌≡◌, ℕ, suc, ◌+◌, ℤ, Bool, true, false, ◌&&◌, ◌||◌, not, cond, List, [], ◌∷◌, ◌++◌, length, take, drop, Option, Some, None, refl, sym, ap, ◌∙◌, append_assoc, arith, true≢false}
use Rattle.std.specs.Prelude.{filter}
use Rattle.std.specs.Option.{option_or}
use Rattle.std.specs.List.{list_all, list_any, last_or, position_or_len}
use Rattle.std.proofs.lemmas.List.{append-nil}
use Rattle.std.proofs.Math.Seq.{take-add}
use Rattle.int_model.specs.declared.model.Model.{Model}
use Rattle.mps_fields.specs.Lines.{Line, is_data_line, is_section_line}
use Rattle.mps_fields.specs.FixedFields.{is_in_columns}
use Rattle.std.proofs.lemmas.Bool.{and_parts, and_from}
use Rattle.mps_fields.specs.BooleanLaws.{either}
use Rattle.mps_model.specs.declared.layout.Layout.TheVariants.{Free, Fixed}
use Rattle.mps_model.specs.declared.fault.FaultKind.{FaultKind}
use Rattle.mps_model.specs.declared.fault.FaultKind.TheVariants as faults
use Rattle.mps_model.specs.declared.lines.section.Section.{Section}
use Rattle.mps_model.specs.declared.lines.section.Section.TheVariants.{Name as NAME, Rows as ROWS, Columns as COLUMNS, Rhs as RHS, Ranges as RANGES, Bounds as BOUNDS, Endata as ENDATA}
use Rattle.mps_model.specs.Sections.{begins, text_lines, is_content, table_of}
use Rattle.mps_model.specs.SectionOrder.{sections_in}
use Rattle.mps_model.specs.Tables.{Tables, tables_of}
use Rattle.mps_model.specs.StatedModel.{model_lines, stated, means}
use Rattle.mps_model.specs.LineFaults.{is_allowed_byte, keeps_columns, section_fault, data_fault, line_fault}
use Rattle.mps_model.specs.Meaning.{fault_on, first_line_fault, judged_lines, first_column_fault, whole_fault, fault_at, Means}
use Rattle.mps_model.specs.FixedAsFree.{has_whole_fields, ends_with_its_fields, has_second_field, ReadsFree}
use Rattle.mps_model.specs.AddedLines.{with_row, with_column, with_side, with_range, with_bound, with_line}
use Rattle.mps_model.proofs.OnLines.LineKindLaws.{content_is_data}
use Rattle.mps_model.specs.TextScanLaws.{nothing_first, none_first, none_later, first_later, first_of_none}
use Rattle.mps_model.specs.TableLaws.{HasOpenLast, open_none, table_has, tables_silent, tables_section, tables_line}
use Rattle.mps_model.specs.LineFaultLaws.{is_long, by_rules, data_rule, fault_by_rules, open_more}
use Rattle.mps_model.proofs.OnLines.FixedAsFreeFieldLaws.{fields_agree}
use Rattle.mps_model.proofs.OnLines.FixedAsFreeLineLaws.{SameIn, ReadsSame, data_reads}

-- ---- the fault of a line, over what is tested of it

-- a data line without fault keeps to its columns, and has none of its kind
record Passes (says keeps begins : Bool) (of_data : Option FaultKind) : Type 0 where
  columns : says ≡ true → begins ≡ false → keeps ≡ true
  data_line : says ≡ true → begins ≡ false → of_data ≡ None

passes : (long says allowed keeps begins : Bool) (of_section of_data : Option FaultKind) → by_rules long says (allowed && keeps) begins of_section of_data ≡ None
    → Passes says keeps begins of_data
passes true says allowed keeps begins of_section of_data h = absurd (cc)
passes false false allowed keeps begins of_section of_data h = record { columns = λ c s. cc; data_line = λ c s. cc }
passes false true false keeps begins of_section of_data h = absurd (cc)
passes false true true false begins of_section of_data h = absurd (cc)
passes false true true true true of_section of_data h = record { columns = λ c s. refl; data_line = λ c s. cc }
passes false true true true false of_section of_data h = record { columns = λ c s. refl; data_line = λ c s. h }

-- a line has no fault in a form that asks no columns, where it has none as a data line there
passes_too : (long says allowed keeps begins : Bool) (of_section of_data other : Option FaultKind) → by_rules long says (allowed && keeps) begins of_section of_data ≡ None
    → (says ≡ true → begins ≡ false → other ≡ None) → by_rules long says (allowed && true) begins of_section other ≡ None
passes_too true says allowed keeps begins of_section of_data other h f = cc
passes_too false false allowed keeps begins of_section of_data other h f = refl
passes_too false true false keeps begins of_section of_data other h f = cc
passes_too false true true false begins of_section of_data other h f = cc
passes_too false true true true true of_section of_data other h f = h
passes_too false true true true false of_section of_data other h f = f refl refl

-- ---- one line behind others

-- the tables of these lines are the same in both forms, and the one that goes on is that of the last section
record Known (lines : List Line) : Type 0 where
  tables : tables_of Free lines ≡ tables_of Fixed lines
  open_last : HasOpenLast lines

-- a data line behind these can be read in free form
record Fits (above : List Line) (line : Line) : Type 0 where
  whole : has_whole_fields line ≡ true
  nothing_behind : ends_with_its_fields line ≡ true
  named : last_or None (sections_in above) ≡ Some BOUNDS → has_second_field line ≡ true

-- a line behind these can be read in free form, if it is a data line
abbrev FitsAsData : List Line → Line → Type 0
FitsAsData above line = is_content line ≡ true → is_section_line line.bytes ≡ false → Fits above line

-- a data line says the same in free form
data_line_reads : (above : List Line) (line : Line) → Known above → FitsAsData above line → line_fault Fixed above line ≡ None → is_content line ≡ true → is_section_line line.bytes ≡ false
    → ReadsSame (tables_of Free above) line (last_or None (sections_in above))
data_line_reads above line known fits h c s =
    let passed = passes (is_long line) (is_content line) (list_all is_allowed_byte line.bytes) (keeps_columns Fixed line.bytes) (is_section_line line.bytes)
    (section_fault above line) (data_rule Fixed above line) (sym (fault_by_rules Fixed above line) ∙ h) in
    let columns : is_in_columns line.bytes ≡ true = sym (ap (λ b. not b || is_in_columns line.bytes) (content_is_data line c s)) ∙ passed.columns c s in
    data_reads (tables_of Free above) line (last_or None (sections_in above))
    (fields_agree line.bytes columns (fits c s).whole (fits c s).nothing_behind) (fits c s).named
    (ap (λ t. data_fault Fixed t line (last_or None (sections_in above))) known.tables ∙ passed.data_line c s)

-- a line has no fault in free form
line_reads : (above : List Line) (line : Line) → Known above → FitsAsData above line → line_fault Fixed above line ≡ None → line_fault Free above line ≡ None
line_reads above line known fits h =
    fault_by_rules Free above line
    ∙ passes_too (is_long line) (is_content line) (list_all is_allowed_byte line.bytes) (keeps_columns Fixed line.bytes) (is_section_line line.bytes)
    (section_fault above line) (data_rule Fixed above line) (data_rule Free above line) (sym (fault_by_rules Fixed above line) ∙ h)
    (λ c s. (data_line_reads above line known fits h c s).faultless)

-- a line that says the same in both forms is added to tables alike
added_same : (line : Line) (tables : Tables) (section : Option Section) → SameIn section line → with_line Free line tables section ≡ with_line Fixed line tables section
added_same line tables (Some ROWS) same = ap (with_row tables) same
added_same line tables (Some COLUMNS) same = ap (with_column tables) same
added_same line tables (Some RHS) same = ap (with_side tables) same
added_same line tables (Some RANGES) same = ap (with_range tables) same
added_same line tables (Some BOUNDS) same = ap (with_bound tables) same
added_same line tables (Some NAME) same = refl
added_same line tables (Some ENDATA) same = refl
added_same line tables None same = refl

-- the tables are still the same behind it
tables_still : (above : List Line) (line : Line) → Known above → (is_content line ≡ true → is_section_line line.bytes ≡ false → SameIn (last_or None (sections_in above)) line)
    → tables_of Free (above ++ line ∷ []) ≡ tables_of Fixed (above ++ line ∷ [])
tables_still above line known same =
    let last = last_or None (sections_in above) in
    either (is_section_line line.bytes)
    (λ t. tables_section Free above line t ∙ known.tables ∙ sym (tables_section Fixed above line t))
    (λ f. either (is_content line)
    (λ says.
    tables_line Free above line says f known.open_last last refl ∙ ap (λ t. with_line Free line t last) known.tables
    ∙ added_same line (tables_of Fixed above) last (same says f) ∙ sym (tables_line Fixed above line says f known.open_last last refl))
    (λ silent. tables_silent Free above line silent ∙ known.tables ∙ sym (tables_silent Fixed above line silent)))

known_still : (above : List Line) (line : Line) → Known above → FitsAsData above line → line_fault Fixed above line ≡ None → Known (above ++ line ∷ [])
known_still above line known fits h = record {
  tables = tables_still above line known (λ c s. (data_line_reads above line known fits h c s).same);
  open_last = open_more Fixed above line h known.open_last;
}

-- ---- all lines

-- lines behind others can be read in free form
record AllFit (above lines : List Line) : Type 0 where
  whole : list_all has_whole_fields (filter (λ line. is_data_line line.bytes) lines) ≡ true
  nothing_behind : list_all ends_with_its_fields (filter (λ line. is_data_line line.bytes) lines) ≡ true
  named : list_all has_second_field (table_of BOUNDS (above ++ lines)) ≡ true

-- what the elements that are kept pass
kept_pass : (h : Line → Bool) (b : Bool) (line : Line) (rest : List Line) → list_all h (cond b (line ∷ rest) rest) ≡ true → (b ≡ true → h line ≡ true) × (list_all h rest ≡ true)
kept_pass h true line rest all = let both = and_parts (h line) (list_all h rest) all in (λ t. both.0, both.1)
kept_pass h false line rest all = (λ t. absurd (true≢false (sym t)), all)

first_fits : (above : List Line) (line : Line) (lines : List Line) → HasOpenLast above → AllFit above (line ∷ lines) → FitsAsData above line
first_fits above line lines open_last fit c s =
    let holds = content_is_data line c s in record {
      whole = (kept_pass has_whole_fields (is_data_line line.bytes) line (filter (λ l. is_data_line l.bytes) lines) fit.whole).0 holds;
      nothing_behind = (kept_pass ends_with_its_fields (is_data_line line.bytes) line (filter (λ l. is_data_line l.bytes) lines) fit.nothing_behind).0 holds;
      named = λ e. table_has BOUNDS has_second_field above lines line c s open_last e fit.named;
    }

rest_fit : (above : List Line) (line : Line) (lines : List Line) → AllFit above (line ∷ lines) → AllFit (above ++ line ∷ []) lines
rest_fit above line lines fit = record {
  whole = (kept_pass has_whole_fields (is_data_line line.bytes) line (filter (λ l. is_data_line l.bytes) lines) fit.whole).1;
  nothing_behind = (kept_pass ends_with_its_fields (is_data_line line.bytes) line (filter (λ l. is_data_line l.bytes) lines) fit.nothing_behind).1;
  named = ap (λ all. list_all has_second_field (table_of BOUNDS all)) (append_assoc above (line ∷ []) lines) ∙ fit.named;
}

-- section lines have no fault in free form
sections_read : (above lines : List Line) → Known above → list_all (λ line. is_section_line line.bytes) lines ≡ true → first_line_fault Fixed above lines ≡ None
    → first_line_fault Free above lines ≡ None
sections_read above [] known all h = first_of_none Free above
sections_read above (line ∷ lines) known all h =
    let both = and_parts (is_section_line line.bytes) (list_all (λ l. is_section_line l.bytes) lines) all in
    let none = none_first Fixed above lines line h in
    let fits : FitsAsData above line = λ c s. absurd (true≢false (sym both.0 ∙ s)) in
    first_later Free above lines line (line_reads above line known fits none)
    ∙ sections_read (above ++ line ∷ []) lines (known_still above line known fits none) both.1 (none_later Fixed above lines line h)

-- lines that can be read in free form, and section lines behind them
record Read (above lines last : List Line) : Type 0 where
  faultless : first_line_fault Free above (lines ++ last) ≡ None
  tables : tables_of Free (above ++ lines) ≡ tables_of Fixed (above ++ lines)

lines_read : (above lines last : List Line) → Known above → AllFit above lines → list_all (λ line. is_section_line line.bytes) last ≡ true
    → first_line_fault Fixed above (lines ++ last) ≡ None → Read above lines last
lines_read above [] last known fit all h = record {
  faultless = sections_read above last known all h;
  tables = ap (tables_of Free) (append-nil above) ∙ known.tables ∙ sym (ap (tables_of Fixed) (append-nil above));
}
lines_read above (line ∷ lines) last known fit all h =
    let none = none_first Fixed above (lines ++ last) line h in
    let fits = first_fits above line lines known.open_last fit in
    let rest =
    lines_read (above ++ line ∷ []) lines last (known_still above line known fits none) (rest_fit above line lines fit) all (none_later Fixed above (lines ++ last) line h) in
    let joined = append_assoc above (line ∷ []) lines in
    record {
      faultless = first_later Free above (lines ++ last) line (line_reads above line known fits none) ∙ rest.faultless;
      tables = ap (tables_of Free) (sym joined) ∙ rest.tables ∙ ap (tables_of Fixed) joined;
    }

-- ---- the lines up to ENDATA

drop-one : {X : Type 0} (b : Bool) (n : ℕ) (x : X) (xs : List X) → drop (cond (not b) (1 + n) 0) (x ∷ xs) ≡ cond b (x ∷ xs) (drop n xs)
drop-one true n x xs = refl
drop-one false n x xs = let one : 1 + n ≡ suc n = omega arith in ap (λ m. drop m (x ∷ xs)) one

-- the first that passes, if there is one, passes
next_passes : {X : Type 0} (p : X → Bool) (xs : List X) → list_all p (take 1 (drop (position_or_len p xs) xs)) ≡ true
next_passes p [] = refl
next_passes p (x ∷ xs) =
    ap (λ r. list_all p (take 1 r)) (drop-one (p x) (position_or_len p xs) x xs)
    ∙ either (p x)
    (λ t. ap (λ b. list_all p (take 1 (cond b (x ∷ xs) (drop (position_or_len p xs) xs)))) t ∙ ap (λ b. b && true) t)
    (λ f. ap (λ b. list_all p (take 1 (cond b (x ∷ xs) (drop (position_or_len p xs) xs)))) f ∙ next_passes p xs)

ends_are_sections : (lines : List Line) → list_all (begins ENDATA) lines ≡ true → list_all (λ line. is_section_line line.bytes) lines ≡ true
ends_are_sections [] h = refl
ends_are_sections (line ∷ lines) h =
    let both = and_parts (begins ENDATA line) (list_all (begins ENDATA) lines) h in
    and_from (is_section_line line.bytes) (list_all (λ l. is_section_line l.bytes) lines) (and_parts (is_section_line line.bytes) _ both.0).0 (ends_are_sections lines both.1)

-- the line of ENDATA, if there is one
abbrev end_lines : List ℕ → List Line
end_lines text = take 1 (drop (position_or_len (begins ENDATA) (text_lines text)) (text_lines text))

judged_are : (text : List ℕ) → judged_lines text ≡ model_lines text ++ end_lines text
judged_are text = take-add (position_or_len (begins ENDATA) (text_lines text)) 1 (text_lines text)

-- before the first line
none_known : Known []
none_known = record { tables = refl; open_last = open_none }

text_reads : (text : List ℕ) → ReadsFree text → first_line_fault Fixed [] (judged_lines text) ≡ None → Read [] (model_lines text) (end_lines text)
text_reads text reads h =
    lines_read [] (model_lines text) (end_lines text) none_known
    (record { whole = reads.whole_fields; nothing_behind = reads.nothing_behind; named = reads.named_sets })
    (ends_are_sections (end_lines text) (next_passes (begins ENDATA) (text_lines text)))
    (sym (ap (first_line_fault Fixed []) (judged_are text)) ∙ h)

pub reads_free : (given : Option ℤ) (text : List ℕ) (model : Model) → ReadsFree text → Means Fixed given text model → Means Free given text model
unfolding fault_at means
reads_free given text model reads m =
    let none = nothing_first (first_line_fault Fixed [] (judged_lines text)) (whole_fault Fixed given text) m.faultless in
    let read = text_reads text reads none.0 in
    let lines : first_line_fault Free [] (judged_lines text) ≡ None = ap (first_line_fault Free []) (judged_are text) ∙ read.faultless in
    let whole = λ (t : Tables). cond (list_any (begins ENDATA) (text_lines text)) (first_column_fault given t) (Some (fault_on (length (text_lines text)) faults.NoEnd)) in
    record {
      faultless = ap (λ o. option_or o (whole_fault Free given text)) lines ∙ ap whole read.tables ∙ none.1;
      stated = ap (stated given) read.tables ∙ m.stated;
    }
