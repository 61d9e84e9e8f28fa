-- What is known where the lines of a text are passed one by one and none has a fault.
use Rattle.std.proofs.Common.{◌≡◌, ℕ, ◌+◌, ◌≤◌, true, false, not, ◌||◌, ◌&&◌, eqb, ltb, List, [], ◌∷◌, ◌++◌, length, map, Some, None, refl, sym, ap, subst, ◌∙◌, append_assoc, append-nil, arith}
use Rattle.std.specs.Option.{option_map_or}
use Rattle.std.specs.List.{list_all, list_any, last_or, AllByRecursion}
use Rattle.std.proofs.lemmas.Bool.{and_from, and_parts, or_from, le-ltb}
use Rattle.std.proofs.lemmas.List.Folds.{list_any-append}
use Rattle.mps_fields.specs.Lines.{Line, numbered, is_section_line}
use Rattle.mps_model.specs.declared.layout.Layout.TheVariants.{Free}
use Rattle.mps_model.specs.declared.fault.FaultKind.TheVariants as faults
use Rattle.mps_model.specs.declared.lines.section.Section.{Section}
use Rattle.mps_model.specs.declared.lines.section.Section.TheVariants.{Endata as ENDATA}
use Rattle.mps_model.specs.Sections.{begins, section_at, is_content}
use Rattle.mps_model.specs.SectionOrder.{sections_in, is_in_order, is_same}
use Rattle.mps_model.specs.Tables.{RowLine, PairLine, ColumnLine, BoundLine, Tables, tables_of}
use Rattle.mps_model.specs.AddedLines.{with_line}
use Rattle.mps_model.specs.FaultRules.{first_holding}
use Rattle.mps_model.specs.LineFaults.{is_allowed_byte, has_more_fields, data_fault, line_fault}
use Rattle.mps_model.specs.Meaning.{first_line_fault}
use Rattle.mps_model.specs.SectionLaws.{sections_still, sections_more, section_is_content}
use Rattle.mps_model.specs.LineFaultLaws.{data_line as data_rule, section_line as section_rule, not_there}
use Rattle.mps_model.specs.TableLaws.{HasOpenLast, open_none, open_data, open_section, tables_section, tables_line}
use Rattle.mps_model.specs.TextScanLaws.{first_of_none, faultless_more}
use Rattle.mps_write.specs.CanonicalText.{Fields, data_line}
use Rattle.mps_write.proofs.LineTexts.{is_text_byte, is_field, data_line-text, data_line-blank}

-- the lines above have no fault, and begin these sections and state these tables
pub record IsPassed (above : List Line) (sections : List Section) (tables : Tables) : Type 0 where
  pub faultless : first_line_fault Free [] above ≡ None
  pub sections_are : sections_in above ≡ sections
  pub tables_are : tables_of Free above ≡ tables
  pub open_last : HasOpenLast above
  pub unended : list_any (begins ENDATA) above ≡ false

pub passed_none : IsPassed [] [] (record { rows = []; columns = []; sides = []; ranges = []; bounds = [] })
passed_none = record { faultless = first_of_none Free []; sections_are = refl; tables_are = refl; open_last = open_none; unended = refl }

abbrev pub line_of : ℕ → List ℕ → Line
line_of number bytes = record { bytes = bytes; number = number }

allowed : (bytes : List ℕ) → list_all is_text_byte bytes ≡ true → list_all is_allowed_byte bytes ≡ true
allowed [] h = refl
allowed (byte ∷ bytes) h =
    let both = and_parts (is_text_byte byte) (list_all is_text_byte bytes) h in
    and_from (is_allowed_byte byte) (list_all is_allowed_byte bytes) (ap (λ b. b || eqb byte 9) both.0) (allowed bytes both.1)

short : (bytes : List ℕ) → length bytes ≤ 233 → ltb 1024 (length bytes) ≡ false
short bytes few = le-ltb 1024 (length bytes) (omega (arith, few))

-- ---- a data line

-- fields that can stand in a data line
pub record AreFields (fields : Fields) : Type 0 where
  pub runs : AllByRecursion (λ field. is_field field ≡ true) fields
  pub few : length (data_line fields) ≤ 233

module _ (above : List Line) (sections : List Section) (tables : Tables) (now : IsPassed above sections tables) where
  pub passed_data : (number : ℕ) (field : List ℕ) (fields : Fields) (s : Section) → AreFields (field ∷ fields) → last_or None sections ≡ Some s
      → data_fault Free tables (line_of number (data_line (field ∷ fields))) (Some s) ≡ None
      → IsPassed (above ++ line_of number (data_line (field ∷ fields)) ∷ []) sections (with_line Free (line_of number (data_line (field ∷ fields))) tables (Some s))
  passed_data number field fields s can last clear =
      let line = line_of number (data_line (field ∷ fields)) in
      let says : is_content line ≡ true = ap not (data_line-blank fields field can.runs.0) in
      let plain = ap (λ b. b && true) (allowed line.bytes (data_line-text (field ∷ fields) can.runs)) in
      let at : last_or None (sections_in above) ≡ Some s = ap (last_or None) now.sections_are ∙ last in
      let fault : line_fault Free above line ≡ None =
      data_rule Free above line (short line.bytes can.few) says plain refl
      ∙ ap (λ t. data_fault Free t line (last_or None (sections_in above))) now.tables_are
      ∙ ap (data_fault Free tables line) at ∙ clear
      in
      record {
        faultless = faultless_more Free above line now.faultless fault;
        sections_are = sections_still above line refl ∙ now.sections_are;
        tables_are = tables_line Free above line says refl now.open_last (Some s) at ∙ ap (λ t. with_line Free line t (Some s)) now.tables_are;
        open_last = open_data above line says refl now.open_last;
        unended = list_any-append (begins ENDATA) above (line ∷ []) ∙ or_from (list_any (begins ENDATA) above) false now.unended refl;
      }

  -- ---- the line that begins a section

  -- a section line that begins this section, with nothing behind its word but on NAME, has no fault
  pub section_clear : (line : Line) (s : Section) → list_all is_text_byte line.bytes ≡ true → length line.bytes ≤ 233 → is_section_line line.bytes ≡ true
      → section_at line ≡ Some s → has_more_fields line ≡ false → is_in_order sections s ≡ true → line_fault Free above line ≡ None
  section_clear line s printed few begun at alone ordered =
      section_rule Free above line (short line.bytes few) (section_is_content line begun) (ap (λ b. b && true) (allowed line.bytes printed)) begun
      ∙ ap (λ ss. first_holding ((not (option_map_or (is_in_order ss) (section_at line) false), faults.Section) ∷ (has_more_fields line, faults.FieldCount) ∷ [])) now.sections_are
      ∙ ap (λ o. first_holding ((not (option_map_or (is_in_order sections) o false), faults.Section) ∷ (has_more_fields line, faults.FieldCount) ∷ [])) at
      ∙ ap (λ b. first_holding ((not b, faults.Section) ∷ (has_more_fields line, faults.FieldCount) ∷ [])) ordered
      ∙ ap (λ b. first_holding ((b, faults.FieldCount) ∷ [])) alone

  pub passed_section : (line : Line) (s : Section) → list_all is_text_byte line.bytes ≡ true → length line.bytes ≤ 233 → is_section_line line.bytes ≡ true
      → section_at line ≡ Some s → has_more_fields line ≡ false → is_in_order sections s ≡ true → begins ENDATA line ≡ false
      → IsPassed (above ++ line ∷ []) (sections ++ s ∷ []) tables
  passed_section line s printed few begun at alone ordered unended =
      let fault = section_clear line s printed few begun at alone ordered in
      record {
        faultless = faultless_more Free above line now.faultless fault;
        sections_are = sections_more above line s at ∙ ap (λ ss. ss ++ s ∷ []) now.sections_are;
        tables_are = tables_section Free above line begun ∙ now.tables_are;
        open_last = open_section above line s begun at (ap (list_any (is_same s)) now.sections_are ∙ not_there sections s ordered);
        unended = list_any-append (begins ENDATA) above (line ∷ []) ∙ or_from (list_any (begins ENDATA) above) (begins ENDATA line || false) now.unended (or_from (begins ENDATA line) false unended refl);
      }

-- ---- numbered lines

pub numbered-append : (n : ℕ) (lines more : List (List ℕ)) → numbered n (lines ++ more) ≡ numbered n lines ++ numbered (n + length lines) more
unfolding numbered
numbered-append n [] more = ap (λ k. numbered k more) (omega arith)
numbered-append n (line ∷ lines) more =
    ap (λ rest. line_of n line ∷ rest) (numbered-append (n + 1) lines more)
    ∙ ap (λ k. line_of n line ∷ (numbered (n + 1) lines ++ numbered k more)) (omega arith)

-- ---- data lines, one for each element of a list

-- what holds before the lines, and is kept by each line, holds behind them
module _ {X : Type 0} (all : List X) (fields_of : X → Fields) (Kept : List X → List Line → Type 0)
    (step : (done rest : List X) (x : X) (above : List Line) (number : ℕ) → done ++ x ∷ rest ≡ all → Kept done above
    → Kept (done ++ x ∷ []) (above ++ line_of number (data_line (fields_of x)) ∷ [])) where
  pub kept_along : (done todo : List X) (above : List Line) (number : ℕ) → done ++ todo ≡ all → Kept done above
      → Kept (done ++ todo) (above ++ numbered number (map data_line (map fields_of todo)))
  unfolding numbered
  kept_along done [] above number whole now = subst (λ xs. Kept xs (above ++ [])) (sym (append-nil done)) (subst (Kept done) (sym (append-nil above)) now)
  kept_along done (x ∷ todo) above number whole now =
      subst (λ xs. Kept xs (above ++ line_of number (data_line (fields_of x)) ∷ numbered (number + 1) (map data_line (map fields_of todo)))) (append_assoc done (x ∷ []) todo)
      (subst (Kept ((done ++ x ∷ []) ++ todo)) (append_assoc above (line_of number (data_line (fields_of x)) ∷ []) (numbered (number + 1) (map data_line (map fields_of todo))))
      (kept_along (done ++ x ∷ []) todo (above ++ line_of number (data_line (fields_of x)) ∷ []) (number + 1) (append_assoc done (x ∷ []) todo ∙ whole)
      (step done todo x above number whole now)))

-- ---- tables

abbrev pub tables_from : List RowLine → List ColumnLine → List PairLine → List PairLine → List BoundLine → Tables
tables_from rows columns sides ranges bounds = record { rows = rows; columns = columns; sides = sides; ranges = ranges; bounds = bounds }
