-- What the reader knows, behind one more line.
use Rattle.std.proofs.Common.{◌≡◌, ◌<◌, ◌≤◌, Bool, true, false, cond, not, List, [], ◌∷◌, ◌++◌, length, Some, None, Result, sym, ap, subst, ◌∙◌, arith}
use Rattle.std.specs.Option.{option_map_or}
use Rattle.std.specs.List.{list_all}
use Rattle.std.proofs.lemmas.Bool.{and_left, and_right, and_from}
use Rattle.std.proofs.lemmas.Bool.Decides.{Decides-ltb}
use Rattle.mps_fields.specs.BooleanLaws.{either}
use Rattle.mps_fields.specs.Lines.{Line, is_section_line}
use Rattle.mps_model.specs.declared.layout.Layout.{Layout}
use Rattle.mps_model.specs.declared.fault.FaultKind.{FaultKind}
use Rattle.mps_model.specs.declared.fault.FaultKind.TheVariants as faults
use Rattle.mps_model.specs.declared.line_stop.LineStop.{LineStop}
use Rattle.mps_model.specs.declared.lines.section.Section.{Section}
use Rattle.mps_model.specs.declared.reader.Reader.{Reader}
use Rattle.mps_model.specs.Sections.{section_at, is_content}
use Rattle.mps_model.specs.SectionOrder.{sections_in, is_in_order}
use Rattle.mps_model.specs.Tables.{tables_of}
use Rattle.mps_model.specs.FaultRules.{first_holding}
use Rattle.mps_model.specs.LineFaults.{is_allowed_byte, keeps_columns, has_more_fields, section_fault, data_fault, line_fault}
use Rattle.mps_model.specs.AddedLines.{with_line}
use Rattle.mps_model.specs.Judging.{Judges}
use Rattle.mps_model.specs.KeptSectionOrder.{KeepsOrder}
use Rattle.mps_model.specs.KeptSections.{KeepsSections}
use Rattle.mps_model.specs.KeptLines.{Keeps}
use Rattle.mps_model.proofs.OnLines.FaultRuleLaws.{rule_passes, last_rule}
use Rattle.mps_model.specs.SectionLaws.{sections_still, sections_more, silent_begins_none}
use Rattle.mps_model.specs.TableLaws.{tables_silent, tables_section, tables_line}
use Rattle.mps_model.specs.LineFaultLaws.{is_long, has_plain_bytes, data_line, faultless_open}
use Rattle.mps_model.specs.TextScanLaws.{faultless_more}
use Rattle.mps_model.proofs.OnLines.LineKindLaws.{section_keeps_columns}
use Rattle.mps_model.proofs.OnLines.JudgingCallLaws.{judges_like}

-- ---- the fault of a section line

rule_two : (b more : Bool) (A B : FaultKind) → b ≡ true → first_holding ((not b, A) ∷ (more, B) ∷ []) ≡ cond more (Some B) None
rule_two b more A B h = rule_passes (not b) A ((more, B) ∷ []) (ap not h) ∙ last_rule more B

section_in_order : (above : List Line) (line : Line) (s : Section) → section_at line ≡ Some s → is_in_order (sections_in above) s ≡ true
    → section_fault above line ≡ cond (has_more_fields line) (Some faults.FieldCount) None
section_in_order above line s e in_order = rule_two _ _ faults.Section faults.FieldCount (ap (λ o. option_map_or (is_in_order (sections_in above)) o false) e ∙ in_order)

pub section_alone : (above : List Line) (line : Line) (s : Section) → section_at line ≡ Some s → is_in_order (sections_in above) s ≡ true → has_more_fields line ≡ false
    → section_fault above line ≡ None
section_alone above line s e in_order none = section_in_order above line s e in_order ∙ ap (λ b. cond b (Some faults.FieldCount) None) none

-- ---- the reader behind one more line

-- behind a section line that has no fault
pub keeps_section : (layout : Layout) (above : List Line) (line : Line) (old new : Reader) (s : Section) → is_section_line line.bytes ≡ true → section_at line ≡ Some s
    → line_fault layout above line ≡ None → Keeps layout above old → KeepsOrder (sections_in above ++ s ∷ []) new.order
    → KeepsSections (sections_in above ++ s ∷ []) (tables_of layout above) new.tables → Keeps layout (above ++ line ∷ []) new
keeps_section layout above line old new s begins e none now order tables =
    let sections = sym (sections_more above line s e) in record {
      faultless = faultless_more layout above line now.faultless none;
      order = subst (λ l. KeepsOrder l new.order) sections order;
      tables = subst (λ t. KeepsSections (sections_in (above ++ line ∷ [])) t new.tables) (sym (tables_section layout above line begins))
          (subst (λ l. KeepsSections l (tables_of layout above) new.tables) sections tables);
    }

-- behind a line that says nothing
pub keeps_silence : (layout : Layout) (above : List Line) (line : Line) (old : Reader) → is_content line ≡ false → line_fault layout above line ≡ None
    → Keeps layout above old → Keeps layout (above ++ line ∷ []) old
keeps_silence layout above line old says none now =
    let sections = sym (sections_still above line (silent_begins_none line says)) in record {
      faultless = faultless_more layout above line now.faultless none;
      order = subst (λ l. KeepsOrder l old.order) sections now.order;
      tables = subst (λ t. KeepsSections (sections_in (above ++ line ∷ [])) t old.tables) (sym (tables_silent layout above line says))
          (subst (λ l. KeepsSections l (tables_of layout above) old.tables) sections now.tables);
    }

-- behind a data line that has no fault
pub keeps_data : (layout : Layout) (above : List Line) (line : Line) (old new : Reader) → is_content line ≡ true → is_section_line line.bytes ≡ false
    → line_fault layout above line ≡ None → Keeps layout above old → new.order ≡ old.order
    → KeepsSections (sections_in above) (with_line layout line (tables_of layout above) old.order.last) new.tables → Keeps layout (above ++ line ∷ []) new
keeps_data layout above line old new says begins none now same tables =
    let sections = sym (sections_still above line begins) in
    let added = tables_line layout above line says begins (faultless_open layout above now.faultless) old.order.last (sym now.order.last) in record {
      faultless = faultless_more layout above line now.faultless none;
      order = subst (λ o. KeepsOrder (sections_in (above ++ line ∷ [])) o) (sym same) (subst (λ l. KeepsOrder l old.order) sections now.order);
      tables = subst (λ t. KeepsSections (sections_in (above ++ line ∷ [])) t new.tables) (sym added)
          (subst (λ l. KeepsSections l (with_line layout line (tables_of layout above) old.order.last) new.tables) sections tables);
    }

-- the fault of a data line, and the reader behind it
pub data_judged : {A : Type 0} (layout : Layout) (above : List Line) (line : Line) (old new : Reader) (r : Result A LineStop) → is_long line ≡ false → is_content line ≡ true
    → has_plain_bytes layout line ≡ true → is_section_line line.bytes ≡ false → Keeps layout above old → new.order ≡ old.order
    → Judges (data_fault layout (tables_of layout above) line old.order.last)
    (KeepsSections (sections_in above) (with_line layout line (tables_of layout above) old.order.last) new.tables) r
    → Judges (line_fault layout above line) (Keeps layout (above ++ line ∷ []) new) r
data_judged layout above line old new r short says plain begins now same judged =
    let rule = data_line layout above line short says plain begins ∙ ap (data_fault layout (tables_of layout above) line) (sym now.order.last) in
    judges_like _ _ r (sym rule) (λ none tables. keeps_data layout above line old new says begins none now same tables) judged

-- ---- what the code asks of a line

pub too_long : (line : Line) → 1024 < length line.bytes → is_long line ≡ true
too_long line h = (Decides-ltb 1024 (length line.bytes)).1 h

pub not_too_long : (line : Line) → length line.bytes ≤ 1024 → is_long line ≡ false
not_too_long line h = either (is_long line) (λ t. let long = (Decides-ltb 1024 (length line.bytes)).0 t in absurd (omega arith)) (λ f. f)

-- a section line of allowed bytes
pub plain_section : (layout : Layout) (line : Line) → list_all is_allowed_byte line.bytes ≡ true → is_section_line line.bytes ≡ true → has_plain_bytes layout line ≡ true
plain_section layout line allowed begins =
    and_from (list_all is_allowed_byte line.bytes) (keeps_columns layout line.bytes) allowed (section_keeps_columns layout line.bytes begins)

-- a data line of allowed bytes that keeps to its columns
pub plain_data : (layout : Layout) (line : Line) → list_all is_allowed_byte line.bytes ≡ true → keeps_columns layout line.bytes ≡ true → has_plain_bytes layout line ≡ true
plain_data layout line allowed keeps = and_from (list_all is_allowed_byte line.bytes) (keeps_columns layout line.bytes) allowed keeps

pub other_byte : (layout : Layout) (line : Line) → list_all is_allowed_byte line.bytes ≡ false → has_plain_bytes layout line ≡ false
other_byte layout line h = and_left (list_all is_allowed_byte line.bytes) (keeps_columns layout line.bytes) h

pub out_of_columns : (layout : Layout) (line : Line) → keeps_columns layout line.bytes ≡ false → has_plain_bytes layout line ≡ false
out_of_columns layout line h = and_right (list_all is_allowed_byte line.bytes) (keeps_columns layout line.bytes) h
