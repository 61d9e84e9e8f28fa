-- The fault of a line by its kind, and what lines without fault say of the sections.
use Rattle.std.proofs.Common.{◌≡◌, Bool, true, false, true≢false, cond, not, ◌&&◌, ltb, List, [], ◌∷◌, ◌++◌, length, Option, Some, None, refl, sym, ap, subst, ◌∙◌, append_assoc}
use Rattle.std.specs.Option.{option_map_or}
use Rattle.std.specs.List.{list_any, list_all, last_or}
use Rattle.std.proofs.lemmas.Bool.{not-true, and_parts}
use Rattle.std.proofs.lemmas.List.{append-nil}
use Rattle.mps_fields.specs.BooleanLaws.{either}
use Rattle.mps_fields.specs.Lines.{Line, is_section_line}
use Rattle.mps_model.specs.declared.layout.Layout.{Layout}
use Rattle.mps_model.specs.declared.fault.FaultKind.{FaultKind}
use Rattle.mps_model.specs.declared.fault.FaultKind.TheVariants as faults
use Rattle.mps_model.specs.declared.lines.section.Section.{Section}
use Rattle.mps_model.specs.Sections.{section_at, is_content}
use Rattle.mps_model.specs.SectionOrder.{may_come, is_same, sections_in, is_in_order}
use Rattle.mps_model.specs.Tables.{tables_of}
use Rattle.mps_model.specs.FaultRules.{first_holding}
use Rattle.mps_model.specs.LineFaults.{is_allowed_byte, keeps_columns, has_more_fields, section_fault, data_fault, line_fault}
use Rattle.mps_model.specs.Meaning.{first_line_fault}
use Rattle.mps_model.specs.SectionLaws.{section_is_content}
use Rattle.mps_model.specs.TextScanLaws.{none_first, none_later}
use Rattle.mps_model.specs.TableLaws.{HasOpenLast, open_none, open_silent, open_data, open_section}

-- ---- the fault of a line, by its kind

abbrev pub is_long : Line → Bool
is_long line = ltb 1024 (length line.bytes)

abbrev pub has_plain_bytes : Layout → Line → Bool
has_plain_bytes layout line = list_all is_allowed_byte line.bytes && keeps_columns layout line.bytes

-- the first of the rules that holds decides
abbrev pub by_rules : (long says plain begins : Bool) → (section data_ : Option FaultKind) → Option FaultKind
by_rules long says plain begins section data_ =
    cond long (Some faults.LongLine) (cond (not says) None (cond (not plain) (Some faults.Byte) (cond begins section data_)))

-- the rule of a data line
abbrev pub data_rule : Layout → List Line → Line → Option FaultKind
data_rule layout above line = data_fault layout (tables_of layout above) line (last_or None (sections_in above))

pub fault_by_rules : (layout : Layout) (above : List Line) (line : Line)
    → line_fault layout above line
    ≡ by_rules (is_long line) (is_content line) (has_plain_bytes layout line) (is_section_line line.bytes)
    (section_fault above line) (data_rule layout above line)
unfolding line_fault
fault_by_rules layout above line = refl

by_long : (long says plain begins : Bool) (s d : Option FaultKind) → long ≡ true → by_rules long says plain begins s d ≡ Some faults.LongLine
by_long true says plain begins s d h = refl
by_long false says plain begins s d h = absurd (true≢false (sym h))

by_silence : (long says plain begins : Bool) (s d : Option FaultKind) → long ≡ false → says ≡ false → by_rules long says plain begins s d ≡ None
by_silence false false plain begins s d h k = refl
by_silence true says plain begins s d h k = absurd (true≢false h)
by_silence false true plain begins s d h k = absurd (true≢false k)

by_bytes : (long says plain begins : Bool) (s d : Option FaultKind) → long ≡ false → says ≡ true → plain ≡ false → by_rules long says plain begins s d ≡ Some faults.Byte
by_bytes false true false begins s d h k l = refl
by_bytes true says plain begins s d h k l = absurd (true≢false h)
by_bytes false false plain begins s d h k l = absurd (true≢false (sym k))
by_bytes false true true begins s d h k l = absurd (true≢false l)

by_kind : (long says plain begins : Bool) (s d : Option FaultKind) → long ≡ false → says ≡ true → plain ≡ true → by_rules long says plain begins s d ≡ cond begins s d
by_kind false true true begins s d h k l = refl
by_kind true says plain begins s d h k l = absurd (true≢false h)
by_kind false false plain begins s d h k l = absurd (true≢false (sym k))
by_kind false true false begins s d h k l = absurd (true≢false (sym l))

pub long_line : (layout : Layout) (above : List Line) (line : Line) → is_long line ≡ true → line_fault layout above line ≡ Some faults.LongLine
long_line layout above line long = fault_by_rules layout above line ∙ by_long (is_long line) (is_content line) (has_plain_bytes layout line) (is_section_line line.bytes) (section_fault above line) (data_rule layout above line) long

pub silent_line : (layout : Layout) (above : List Line) (line : Line) → is_long line ≡ false → is_content line ≡ false → line_fault layout above line ≡ None
silent_line layout above line short says = fault_by_rules layout above line ∙ by_silence (is_long line) (is_content line) (has_plain_bytes layout line) (is_section_line line.bytes) (section_fault above line) (data_rule layout above line) short says

pub byte_line : (layout : Layout) (above : List Line) (line : Line) → is_long line ≡ false → is_content line ≡ true → has_plain_bytes layout line ≡ false
    → line_fault layout above line ≡ Some faults.Byte
byte_line layout above line short says plain = fault_by_rules layout above line ∙ by_bytes (is_long line) (is_content line) (has_plain_bytes layout line) (is_section_line line.bytes) (section_fault above line) (data_rule layout above line) short says plain

pub section_line : (layout : Layout) (above : List Line) (line : Line) → is_long line ≡ false → is_content line ≡ true → has_plain_bytes layout line ≡ true
    → is_section_line line.bytes ≡ true → line_fault layout above line ≡ section_fault above line
section_line layout above line short says plain begins =
    fault_by_rules layout above line ∙ by_kind (is_long line) (is_content line) (has_plain_bytes layout line) (is_section_line line.bytes) (section_fault above line) (data_rule layout above line) short says plain
    ∙ ap (λ b. cond b (section_fault above line) (data_rule layout above line)) begins

pub data_line : (layout : Layout) (above : List Line) (line : Line) → is_long line ≡ false → is_content line ≡ true → has_plain_bytes layout line ≡ true
    → is_section_line line.bytes ≡ false → line_fault layout above line ≡ data_fault layout (tables_of layout above) line (last_or None (sections_in above))
data_line layout above line short says plain begins =
    fault_by_rules layout above line ∙ by_kind (is_long line) (is_content line) (has_plain_bytes layout line) (is_section_line line.bytes) (section_fault above line) (data_rule layout above line) short says plain
    ∙ ap (λ b. cond b (section_fault above line) (data_rule layout above line)) begins

-- ---- lines without fault

section_of_none : (long says plain begins : Bool) (s d : Option FaultKind) → by_rules long says plain begins s d ≡ None → says ≡ true → begins ≡ true → s ≡ None
section_of_none true says plain begins s d h k l = cc
section_of_none false false plain begins s d h k l = absurd (true≢false (sym k))
section_of_none false true false begins s d h k l = cc
section_of_none false true true true s d h k l = h
section_of_none false true true false s d h k l = absurd (true≢false (sym l))

faultless_section : (layout : Layout) (above : List Line) (line : Line) → line_fault layout above line ≡ None → is_section_line line.bytes ≡ true → section_fault above line ≡ None
faultless_section layout above line h begins =
    section_of_none (is_long line) (is_content line) (has_plain_bytes layout line) (is_section_line line.bytes) (section_fault above line) (data_rule layout above line) (sym (fault_by_rules layout above line) ∙ h) (section_is_content line begins) begins

in_order_of : (u more : Bool) (A B : FaultKind) → first_holding ((not u, A) ∷ (more, B) ∷ []) ≡ None → u ≡ true
in_order_of true more A B h = refl
in_order_of false more A B h = cc

-- a section line without fault begins a section that is in order
pub record BeginsInOrder (above : List Line) (line : Line) : Type 0 where
  pub section : Section
  pub at : section_at line ≡ Some section
  pub in_order : is_in_order (sections_in above) section ≡ true

in_order_at : (above : List Line) (line : Line) (o : Option Section) → section_at line ≡ o → option_map_or (is_in_order (sections_in above)) o false ≡ true → BeginsInOrder above line
in_order_at above line None e h = absurd (true≢false (sym h))
in_order_at above line (Some s) e h = record { section = s; at = e; in_order = h }

pub begins_in_order : (above : List Line) (line : Line) → section_fault above line ≡ None → BeginsInOrder above line
begins_in_order above line h =
    in_order_at above line (section_at line) refl
    (in_order_of (option_map_or (is_in_order (sections_in above)) (section_at line) false) (has_more_fields line) faults.Section faults.FieldCount h)

-- a section in order has not come
pub not_there : (sections : List Section) (s : Section) → is_in_order sections s ≡ true → list_any (is_same s) sections ≡ false
not_there sections s h = not-true (list_any (is_same s) sections) (and_parts (may_come (last_or None sections) s) (not (list_any (is_same s) sections)) h).1

-- behind one more line without fault the table that goes on is still that of the last section
pub open_more : (layout : Layout) (above : List Line) (line : Line) → line_fault layout above line ≡ None → HasOpenLast above → HasOpenLast (above ++ line ∷ [])
open_more layout above line h now =
    either (is_section_line line.bytes)
    (λ begins.
    let found = begins_in_order above line (faultless_section layout above line h begins) in
    open_section above line found.section begins found.at (not_there (sections_in above) found.section found.in_order))
    (λ continues. either (is_content line)
    (λ says. open_data above line says continues now)
    (λ silent. open_silent above line silent now))

open_all : (layout : Layout) (above lines : List Line) → first_line_fault layout above lines ≡ None → HasOpenLast above → HasOpenLast (above ++ lines)
open_all layout above [] h now = subst HasOpenLast (sym (append-nil above)) now
open_all layout above (line ∷ lines) h now =
    subst HasOpenLast (append_assoc above (line ∷ []) lines)
    (open_all layout (above ++ line ∷ []) lines (none_later layout above lines line h) (open_more layout above line (none_first layout above lines line h) now))

-- in lines without fault the table that goes on is that of the last section
pub faultless_open : (layout : Layout) (lines : List Line) → first_line_fault layout [] lines ≡ None → HasOpenLast lines
faultless_open layout lines h = open_all layout [] lines h open_none
