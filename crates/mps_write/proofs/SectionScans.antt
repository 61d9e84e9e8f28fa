-- The lines of a text so far, numbered from 1, and the lines that begin its sections.
use Rattle.std.proofs.Common.{◌≡◌, ℕ, ◌+◌, ◌≤◌, true, false, List, [], ◌∷◌, ◌++◌, length, map, Some, refl, sym, ap, subst, ◌∙◌, append_assoc, arith}
use Rattle.std.specs.Prelude.{codes}
use Rattle.std.specs.List.{list_all}
use Rattle.mps_fields.specs.Lines.{Line, numbered, is_section_line}
use Rattle.mps_fields.specs.FreeFields.{fields_from}
use Rattle.mps_model.specs.declared.lines.section.Section.{Section}
use Rattle.mps_model.specs.declared.lines.section.Section.TheVariants.{Name as NAME, Rows as ROWS, Columns as COLUMNS, Rhs as RHS, Ranges as RANGES, Bounds as BOUNDS, Endata as ENDATA}
use Rattle.mps_model.specs.Sections.{section_at}
use Rattle.mps_model.specs.SectionOrder.{is_same, is_in_order}
use Rattle.mps_model.specs.SectionLaws.{begins_at}
use Rattle.mps_model.specs.LineFaults.{has_more_fields}
use Rattle.mps_model.specs.Tables.{Tables}
use Rattle.mps_write.specs.CanonicalText.{Fields, data_line, section}
use Rattle.mps_write.proofs.LineTexts.{is_text_byte}
use Rattle.mps_write.proofs.Scans.{IsPassed, line_of, passed_section, numbered-append}

-- the bytes begin a section, whatever their number
pub record IsHeading (bytes : List ℕ) (s : Section) : Type 0 where
  pub printed : list_all is_text_byte bytes ≡ true
  pub few : length bytes ≤ 233
  pub begun : is_section_line bytes ≡ true
  pub at : (number : ℕ) → section_at (line_of number bytes) ≡ Some s
  pub alone : (number : ℕ) → has_more_fields (line_of number bytes) ≡ false

pub name_heading : IsHeading (codes "NAME SLICER") NAME
unfolding fields_from
name_heading = record { printed = refl; few = omega arith; begun = refl; at = λ number. refl; alone = λ number. refl }

pub rows_heading : IsHeading (codes "ROWS") ROWS
unfolding fields_from
rows_heading = record { printed = refl; few = omega arith; begun = refl; at = λ number. refl; alone = λ number. refl }

pub columns_heading : IsHeading (codes "COLUMNS") COLUMNS
unfolding fields_from
columns_heading = record { printed = refl; few = omega arith; begun = refl; at = λ number. refl; alone = λ number. refl }

pub sides_heading : IsHeading (codes "RHS") RHS
unfolding fields_from
sides_heading = record { printed = refl; few = omega arith; begun = refl; at = λ number. refl; alone = λ number. refl }

pub ranges_heading : IsHeading (codes "RANGES") RANGES
unfolding fields_from
ranges_heading = record { printed = refl; few = omega arith; begun = refl; at = λ number. refl; alone = λ number. refl }

pub bounds_heading : IsHeading (codes "BOUNDS") BOUNDS
unfolding fields_from
bounds_heading = record { printed = refl; few = omega arith; begun = refl; at = λ number. refl; alone = λ number. refl }

pub end_heading : IsHeading (codes "ENDATA") ENDATA
unfolding fields_from
end_heading = record { printed = refl; few = omega arith; begun = refl; at = λ number. refl; alone = λ number. refl }

-- a section other than ENDATA
abbrev pub IsInside : Section → Type 0
IsInside s = is_same ENDATA s ≡ false

-- these lines, numbered from 1, are passed
abbrev pub ArePassed : List (List ℕ) → List Section → Tables → Type 0
ArePassed lines sections tables = IsPassed (numbered 1 lines) sections tables

one_line : (number : ℕ) (bytes : List ℕ) → numbered number (bytes ∷ []) ≡ line_of number bytes ∷ []
unfolding numbered
one_line number bytes = refl

-- a section begins
pub begin : (lines : List (List ℕ)) (sections : List Section) (tables : Tables) (bytes : List ℕ) (s : Section) → ArePassed lines sections tables → IsHeading bytes s
    → is_in_order sections s ≡ true → IsInside s → ArePassed (lines ++ bytes ∷ []) (sections ++ s ∷ []) tables
begin lines sections tables bytes s now heading ordered inside =
    let number : ℕ = 1 + length lines in
    subst (λ ls. IsPassed ls (sections ++ s ∷ []) tables) (ap (λ ls. numbered 1 lines ++ ls) (sym (one_line number bytes)) ∙ sym (numbered-append 1 lines (bytes ∷ [])))
    (passed_section (numbered 1 lines) sections tables now (line_of number bytes) s heading.printed heading.few heading.begun (heading.at number) (heading.alone number) ordered
    (begins_at ENDATA (line_of number bytes) (Some s) (heading.at number) ∙ inside))

-- what holds behind the numbered data lines of a section holds behind the lines of the text
pub then_lines : (P : List Line → Type 0) (lines more : List (List ℕ)) → P (numbered 1 lines ++ numbered (1 + length lines) more) → P (numbered 1 (lines ++ more))
then_lines P lines more now = subst P (sym (numbered-append 1 lines more)) now

-- a section's lines behind its first
pub whole_section : (P : List (List ℕ) → Type 0) (lines : List (List ℕ)) (heading : List ℕ) (table : List Fields) → P ((lines ++ heading ∷ []) ++ map data_line table) → P (lines ++ section heading table)
whole_section P lines heading table now = subst P (append_assoc lines (heading ∷ []) (map data_line table)) now
