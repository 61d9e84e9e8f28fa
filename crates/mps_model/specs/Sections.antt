-- The sections of a model text, as in fixed and free MPS since IBM's MPSX: a section line begins in column 1 with one of
-- seven words, and the lines behind it, up to the next section line, are the section's table. Comments and blank lines
-- are passed over.
use Rattle.std.specs.Prelude.{ℕ, Bool, not, ◌&&◌, List, [], ◌∷◌, map, filter, find, slice_get, Option, unwrap_or, codes, bytes_eq}
use Rattle.std.specs.List.{before_first, after_first}
use Rattle.mps_model.specs.declared.lines.section.Section.{Section}
use Rattle.mps_model.specs.declared.lines.section.Section.TheVariants.{Name as NAME, Rows as ROWS, Columns as COLUMNS, Rhs as RHS, Ranges as RANGES, Bounds as BOUNDS, Endata as ENDATA}
use Rattle.mps_fields.specs.Lines.{Line, lines_of, numbered, is_comment, is_blank_line, is_section_line}
use Rattle.mps_fields.specs.FreeFields.{free_fields}

-- the word that begins a section
abbrev pub word_of : Section → List ℕ
word_of NAME = codes "NAME"
word_of ROWS = codes "ROWS"
word_of COLUMNS = codes "COLUMNS"
word_of RHS = codes "RHS"
word_of RANGES = codes "RANGES"
word_of BOUNDS = codes "BOUNDS"
word_of ENDATA = codes "ENDATA"

abbrev pub all_sections : List Section
all_sections = NAME ∷ ROWS ∷ COLUMNS ∷ RHS ∷ RANGES ∷ BOUNDS ∷ ENDATA ∷ []

-- the fields of a line in free form, without their places
abbrev pub free_texts : List ℕ → List (List ℕ)
free_texts line = map (λ field. field.text) (free_fields line)

-- the first field of a line
abbrev pub word_at : Line → List ℕ
word_at line = unwrap_or (slice_get (free_texts line.bytes) 0) []

-- the line begins this section
abbrev pub begins : Section → Line → Bool
begins section line = is_section_line line.bytes && bytes_eq (word_at line) (word_of section)

-- the section that a line begins; none for a data line, and for another word
abbrev pub section_at : Line → Option Section
section_at line = find (λ section. begins section line) all_sections

-- the lines of a text, numbered from 1
abbrev pub text_lines : List ℕ → List Line
text_lines text = numbered 1 (lines_of text)

-- a line that says something: no comment, and not blank
abbrev pub is_content : Line → Bool
is_content line = not (is_comment line.bytes) && not (is_blank_line line.bytes)

-- the section and data lines among lines, in order
abbrev pub content : List Line → List Line
content lines = filter is_content lines

-- the lines of a section: those behind its section line, up to the next section line
abbrev pub table_of : Section → List Line → List Line
table_of section lines = before_first (λ line. is_section_line line.bytes) (after_first (begins section) (content lines))
