-- The order of the sections of a model text, as in fixed and free MPS (IBM's MPSX and its successors): ROWS and COLUMNS
-- in front, with or without a NAME above, and ENDATA last; between them RHS, and behind it RANGES and BOUNDS, which may
-- change places, as far as they are there. None comes twice.
use Rattle.std.specs.Prelude.{Bool, true, false, not, ◌&&◌, List, filter_map, Option, Some, None, bytes_eq}
use Rattle.std.specs.List.{list_any, last_or}
use Rattle.mps_fields.specs.Lines.{Line}
use Rattle.mps_model.specs.declared.lines.section.Section.{Section}
use Rattle.mps_model.specs.declared.lines.section.Section.TheVariants.{Name as NAME, Rows as ROWS, Columns as COLUMNS, Rhs as RHS, Ranges as RANGES, Bounds as BOUNDS, Endata as ENDATA}
use Rattle.mps_model.specs.Sections.{word_of, section_at}

-- a section may stand next behind another
abbrev pub may_follow : Section → Section → Bool
may_follow NAME ROWS = true
may_follow ROWS COLUMNS = true
may_follow COLUMNS RHS = true
may_follow COLUMNS RANGES = true
may_follow COLUMNS BOUNDS = true
may_follow COLUMNS ENDATA = true
may_follow RHS RANGES = true
may_follow RHS BOUNDS = true
may_follow RHS ENDATA = true
may_follow RANGES BOUNDS = true
may_follow RANGES ENDATA = true
may_follow BOUNDS RANGES = true
may_follow BOUNDS ENDATA = true
may_follow _ _ = false

-- the first section is NAME or ROWS
abbrev pub may_begin : Section → Bool
may_begin NAME = true
may_begin ROWS = true
may_begin _ = false

-- a section may stand behind the last one above, or first
abbrev pub may_come : Option Section → Section → Bool
may_come None section = may_begin section
may_come (Some last) section = may_follow last section

abbrev pub is_same : Section → Section → Bool
is_same section other = bytes_eq (word_of section) (word_of other)

-- the sections that lines begin
abbrev pub sections_in : List Line → List Section
sections_in lines = filter_map section_at lines

-- a section is in order behind these: it may stand behind the last, and is not among them
abbrev pub is_in_order : List Section → Section → Bool
is_in_order above section = may_come (last_or None above) section && not (list_any (is_same section) above)
