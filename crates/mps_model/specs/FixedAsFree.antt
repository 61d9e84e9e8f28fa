-- When a text in fixed form can be read in free form too. Fixed MPS (IBM's MPSX) finds the fields of a data line by their
-- columns, free MPS (its successors) by the blanks between them, so a blank in a name or a word behind field 6 makes other
-- fields there. And a bound whose kind takes no value may have one that is not read: without a set name, free form would
-- take its column for the set. In RHS and RANGES the number of fields tells whether a set name is there, so none is asked.
-- Only data lines before ENDATA are asked, since no other line is cut by columns. That each line has at most 1,024 bytes
-- need not be asked: a longer one is a fault in both forms.
use Rattle.std.specs.Prelude.{ℕ, Bool, true, not, IsTrue, is_some, List, filter, drop, Option}
use Rattle.std.specs.Option.{option_map_or}
use Rattle.std.specs.List.{list_all}
use Rattle.mps_fields.specs.Lines.{Line, is_blank, is_blank_line, is_data_line}
use Rattle.mps_fields.specs.FixedFields.{field_between}
use Rattle.mps_model.specs.declared.lines.section.Section.TheVariants.{Bounds as BOUNDS}
use Rattle.mps_model.specs.Sections.{table_of}
use Rattle.mps_model.specs.SixFields.{fixed_texts}
use Rattle.mps_model.specs.StatedModel.{model_lines}

-- a field is absent, or has neither blank nor tab inside
abbrev pub has_no_blank : Option (List ℕ) → Bool
has_no_blank field = option_map_or (list_all (λ byte. not (is_blank byte))) field true

-- no fixed field of the line has a blank or a tab inside
abbrev pub has_whole_fields : Line → Bool
has_whole_fields line = list_all has_no_blank (fixed_texts line.bytes)

-- only blanks and tabs stand behind column 61, the last column of field 6
abbrev pub ends_with_its_fields : Line → Bool
ends_with_its_fields line = is_blank_line (drop 61 line.bytes)

-- field 2 is there: columns 5 to 12 are not all blank
abbrev pub has_second_field : Line → Bool
has_second_field line = is_some (field_between 5 12 line.bytes)

-- the data lines before ENDATA
abbrev pub data_lines : List ℕ → List Line
data_lines text = filter (λ line. is_data_line line.bytes) (model_lines text)

-- a text in fixed form can be read in free form
pub record ReadsFree (text : List ℕ) : Type 0 where
  pub whole_fields : IsTrue (list_all has_whole_fields (data_lines text))
  pub nothing_behind : IsTrue (list_all ends_with_its_fields (data_lines text))
  pub named_sets : IsTrue (list_all has_second_field (table_of BOUNDS (model_lines text)))
