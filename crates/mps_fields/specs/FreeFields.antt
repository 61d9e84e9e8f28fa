-- The fields of a line in free form, as in free MPS (the successors of IBM's MPSX): the longest runs of bytes other than
-- blank and tab.
use Rattle.std.specs.Prelude.{◌≡◌, ℕ, ◌+◌, ◌-◌, ◌≤◌, Bool, true, not, IsTrue, ◌&&◌, nat_lt, if◌then◌else◌, List, [], ◌∷◌, ◌++◌, take, drop, length}
use Rattle.std.specs.List.{list_all}
use Rattle.mps_fields.specs.Lines.{Line, is_blank}

-- bytes of a line, and the place where they begin: how many bytes of the line stand before them
pub record Span : Type 0 where
  pub at : ℕ
  pub text : List ℕ

-- no run goes on into these bytes
abbrev pub ends_run : List ℕ → Bool
ends_run [] = true
ends_run (byte ∷ bytes) = is_blank byte

-- the fields whose first begins one byte earlier, at this place
abbrev pub onto_first_field : ℕ → ℕ → List Span → List Span
onto_first_field place byte [] = []
onto_first_field place byte (field ∷ fields) = (record { at = place; text = byte ∷ field.text }) ∷ fields

-- the fields of the bytes of a line that begin at this place
unfoldable pub fields_from : ℕ → List ℕ → List Span
fields_from place [] = []
fields_from place (byte ∷ bytes) =
    if is_blank byte then fields_from (place + 1) bytes
    else if ends_run bytes then (record { at = place; text = byte ∷ [] }) ∷ fields_from (place + 1) bytes
    else onto_first_field place byte (fields_from (place + 1) bytes)

-- the fields of a line in free form, in order
abbrev pub free_fields : List ℕ → List Span
free_fields line = fields_from 0 line

-- the first six fields of a line, the number of all its fields, and its number
pub record FreeLine : Type 0 where
  pub fields : List Span
  pub count : ℕ
  pub number : ℕ

-- the fields of a numbered line
abbrev pub free_line : Line → FreeLine
free_line line = record { fields = take 6 (free_fields line.bytes); count = length (free_fields line.bytes); number = line.number }

-- one more field is found
abbrev pub with_field : FreeLine → Span → FreeLine
with_field found field = record { fields = take 6 (found.fields ++ field ∷ []); count = found.count + 1; number = found.number }

-- ---- what the fields are, apart from how they are found

-- at least one byte, and neither blank nor tab
abbrev pub is_run : List ℕ → Bool
is_run bytes = nat_lt 0 (length bytes) && list_all (λ byte. not (is_blank byte)) bytes

-- the first field behind a place of a line: only blanks and tabs stand before it, its bytes stand at its place, and a blank, a tab or the end of the line follows
pub record IsNextField (line : List ℕ) (place : ℕ) (field : Span) : Type 0 where
  pub behind : place ≤ field.at
  pub before : IsTrue (list_all is_blank (take (field.at - place) (drop place line)))
  pub bytes : take (length field.text) (drop field.at line) ≡ field.text
  pub run : IsTrue (is_run field.text)
  pub after : IsTrue (list_all is_blank (take 1 (drop (field.at + length field.text) line)))

-- all fields behind a place of a line, in rising order; behind the last one stand only blanks and tabs
unfoldable pub AreFields : List ℕ → ℕ → List Span → Type 0
AreFields line place [] = IsTrue (list_all is_blank (drop place line))
AreFields line place (field ∷ fields) = IsNextField line place field × AreFields line (field.at + length field.text) fields
