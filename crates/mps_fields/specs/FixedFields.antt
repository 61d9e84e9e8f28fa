-- The fields of a line in fixed form, as in fixed MPS (IBM's MPSX): by its columns, which count from 1.
use Rattle.std.specs.Prelude.{◌≡◌, ◌≤◌, ℕ, ◌+◌, ◌-◌, Bool, not, ◌&&◌, ◌==◌, if◌then◌else◌, List, [], ◌∷◌, length, take, drop, Option, Some, None}
use Rattle.std.specs.List.{list_all, prefix_len, suffix_len}
use Rattle.mps_fields.specs.FreeFields.{Span}
use Rattle.mps_fields.specs.Lines.{Line}

-- a blank
abbrev pub is_space : ℕ → Bool
is_space byte = byte == 32

-- the bytes of a line from one column to another
abbrev pub columns : ℕ → ℕ → List ℕ → List ℕ
columns first last line = take (last + 1 - first) (drop (first - 1) line)

-- bytes without the blanks at their end
abbrev pub without_end : List ℕ → List ℕ
without_end bytes = take (length bytes - suffix_len is_space bytes) bytes

-- bytes that begin at a place, without the blanks at both ends; none where blanks are all
abbrev pub trimmed : ℕ → List ℕ → Option Span
trimmed place bytes =
    if list_all is_space bytes then None
    else Some (record { at = place + prefix_len is_space bytes; text = without_end (drop (prefix_len is_space bytes) bytes) })

-- the field between two columns
abbrev pub field_between : ℕ → ℕ → List ℕ → Option Span
field_between first last line = trimmed (first - 1) (columns first last line)

-- the six fields
abbrev pub fixed_fields : List ℕ → List (Option Span)
fixed_fields line =
    field_between 2 3 line ∷ field_between 5 12 line ∷ field_between 15 22 line
    ∷ field_between 25 36 line ∷ field_between 40 47 line ∷ field_between 50 61 line ∷ []

-- the columns between the fields
abbrev pub gaps : List ℕ
gaps = 1 ∷ 4 ∷ 13 ∷ 14 ∷ 23 ∷ 24 ∷ 37 ∷ 38 ∷ 39 ∷ 48 ∷ 49 ∷ []

-- a column has a blank, or the line ends before it
abbrev pub is_free_at : List ℕ → ℕ → Bool
is_free_at line column = list_all is_space (columns column column line)

-- a line is in its columns: no tab up to column 61, and blanks between the fields
abbrev pub is_in_columns : List ℕ → Bool
is_in_columns line = list_all (λ byte. not (byte == 9)) (take 61 line) && list_all (is_free_at line) gaps

-- the fields of a line, and its number
pub record FixedLine : Type 0 where
  pub fields : List (Option Span)
  pub number : ℕ

-- the fields of a numbered line
abbrev pub fixed_line : Line → FixedLine
fixed_line line = record { fields = fixed_fields line.bytes; number = line.number }

-- the bytes of a span stand at its place in the line, from one column to another
pub record LiesBetween (first last : ℕ) (line : List ℕ) (span : Span) : Type 0 where
  pub bytes : take (length span.text) (drop span.at line) ≡ span.text
  pub behind : first - 1 ≤ span.at
  pub within : span.at + length span.text ≤ last
