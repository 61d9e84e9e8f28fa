-- The lines of a model text, as in fixed and free MPS (IBM's MPSX and its successors), in this project's profile.
use Rattle.std.specs.Prelude.{ℕ, ◌+◌, ◌-◌, Bool, false, not, ◌&&◌, ◌||◌, ◌==◌, if◌then◌else◌, List, [], ◌∷◌, map, length, take, slice_index}
use Rattle.std.specs.List.{list_all}

-- a text has at most so many bytes
abbrev pub most_bytes : ℕ
most_bytes = 16777216

-- the list of lists that a byte begins, where the lists after it are known
abbrev pub onto_first : ℕ → List (List ℕ) → List (List ℕ)
onto_first byte [] = (byte ∷ []) ∷ []
onto_first byte (line ∷ lines) = (byte ∷ line) ∷ lines

-- what stands between line feeds (the byte 10): each piece goes up to the next one, or to the end; nothing after the last one is no piece
unfoldable pub pieces_of : List ℕ → List (List ℕ)
pieces_of [] = []
pieces_of (byte ∷ bytes) = if byte == 10 then [] ∷ pieces_of bytes else onto_first byte (pieces_of bytes)

-- a piece without the carriage return (the byte 13) that is its last byte
abbrev pub without_return : List ℕ → List ℕ
without_return piece = if slice_index piece (length piece - 1) == 13 then take (length piece - 1) piece else piece

-- the lines of a text, in order
abbrev pub lines_of : List ℕ → List (List ℕ)
lines_of text = map without_return (pieces_of text)

-- a line and its number
pub record Line : Type 0 where
  pub bytes : List ℕ
  pub number : ℕ

-- lines that are numbered from one number on
unfoldable pub numbered : ℕ → List (List ℕ) → List Line
numbered number [] = []
numbered number (line ∷ lines) = (record { bytes = line; number = number }) ∷ numbered (number + 1) lines

-- a blank (32) or a tab (9)
abbrev pub is_blank : ℕ → Bool
is_blank byte = (byte == 32) || (byte == 9)

-- a comment begins with `*` (42)
abbrev pub is_comment : List ℕ → Bool
is_comment [] = false
is_comment (byte ∷ bytes) = byte == 42

-- a blank line has blanks and tabs alone, or nothing
abbrev pub is_blank_line : List ℕ → Bool
is_blank_line line = list_all is_blank line

-- a data line begins with a blank or a tab, and has another byte
abbrev pub is_data_line : List ℕ → Bool
is_data_line [] = false
is_data_line (byte ∷ bytes) = is_blank byte && not (is_blank_line bytes)

-- a section line begins with its word
abbrev pub is_section_line : List ℕ → Bool
is_section_line [] = false
is_section_line (byte ∷ bytes) = not (is_blank byte) && not (byte == 42)
