-- The words of a line: what stands between its blanks.
use Rattle.std.specs.Prelude.{◌≢◌, ℕ, Bool, ◌==◌, List, All}
use Rattle.std.specs.List.{slice_split}

-- a blank is the byte 32
abbrev pub is_blank : ℕ → Bool
is_blank byte = byte == 32

-- none of the bytes is this one
abbrev pub IsFreeOf : ℕ → List ℕ → Type 0
IsFreeOf byte text = All (λ other. other ≢ byte) text

-- bytes without a blank
abbrev pub IsWord : List ℕ → Type 0
IsWord word = IsFreeOf 32 word

-- a line with n blanks has n + 1 words, some of which may be empty
abbrev pub words_of : List ℕ → List (List ℕ)
words_of line = slice_split is_blank line
