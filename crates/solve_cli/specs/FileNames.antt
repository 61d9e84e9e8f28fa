-- The name of a file.
use Rattle.std.specs.Prelude.{ℕ, Bool, not, ◌&&◌, nat_le, ◌==◌, List, length, slice_index}

-- the name of a file has 1 to 255 bytes, and does not begin with a dash (the byte 45)
abbrev pub is_file_name : List ℕ → Bool
is_file_name word = nat_le 1 (length word) && nat_le (length word) 255 && not (slice_index word 0 == 45)
