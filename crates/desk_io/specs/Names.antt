-- Names in fields of fixed size.
use Rattle.std.specs.Prelude.{ℕ, List, take}
use Rattle.desk_io.specs.declared.short_name.ShortName.{ShortName}

-- the bytes of the name
abbrev pub text_of : ShortName → List ℕ
text_of name = take name.len name.bytes
