-- Fields of a line as the code holds them, without where they lie in memory.
use Rattle.std.specs.Prelude.{◌≡◌, ℕ, ◌+◌, ◌<◌, ◌≤◌, List, ◌∷◌, length}
use Rattle.std.specs.List.{All}
use Rattle.mps_fields.specs.declared.field.Field.{Field}
use Rattle.mps_fields.specs.declared.runs.Cut.{Cut}
use Rattle.mps_fields.specs.FreeFields.{Span, fields_from}

-- a field without the number of its line
abbrev pub field_span : Field → Span
field_span field = record { at = field.at; text = field.text.now }

-- six fields of the line with this number
pub record AreSixOf (number : ℕ) (fields : List Field) : Type 0 where
  pub six : length fields ≡ 6
  pub line : All (λ field. field.line ≡ number) fields

-- a run that is cut at its place
abbrev pub cut_span : Cut → Span
cut_span cut = record { at = cut.at; text = cut.text.now }

-- the first run of bytes that begin at a place, and what is behind it
pub record CutsFirst (place : ℕ) (bytes : List ℕ) (cut : Cut) : Type 0 where
  pub first : fields_from place bytes ≡ cut_span cut ∷ fields_from cut.end cut.rest.now
  pub within : cut.end + length cut.rest.now ≤ place + length bytes
  pub shorter : length cut.rest.now < length bytes
