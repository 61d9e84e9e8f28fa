-- The six fields of a data line of the code, without where their texts lie in memory.
use Rattle.std.specs.Prelude.{ℕ, List, [], map, Option, Some, None, option_map}
use Rattle.std.specs.Borrow.{Bor}
use Rattle.mps_fields.specs.declared.field.Field.{Field}
use Rattle.mps_fields.specs.FieldViews.{field_span}
use Rattle.mps_model.specs.SixFields.{Fields, six, row_places, marker_places, column_places, set_places, value_places, bare_places}
use Rattle.mps_model.specs.declared.lines.six_fields.SixFields.{SixFields}
use Rattle.mps_model.specs.declared.lines.six_fields.Rule.{Rule}
use Rattle.mps_model.specs.declared.lines.six_fields.Rule.TheVariants.{Row, Marker, Column, Set, Value, Bare}

-- a text of the code
abbrev pub text_of : Bor (List ℕ) → List ℕ
text_of text = text.now

-- the texts of fields
abbrev pub texts_of : List Field → List (List ℕ)
texts_of fields = map (λ span. span.text) (map field_span fields)

-- six fields
abbrev pub fields_view : SixFields → Fields
fields_view p =
    six (option_map text_of p.first) (option_map text_of p.second) (option_map text_of p.third)
    (option_map text_of p.fourth) (option_map text_of p.fifth) (option_map text_of p.sixth)

-- six fields, or none at all
abbrev pub places_view : Option SixFields → Fields
places_view None = []
places_view (Some p) = fields_view p

-- the places of a line's fields in free form
abbrev pub rule_of : Rule → List (List ℕ) → Fields
rule_of Row = row_places
rule_of Marker = marker_places
rule_of Column = column_places
rule_of Set = set_places
rule_of Value = value_places
rule_of Bare = bare_places
