-- The fields of a line as the code keeps them.
use Rattle.std.proofs.Common.{◌≡◌, Bool, true, false, Option, Some, None, option_map, refl}
use Rattle.mps_fields.specs.FreeFields.{Span}
use Rattle.mps_fields.specs.FieldViews.{field_span}
use Rattle.mps_fields.specs.declared.field.Field.{Field}

-- the text of a field is that of its span
pub text_of_span : (field : Option Field) (span : Option Span) → Some span ≡ Some (option_map field_span field) → option_map (λ f. f.text.now) field ≡ option_map (λ s. s.text) span
text_of_span None span e = cc
text_of_span (Some field) span e = cc

-- a test that would show what fails, fails
pub fails_with : (test : Bool) → (test ≡ true → false ≡ true) → false ≡ test
fails_with true h = h refl
fails_with false h = refl
