-- The fields of the code's data lines, without where they lie in memory.
use Rattle.std.specs.Prelude.{◌≡◌, map, take}
use Rattle.mps_fields.specs.Lines.{Line}
use Rattle.mps_model.specs.declared.layout.Layout.{Layout}
use Rattle.mps_model.specs.declared.layout.Layout.TheVariants.{Free, Fixed}
use Rattle.mps_model.specs.Sections.{free_texts}
use Rattle.mps_model.specs.SixFields.{fixed_texts}
use Rattle.mps_model.specs.SixFieldViews.{fields_view}
use Rattle.mps_model.specs.declared.lines.data_fields.Cut.{Cut}
use Rattle.mps_model.specs.declared.lines.data_fields.Cut.TheVariants.{Free as ByRuns, Fixed as ByColumns}
use Rattle.mps_model.specs.declared.lines.data_fields.DataFields.{DataFields}

-- a line is cut so in a layout; of its fields in free form the first six are kept
abbrev pub IsCutOf : Layout → Line → Cut → Type 0
IsCutOf Free line (ByRuns found) = map (λ field. field.text) found.fields ≡ take 6 (free_texts line.bytes)
IsCutOf Free line (ByColumns fields) = ⊥
IsCutOf Fixed line (ByRuns found) = ⊥
IsCutOf Fixed line (ByColumns fields) = fields_view fields ≡ fixed_texts line.bytes

-- these are the fields of a data line in a layout
pub record Cuts (layout : Layout) (line : Line) (fields : DataFields) : Type 0 where
  pub cut : IsCutOf layout line fields.cut
  pub number : fields.line ≡ line.number

-- what the fields of a line say, in whichever layout they were cut
abbrev pub Says : {X : Type 0} → DataFields → X → (Layout → Line → X) → Type 0
Says fields said meaning = (layout : Layout) (line : Line) → Cuts layout line fields → said ≡ meaning layout line
