-- What the reader knows behind the lines above: no line has a fault, and its tables say what the lines say.
use Rattle.std.specs.Prelude.{◌≡◌, List, [], None}
use Rattle.mps_fields.specs.Lines.{Line}
use Rattle.mps_model.specs.declared.layout.Layout.{Layout}
use Rattle.mps_model.specs.declared.reader.Reader.{Reader}
use Rattle.mps_model.specs.SectionOrder.{sections_in}
use Rattle.mps_model.specs.Tables.{tables_of}
use Rattle.mps_model.specs.Meaning.{first_line_fault}
use Rattle.mps_model.specs.KeptSectionOrder.{KeepsOrder}
use Rattle.mps_model.specs.KeptSections.{KeepsSections}

-- the reader knows the lines above
pub record Keeps (layout : Layout) (above : List Line) (reader : Reader) : Type 0 where
  pub faultless : first_line_fault layout [] above ≡ None
  pub order : KeepsOrder (sections_in above) reader.order
  pub tables : KeepsSections (sections_in above) (tables_of layout above) reader.tables
