use Rattle.std.proofs.Common.{sym, ◌∙◌}
use Rattle.mps_model.specs.SectionOrder.{sections_in}
use Rattle.mps_model.specs.Tables.{tables_of}
use Rattle.mps_model.specs.declared.lines.section.Section.TheVariants.{Columns as COLUMNS}
use Rattle.mps_model.proofs.OnLines.SectionOrderLaws.{last_among}
use Rattle.mps_model.proofs.OnTables.TakenLineLaws.{missing, copied, columns_there, marker_taken, entries_taken}
use Rattle.mps_model.proofs.tables.text_tables.TextTables.take_column.Goals as goal

pub returns-in_default : goal.returns-in_default
returns-in_default c = λ layout line above cuts ordered last now.
    absurd (missing _ _ now.has_columns c.in_default.is (last_among COLUMNS (sections_in above) last))

pub returns-then-is_marker : goal.returns-then-is_marker
returns-then-is_marker c = λ layout line above cuts ordered last now.
    marker_taken layout line above c.args.self.now ordered now _ _ _ _ c.in-Some.is last
    (sym (c.is_marker.ensures layout line cuts) ∙ c.if-is_marker.true) (copied c.marker.result ∙ c.marker.ensures layout line cuts)
    (c.take_marker.ensures (tables_of layout above) (columns_there layout line above c.args.self.now ordered now _ c.in-Some.is))

pub returns-else-is_marker : goal.returns-else-is_marker
returns-else-is_marker c = λ layout line above cuts ordered last now.
    entries_taken layout line above c.args.self.now ordered now _ _ _ _ c.in-Some.is last
    (sym (c.is_marker.ensures layout line cuts) ∙ c.if-is_marker.false) (c.entries.ensures layout line cuts)
    (c.take.ensures.judged (tables_of layout above) (sym now.rows) (columns_there layout line above c.args.self.now ordered now _ c.in-Some.is))
