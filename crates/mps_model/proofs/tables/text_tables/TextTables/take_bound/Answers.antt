use Rattle.std.proofs.Common.{arith}
use Rattle.mps_model.specs.SectionOrder.{sections_in}
use Rattle.mps_model.specs.Tables.{tables_of}
use Rattle.mps_model.specs.declared.lines.section.Section.TheVariants.{Bounds as BOUNDS}
use Rattle.mps_model.proofs.OnLines.SectionOrderLaws.{columns_came}
use Rattle.mps_model.proofs.OnTables.TakenLineLaws.{missing, bound_taken}
use Rattle.mps_model.proofs.tables.text_tables.TextTables.take_bound.Goals as goal

pub returns-in_default : goal.returns-in_default
returns-in_default c = λ layout line above cuts ordered last now.
    absurd (missing _ _ now.has_columns c.in_default.is (columns_came BOUNDS (sections_in above) ordered last (omega arith)))

pub returns-in-Some-bound_kind : goal.returns-in-Some-bound_kind
returns-in-Some-bound_kind c = λ layout line above cuts ordered last now.
    bound_taken layout line above c.args.self.now ordered now _ _ _ _ _ c.in-Some.is last
    (c.in-Some-bound_kind.ensures layout line cuts) (c.bound.ensures layout line cuts) (c.add.ensures (tables_of layout above))
