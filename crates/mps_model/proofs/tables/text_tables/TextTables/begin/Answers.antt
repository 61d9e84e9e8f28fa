use Rattle.std.proofs.Common.{sym, rules}
use denote.Enum.Bare.{same_true, same_false}
use Rattle.mps_model.specs.contracts.lines.section.Section.{the_type}
use Rattle.mps_model.specs.declared.lines.section.Section.TheVariants.{Columns as COLUMNS}
use Rattle.mps_model.proofs.OnLines.SectionOrderLaws.{differ}
use Rattle.mps_model.proofs.OnTables.BegunSectionLaws.{columns_begun, other_begun}
use Rattle.mps_model.proofs.tables.text_tables.TextTables.begin.Goals as goal

pub returns-in_ok-new : goal.returns-in_ok-new
returns-in_ok-new c = λ layout above ordered now.
    columns_begun layout above c.args.section c.args.self.now _ (same_true the_type (search rules) _ _ (sym c.if-eq.ensures)) ordered now c.in_ok-new.ensures

pub returns-else-eq : goal.returns-else-eq
returns-else-eq c = λ layout above ordered now.
    other_begun layout above c.args.section c.args.self.now (differ COLUMNS c.args.section (same_false the_type _ _ (sym c.if-eq.ensures))) now
