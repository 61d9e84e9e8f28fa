use Rattle.std.proofs.Common.{sym, ◌∙◌}
use Rattle.mps_fields.specs.LineViews.{line_view}
use Rattle.mps_model.specs.SectionOrder.{sections_in}
use Rattle.mps_model.proofs.OnTexts.ReaderLineLaws.{section_alone, keeps_section}
use Rattle.mps_model.proofs.reader.Reader.begin.Goals as goal

pub returns : goal.returns
returns c = λ layout above begins rule now.
    let line = line_view c.args.line.now in
    let order = c.in-Some-next.ensures (sections_in above) now.order in
    let none = rule ∙ section_alone above line c.in-Some.said.section (sym c.in-Some.ensures.section) order.0 (sym c.in-Some.ensures.more ∙ c.if-said.false) in
    (none, keeps_section layout above line c.args.self.now _ c.in-Some.said.section begins (sym c.in-Some.ensures.section) none now order.1 (c.in_ok-begin.ensures layout above order.1.ordered now.tables))
