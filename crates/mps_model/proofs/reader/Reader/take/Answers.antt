use Rattle.std.proofs.Common.{sym, refl, ◌∙◌}
use Rattle.mps_fields.specs.LineViews.{line_view}
use Rattle.mps_model.proofs.OnLines.LineKindLaws.{content_is_data}
use Rattle.mps_model.specs.LineFaultLaws.{long_line, silent_line, byte_line, section_line}
use Rattle.mps_model.proofs.OnTexts.ReaderLineLaws.{too_long, not_too_long, other_byte, plain_section, plain_data, out_of_columns, keeps_silence, data_judged}
use Rattle.mps_model.proofs.reader.Reader.take.Goals as goal

pub returns-then-line-gt-MOST_BYTES : goal.returns-then-line-gt-MOST_BYTES
returns-then-line-gt-MOST_BYTES c = λ above now.
    let line = line_view c.args.line.now in
    long_line c.args.layout above line (too_long line c.if-line-gt-MOST_BYTES.true)

pub returns-then-not-is_content : goal.returns-then-not-is_content
returns-then-not-is_content c = λ above now.
    let line = line_view c.args.line.now in
    let says = sym c.is_content.ensures ∙ c.if-not-is_content.true in
    let none = silent_line c.args.layout above line (not_too_long line c.if-line-gt-MOST_BYTES.false) says in
    (none, keeps_silence c.args.layout above line c.args.self.now says none now)

pub returns-then-not-is_allowed : goal.returns-then-not-is_allowed
returns-then-not-is_allowed c = λ above now.
    let line = line_view c.args.line.now in
    byte_line c.args.layout above line (not_too_long line c.if-line-gt-MOST_BYTES.false) (sym c.is_content.ensures ∙ c.if-not-is_content.false)
    (other_byte c.args.layout line (sym c.is_allowed.ensures ∙ c.if-not-is_allowed.true))

pub returns-then-is_section_line : goal.returns-then-is_section_line
returns-then-is_section_line c = λ above now.
    let line = line_view c.args.line.now in
    let begins = sym c.is_section_line.ensures ∙ c.if-is_section_line.true in
    let plain = plain_section c.args.layout line (sym c.is_allowed.ensures ∙ c.if-not-is_allowed.false) begins in
    c.begin.ensures c.args.layout above begins
    (section_line c.args.layout above line (not_too_long line c.if-line-gt-MOST_BYTES.false) (sym c.is_content.ensures ∙ c.if-not-is_content.false) plain begins) now

pub returns-in-Some : goal.returns-in-Some
returns-in-Some c = λ above now.
    let line = line_view c.args.line.now in
    let says = sym c.is_content.ensures ∙ c.if-not-is_content.false in
    let begins = sym c.is_section_line.ensures ∙ c.if-is_section_line.false in
    let plain = plain_data c.args.layout line (sym c.is_allowed.ensures ∙ c.if-not-is_allowed.false) (sym (c.in-Some.ensures.columns (content_is_data line says begins))) in
    data_judged c.args.layout above line c.args.self.now _ _ (not_too_long line c.if-line-gt-MOST_BYTES.false) says plain begins now refl
    (c.take.ensures c.args.layout line above c.in-Some.ensures.cuts now.order.ordered (sym now.order.last) now.tables)

pub returns-in-None : goal.returns-in-None
returns-in-None c = λ above now.
    let line = line_view c.args.line.now in
    let says = sym c.is_content.ensures ∙ c.if-not-is_content.false in
    let begins = sym c.is_section_line.ensures ∙ c.if-is_section_line.false in
    byte_line c.args.layout above line (not_too_long line c.if-line-gt-MOST_BYTES.false) says
    (out_of_columns c.args.layout line (sym (c.in-None.ensures.columns (content_is_data line says begins))))
