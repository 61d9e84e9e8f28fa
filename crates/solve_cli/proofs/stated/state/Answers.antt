use Rattle.std.proofs.Common.{[], ◌∷◌, refl, ap}
use Rattle.std.specs.Prelude.{codes, Ok, Err}
use Rattle.solve_cli.specs.declared.status.Input.TheVariants.{ModelText}
use Rattle.solve_cli.specs.declared.status.Status.TheVariants.{Text, TooLong}
use Rattle.solve_cli.specs.Words.{reading}
use Rattle.solve_cli.specs.Report.{text_line}
use Rattle.solve_cli.specs.Verdict.{IsUnfit, Verdict}
use Rattle.solve_cli.proofs.SolveLaws.{replied_by}
use Rattle.solve_cli.proofs.InputLaws.{stated_rows}
use Rattle.solve_cli.proofs.stated.state.Goals as goal

pub returns-then-text-gt-MOST_TEXT_BYTES : goal.returns-then-text-gt-MOST_TEXT_BYTES
returns-then-text-gt-MOST_TEXT_BYTES c =
    let is = c.in_ok-line_reply.ensures in
    replied_by {E = Unit {0}} (Verdict (reading c.args.layout c.args.upper) IsUnfit c.args.text.now) (TooLong ModelText) (codes "LIMIT MODEL" ∷ []) (Ok c.in_ok-line_reply.field-0)
    (record { long = c.if-text-gt-MOST_TEXT_BYTES.true; report = refl }) is.status is.report is.proof

pub returns-in_ok-text_reply-in-Err-Fault : goal.returns-in_ok-text_reply-in-Err-Fault
returns-in_ok-text_reply-in-Err-Fault c =
    let fault = c.in-Err-Fault.fault in
    let is = c.in_ok-text_reply-in-Err-Fault.ensures in
    replied_by {E = Unit {0}} (Verdict (reading c.args.layout c.args.upper) IsUnfit c.args.text.now) (Text fault) (text_line fault ∷ []) (Ok c.in_ok-text_reply-in-Err-Fault.field-0)
    (record { short = c.if-text-gt-MOST_TEXT_BYTES.false; first = c.in-Err-Fault.ensures.fault fault (ap Err c.in-Err-Fault.field-0-is); report = refl }) is.status is.report is.proof

pub returns-in-Ok : goal.returns-in-Ok
returns-in-Ok c =
    stated_rows (reading c.args.layout c.args.upper) c.args.text.now c.in-Ok.model c.rows_of.result c.if-text-gt-MOST_TEXT_BYTES.false c.in-Ok.ensures.model c.rows_of.ensures
