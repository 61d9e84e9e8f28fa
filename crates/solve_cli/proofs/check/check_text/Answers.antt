use Rattle.std.proofs.Common.{◌≡◌, [], ◌∷◌, refl, ap, subst, ◌∙◌}
use Rattle.std.specs.Prelude.{IfOk, codes}
use Rattle.whole_rows.specs.WholeRows.{WholeRows, IsWithinLimits}
use Rattle.int_model.specs.IntegerRows.{IntegerRows}
use Rattle.int_model.specs.Points.{value_at}
use Rattle.tree_checker.specs.Accepts.{Accepts}
use Rattle.tree_checker.specs.Rejects.{RejectsAt}
use Rattle.tree_checker.specs.Verdicts.{IsVerdict}
use Rattle.solve_cli.specs.declared.status.Input.TheVariants.{ProofText}
use Rattle.solve_cli.specs.declared.status.Status.TheVariants.{Accepted, TooLong, Rejected}
use Rattle.solve_cli.specs.Report.{report_of, accepted_lines, reject_line}
use Rattle.solve_cli.specs.Verdict.{rows_of, Checks}
use Rattle.solve_cli.proofs.SolveLaws.{replied_by}
use Rattle.solve_cli.proofs.CheckLaws.{true_for, lines_same}
use Rattle.solve_cli.proofs.check.check_text.Goals as goal

pub returns-then-text-gt-MOST_PROOF_BYTES : goal.returns-then-text-gt-MOST_PROOF_BYTES
returns-then-text-gt-MOST_PROOF_BYTES c = λ model same has.
    replied_by (Checks c.args.text.now model) (TooLong ProofText) (codes "LIMIT PROOF" ∷ []) c.line_reply.result
    (record { small = has.small; long = c.if-text-gt-MOST_PROOF_BYTES.true; report = refl }) c.line_reply.ensures.status c.line_reply.ensures.report c.line_reply.ensures.proof

pub returns-in-Accepted : goal.returns-in-Accepted
returns-in-Accepted c = λ model same has.
    let text = c.args.text.now in
    let claim = c.in-Accepted.claim in
    let verdict = subst (IsVerdict c.whole.result.now text) c.in-Accepted.is c.in_ok-claim.ensures in
    let accepted : Accepts (rows_of model) text claim = subst (λ (whole : WholeRows). Accepts whole text claim) (c.whole.ensures ∙ ap (λ (rows : IntegerRows). rows.whole) same) verdict in
    let limits : IsWithinLimits (rows_of model) = subst IsWithinLimits (ap (λ (rows : IntegerRows). rows.whole) same) c.columns-columns.ensures.limits in
    let lines = lines_same model has c.args.rows.now claim same accepted.point in
    replied_by (Checks text model) Accepted (accepted_lines (value_at model) claim) c.accepted_reply.result
    (record {
      small = has.small;
      limits = limits;
      short = c.if-text-gt-MOST_PROOF_BYTES.false;
      claim = claim;
      accepted = accepted;
      shown = true_for model has claim (c.accepted_is_true.ensures (rows_of model) text claim limits accepted);
      report = refl;
    })
    c.accepted_reply.ensures.status (subst (λ lines. IfOk c.accepted_reply.result (λ reply. reply.report.items ≡ report_of lines)) lines c.accepted_reply.ensures.report) c.accepted_reply.ensures.proof

pub returns-in-Rejected : goal.returns-in-Rejected
returns-in-Rejected c = λ model same has.
    let text = c.args.text.now in
    let reject = c.in-Rejected.reject in
    let verdict = subst (IsVerdict c.whole.result.now text) c.in-Rejected.is c.in_ok-claim.ensures in
    let refused : RejectsAt (rows_of model) text reject = subst (λ (whole : WholeRows). RejectsAt whole text reject) (c.whole.ensures ∙ ap (λ (rows : IntegerRows). rows.whole) same) verdict in
    let limits : IsWithinLimits (rows_of model) = subst IsWithinLimits (ap (λ (rows : IntegerRows). rows.whole) same) c.columns-columns.ensures.limits in
    replied_by (Checks text model) (Rejected reject) (reject_line reject ∷ []) c.reject_reply.result
    (record { small = has.small; limits = limits; short = c.if-text-gt-MOST_PROOF_BYTES.false; refused = refused; report = refl })
    c.reject_reply.ensures.status c.reject_reply.ensures.report c.reject_reply.ensures.proof
