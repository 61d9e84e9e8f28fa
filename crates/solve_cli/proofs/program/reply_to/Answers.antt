use Rattle.std.proofs.Common.{rules, [], ◌∷◌, inl, refl, ap, subst}
use Rattle.std.specs.Prelude.{map, string_bytes, codes, Ok, Err}
use Rattle.std.proofs.lemmas.Result.{err_from_is_err_and}
use Rattle.solve_cli.specs.declared.status.Status.TheVariants.{Words}
use Rattle.solve_cli.specs.Commands.{GivesCommand, job_view}
use Rattle.solve_cli.specs.declared.words.Command.{Command}
use Rattle.solve_cli.specs.Words.{command_of}
use Rattle.solve_cli.specs.Answer.{Reason}
use Rattle.solve_cli.specs.Outputs.{text_of}
use Rattle.solve_cli.proofs.SolveLaws.{replied_by, nothing_begun, puts_nothing, puts_none}
use Rattle.solve_cli.proofs.SpellLaws.{IsBudget, bounded_command}
use Rattle.solve_cli.proofs.program.reply_to.Goals as goal

pub returns-in-Err-Words-clause-reason : goal.returns-in-Err-Words-clause-reason
returns-in-Err-Words-clause-reason g c =
    let is = c.in_ok-line_reply-in-Err-Words.ensures in
    let replied =
    replied_by {E = Unit {0}} (Reason _ _) Words (codes "WORDS" ∷ []) (Ok c.in_ok-line_reply-in-Err-Words.field-0)
    (subst (λ stop. GivesCommand (Err stop) (command_of (map string_bytes c.args.words.now.items))) c.in-Err-Words.field-0-is c.in-Err-Words.ensures, refl)
    is.status is.report is.proof in
    record { lines = replied.0; report = replied.1; made = []; reason = replied.2; put = puts_none _ _ _ (ap text_of is.proof) (λ name. refl) }

pub solve_file-requires : goal.solve_file-requires
solve_file-requires g c = let range = bounded_command (map string_bytes c.args.words.now.items) _ c.in-Ok.ensures in let low = range.upper in let budget = range.budget in search rules

pub check_files-requires : goal.check_files-requires
check_files-requires g c = let range = bounded_command (map string_bytes c.args.words.now.items) _ c.in-Ok.ensures in let low = range.upper in search rules

pub make_file-requires : goal.make_file-requires
make_file-requires g c =
    subst (λ (command : Command). IsBudget (job_view command).task) c.in-Market.is (bounded_command (map string_bytes c.args.words.now.items) (job_view c.in-Ok.command) c.in-Ok.ensures).budget

pub returns-in_err-line_reply-in-Err-Words-clause-reason : goal.returns-in_err-line_reply-in-Err-Words-clause-reason
returns-in_err-line_reply-in-Err-Words-clause-reason g c =
    let p = err_from_is_err_and c.from_residual.result c.from_residual.ensures.1 in
    rw (p.1, p.2) ([], [], inl (nothing_begun _), puts_nothing _ _ (λ name. refl))

pub returns-in-Err-NoMemory-clause-reason : goal.returns-in-Err-NoMemory-clause-reason
returns-in-Err-NoMemory-clause-reason g c = ([], [], inl (nothing_begun _), puts_nothing _ _ (λ name. refl))
