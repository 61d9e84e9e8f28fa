use Rattle.std.proofs.Common.{◌≡◌, ℕ, List, [], ◌∷◌, refl, sym, ap, subst, ◌∙◌}
use Rattle.std.specs.Prelude.{IfSome, Some, Ok, Err, codes}
use Rattle.desk_io.specs.Desk.{fault}
use Rattle.desk_io.specs.declared.desk.Call.TheVariants.{Take}
use Rattle.mps_fields.specs.Lines.{most_bytes}
use Rattle.solve_cli.specs.declared.status.Status.TheVariants.{ReadFault}
use Rattle.solve_cli.specs.Words.{reading}
use Rattle.solve_cli.specs.Limits.{taken}
use Rattle.solve_cli.specs.Taking.{IsReadFault}
use Rattle.solve_cli.specs.Verdict.{Verdict, IsUnfit}
use Rattle.solve_cli.specs.Answer.{desk_faults}
use Rattle.solve_cli.specs.Solving.{IsTried}
use Rattle.solve_cli.proofs.SolveLaws.{replied_by}
use Rattle.solve_cli.proofs.InputLaws.{model_taken}
use Rattle.solve_cli.proofs.program.take_model.Goals as goal

pub returns-in-Ok-clause-model : goal.returns-in-Ok-clause-model
returns-in-Ok-clause-model g c =
    let left = g.D.Desk.left c.args.desk.now c.args.name.now in
    let at_name = subst (λ name. IfSome (g.D.Desk.left c.args.desk.now name) (λ left. c.in-Ok.text.items ≡ taken most_bytes left)) c.text.ensures.text c.in-Ok.ensures.text in
    let front = subst (λ (text : List ℕ). IfSome left (λ bytes. text ≡ taken most_bytes bytes)) (sym c.deref.ensures.value) at_name in
    model_taken c.args.name.now (g.D.Desk.faults c.args.desk.now) (desk_faults (g.D.Desk.faults c.take_text.new.desk) (g.D.Desk.fault_at c.take_text.new.desk)) left c.deref.result.now
    (reading c.args.layout c.args.upper) c.state.result front c.state.ensures

pub returns-in_ok-line_reply-in-Err-Failed-clause-model : goal.returns-in_ok-line_reply-in-Err-Failed-clause-model
returns-in_ok-line_reply-in-Err-Failed-clause-model g c =
    let left = g.D.Desk.left c.args.desk.now c.args.name.now in
    let failed = subst (λ stop. IsReadFault c.text.result.now (g.D.Desk.faults c.args.desk.now) (g.D.Desk.faults c.take_text.new.desk) (g.D.Desk.fault_at c.take_text.new.desk) (Err stop)) c.in-Err-Failed.field-0-is c.in-Err-Failed.ensures.failed in
    let is = c.in_ok-line_reply-in-Err-Failed.ensures in
    replied_by {E = Unit {0}}
    (IsTried c.args.name.now (g.D.Desk.faults c.args.desk.now) (desk_faults (g.D.Desk.faults c.take_text.new.desk) (g.D.Desk.fault_at c.take_text.new.desk)) left (Verdict (reading c.args.layout c.args.upper) IsUnfit))
    ReadFault (codes "READFAULT" ∷ []) (Ok c.in_ok-line_reply-in-Err-Failed.field-0) (record { rose = failed.0; last = failed.1 ∙ ap (λ name. Some (fault Take name)) c.text.ensures.text; report = refl })
    is.status is.report is.proof
