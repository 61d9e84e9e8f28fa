use Rattle.std.proofs.Common.{◌≡◌, ℕ, List, [], refl, subst, ◌∙◌, inl, inr}
use Rattle.std.specs.Prelude.{Option, option_map}
use Rattle.std.proofs.lemmas.Result.{err_from_is_err_and}
use Rattle.mps_fields.specs.Lines.{most_bytes}
use Rattle.solve_cli.specs.Limits.{untaken}
use Rattle.solve_cli.specs.Words.{reading, checking, job}
use Rattle.solve_cli.specs.Verdict.{Checks}
use Rattle.solve_cli.specs.Answer.{run_given, desk_faults}
use Rattle.solve_cli.specs.Solving.{output_of, IsModelTaken, IsRead, IsTried, Replies}
use Rattle.solve_cli.proofs.SpellLaws.{names_differ}
use Rattle.solve_cli.proofs.SolveLaws.{model_reason, model_nothing, model_other, takes_model, takes_some, takes_both, proof_reason, proof_nothing, proof_other, nothing_begun, puts_nothing, puts_none}
use Rattle.solve_cli.proofs.program.check_files.Goals as goal

pub returns-in_err-reply-clause-reason : goal.returns-in_err-reply-clause-reason
returns-in_err-reply-clause-reason g c = λ words spelled.
    let p = err_from_is_err_and c.from_residual.result c.from_residual.ensures.1 in
    rw (p.1, p.2) ([], [], inl (nothing_begun _), puts_nothing _ _ c.take_model.ensures.outputs)

pub returns-in-Stopped-clause-reason : goal.returns-in-Stopped-clause-reason
returns-in-Stopped-clause-reason g c = λ words spelled.
    let start = c.args.desk.now in
    let after = c.take_model.new.desk in
    let given = run_given words (g.D.Desk.left start) (g.D.Desk.written start) (g.D.Desk.faults start) in
    let faults = desk_faults (g.D.Desk.faults after) (g.D.Desk.fault_at after) in
    let name = c.args.model.now in
    let left = g.D.Desk.left start name in
    let read = reading c.args.layout c.args.upper in
    let command = job checking c.args.layout c.args.upper name c.args.proof.now in
    let reply = c.in-Stopped.reply in
    let tried = subst (IsModelTaken read name (g.D.Desk.faults start) faults left) c.in-Stopped.is c.in_ok-reply.ensures.model in
    record {
      lines = tried.0;
      report = tried.1;
      made = [];
      reason = model_reason given command spelled tt faults reply.status (output_of reply tried.0) refl tried.2;
      put = puts_none given reply.proof (g.D.Desk.written after) (model_nothing read name (g.D.Desk.faults start) faults left reply.status (output_of reply tried.0) tried.2) c.take_model.ensures.outputs;
    }

pub returns-in-Stopped-clause-inputs : goal.returns-in-Stopped-clause-inputs
returns-in-Stopped-clause-inputs g c = λ words spelled.
    let start = c.args.desk.now in
    let after = c.take_model.new.desk in
    let given = run_given words (g.D.Desk.left start) (g.D.Desk.written start) (g.D.Desk.faults start) in
    let faults = desk_faults (g.D.Desk.faults after) (g.D.Desk.fault_at after) in
    let name = c.args.model.now in
    let left = g.D.Desk.left start name in
    let read = reading c.args.layout c.args.upper in
    let command = job checking c.args.layout c.args.upper name c.args.proof.now in
    let reply = c.in-Stopped.reply in
    let tried = subst (IsModelTaken read name (g.D.Desk.faults start) faults left) c.in-Stopped.is c.in_ok-reply.ensures.model in
    let taken = subst (λ stated. IsRead stated → g.D.Desk.left after name ≡ option_map (untaken most_bytes) left) c.in-Stopped.is c.in_ok-reply.ensures.left in
    takes_model given command spelled tt (g.D.Desk.left after) reply.status (names_differ words command spelled) c.take_model.ensures.others taken
    (model_other read name (g.D.Desk.faults start) faults left reply.status (output_of reply tried.0) tried.2)

pub returns-in_err-take_proof-in-Rows-clause-reason : goal.returns-in_err-take_proof-in-Rows-clause-reason
returns-in_err-take_proof-in-Rows-clause-reason g c = λ words spelled.
    let p = err_from_is_err_and c.from_residual-in_err-take_proof-in-Rows.result c.from_residual-in_err-take_proof-in-Rows.ensures.1 in
    rw (p.1, p.2) ([], [], inl (nothing_begun _), puts_nothing _ _ (λ name. c.take_proof.ensures.outputs name ∙ c.take_model.ensures.outputs name))

pub returns-in_err-take_proof-in-Rows-clause-inputs : goal.returns-in_err-take_proof-in-Rows-clause-inputs
returns-in_err-take_proof-in-Rows-clause-inputs g c = λ words spelled.
    let start = c.args.desk.now in
    let given = run_given words (g.D.Desk.left start) (g.D.Desk.written start) (g.D.Desk.faults start) in
    let command = job checking c.args.layout c.args.upper c.args.model.now c.args.proof.now in
    let p = err_from_is_err_and c.from_residual-in_err-take_proof-in-Rows.result c.from_residual-in_err-take_proof-in-Rows.ensures.1 in
    rw p.1
    (takes_some given command (g.D.Desk.left c.take_proof.new.desk) spelled
    (λ name no_input. c.take_proof.ensures.others name (λ e. no_input (inr (refl, e))) ∙ c.take_model.ensures.others name (λ e. no_input (inl (tt, e)))))

pub returns-clause-reason : goal.returns-clause-reason
returns-clause-reason g c = λ words spelled.
    let start = c.args.desk.now in
    let between = c.take_model.new.desk in
    let after = c.take_proof.new.desk in
    let given = run_given words (g.D.Desk.left start) (g.D.Desk.written start) (g.D.Desk.faults start) in
    let first = desk_faults (g.D.Desk.faults between) (g.D.Desk.fault_at between) in
    let faults = desk_faults (g.D.Desk.faults after) (g.D.Desk.fault_at after) in
    let model = c.args.model.now in
    let proof = c.args.proof.now in
    let read = reading c.args.layout c.args.upper in
    let command = job checking c.args.layout c.args.upper model proof in
    let stated = c.in-Rows.field-0 in
    let rows = c.in-Rows.rows in
    let of = subst (IsModelTaken read model (g.D.Desk.faults start) first (g.D.Desk.left start model)) c.in-Rows.is c.in_ok-reply.ensures.model in
    let apart = names_differ words command spelled in
    let reply = c.in_ok-take_proof-in-Rows.field-0 in
    let here = c.in_ok-take_proof-in-Rows.ensures.reply stated of.holds.same of.holds.has in
    let tried = subst (λ (left : Option (List ℕ)). Replies (IsTried proof (g.D.Desk.faults between) faults left (λ text. Checks text stated)) reply) (c.take_model.ensures.others proof apart) here in
    record {
      lines = tried.0;
      report = tried.1;
      made = [];
      reason = proof_reason given c.args.layout c.args.upper model proof spelled stated rows of (g.D.Desk.faults between) faults reply.status (output_of reply tried.0) refl c.take_model.ensures.later c.take_proof.ensures.later tried.2;
      put = puts_none given reply.proof (g.D.Desk.written after) (proof_nothing proof (g.D.Desk.faults between) faults (g.D.Desk.left start proof) stated reply.status (output_of reply tried.0) tried.2)
          (λ name. c.take_proof.ensures.outputs name ∙ c.take_model.ensures.outputs name);
    }

pub returns-clause-inputs : goal.returns-clause-inputs
returns-clause-inputs g c = λ words spelled.
    let start = c.args.desk.now in
    let between = c.take_model.new.desk in
    let after = c.take_proof.new.desk in
    let given = run_given words (g.D.Desk.left start) (g.D.Desk.written start) (g.D.Desk.faults start) in
    let first = desk_faults (g.D.Desk.faults between) (g.D.Desk.fault_at between) in
    let faults = desk_faults (g.D.Desk.faults after) (g.D.Desk.fault_at after) in
    let model = c.args.model.now in
    let proof = c.args.proof.now in
    let read = reading c.args.layout c.args.upper in
    let command = job checking c.args.layout c.args.upper model proof in
    let stated = c.in-Rows.field-0 in
    let rows = c.in-Rows.rows in
    let of = subst (IsModelTaken read model (g.D.Desk.faults start) first (g.D.Desk.left start model)) c.in-Rows.is c.in_ok-reply.ensures.model in
    let taken = subst (λ stated. IsRead stated → g.D.Desk.left between model ≡ option_map (untaken most_bytes) (g.D.Desk.left start model)) c.in-Rows.is c.in_ok-reply.ensures.left in
    let reply = c.in_ok-take_proof-in-Rows.field-0 in
    let here = c.in_ok-take_proof-in-Rows.ensures.reply stated of.holds.same of.holds.has in
    takes_both given c.args.layout c.args.upper model proof spelled stated rows of (g.D.Desk.left between) (g.D.Desk.left after) reply.status (names_differ words command spelled) c.take_model.ensures.others (taken tt)
    c.take_proof.ensures.others c.in_ok-take_proof-in-Rows.ensures.left
    (proof_other proof (g.D.Desk.faults between) faults (g.D.Desk.left between proof) stated reply.status (output_of reply here.0) of.holds.has here.2)
