use Rattle.std.proofs.Common.{◌≡◌, [], refl, subst, ◌∙◌, inl}
use Rattle.std.specs.Prelude.{option_map, Ok}
use Rattle.std.proofs.lemmas.Result.{err_from_is_err_and}
use Rattle.mps_fields.specs.Lines.{most_bytes}
use Rattle.solve_cli.specs.Words.{reading, solving, job}
use Rattle.solve_cli.specs.Limits.{untaken}
use Rattle.solve_cli.specs.Answer.{run_given, desk_faults}
use Rattle.solve_cli.specs.Outputs.{text_of}
use Rattle.solve_cli.specs.Putting.{told_by, IsPut}
use Rattle.solve_cli.specs.Verdict.{Solves}
use Rattle.solve_cli.specs.Solving.{output_of, Replies, IsModelTaken, IsRead}
use Rattle.solve_cli.proofs.SpellLaws.{names_differ}
use Rattle.solve_cli.proofs.SolveLaws.{model_reason, model_nothing, model_other, takes_model, takes_some, solves_other, nothing_begun, replied_put, replied_stop, put_takes, puts_nothing, puts_none}
use Rattle.solve_cli.proofs.program.solve_file.Goals as goal

pub returns-in_err-reply-clause-reason : goal.returns-in_err-reply-clause-reason
returns-in_err-reply-clause-reason g c = λ words spelled.
    let p = err_from_is_err_and c.from_residual.result c.from_residual.ensures.1 in
    rw (p.1, p.2) ([], [], inl (nothing_begun _), puts_nothing _ _ c.take_model.ensures.outputs)

pub returns-in-Stopped-clause-reason : goal.returns-in-Stopped-clause-reason
returns-in-Stopped-clause-reason g c = λ words spelled.
    let start = c.args.desk.now in
    let after = c.take_model.new.desk in
    let given = run_given words (g.D.Desk.left start) (g.D.Desk.written start) (g.D.Desk.faults start) in
    let faults = desk_faults (g.D.Desk.faults after) (g.D.Desk.fault_at after) in
    let name = c.args.model.now in
    let left = g.D.Desk.left start name in
    let read = reading c.args.layout c.args.upper in
    let command = job (solving c.args.nodes) c.args.layout c.args.upper name c.args.proof.now in
    let reply = c.in-Stopped.reply in
    let tried = subst (IsModelTaken read name (g.D.Desk.faults start) faults left) c.in-Stopped.is c.in_ok-reply.ensures.model in
    record {
      lines = tried.0;
      report = tried.1;
      made = [];
      reason = model_reason given command spelled tt faults reply.status (output_of reply tried.0) refl tried.2;
      put = puts_none given reply.proof (g.D.Desk.written after) (model_nothing read name (g.D.Desk.faults start) faults left reply.status (output_of reply tried.0) tried.2) c.take_model.ensures.outputs;
    }

pub returns-in-Stopped-clause-inputs : goal.returns-in-Stopped-clause-inputs
returns-in-Stopped-clause-inputs g c = λ words spelled.
    let start = c.args.desk.now in
    let after = c.take_model.new.desk in
    let given = run_given words (g.D.Desk.left start) (g.D.Desk.written start) (g.D.Desk.faults start) in
    let faults = desk_faults (g.D.Desk.faults after) (g.D.Desk.fault_at after) in
    let name = c.args.model.now in
    let left = g.D.Desk.left start name in
    let read = reading c.args.layout c.args.upper in
    let command = job (solving c.args.nodes) c.args.layout c.args.upper name c.args.proof.now in
    let reply = c.in-Stopped.reply in
    let tried = subst (IsModelTaken read name (g.D.Desk.faults start) faults left) c.in-Stopped.is c.in_ok-reply.ensures.model in
    let taken = subst (λ stated. IsRead stated → g.D.Desk.left after name ≡ option_map (untaken most_bytes) left) c.in-Stopped.is c.in_ok-reply.ensures.left in
    takes_model given command spelled tt (g.D.Desk.left after) reply.status (names_differ words command spelled) c.take_model.ensures.others taken
    (model_other read name (g.D.Desk.faults start) faults left reply.status (output_of reply tried.0) tried.2)

pub returns-in_err-reply-in-Rows-clause-reason : goal.returns-in_err-reply-in-Rows-clause-reason
returns-in_err-reply-in-Rows-clause-reason g c = λ words spelled.
    let p = err_from_is_err_and c.from_residual-in_err-reply-in-Rows.result c.from_residual-in_err-reply-in-Rows.ensures.1 in
    rw (p.1, p.2) ([], [], inl (nothing_begun _), puts_nothing _ _ c.take_model.ensures.outputs)

pub returns-in_err-put_proof-in-Rows-clause-reason : goal.returns-in_err-put_proof-in-Rows-clause-reason
returns-in_err-put_proof-in-Rows-clause-reason g c = λ words spelled.
    let start = c.args.desk.now in
    let between = c.take_model.new.desk in
    let after = c.put_proof.new.desk in
    let given = run_given words (g.D.Desk.left start) (g.D.Desk.written start) (g.D.Desk.faults start) in
    let first = desk_faults (g.D.Desk.faults between) (g.D.Desk.fault_at between) in
    let model = c.args.model.now in
    let proof = c.args.proof.now in
    let read = reading c.args.layout c.args.upper in
    let of = subst (IsModelTaken read model (g.D.Desk.faults start) first (g.D.Desk.left start model)) c.in-Rows.is c.in_ok-reply.ensures.model in
    let reply = c.in_ok-reply-in-Rows.reply in
    let command = job (solving c.args.nodes) c.args.layout c.args.upper model proof in
    let solved = subst (λ columns. Replies (Solves columns c.args.nodes c.in-Rows.model) reply) c.items.ensures (c.in_ok-reply-in-Rows.ensures c.in-Rows.model of.holds.same of.holds.has) in
    let old = told_by (g.D.Desk.left between) (g.D.Desk.written between) (g.D.Desk.said between) first in
    let new = told_by (g.D.Desk.left after) (g.D.Desk.written after) (g.D.Desk.said after) (desk_faults (g.D.Desk.faults after) (g.D.Desk.fault_at after)) in
    let put = subst (λ name. IsPut name (text_of reply.proof) c.put_proof.result old new) c.text.ensures.text c.put_proof.ensures in
    let p = err_from_is_err_and c.from_residual-in_err-put_proof-in-Rows.result c.from_residual-in_err-put_proof-in-Rows.ensures.1 in
    rw (p.1, p.2)
    (replied_stop given command spelled c.args.nodes refl of.text of.told of.holds.short c.in-Rows.model of.holds.states reply (λ other. solved) c.put_proof.result old new
    (puts_nothing given (g.D.Desk.written between) c.take_model.ensures.outputs) (names_differ words command spelled) c.take_model.ensures.later put
    _ c.in_err-put_proof-in-Rows.was)

pub returns-in_err-put_proof-in-Rows-clause-inputs : goal.returns-in_err-put_proof-in-Rows-clause-inputs
returns-in_err-put_proof-in-Rows-clause-inputs g c = λ words spelled.
    let start = c.args.desk.now in
    let given = run_given words (g.D.Desk.left start) (g.D.Desk.written start) (g.D.Desk.faults start) in
    let command = job (solving c.args.nodes) c.args.layout c.args.upper c.args.model.now c.args.proof.now in
    let p = err_from_is_err_and c.from_residual-in_err-put_proof-in-Rows.result c.from_residual-in_err-put_proof-in-Rows.ensures.1 in
    rw p.1 (takes_some given command (g.D.Desk.left c.put_proof.new.desk) spelled (λ name no_input. c.put_proof.ensures.inputs name ∙ c.take_model.ensures.others name (λ e. no_input (inl (tt, e)))))

pub returns-in_err-put_proof-in-Rows-clause-take : goal.returns-in_err-put_proof-in-Rows-clause-take
returns-in_err-put_proof-in-Rows-clause-take g c =
    let start = c.args.desk.now in
    let between = c.take_model.new.desk in
    let after = c.put_proof.new.desk in
    let old = told_by (g.D.Desk.left between) (g.D.Desk.written between) (g.D.Desk.said between) (desk_faults (g.D.Desk.faults between) (g.D.Desk.fault_at between)) in
    let new = told_by (g.D.Desk.left after) (g.D.Desk.written after) (g.D.Desk.said after) (desk_faults (g.D.Desk.faults after) (g.D.Desk.fault_at after)) in
    let p = err_from_is_err_and c.from_residual-in_err-put_proof-in-Rows.result c.from_residual-in_err-put_proof-in-Rows.ensures.1 in
    rw (p.1, p.2)
    (put_takes c.text.result.now (text_of c.in_ok-reply-in-Rows.reply.proof) c.put_proof.result (desk_faults (g.D.Desk.faults start) (g.D.Desk.fault_at start)) old new c.put_proof.ensures c.take_model.ensures.take _ c.in_err-put_proof-in-Rows.was)

pub returns-in_ok-put_proof-in-Rows-clause-reason : goal.returns-in_ok-put_proof-in-Rows-clause-reason
returns-in_ok-put_proof-in-Rows-clause-reason g c = λ words spelled.
    let start = c.args.desk.now in
    let between = c.take_model.new.desk in
    let after = c.put_proof.new.desk in
    let given = run_given words (g.D.Desk.left start) (g.D.Desk.written start) (g.D.Desk.faults start) in
    let first = desk_faults (g.D.Desk.faults between) (g.D.Desk.fault_at between) in
    let model = c.args.model.now in
    let proof = c.args.proof.now in
    let read = reading c.args.layout c.args.upper in
    let of = subst (IsModelTaken read model (g.D.Desk.faults start) first (g.D.Desk.left start model)) c.in-Rows.is c.in_ok-reply.ensures.model in
    let reply = c.in_ok-reply-in-Rows.reply in
    let command = job (solving c.args.nodes) c.args.layout c.args.upper model proof in
    let solved = subst (λ columns. Replies (Solves columns c.args.nodes c.in-Rows.model) reply) c.items.ensures (c.in_ok-reply-in-Rows.ensures c.in-Rows.model of.holds.same of.holds.has) in
    let old = told_by (g.D.Desk.left between) (g.D.Desk.written between) (g.D.Desk.said between) first in
    let new = told_by (g.D.Desk.left after) (g.D.Desk.written after) (g.D.Desk.said after) (desk_faults (g.D.Desk.faults after) (g.D.Desk.fault_at after)) in
    let put = subst (λ name. IsPut name (text_of reply.proof) (Ok tt) old new) c.text.ensures.text c.in_ok-put_proof-in-Rows.ensures in
    replied_put given command spelled c.args.nodes refl of.text of.told of.holds.short c.in-Rows.model of.holds.states reply (λ other. solved) (Ok tt) old new
    (puts_nothing given (g.D.Desk.written between) c.take_model.ensures.outputs) (names_differ words command spelled) c.take_model.ensures.later put refl

pub returns-in_ok-put_proof-in-Rows-clause-inputs : goal.returns-in_ok-put_proof-in-Rows-clause-inputs
returns-in_ok-put_proof-in-Rows-clause-inputs g c = λ words spelled.
    let start = c.args.desk.now in
    let after = c.put_proof.new.desk in
    let given = run_given words (g.D.Desk.left start) (g.D.Desk.written start) (g.D.Desk.faults start) in
    let model = c.args.model.now in
    let command = job (solving c.args.nodes) c.args.layout c.args.upper model c.args.proof.now in
    let taken = subst (λ stated. IsRead stated → g.D.Desk.left c.take_model.new.desk model ≡ option_map (untaken most_bytes) (g.D.Desk.left start model)) c.in-Rows.is c.in_ok-reply.ensures.left in
    let reply = c.in_ok-reply-in-Rows.reply in
    let first = desk_faults (g.D.Desk.faults c.take_model.new.desk) (g.D.Desk.fault_at c.take_model.new.desk) in
    let read = reading c.args.layout c.args.upper in
    let of = subst (IsModelTaken read model (g.D.Desk.faults start) first (g.D.Desk.left start model)) c.in-Rows.is c.in_ok-reply.ensures.model in
    let solved = c.in_ok-reply-in-Rows.ensures c.in-Rows.model of.holds.same of.holds.has in
    takes_model given command spelled tt (g.D.Desk.left after) reply.status (names_differ words command spelled) (λ name apart. c.in_ok-put_proof-in-Rows.ensures.inputs name ∙ c.take_model.ensures.others name apart)
    (λ judged. c.in_ok-put_proof-in-Rows.ensures.inputs model ∙ taken tt) (solves_other c.items.result.now c.args.nodes c.in-Rows.model reply.status (output_of reply solved.0) solved.2)
