use Rattle.std.proofs.Common.{[], refl, subst, subst₂, ◌∙◌, inl, arith}
use Rattle.std.specs.Prelude.{Ok}
use Rattle.std.proofs.lemmas.Result.{err_from_is_err_and}
use Rattle.mps_write.specs.CanonicalText.{canonical_text}
use Rattle.mps_write.specs.Markets.{market_model}
use Rattle.solve_cli.specs.declared.status.Status.TheVariants.{NoMemory}
use Rattle.solve_cli.specs.Words.{making, market_job}
use Rattle.solve_cli.specs.MarketTexts.{market_text}
use Rattle.solve_cli.specs.Outputs.{text_of}
use Rattle.solve_cli.specs.Answer.{run_given, desk_faults}
use Rattle.solve_cli.specs.Putting.{told_by, IsPut}
use Rattle.solve_cli.specs.Solving.{output_of}
use Rattle.solve_cli.proofs.SpellLaws.{names_differ}
use Rattle.solve_cli.proofs.SolveLaws.{nothing_begun, puts_nothing, replied_put, replied_stop, put_takes, comes_judged}
use Rattle.solve_cli.proofs.MadeLaws.{text_of_market, all_bytes, made_whole, made_stop, takes_nothing, market_told, summed_of}
use Rattle.solve_cli.proofs.market_file.make_file.Goals as goal

pub returns-in_err-made-clause-reason : goal.returns-in_err-made-clause-reason
returns-in_err-made-clause-reason g c = λ words spelled.
    let p = err_from_is_err_and c.from_residual.result c.from_residual.ensures.1 in
    rw (p.1, p.2) ([], [], inl (nothing_begun _), puts_nothing _ _ (λ name. refl))

pub returns-in_err-made-clause-inputs : goal.returns-in_err-made-clause-inputs
returns-in_err-made-clause-inputs g c = λ words spelled.
    let start = c.args.desk.now in
    let m = c.args.m in
    let n = c.args.n in
    let s = c.args.start in
    let model = c.args.model.now in
    let proof = c.args.proof.now in
    let given = run_given words (g.D.Desk.left start) (g.D.Desk.written start) (g.D.Desk.faults start) in
    let p = err_from_is_err_and c.from_residual.result c.from_residual.ensures.1 in
    rw p.1 (takes_nothing given model proof m n s spelled (g.D.Desk.left start) NoMemory (λ name. refl) (λ h. h))

pub returns-in_err-put_model-clause-reason : goal.returns-in_err-put_model-clause-reason
returns-in_err-put_model-clause-reason g c = λ words spelled.
    let start = c.args.desk.now in
    let m = c.args.m in
    let n = c.args.n in
    let s = c.args.start in
    let model = c.args.model.now in
    let proof = c.args.proof.now in
    let given = run_given words (g.D.Desk.left start) (g.D.Desk.written start) (g.D.Desk.faults start) in
    let between = c.put_model.new.desk in
    let old = told_by (g.D.Desk.left start) (g.D.Desk.written start) (g.D.Desk.said start) (desk_faults (g.D.Desk.faults start) (g.D.Desk.fault_at start)) in
    let new = told_by (g.D.Desk.left between) (g.D.Desk.written between) (g.D.Desk.said between) (desk_faults (g.D.Desk.faults between) (g.D.Desk.fault_at between)) in
    let same = text_of_market m n s c.in_ok-made.made c.in_ok-made.ensures.model in
    let put = subst₂ (λ name bytes. IsPut name bytes c.put_model.result old new) c.text.ensures.text same c.put_model.ensures.put in
    let p = err_from_is_err_and c.from_residual-in_err-put_model.result c.from_residual-in_err-put_model.ensures.1 in
    rw (p.1, p.2) (made_stop given model proof m n s spelled c.put_model.result old new (λ name. refl) (omega arith) put _ c.in_err-put_model.was)

pub returns-in_err-put_model-clause-inputs : goal.returns-in_err-put_model-clause-inputs
returns-in_err-put_model-clause-inputs g c = λ words spelled.
    let start = c.args.desk.now in
    let m = c.args.m in
    let n = c.args.n in
    let s = c.args.start in
    let model = c.args.model.now in
    let proof = c.args.proof.now in
    let given = run_given words (g.D.Desk.left start) (g.D.Desk.written start) (g.D.Desk.faults start) in
    let p = err_from_is_err_and c.from_residual-in_err-put_model.result c.from_residual-in_err-put_model.ensures.1 in
    rw p.1 (takes_nothing given model proof m n s spelled (g.D.Desk.left c.put_model.new.desk) NoMemory c.put_model.ensures.put.inputs (λ h. h))

pub returns-in_err-put_model-clause-take : goal.returns-in_err-put_model-clause-take
returns-in_err-put_model-clause-take g c =
    let start = c.args.desk.now in
    let between = c.put_model.new.desk in
    let old = told_by (g.D.Desk.left start) (g.D.Desk.written start) (g.D.Desk.said start) (desk_faults (g.D.Desk.faults start) (g.D.Desk.fault_at start)) in
    let new = told_by (g.D.Desk.left between) (g.D.Desk.written between) (g.D.Desk.said between) (desk_faults (g.D.Desk.faults between) (g.D.Desk.fault_at between)) in
    let p = err_from_is_err_and c.from_residual-in_err-put_model.result c.from_residual-in_err-put_model.ensures.1 in
    rw (p.1, p.2) (put_takes c.text.result.now (canonical_text c.in_ok-made.made) c.put_model.result old.faults old new c.put_model.ensures.put (inl refl) _ c.in_err-put_model.was)

pub returns-in_err-found-clause-reason : goal.returns-in_err-found-clause-reason
returns-in_err-found-clause-reason g c = λ words spelled.
    let start = c.args.desk.now in
    let m = c.args.m in
    let n = c.args.n in
    let s = c.args.start in
    let model = c.args.model.now in
    let proof = c.args.proof.now in
    let given = run_given words (g.D.Desk.left start) (g.D.Desk.written start) (g.D.Desk.faults start) in
    let between = c.put_model.new.desk in
    let old = told_by (g.D.Desk.left start) (g.D.Desk.written start) (g.D.Desk.said start) (desk_faults (g.D.Desk.faults start) (g.D.Desk.fault_at start)) in
    let new = told_by (g.D.Desk.left between) (g.D.Desk.written between) (g.D.Desk.said between) (desk_faults (g.D.Desk.faults between) (g.D.Desk.fault_at between)) in
    let same = text_of_market m n s c.in_ok-made.made c.in_ok-made.ensures.model in
    let put = subst₂ (λ name bytes. IsPut name bytes (Ok tt) old new) c.text.ensures.text same c.in_ok-put_model.ensures.put in
    let p = err_from_is_err_and c.from_residual-in_err-found.result c.from_residual-in_err-found.ensures.1 in
    rw (p.1, p.2)
    (market_text m n s, [], inl (all_bytes given model proof m n s spelled), made_whole given model proof m n s spelled (Ok tt) old new (λ name. refl) (omega arith) put refl)

pub returns-in_err-found-clause-inputs : goal.returns-in_err-found-clause-inputs
returns-in_err-found-clause-inputs g c = λ words spelled.
    let start = c.args.desk.now in
    let m = c.args.m in
    let n = c.args.n in
    let s = c.args.start in
    let model = c.args.model.now in
    let proof = c.args.proof.now in
    let given = run_given words (g.D.Desk.left start) (g.D.Desk.written start) (g.D.Desk.faults start) in
    let p = err_from_is_err_and c.from_residual-in_err-found.result c.from_residual-in_err-found.ensures.1 in
    rw p.1 (takes_nothing given model proof m n s spelled (g.D.Desk.left c.put_model.new.desk) NoMemory c.in_ok-put_model.ensures.put.inputs (λ h. h))

pub returns-in_err-reply-clause-reason : goal.returns-in_err-reply-clause-reason
returns-in_err-reply-clause-reason g c = λ words spelled.
    let start = c.args.desk.now in
    let m = c.args.m in
    let n = c.args.n in
    let s = c.args.start in
    let model = c.args.model.now in
    let proof = c.args.proof.now in
    let given = run_given words (g.D.Desk.left start) (g.D.Desk.written start) (g.D.Desk.faults start) in
    let between = c.put_model.new.desk in
    let old = told_by (g.D.Desk.left start) (g.D.Desk.written start) (g.D.Desk.said start) (desk_faults (g.D.Desk.faults start) (g.D.Desk.fault_at start)) in
    let new = told_by (g.D.Desk.left between) (g.D.Desk.written between) (g.D.Desk.said between) (desk_faults (g.D.Desk.faults between) (g.D.Desk.fault_at between)) in
    let same = text_of_market m n s c.in_ok-made.made c.in_ok-made.ensures.model in
    let put = subst₂ (λ name bytes. IsPut name bytes (Ok tt) old new) c.text.ensures.text same c.in_ok-put_model.ensures.put in
    let p = err_from_is_err_and c.from_residual-in_err-reply.result c.from_residual-in_err-reply.ensures.1 in
    rw (p.1, p.2)
    (market_text m n s, [], inl (all_bytes given model proof m n s spelled), made_whole given model proof m n s spelled (Ok tt) old new (λ name. refl) (omega arith) put refl)

pub returns-in_err-reply-clause-inputs : goal.returns-in_err-reply-clause-inputs
returns-in_err-reply-clause-inputs g c = λ words spelled.
    let start = c.args.desk.now in
    let m = c.args.m in
    let n = c.args.n in
    let s = c.args.start in
    let model = c.args.model.now in
    let proof = c.args.proof.now in
    let given = run_given words (g.D.Desk.left start) (g.D.Desk.written start) (g.D.Desk.faults start) in
    let p = err_from_is_err_and c.from_residual-in_err-reply.result c.from_residual-in_err-reply.ensures.1 in
    rw p.1 (takes_nothing given model proof m n s spelled (g.D.Desk.left c.put_model.new.desk) NoMemory c.in_ok-put_model.ensures.put.inputs (λ h. h))

pub returns-in_err-put_proof-clause-reason : goal.returns-in_err-put_proof-clause-reason
returns-in_err-put_proof-clause-reason g c = λ words spelled.
    let start = c.args.desk.now in
    let m = c.args.m in
    let n = c.args.n in
    let s = c.args.start in
    let model = c.args.model.now in
    let proof = c.args.proof.now in
    let given = run_given words (g.D.Desk.left start) (g.D.Desk.written start) (g.D.Desk.faults start) in
    let between = c.put_model.new.desk in
    let after = c.put_proof.new.desk in
    let old = told_by (g.D.Desk.left start) (g.D.Desk.written start) (g.D.Desk.said start) (desk_faults (g.D.Desk.faults start) (g.D.Desk.fault_at start)) in
    let new = told_by (g.D.Desk.left between) (g.D.Desk.written between) (g.D.Desk.said between) (desk_faults (g.D.Desk.faults between) (g.D.Desk.fault_at between)) in
    let last = told_by (g.D.Desk.left after) (g.D.Desk.written after) (g.D.Desk.said after) (desk_faults (g.D.Desk.faults after) (g.D.Desk.fault_at after)) in
    let same = text_of_market m n s c.in_ok-made.made c.in_ok-made.ensures.model in
    let put = subst₂ (λ name bytes. IsPut name bytes (Ok tt) old new) c.text.ensures.text same c.in_ok-put_model.ensures.put in
    let whole = made_whole given model proof m n s spelled (Ok tt) old new (λ name. refl) (omega arith) put refl in
    let reply = c.in_ok-reply.reply in
    let told = market_told m n s c.in_ok-made.made c.in_ok-made.ensures.model c.in_ok-put_model.ensures.states c.in_ok-put_model.ensures.short in
    let found = summed_of c.in_ok-made.made (market_model m n s) c.in_ok-found.found c.in_ok-made.ensures.model c.in_ok-found.ensures in
    let solved = c.in_ok-reply.ensures (market_model m n s) found in
    let behind = subst (λ name. IsPut name (text_of reply.proof) c.put_proof.result new last) c.text-2.ensures.text c.put_proof.ensures in
    let p = err_from_is_err_and c.from_residual-in_err-put_proof.result c.from_residual-in_err-put_proof.ensures.1 in
    rw (p.1, p.2)
    (replied_stop given (market_job model proof m n s) spelled 1000 refl (market_text m n s) told told.short (market_model m n s) told.states reply (λ other. solved) c.put_proof.result new last whole
    (names_differ words (market_job model proof m n s) spelled) c.in_ok-put_model.ensures.put.later behind _ c.in_err-put_proof.was)

pub returns-in_err-put_proof-clause-inputs : goal.returns-in_err-put_proof-clause-inputs
returns-in_err-put_proof-clause-inputs g c = λ words spelled.
    let start = c.args.desk.now in
    let m = c.args.m in
    let n = c.args.n in
    let s = c.args.start in
    let model = c.args.model.now in
    let proof = c.args.proof.now in
    let given = run_given words (g.D.Desk.left start) (g.D.Desk.written start) (g.D.Desk.faults start) in
    let p = err_from_is_err_and c.from_residual-in_err-put_proof.result c.from_residual-in_err-put_proof.ensures.1 in
    rw p.1
    (takes_nothing given model proof m n s spelled (g.D.Desk.left c.put_proof.new.desk) NoMemory (λ name. c.put_proof.ensures.inputs name ∙ c.in_ok-put_model.ensures.put.inputs name) (λ h. h))

pub returns-in_err-put_proof-clause-take : goal.returns-in_err-put_proof-clause-take
returns-in_err-put_proof-clause-take g c =
    let start = c.args.desk.now in
    let between = c.put_model.new.desk in
    let after = c.put_proof.new.desk in
    let old = told_by (g.D.Desk.left start) (g.D.Desk.written start) (g.D.Desk.said start) (desk_faults (g.D.Desk.faults start) (g.D.Desk.fault_at start)) in
    let new = told_by (g.D.Desk.left between) (g.D.Desk.written between) (g.D.Desk.said between) (desk_faults (g.D.Desk.faults between) (g.D.Desk.fault_at between)) in
    let last = told_by (g.D.Desk.left after) (g.D.Desk.written after) (g.D.Desk.said after) (desk_faults (g.D.Desk.faults after) (g.D.Desk.fault_at after)) in
    let p = err_from_is_err_and c.from_residual-in_err-put_proof.result c.from_residual-in_err-put_proof.ensures.1 in
    rw (p.1, p.2)
    (put_takes c.text-2.result.now (text_of c.in_ok-reply.reply.proof) c.put_proof.result old.faults new last c.put_proof.ensures (inl (c.in_ok-put_model.ensures.put.kept tt)) _ c.in_err-put_proof.was)

pub returns-clause-reason : goal.returns-clause-reason
returns-clause-reason g c = λ words spelled.
    let start = c.args.desk.now in
    let m = c.args.m in
    let n = c.args.n in
    let s = c.args.start in
    let model = c.args.model.now in
    let proof = c.args.proof.now in
    let given = run_given words (g.D.Desk.left start) (g.D.Desk.written start) (g.D.Desk.faults start) in
    let between = c.put_model.new.desk in
    let after = c.put_proof.new.desk in
    let old = told_by (g.D.Desk.left start) (g.D.Desk.written start) (g.D.Desk.said start) (desk_faults (g.D.Desk.faults start) (g.D.Desk.fault_at start)) in
    let new = told_by (g.D.Desk.left between) (g.D.Desk.written between) (g.D.Desk.said between) (desk_faults (g.D.Desk.faults between) (g.D.Desk.fault_at between)) in
    let last = told_by (g.D.Desk.left after) (g.D.Desk.written after) (g.D.Desk.said after) (desk_faults (g.D.Desk.faults after) (g.D.Desk.fault_at after)) in
    let same = text_of_market m n s c.in_ok-made.made c.in_ok-made.ensures.model in
    let put = subst₂ (λ name bytes. IsPut name bytes (Ok tt) old new) c.text.ensures.text same c.in_ok-put_model.ensures.put in
    let whole = made_whole given model proof m n s spelled (Ok tt) old new (λ name. refl) (omega arith) put refl in
    let reply = c.in_ok-reply.reply in
    let told = market_told m n s c.in_ok-made.made c.in_ok-made.ensures.model c.in_ok-put_model.ensures.states c.in_ok-put_model.ensures.short in
    let found = summed_of c.in_ok-made.made (market_model m n s) c.in_ok-found.found c.in_ok-made.ensures.model c.in_ok-found.ensures in
    let solved = c.in_ok-reply.ensures (market_model m n s) found in
    let behind = subst (λ name. IsPut name (text_of reply.proof) (Ok tt) new last) c.text-2.ensures.text c.in_ok-put_proof.ensures in
    replied_put given (market_job model proof m n s) spelled 1000 refl (market_text m n s) told told.short (market_model m n s) told.states reply (λ other. solved) (Ok tt) new last whole
    (names_differ words (market_job model proof m n s) spelled) c.in_ok-put_model.ensures.put.later behind refl

pub returns-clause-inputs : goal.returns-clause-inputs
returns-clause-inputs g c = λ words spelled.
    let start = c.args.desk.now in
    let m = c.args.m in
    let n = c.args.n in
    let s = c.args.start in
    let model = c.args.model.now in
    let proof = c.args.proof.now in
    let given = run_given words (g.D.Desk.left start) (g.D.Desk.written start) (g.D.Desk.faults start) in
    let between = c.put_model.new.desk in
    let after = c.put_proof.new.desk in
    let old = told_by (g.D.Desk.left start) (g.D.Desk.written start) (g.D.Desk.said start) (desk_faults (g.D.Desk.faults start) (g.D.Desk.fault_at start)) in
    let new = told_by (g.D.Desk.left between) (g.D.Desk.written between) (g.D.Desk.said between) (desk_faults (g.D.Desk.faults between) (g.D.Desk.fault_at between)) in
    let last = told_by (g.D.Desk.left after) (g.D.Desk.written after) (g.D.Desk.said after) (desk_faults (g.D.Desk.faults after) (g.D.Desk.fault_at after)) in
    let same = text_of_market m n s c.in_ok-made.made c.in_ok-made.ensures.model in
    let put = subst₂ (λ name bytes. IsPut name bytes (Ok tt) old new) c.text.ensures.text same c.in_ok-put_model.ensures.put in
    let whole = made_whole given model proof m n s spelled (Ok tt) old new (λ name. refl) (omega arith) put refl in
    let reply = c.in_ok-reply.reply in
    let told = market_told m n s c.in_ok-made.made c.in_ok-made.ensures.model c.in_ok-put_model.ensures.states c.in_ok-put_model.ensures.short in
    let found = summed_of c.in_ok-made.made (market_model m n s) c.in_ok-found.found c.in_ok-made.ensures.model c.in_ok-found.ensures in
    let solved = c.in_ok-reply.ensures (market_model m n s) found in
    takes_nothing given model proof m n s spelled (g.D.Desk.left after) reply.status (λ name. c.in_ok-put_proof.ensures.inputs name ∙ c.in_ok-put_model.ensures.put.inputs name)
    (comes_judged (making m n s) 1000 [] (market_model m n s) reply.status (output_of reply solved.0) refl solved.2).1
