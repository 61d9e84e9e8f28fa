use Rattle.std.proofs.Common.{[], ◌∷◌, refl, subst, ◌∙◌}
use Rattle.solve_cli.specs.declared.status.Status.TheVariants.{NoMemory}
use Rattle.std.specs.Prelude.{codes, Err, map, string_bytes}
use Rattle.solve_cli.specs.Answer.{run_given, desk_faults}
use Rattle.solve_cli.specs.Outputs.{Output, text_of}
use Rattle.solve_cli.specs.Solving.{IsReplied}
use Rattle.solve_cli.proofs.AnswerLaws.{run_answers, takes_said, completes, calm_said, last_said}
use Rattle.solve_cli.proofs.HeadlineLaws.{headline, market_status}
use Rattle.solve_cli.proofs.program.run.Goals as goal

pub returns-in-Ok-clause-answer : goal.returns-in-Ok-clause-answer
returns-in-Ok-clause-answer g c =
    let replied = c.in-Ok.ensures in
    let reply = c.in-Ok.reply in
    let all : Output = record { lines = replied.reason.lines; made = replied.reason.made; proof = text_of reply.proof } in
    run_answers _ _ _ _ _ reply.status c.say.result all _ _ _ _ replied.later (c.deref.ensures.value ∙ replied.reason.report) replied.said replied.reason.reason
    replied.reason.put c.say.ensures.outputs c.say.ensures.said

pub returns-in-Ok-clause-headline : goal.returns-in-Ok-clause-headline
returns-in-Ok-clause-headline g c = headline _ _ _ _ _ c.say.result (returns-in-Ok-clause-answer g c)

pub returns-in-Ok-clause-market : goal.returns-in-Ok-clause-market
returns-in-Ok-clause-market g c = market_status _ _ _ _ _ c.say.result (returns-in-Ok-clause-answer g c)

pub returns-in-Ok-clause-complete : goal.returns-in-Ok-clause-complete
returns-in-Ok-clause-complete g c = completes _ _ _ _ _ c.say.result (returns-in-Ok-clause-answer g c)

pub returns-in-Ok-clause-calm : goal.returns-in-Ok-clause-calm
returns-in-Ok-clause-calm g c = calm_said _ _ _ c.in-Ok.reply.status c.say.result _ _ _ c.say.ensures.said c.in-Ok.ensures.calm

pub returns-in-Ok-clause-write : goal.returns-in-Ok-clause-write
returns-in-Ok-clause-write g c = last_said _ _ _ c.in-Ok.reply.status c.say.result _ _ _ c.say.ensures.said c.in-Ok.ensures.take

pub returns-in-Ok-clause-inputs : goal.returns-in-Ok-clause-inputs
returns-in-Ok-clause-inputs g c =
    takes_said _ c.in-Ok.reply.status c.say.result _ _ _ _ _ _ _ c.in-Ok.ensures.inputs c.say.ensures.said c.say.ensures.inputs

pub returns-in-Err-NoMemory-clause-answer : goal.returns-in-Err-NoMemory-clause-answer
returns-in-Err-NoMemory-clause-answer g c =
    let replied = c.in-Err-NoMemory.ensures in
    let start = c.args.desk.now in
    let between = c.reply_to.new.desk in
    let given = run_given (map string_bytes c.args.words.now.items) (g.D.Desk.left start) (g.D.Desk.written start) (g.D.Desk.faults start) in
    let faults = desk_faults (g.D.Desk.faults between) (g.D.Desk.fault_at between) in
    let part = subst (λ stop. IsReplied given faults (g.D.Desk.written between) (Err stop)) c.in-Err-NoMemory.field-0-is replied.reason in
    let all : Output = record { lines = codes "NOMEMORY" ∷ []; made = part.0; proof = part.1 } in
    run_answers given faults _ _ _ NoMemory c.say-in-Err-NoMemory.result all _ _ _ _ replied.later refl replied.said (record { report = refl; put = part.2 })
    part.3 c.say-in-Err-NoMemory.ensures.outputs c.say-in-Err-NoMemory.ensures.said

pub returns-in-Err-NoMemory-clause-headline : goal.returns-in-Err-NoMemory-clause-headline
returns-in-Err-NoMemory-clause-headline g c = headline _ _ _ _ _ c.say-in-Err-NoMemory.result (returns-in-Err-NoMemory-clause-answer g c)

pub returns-in-Err-NoMemory-clause-market : goal.returns-in-Err-NoMemory-clause-market
returns-in-Err-NoMemory-clause-market g c = market_status _ _ _ _ _ c.say-in-Err-NoMemory.result (returns-in-Err-NoMemory-clause-answer g c)

pub returns-in-Err-NoMemory-clause-complete : goal.returns-in-Err-NoMemory-clause-complete
returns-in-Err-NoMemory-clause-complete g c = completes _ _ _ _ _ c.say-in-Err-NoMemory.result (returns-in-Err-NoMemory-clause-answer g c)

pub returns-in-Err-NoMemory-clause-inputs : goal.returns-in-Err-NoMemory-clause-inputs
returns-in-Err-NoMemory-clause-inputs g c =
    takes_said _ NoMemory c.say-in-Err-NoMemory.result _ _ _ _ _ _ _ c.in-Err-NoMemory.ensures.inputs c.say-in-Err-NoMemory.ensures.said c.say-in-Err-NoMemory.ensures.inputs
