-- From what the parts of a run answer to what the run answers.
use Rattle.std.proofs.Common.{◌≡◌, ⊎_elim, inl, inr, ◌≤◌, ℕ, List, [], Option, Some, None, refl, sym, ap, subst, ◌∙◌, arith}
use Rattle.std.specs.Prelude.{option_map, IfSome}
use Rattle.std.proofs.lemmas.Option.{same_Some, none-some}
use Rattle.desk_io.specs.Desk.{Fault, fault, Rose, appended, AppendsSome, Same}
use Rattle.desk_io.specs.declared.desk.Call.TheVariants.{Take, Put, Say}
use Rattle.desk_io.specs.AppendLaws.{appends_all}
use Rattle.desk_io.specs.FaultLaws.{rose_after}
use Rattle.solve_cli.specs.declared.status.Status.{Status}
use Rattle.solve_cli.specs.declared.status.Status.TheVariants.{Words, ReadFault, WriteFault, NoMemory}
use Rattle.int_model.specs.declared.model.Model.{Model}
use Rattle.solve_cli.specs.Words.{Task, solving, checking, making, Job, command_of}
use Rattle.solve_cli.specs.Report.{report_of}
use Rattle.solve_cli.specs.Verdict.{Checks, Comes, Verdict}
use Rattle.solve_cli.specs.Answer.{Given, Faults, IsJudgedText, Judges, Reason, Puts, FailsToPut, FailsToMake, SaysSome, Answer, IsJudged, IsOfModel, IsOfProof, IsCalm, KeepsFaults, FailedInWrite, TakesInput, Gives, IsToldText, Tells, IsComplete}
use Rattle.solve_cli.specs.Solving.{IsSaid, FailsInTake}
use Rattle.solve_cli.specs.Outputs.{Output}
use Rattle.solve_cli.proofs.VerdictLaws.{ends, decides, checks}
use Rattle.solve_cli.proofs.SolveLaws.{verdict_on, puts_same}

-- ---- the answer

-- a status whose lines were said, once its proof was put
module _ (given : Given) (faults : Faults) (written : List ℕ → Option (List ℕ)) where
  all_said : (status : Status) (out : Output) (before after : Option (List ℕ)) → Reason given faults status out → Puts given out.made out.proof written
      → after ≡ option_map (appended (report_of out.lines)) before → Answer given faults written before after status
  all_said WriteFault out before after reason put said = absurd reason
  all_said NoMemory out before after reason put said =
      record { status = NoMemory; out = out; reason = reason; put = put; said = appends_all (report_of out.lines) before after said }
  all_said status out before after reason put said = record { out = out; reason = reason; put = put; said = said }

module _ (given : Given) (faults now : Faults) (written : List ℕ → Option (List ℕ)) (status result : Status) (out : Output) (before after : Option (List ℕ))
    (later : given.faults ≤ faults.count) (reason : Reason given faults status out) (put : Puts given out.made out.proof written)
    (said : IsSaid (report_of out.lines) status faults now before after result) where
  some_said : AppendsSome (report_of out.lines) before after → SaysSome given faults written before after
  some_said part = record { status = status; out = out; reason = reason; put = put; said = part }

  pub answers : Answer given now written before after result
  answers =
      ⊎_elim
      (λ whole.
      subst (λ f. Answer given f written before after result) (sym whole.2)
      (subst (Answer given faults written before after) (sym whole.0) (all_said given faults written status out before after reason put whole.1)))
      (⊎_elim
      (λ failed.
      subst (Answer given now written before after) (sym failed.0)
      (inl (record { earlier = faults; later = later; part = some_said failed.1; rose = failed.2; last = failed.3 })))
      (λ full. subst (λ f. Answer given f written before after result) (sym full.2) (subst (Answer given faults written before after) (sym full.0) (some_said full.1))))
      said.outcome

-- the same of a report that is the text of those lines, over a desk that said nothing before and puts nothing while it says
pub run_answers : (given : Given) (faults now : Faults) (put written : List ℕ → Option (List ℕ)) (status result : Status) (out : Output) (report : List ℕ) (start before after : Option (List ℕ)) → given.faults ≤ faults.count
    → report ≡ report_of out.lines → before ≡ start → Reason given faults status out → Puts given out.made out.proof put → Same put written → IsSaid report status faults now before after result
    → Answer given now written start after result
run_answers given faults now put written status result out report start before after later is_text same reason puts same_outputs said =
    subst (λ b. Answer given now written b after result) same
    (answers given faults now written status result out before after later reason (puts_same given out.made out.proof put written same_outputs puts) (subst (λ text. IsSaid text status faults now before after result) is_text said))

-- ---- the faults

module _ (start between now : Faults) (status result : Status) (report : List ℕ) (before after : Option (List ℕ)) (said : IsSaid report status between now before after result) where
  -- a status that tells no fault leaves the faults as they were
  pub calm_said : (IsCalm status → KeepsFaults start between) → IsCalm result → KeepsFaults start now
  calm_said kept calm =
      ⊎_elim (λ whole. whole.2 ∙ kept (subst IsCalm whole.0 calm))
      (⊎_elim (λ failed. absurd (subst IsCalm failed.0 calm)) (λ full. absurd (subst IsCalm full.0 calm)))
      said.outcome

  -- before the say the desk failed in takes alone
  no_say : FailsInTake start between → now ≡ between → FailedInWrite start now → ⊥
  no_say taken same failed =
      ⊎_elim (λ kept. let count : now.count ≡ start.count = ap (λ (f : Faults). f.count) (same ∙ kept) in omega (arith, count, failed.more))
      (λ take. let here : Some (fault Take take.0) ≡ now.last = sym take.1 ∙ sym (ap (λ (f : Faults). f.last) same) in
      ⊎_elim
      (λ (say : now.last ≡ Some (fault Say [])). let calls : Take ≡ Say = ap (λ (f : Fault). f.call) (same_Some (fault Take take.0) (fault Say []) (here ∙ say)) in cc)
      (λ (put : (name : List ℕ) × (now.last ≡ Some (fault Put name))). let calls : Take ≡ Put = ap (λ (f : Fault). f.call) (same_Some (fault Take take.0) (fault Put put.0) (here ∙ put.1)) in cc)
      failed.last)
      taken

  -- where the last fault of the run is a say or a put, the status tells it
  pub last_said : FailsInTake start between → FailedInWrite start now → result ≡ WriteFault
  last_said taken failed =
      ⊎_elim (λ whole. absurd (no_say taken whole.2 failed))
      (⊎_elim (λ faulty. faulty.0) (λ full. absurd (no_say taken full.2 failed)))
      said.outcome

-- ---- the inputs

module _ (P : Status → Type 0) (fault : P WriteFault → ⊥) (memory : P NoMemory → ⊥) where
  -- what holds of no status that tells a fault of writing or want of memory held of the status before the say
  before_say : (report : List ℕ) (status result : Status) (old new : Faults) (before after : Option (List ℕ)) → IsSaid report status old new before after result → P result → P status
  before_say report status result old new before after said is =
      ⊎_elim (λ whole. subst P whole.0 is)
      (⊎_elim (λ failed. absurd (fault (subst P failed.0 is))) (λ full. absurd (memory (subst P full.0 is))))
      said.outcome

pub takes_said : (given : Given) (status result : Status) (report : List ℕ) (faults now : Faults) (before after : Option (List ℕ)) (left left_now : List ℕ → Option (List ℕ))
    → TakesInput given left status → IsSaid report status faults now before after result → Same left left_now → TakesInput given left_now result
takes_said given status result report faults now before after left left_now takes said same = record {
  no_command = λ none name. same name ∙ takes.no_command none name;
  others = λ command spelled name other. same name ∙ takes.others command spelled name other;
  model = λ command spelled reads is. same command.model ∙ takes.model command spelled reads (before_say IsJudged (λ h. h) (λ h. h) report status result faults now before after said is);
  proof = λ command spelled is. same command.proof ∙ takes.proof command spelled (before_say IsOfProof (λ h. h) (λ h. h) report status result faults now before after said is);
  untouched = λ command spelled is. same command.proof ∙ takes.untouched command spelled (before_say IsOfModel (λ h. h) (λ h. h) report status result faults now before after said is);
}

-- a status that tells no verdict wants no more than another
pub takes_unjudged : (given : Given) (left : List ℕ → Option (List ℕ)) → TakesInput given left NoMemory → TakesInput given left WriteFault
takes_unjudged given left takes = record {
  no_command = takes.no_command;
  others = takes.others;
  model = λ command spelled reads judged. absurd judged;
  proof = λ command spelled judged. absurd judged;
  untouched = λ command spelled judged. absurd judged;
}

-- ---- completeness

pub told_is : (left : Option (List ℕ)) (text bytes : List ℕ) → left ≡ Some bytes → IfSome left (λ l. l ≡ text) → text ≡ bytes
told_is None text bytes e told = absurd cc
told_is (Some left) text bytes e told = sym told ∙ same_Some left bytes e

-- the text that is judged is the one that is told
pub text_is : (task : Task) (left : Option (List ℕ)) (text bytes : List ℕ) → IsToldText task left bytes → IsJudgedText task left text → text ≡ bytes
text_is (solving nodes) left text bytes e told = told_is left text bytes e told
text_is checking left text bytes e told = told_is left text bytes e told
text_is (making rows columns start) left text bytes e told = told.canonical ∙ sym e

-- solving reads none of PROOF
comes_same : (task : Task) (one other : List ℕ) (model : Model) (status : Status) (out : Output) → (task ≡ checking → one ≡ other) → Comes task one model status out → Comes task other model status out
comes_same (solving nodes) one other model status out same comes = comes
comes_same (making rows columns start) one other model status out same comes = comes
comes_same checking one other model status out same comes = subst (λ proof. Checks proof model status out) (same refl) comes

-- the verdict is on the bytes that the desk tells
module _ (given : Given) (status : Status) (out : Output) (judges : Judges given status out) where
  no_none : {P : Type 0} → command_of given.words ≡ None → P
  no_none none = absurd (none-some judges.command (sym none ∙ judges.spelled))

  gives_here : (text proof : List ℕ) → Tells given judges.command text proof → Gives judges.command text proof status
  gives_here text proof tells =
      let task = judges.command.task in
      let here : judges.text ≡ text = text_is task (given.left judges.command.model) judges.text text tells.in_model judges.told in
      let also : task ≡ checking → judges.proof ≡ proof = λ is. told_is (given.left judges.command.proof) judges.proof proof (tells.in_proof is) judges.proof_told in (
        out,
        verdict_on judges.command.reading (Comes task judges.proof) (Comes task proof) text status out (λ model comes. comes_same task judges.proof proof model status out also comes)
            (subst (λ t. Verdict judges.command.reading (Comes task judges.proof) t status out) here judges.verdict),
      )

  gives : (command : Job) (text proof : List ℕ) → Tells given command text proof → Gives command text proof status
  gives command text proof tells =
      let same : judges.command ≡ command = same_Some judges.command command (sym judges.spelled ∙ tells.spelled) in
      subst (λ (c : Job). Gives c text proof status) same (gives_here text proof (subst (λ (c : Job). Tells given c text proof) (sym same) tells))

-- a status with a verdict is complete
judged_complete : (given : Given) (now : Faults) (status : Status) (out : Output) → Judges given status out → IsComplete given now status
judged_complete given now status out judges = record {
  no_command = λ none calm. no_none given status out judges none;
  text = λ command text proof tells calm. inl (gives given status out judges command text proof tells);
  ends = λ command nodes text proof model solves tells small calm.
      ⊎_elim (λ decided. inl decided) (λ spent. inr (inl spent)) (ends command nodes solves text proof model status small (gives given status out judges command text proof tells));
  enough = λ command nodes text proof model solves tells small enough calm.
      inl (decides command nodes solves text proof model status small enough (gives given status out judges command text proof tells));
  checks = λ command text proof model task tells small short calm. inl (checks command task text proof model status small short (gives given status out judges command text proof tells));
}

-- and so is each where a fault rose
faulty_complete : (given : Given) (now : Faults) (status : Status) → Rose given.faults now.count → IsComplete given now status
faulty_complete given now status rose = record {
  no_command = λ none calm. absurd (calm rose);
  text = λ command text proof tells calm. absurd (calm rose);
  ends = λ command nodes text proof model solves tells small calm. absurd (calm rose);
  enough = λ command nodes text proof model solves tells small enough calm. absurd (calm rose);
  checks = λ command text proof model task tells small short calm. absurd (calm rose);
}

wordless_complete : (given : Given) (now : Faults) → command_of given.words ≡ None → IsComplete given now Words
wordless_complete given now none = record {
  no_command = λ none calm. inl refl;
  text = λ command text proof tells calm. absurd (none-some command (sym none ∙ tells.spelled));
  ends = λ command nodes text proof model solves tells small calm. absurd (none-some command (sym none ∙ tells.spelled));
  enough = λ command nodes text proof model solves tells small enough calm. absurd (none-some command (sym none ∙ tells.spelled));
  checks = λ command text proof model task tells small short calm. absurd (none-some command (sym none ∙ tells.spelled));
}

memory_complete : (given : Given) (now : Faults) → IsComplete given now NoMemory
memory_complete given now = record {
  no_command = λ none calm. inr refl;
  text = λ command text proof tells calm. inr refl;
  ends = λ command nodes text proof model solves tells small calm. inr (inr refl);
  enough = λ command nodes text proof model solves tells small enough calm. inr refl;
  checks = λ command text proof model task tells small short calm. inr refl;
}

pub completes : (given : Given) (now : Faults) (written : List ℕ → Option (List ℕ)) (before after : Option (List ℕ)) (status : Status) → Answer given now written before after status → IsComplete given now status
completes given now written before after Words answer = wordless_complete given now answer.reason.0
completes given now written before after ReadFault answer = faulty_complete given now ReadFault answer.reason.rose
completes given now written before after WriteFault (inl answer) = faulty_complete given now WriteFault (rose_after given.faults answer.earlier.count now.count answer.later answer.rose)
completes given now written before after WriteFault (inr answer) =
    faulty_complete given now WriteFault (⊎_elim (λ (put : FailsToPut given now written). put.rose) (λ (made : FailsToMake given now written). made.rose) answer.0)
completes given now written before after NoMemory answer = memory_complete given now
completes given now written before after status answer = judged_complete given now status answer.out answer.reason
