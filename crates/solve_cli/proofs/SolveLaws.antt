-- From what became of the inputs of a command to why its status is answered, and to what was put and taken.
use Rattle.std.proofs.Common.{◌≡◌, ◌≢◌, [], inl, inr, ⊎_elim, ◌≤◌, ℕ, ℤ, List, length, take, Option, Some, None, refl, sym, ap, ◌∙◌, subst}
use Rattle.std.specs.Prelude.{IfSome, IfOk, OnOk, OnErr, IsErrOf, option_map, Result, Ok, Err}
use Rattle.std.proofs.lemmas.Option.{same_Some, none-some}
use Rattle.desk_io.specs.Desk.{fault, appended, AppendsSome, Same, SameButAt, IsKept}
use Rattle.desk_io.specs.FaultLaws.{rose_after}
use Rattle.desk_io.specs.declared.desk.DeskStop.{DeskStop}
use Rattle.desk_io.specs.declared.desk.DeskStop.TheVariants as stops
use Rattle.int_model.specs.declared.part.Part.{Part}
use Rattle.int_model.specs.declared.part.Part.TheVariants as parts
use Rattle.int_model.specs.declared.model.Column.{Column}
use Rattle.int_model.specs.declared.model.Model.{Model}
use Rattle.int_model.specs.IntegerRows.{IntegerRows}
use Rattle.int_model.specs.Large.{IsFirstLarge}
use Rattle.mps_fields.specs.Lines.{most_bytes}
use Rattle.mps_model.specs.declared.layout.Layout.{Layout}
use Rattle.solve_cli.specs.declared.status.Input.TheVariants.{ModelText, ProofText}
use Rattle.solve_cli.specs.declared.status.Status.{Status}
use Rattle.solve_cli.specs.declared.status.Status.TheVariants.{Optimal, Infeasible, Accepted, Spent, Words, Text, TooLong, Large, ReadFault, WriteFault, NoMemory, Rejected}
use Rattle.solve_cli.specs.declared.reply.Reply.{Reply}
use Rattle.solve_cli.specs.Words.{Reading, reading, Task, solving, checking, making, budget_of, ReadsModel, MakesModel, Job, job, command_of}
use Rattle.solve_cli.specs.Limits.{most_proof_bytes, untaken}
use Rattle.solve_cli.specs.Report.{report_of, IsPartOf}
use Rattle.solve_cli.specs.Outputs.{Output, only, with_proof, text_of}
use Rattle.solve_cli.specs.MarketTexts.{made_text}
use Rattle.solve_cli.specs.declared.proof.Proof.{Proof}
use Rattle.solve_cli.specs.declared.proof.Proof.TheVariants.{Nothing}
use Rattle.solve_cli.specs.Putting.{Told, IsPut}
use Rattle.solve_cli.specs.Verdict.{Solves, Checks, Comes, States, Verdict, IsUnfit}
use Rattle.solve_cli.specs.Answer.{Given, Faults, IsJudgedText, Judges, IsInput, IsOutput, IsBegun, IsStarted, Puts, Reason, IsJudged, IsOfModel, IsOfProof, KeepsFaults, TakesInput}
use Rattle.solve_cli.specs.Solving.{output_of, Replies, IsReplied, OfInput, IsTried, StatesRows, HasRows, FailsInTake, FailsAsTold}
use Rattle.solve_cli.proofs.PutLaws.{appended_nothing}

-- ---- models

-- the first large part is one of the model's
pub first_is_part : (model : Model) (part : Part) → IsFirstLarge model part → IsPartOf model part
first_is_part model (parts.Column j) first = first.large.0
first_is_part model (parts.Row i) first = first.large.0
first_is_part model parts.Objective first = tt

-- ---- verdicts

-- where more follows from a model, more follows from a text
pub verdict_on : (reading : Reading) (Holds Follows : Model → Status → Output → Type 0) (text : List ℕ) (status : Status) (out : Output) → ((model : Model) → Holds model status out → Follows model status out)
    → Verdict reading Holds text status out → Verdict reading Follows text status out
verdict_on reading Holds Follows text (Text fault) out step v = v
verdict_on reading Holds Follows text (TooLong ModelText) out step v = v
verdict_on reading Holds Follows text status out step v = record { short = v.short; model = v.model; states = v.states; holds = step v.model v.holds }

-- a model with a part that is too large comes to that under each task that reads a model
unfit_comes : (task : Task) → ReadsModel task → (proof : List ℕ) (model : Model) (status : Status) (out : Output) → IsUnfit model status out → Comes task proof model status out
unfit_comes (solving nodes) reads proof model (Large part) out unfit = unfit
unfit_comes (solving nodes) reads proof model status out unfit = absurd unfit
unfit_comes checking reads proof model (Large part) out unfit = unfit
unfit_comes checking reads proof model status out unfit = absurd unfit
unfit_comes (making rows columns start) reads proof model status out unfit = absurd reads

-- what a model comes to, as the verdict on the text that states it
stated_comes : (task : Task) (reading : Reading) (proof text : List ℕ) (model : Model) (status : Status) (out : Output) → length text ≤ most_bytes → States reading text model
    → Comes task proof model status out → Verdict reading (Comes task proof) text status out
stated_comes (solving nodes) reading proof text model (Text fault) out short states comes = absurd comes
stated_comes (solving nodes) reading proof text model (TooLong ModelText) out short states comes = absurd comes
stated_comes (solving nodes) reading proof text model status out short states comes = record { short = short; model = model; states = states; holds = comes }
stated_comes checking reading proof text model (Text fault) out short states comes = absurd comes
stated_comes checking reading proof text model (TooLong ModelText) out short states comes = absurd comes
stated_comes checking reading proof text model status out short states comes = record { short = short; model = model; states = states; holds = comes }
stated_comes (making rows columns start) reading proof text model (Text fault) out short states comes = absurd comes.solved
stated_comes (making rows columns start) reading proof text model (TooLong ModelText) out short states comes = absurd comes.solved
stated_comes (making rows columns start) reading proof text model status out short states comes = record { short = short; model = model; states = states; holds = comes }

-- some bytes that may be those of an input
some_bytes : (left : Option (List ℕ)) → (bytes : List ℕ) × IfSome left (λ l. l ≡ bytes)
some_bytes None = ([], tt)
some_bytes (Some bytes) = (bytes, refl)

-- ---- reasons

-- what holds of a command holds of each that the words spell
pub same_job : (given : Given) (command : Job) → command_of given.words ≡ Some command → (P : Job → Type 0) (other : Job) → command_of given.words ≡ Some other → P command → P other
same_job given command spelled P other is here = subst P (same_Some command other (sym spelled ∙ is)) here

-- what was left is what is judged, where the model is read
read_text : (task : Task) (left : Option (List ℕ)) (text : List ℕ) → ReadsModel task → IfSome left (λ bytes. bytes ≡ text) → IsJudgedText task left text
read_text (solving nodes) left text reads told = told
read_text checking left text reads told = told
read_text (making rows columns start) left text reads told = absurd reads

-- a model that is read is not made
none_made : (task : Task) → ReadsModel task → [] ≡ made_text task
none_made (solving nodes) reads = refl
none_made checking reads = refl
none_made (making rows columns start) reads = absurd reads

not_made : (task : Task) → ReadsModel task → MakesModel task → ⊥
not_made (solving nodes) reads makes = makes
not_made checking reads makes = makes
not_made (making rows columns start) reads makes = reads

module _ (given : Given) (command : Job) (spelled : command_of given.words ≡ Some command) (reads : ReadsModel command.task) where
  judges_model : (status : Status) (out : Output) → out.made ≡ [] → OfInput (given.left command.model) (λ text. Verdict command.reading IsUnfit text status out) → Judges given status out
  judges_model status out none of =
      let other = some_bytes (given.left command.proof) in
      record {
        command = command;
        spelled = spelled;
        text = of.text;
        told = read_text command.task (given.left command.model) of.text reads of.told;
        proof = other.0;
        proof_told = other.1;
        made = none ∙ none_made command.task reads;
        verdict = verdict_on command.reading IsUnfit (Comes command.task other.0) of.text status out (λ model unfit. unfit_comes command.task reads other.0 model status out unfit) of.holds;
      }

  -- what is said of MODEL alone has a reason
  pub model_reason : (faults : Faults) (status : Status) (out : Output) → out.made ≡ [] → IsTried command.model given.faults faults (given.left command.model) (Verdict command.reading IsUnfit) status out
      → Reason given faults status out
  model_reason faults ReadFault out none tried = record { command = command; spelled = spelled; name = command.model; input = inl (reads, refl); rose = tried.rose; last = tried.last; report = tried.report }
  model_reason faults Words out none tried = absurd tried.holds.holds
  model_reason faults WriteFault out none tried = absurd tried.holds.holds
  model_reason faults NoMemory out none tried = absurd tried.holds.holds
  model_reason faults status out none tried = judges_model status out none tried

  -- these bytes behind what was there
  pub puts : (made bytes : List ℕ) (written : List ℕ → Option (List ℕ)) → SameButAt command.proof given.written written
      → written command.proof ≡ option_map (appended bytes) (given.written command.proof) → Puts given made bytes written
  puts made bytes written others put = record {
    no_command = λ none. absurd (none-some command (sym none ∙ spelled));
    others = λ other is. subst (λ (c : Job). (name : List ℕ) → (IsOutput c name → ⊥) → written name ≡ given.written name) (same_Some command other (sym spelled ∙ is)) (λ name no. others name (λ e. no (inl e)));
    model = λ other is makes. absurd (not_made command.task reads (subst (λ (c : Job). MakesModel c.task) (sym (same_Some command other (sym spelled ∙ is))) makes));
    proof = λ other is. subst (λ (c : Job). written c.proof ≡ option_map (appended bytes) (given.written c.proof)) (same_Some command other (sym spelled ∙ is)) put;
  }

  -- ---- the inputs

  -- MODEL alone was taken
  pub takes_model : (left : List ℕ → Option (List ℕ)) (status : Status) → command.proof ≢ command.model → SameButAt command.model given.left left
      → (IsJudged status → left command.model ≡ option_map (untaken most_bytes) (given.left command.model)) → (IsOfProof status → ⊥) → TakesInput given left status
  takes_model left status apart others model other = record {
    no_command = λ none. absurd (none-some command (sym none ∙ spelled));
    others = λ c is. same_job given command spelled (λ c. (name : List ℕ) → (IsInput c name → ⊥) → left name ≡ given.left name) c is (λ name no_input. others name (λ e. no_input (inl (reads, e))));
    model = λ c is reads. same_job given command spelled (λ c. IsJudged status → left c.model ≡ option_map (untaken most_bytes) (given.left c.model)) c is model;
    proof = λ c is judged. absurd (other judged);
    untouched = λ c is judged. same_job given command spelled (λ c. left c.proof ≡ given.left c.proof) c is (others command.proof apart);
  }

-- nothing was put
pub puts_nothing : (given : Given) (written : List ℕ → Option (List ℕ)) → Same given.written written → Puts given [] [] written
puts_nothing given written same = record {
  no_command = λ none. same;
  others = λ command is name apart. same name;
  model = λ command is makes. same command.model ∙ appended_nothing (given.written command.model);
  proof = λ command is. same command.proof ∙ appended_nothing (given.written command.proof);
}

-- no byte of anything
pub nothing_begun : (given : Given) → IsBegun given [] []
nothing_begun given = record { count = 0; first = λ command is. refl; none = refl }

-- the text of no proof
pub puts_none : (given : Given) (proof : Proof) (written : List ℕ → Option (List ℕ)) → text_of proof ≡ [] → Same given.written written → Puts given [] (text_of proof) written
puts_none given proof written none same = subst (λ bytes. Puts given [] bytes written) (sym none) (puts_nothing given written same)

-- and the same in outputs that are the same
pub puts_same : (given : Given) (made bytes : List ℕ) (before after : List ℕ → Option (List ℕ)) → Same before after → Puts given made bytes before → Puts given made bytes after
puts_same given made bytes before after same put = record {
  no_command = λ none name. same name ∙ put.no_command none name;
  others = λ command is name apart. same name ∙ put.others command is name apart;
  model = λ command is makes. same command.model ∙ put.model command is makes;
  proof = λ command is. same command.proof ∙ put.proof command is;
}

-- what is said of MODEL alone puts nothing
pub model_nothing : (reading : Reading) (name : List ℕ) (before : ℕ) (now : Faults) (left : Option (List ℕ)) (status : Status) (out : Output) → IsTried name before now left (Verdict reading IsUnfit) status out → out.proof ≡ []
model_nothing reading name before now left ReadFault out tried = ap (λ (o : Output). o.proof) tried.report
model_nothing reading name before now left (Text fault) out tried = ap (λ (o : Output). o.proof) tried.holds.report
model_nothing reading name before now left (TooLong ModelText) out tried = ap (λ (o : Output). o.proof) tried.holds.report
model_nothing reading name before now left (Large part) out tried = ap (λ (o : Output). o.proof) tried.holds.holds.report
model_nothing reading name before now left status out tried = absurd tried.holds.holds

-- and is nothing about a proof
pub model_other : (reading : Reading) (name : List ℕ) (before : ℕ) (now : Faults) (left : Option (List ℕ)) (status : Status) (out : Output) → IsTried name before now left (Verdict reading IsUnfit) status out
    → IsOfProof status → ⊥
model_other reading name before now left Accepted out tried is = tried.holds.holds
model_other reading name before now left (Rejected reject) out tried is = tried.holds.holds
model_other reading name before now left (TooLong ProofText) out tried is = tried.holds.holds
model_other reading name before now left status out tried is = is

-- ---- where memory ran out

-- no more than the command's inputs were taken
pub takes_some : (given : Given) (command : Job) (left : List ℕ → Option (List ℕ)) → command_of given.words ≡ Some command
    → ((name : List ℕ) → (IsInput command name → ⊥) → left name ≡ given.left name) → TakesInput given left NoMemory
takes_some given command left spelled others = record {
  no_command = λ none. absurd (none-some command (sym none ∙ spelled));
  others = λ c is. same_job given command spelled (λ c. (name : List ℕ) → (IsInput c name → ⊥) → left name ≡ given.left name) c is others;
  model = λ c is reads judged. absurd judged;
  proof = λ c is judged. absurd judged;
  untouched = λ c is judged. absurd judged;
}

-- ---- a model that is solved

solves_judged : (columns : List Column) (nodes : ℕ) (model : Model) (status : Status) (out : Output) → Solves columns nodes model status out → IsJudged status × (IsOfProof status → ⊥)
solves_judged columns nodes model Optimal out s = (tt, λ is. is)
solves_judged columns nodes model Infeasible out s = (tt, λ is. is)
solves_judged columns nodes model Spent out s = (tt, λ is. is)
solves_judged columns nodes model (Large part) out s = (tt, λ is. is)
solves_judged columns nodes model status out s = absurd s

pub solves_other : (columns : List Column) (nodes : ℕ) (model : Model) (status : Status) (out : Output) → Solves columns nodes model status out → IsOfProof status → ⊥
solves_other columns nodes model status out s = (solves_judged columns nodes model status out s).1

-- under each command with a budget
pub comes_judged : (task : Task) (nodes : ℕ) (proof : List ℕ) (model : Model) (status : Status) (out : Output) → budget_of task ≡ Some nodes → Comes task proof model status out → IsJudged status × (IsOfProof status → ⊥)
comes_judged (solving count) nodes proof model status out is comes = solves_judged model.columns count model status out comes
comes_judged checking nodes proof model status out is comes = absurd cc
comes_judged (making rows columns start) nodes proof model status out is comes = solves_judged [] 1000 model status (with_proof comes.lines out.proof) comes.solved

-- the same with the market that is made
comes_made : (task : Task) (other : List ℕ) (model : Model) (status : Status) (lines : List (List ℕ)) (bytes : List ℕ) → Comes task other model status (with_proof lines bytes)
    → Comes task other model status (record { lines = lines; made = made_text task; proof = bytes })
comes_made (solving nodes) other model status lines bytes comes = comes
comes_made checking other model status lines bytes comes = comes
comes_made (making rows columns start) other model status lines bytes comes = record { lines = comes.lines; summary = comes.summary; solved = comes.solved }

reason_of : (given : Given) (faults : Faults) (status : Status) (out : Output) → IsJudged status → Judges given status out → Reason given faults status out
reason_of given faults Words out is judges = absurd is
reason_of given faults ReadFault out is judges = absurd is
reason_of given faults WriteFault out is judges = absurd is
reason_of given faults NoMemory out is judges = absurd is
reason_of given faults status out is judges = judges

-- a text that is judged under a command with a budget, the reply to the model that it states, and the desk at the put of the proof:
-- the outputs there are those that the run was given, but that the market that is made was put
module _ (given : Given) (command : Job) (spelled : command_of given.words ≡ Some command) (nodes : ℕ) (solves : budget_of command.task ≡ Some nodes)
    (text : List ℕ) (told : IsJudgedText command.task (given.left command.model) text) (short : length text ≤ most_bytes)
    (stated : Model) (states : States command.reading text stated) (reply : Reply)
    (solved : (other : List ℕ) → Replies (Comes command.task other stated) reply) where
  abbrev other : (proof : List ℕ) × IfSome (given.left command.proof) (λ l. l ≡ proof)
  other = some_bytes (given.left command.proof)

  abbrev said_lines : List (List ℕ)
  said_lines = (solved other.0).0

  abbrev all : Output
  all = record { lines = said_lines; made = made_text command.task; proof = text_of reply.proof }

  comes : Comes command.task other.0 stated reply.status all
  comes = comes_made command.task other.0 stated reply.status said_lines (text_of reply.proof) (solved other.0).2

  judges : Judges given reply.status all
  judges = record {
    command = command;
    spelled = spelled;
    text = text;
    told = told;
    proof = other.0;
    proof_told = other.1;
    verdict = stated_comes command.task command.reading other.0 text stated reply.status all short states comes;
    made = refl;
  }

  pub started : (n : ℕ) → IsStarted given (made_text command.task) (take n (text_of reply.proof))
  started n = record { status = reply.status; whole = all; judged = judges; before = refl; count = n; bytes = refl }

  module _ (result : Result (Unit {0}) DeskStop) (old new : Told) (begun : Puts given (made_text command.task) [] old.written) (apart : command.proof ≢ command.model)
      (later : given.faults ≤ old.faults.count) (put : IsPut command.proof (text_of reply.proof) result old new) where
    as_given : old.written command.proof ≡ given.written command.proof
    as_given = begun.proof command spelled ∙ sym (appended_nothing (given.written command.proof))

    puts_behind : (bytes : List ℕ) → new.written command.proof ≡ option_map (appended bytes) (old.written command.proof) → Puts given (made_text command.task) bytes new.written
    puts_behind bytes behind = record {
      no_command = λ none. absurd (none-some command (sym none ∙ spelled));
      others = λ c is. same_job given command spelled (λ c. (name : List ℕ) → (IsOutput c name → ⊥) → new.written name ≡ given.written name) c is
          (λ name no. put.others name (λ e. no (inl e)) ∙ begun.others command spelled name no);
      model = λ c is. same_job given command spelled (λ c. MakesModel c.task → new.written c.model ≡ option_map (appended (made_text command.task)) (given.written c.model)) c is
          (λ makes. put.others command.model (λ e. apart (sym e)) ∙ begun.model command spelled makes);
      proof = λ c is. same_job given command spelled (λ c. new.written c.proof ≡ option_map (appended bytes) (given.written c.proof)) c is (behind ∙ ap (option_map (appended bytes)) as_given);
    }

    -- the proof was put
    pub replied_put : result ≡ Ok tt → IsReplied given new.faults new.written (Ok reply)
    replied_put ok = record {
      lines = said_lines;
      report = (solved other.0).1;
      made = made_text command.task;
      reason = reason_of given new.faults reply.status all (comes_judged command.task nodes other.0 stated reply.status all solves comes).0 judges;
      put = puts_behind (text_of reply.proof)
          (subst (λ (r : Result (Unit {0}) DeskStop). OnOk r (new.written command.proof ≡ option_map (appended (text_of reply.proof)) (old.written command.proof))) ok put.ok);
    }

    -- or it was not
    pub replied_stop : (e : DeskStop) → result ≡ Err e → IsReplied given new.faults new.written (Err e)
    replied_stop stops.NoMemory stopped =
        let some : AppendsSome (text_of reply.proof) (old.written command.proof) (new.written command.proof) = subst (λ (r : Result (Unit {0}) DeskStop). OnErr r (AppendsSome (text_of reply.proof) (old.written command.proof) (new.written command.proof))) stopped put.err in
        (made_text command.task, take some.0 (text_of reply.proof), inr (started some.0), puts_behind (take some.0 (text_of reply.proof)) some.1)
    replied_stop stops.Failed stopped =
        let some : AppendsSome (text_of reply.proof) (old.written command.proof) (new.written command.proof) = subst (λ (r : Result (Unit {0}) DeskStop). OnErr r (AppendsSome (text_of reply.proof) (old.written command.proof) (new.written command.proof))) stopped put.err in
        let failed : IsErrOf result stops.Failed = subst (λ (r : Result (Unit {0}) DeskStop). IsErrOf r stops.Failed) (sym stopped) refl in
        inl (record {
          command = command;
          spelled = spelled;
          solves = (nodes, solves);
          made = made_text command.task;
          bytes = take some.0 (text_of reply.proof);
          started = started some.0;
          put = puts_behind (take some.0 (text_of reply.proof)) some.1;
          rose = rose_after given.faults old.faults.count new.faults.count later (put.rose failed);
          last = put.place failed;
        })

-- ---- a proof that is checked

-- what a check says puts nothing
checks_nothing : (proof : List ℕ) (model : Model) (status : Status) (out : Output) → Checks proof model status out → out.proof ≡ []
checks_nothing proof model Accepted out c = ap (λ (o : Output). o.proof) c.report
checks_nothing proof model (Rejected reject) out c = ap (λ (o : Output). o.proof) c.report
checks_nothing proof model (TooLong ProofText) out c = ap (λ (o : Output). o.proof) c.report
checks_nothing proof model (Large part) out c = ap (λ (o : Output). o.proof) c.report
checks_nothing proof model status out c = absurd c

pub proof_nothing : (name : List ℕ) (before : ℕ) (now : Faults) (left : Option (List ℕ)) (model : Model) (status : Status) (out : Output) → IsTried name before now left (λ text. Checks text model) status out → out.proof ≡ []
proof_nothing name before now left model ReadFault out tried = ap (λ (o : Output). o.proof) tried.report
proof_nothing name before now left model status out tried = checks_nothing tried.text model status out tried.holds

-- and nothing of MODEL alone, where no part is too large
pub proof_other : (name : List ℕ) (before : ℕ) (now : Faults) (left : Option (List ℕ)) (model : Model) (status : Status) (out : Output) → HasRows model
    → IsTried name before now left (λ text. Checks text model) status out → IsOfModel status → ⊥
proof_other name before now left model (Text fault) out has tried is = tried.holds
proof_other name before now left model (TooLong ModelText) out has tried is = tried.holds
proof_other name before now left model (Large part) out has tried is = has.small part tried.holds.first.large
proof_other name before now left model status out has tried is = is

module _ (given : Given) (layout : Layout) (upper : Option ℤ) (model proof : List ℕ) (spelled : command_of given.words ≡ Some (job checking layout upper model proof))
    (stated : Model) (rows : IntegerRows) (of : OfInput (given.left model) (λ text. StatesRows (reading layout upper) text stated rows)) where
  abbrev check : Job
  check = job checking layout upper model proof

  check_judges : (status : Status) (out : Output) → out.made ≡ [] → OfInput (given.left proof) (λ text. Checks text stated status out) → Judges given status out
  check_judges status out none checked = record {
    command = check;
    spelled = spelled;
    text = of.text;
    told = of.told;
    proof = checked.text;
    proof_told = checked.told;
    made = none;
    verdict = stated_comes checking (reading layout upper) checked.text of.text stated status out of.holds.short of.holds.states checked.holds;
  }

  -- what is said of PROOF has a reason
  pub proof_reason : (between : ℕ) (faults : Faults) (status : Status) (out : Output) → out.made ≡ [] → given.faults ≤ between → between ≤ faults.count
      → IsTried proof between faults (given.left proof) (λ text. Checks text stated) status out → Reason given faults status out
  proof_reason between faults ReadFault out none later more tried = record {
    command = check;
    spelled = spelled;
    name = proof;
    input = inr (refl, refl);
    rose = rose_after given.faults between faults.count later tried.rose;
    last = tried.last;
    report = tried.report;
  }
  proof_reason between faults Words out none later more tried = absurd tried.holds
  proof_reason between faults WriteFault out none later more tried = absurd tried.holds
  proof_reason between faults NoMemory out none later more tried = absurd tried.holds
  proof_reason between faults status out none later more tried = check_judges status out none tried

  -- MODEL was taken, and then PROOF
  pub takes_both : (between left : List ℕ → Option (List ℕ)) (status : Status) → proof ≢ model → SameButAt model given.left between → between model ≡ option_map (untaken most_bytes) (given.left model)
      → SameButAt proof between left → (IsOfProof status → left proof ≡ option_map (untaken most_proof_bytes) (between proof)) → (IsOfModel status → ⊥) → TakesInput given left status
  takes_both between left status apart first taken second all other = record {
    no_command = λ none. absurd (none-some check (sym none ∙ spelled));
    others = λ c is. same_job given check spelled (λ c. (name : List ℕ) → (IsInput c name → ⊥) → left name ≡ given.left name) c is
        (λ name no_input. second name (λ e. no_input (inr (refl, e))) ∙ first name (λ e. no_input (inl (tt, e))));
    model = λ c is reads. same_job given check spelled (λ c. IsJudged status → left c.model ≡ option_map (untaken most_bytes) (given.left c.model)) c is
        (λ judged. second model (λ e. apart (sym e)) ∙ taken);
    proof = λ c is. same_job given check spelled (λ c. IsOfProof status → left c.proof ≡ option_map (untaken most_proof_bytes) (given.left c.proof)) c is
        (λ judged. all judged ∙ ap (option_map (untaken most_proof_bytes)) (first proof apart));
    untouched = λ c is judged. absurd (other judged);
  }

-- ---- replies

-- a reply with this status, these lines and this proof, of which the fact holds
pub replied_with : {E : Type 0} (Holds : Status → Output → Type 0) (status : Status) (lines : List (List ℕ)) (proof : Proof) (result : Result Reply E) → Holds status (with_proof lines (text_of proof))
    → IfOk result (λ reply. reply.status ≡ status) → IfOk result (λ reply. reply.report.items ≡ report_of lines) → IfOk result (λ reply. reply.proof ≡ proof) → IfOk result (Replies Holds)
replied_with Holds status lines proof (Ok reply) holds is_status is_report is_proof =
    (lines, is_report, subst (λ p. Holds reply.status (with_proof lines (text_of p))) (sym is_proof) (subst (λ s. Holds s (with_proof lines (text_of proof))) (sym is_status) holds))
replied_with Holds status lines proof (Err e) holds is_status is_report is_proof = tt

-- the same where nothing is shown
pub replied_by : {E : Type 0} (Holds : Status → Output → Type 0) (status : Status) (lines : List (List ℕ)) (result : Result Reply E) → Holds status (only lines)
    → IfOk result (λ reply. reply.status ≡ status) → IfOk result (λ reply. reply.report.items ≡ report_of lines) → IfOk result (λ reply. reply.proof ≡ Nothing) → IfOk result (Replies Holds)
replied_by Holds status lines result holds is_status is_report is_proof = replied_with Holds status lines Nothing result holds is_status is_report is_proof

-- what follows from a fact follows in a reply
pub replied_on : {E : Type 0} (Holds Follows : Status → Output → Type 0) (result : Result Reply E) → ((status : Status) (out : Output) → Holds status out → Follows status out)
    → IfOk result (Replies Holds) → IfOk result (Replies Follows)
replied_on Holds Follows (Ok reply) step holds = (holds.0, holds.1, step reply.status (output_of reply holds.0) holds.2)
replied_on Holds Follows (Err e) step holds = tt

-- ---- faults

-- what fails in takes twice fails in takes
pub fails_twice : (before between now : Faults) → FailsInTake before between → FailsInTake between now → FailsInTake before now
fails_twice before between now first second = ⊎_elim (λ (kept : KeepsFaults between now). subst (FailsInTake before) (sym kept) first) (λ failed. inr failed) second

-- and so does what was put, where the desk did not fail in the put
pub put_takes : (name bytes : List ℕ) (result : Result (Unit {0}) DeskStop) (start : Faults) (old new : Told) → IsPut name bytes result old new → FailsInTake start old.faults
    → (e : DeskStop) → result ≡ Err e → FailsAsTold (Err e) start new.faults
put_takes name bytes result start old new put taken stops.NoMemory is = fails_twice start old.faults new.faults taken (inl (put.kept (subst IsKept (sym is) tt)))
put_takes name bytes result start old new put taken stops.Failed is = tt
