-- When a run answers which status, and what it says then.
use Rattle.std.specs.Prelude.{◌≡◌, ◌⊎◌, ◌≤◌, ◌<◌, ℕ, ℤ, List, [], ◌∷◌, length, take, codes, Option, Some, None, option_map, IfSome}
use Rattle.desk_io.specs.Desk.{Fault, fault, appended, AppendsSome, Same, Rose}
use Rattle.desk_io.specs.declared.desk.Call.TheVariants.{Take, Put, Say}
use Rattle.int_model.specs.declared.model.Model.{Model}
use Rattle.int_model.specs.Points.{IsPoint}
use Rattle.int_model.specs.Large.{HasNoLargePart}
use Rattle.proof_text.specs.declared.claim.Claim.{Claim}
use Rattle.tree_checker.specs.declared.verdict.Reject.{Reject}
use Rattle.tree_checker.specs.Accepts.{Accepts}
use Rattle.tree_checker.specs.Rejects.{RejectsAt}
use Rattle.solve_cli.specs.declared.status.Input.TheVariants.{ModelText, ProofText}
use Rattle.solve_cli.specs.declared.status.Status.{Status}
use Rattle.solve_cli.specs.declared.status.Status.TheVariants.{Optimal, Infeasible, Accepted, Spent, Words, Text, TooLong, Large, ReadFault, WriteFault, NoMemory, Rejected}
use Rattle.mps_fields.specs.Lines.{most_bytes}
use Rattle.solve_cli.specs.Words.{Reading, Task, solving, checking, making, budget_of, ReadsModel, MakesModel, Job, command_of}
use Rattle.solve_cli.specs.Limits.{most_proof_bytes, untaken}
use Rattle.solve_cli.specs.MarketTexts.{market_text, made_text, StatesMarket}
use Rattle.solve_cli.specs.Report.{report_of}
use Rattle.solve_cli.specs.Outputs.{Output, only}
use Rattle.solve_cli.specs.Verdict.{rows_of, States, enough_nodes, Comes, Verdict}

-- what a run was given: its words, what was left of each input, what had been put into each output, and how often the desk had
-- failed
pub record Given : Type 0 where
  pub words : List (List ℕ)
  pub left : List ℕ → Option (List ℕ)
  pub written : List ℕ → Option (List ℕ)
  pub faults : ℕ

-- what a run was given, by its parts
abbrev pub run_given : List (List ℕ) → (List ℕ → Option (List ℕ)) → (List ℕ → Option (List ℕ)) → ℕ → Given
run_given words left written faults = record { words = words; left = left; written = written; faults = faults }

-- how often the desk had failed by then, and its last fault
pub record Faults : Type 0 where
  pub count : ℕ
  pub last : Option Fault

abbrev pub desk_faults : ℕ → Option Fault → Faults
desk_faults count last = record { count = count; last = last }

-- the inputs of a command: MODEL, unless it is made, and PROOF where it is checked
abbrev pub IsInput : Job → List ℕ → Type 0
IsInput command name = (ReadsModel command.task × (name ≡ command.model)) ⊎ ((command.task ≡ checking) × (name ≡ command.proof))

-- the outputs of a command: PROOF, and MODEL where it is made
abbrev pub IsOutput : Job → List ℕ → Type 0
IsOutput command name = (name ≡ command.proof) ⊎ (MakesModel command.task × (name ≡ command.model))

-- the text that is judged: what was left of MODEL, as far as the desk tells it, or the text of the market that is made
abbrev pub IsJudgedText : Task → Option (List ℕ) → List ℕ → Type 0
IsJudgedText (solving nodes) left text = IfSome left (λ bytes. bytes ≡ text)
IsJudgedText checking left text = IfSome left (λ bytes. bytes ≡ text)
IsJudgedText (making rows columns start) left text = StatesMarket rows columns start text

-- The words are a command, and this is what it comes to on the bytes that were left of MODEL and of PROOF: on those that the desk
-- tells, or where it tells none on some bytes. Solving reads none of PROOF. A market that is made is judged by its own text, all of
-- which is put into MODEL.
pub record Judges (given : Given) (status : Status) (out : Output) : Type 0 where
  pub command : Job
  pub spelled : command_of given.words ≡ Some command
  pub text : List ℕ
  pub told : IsJudgedText command.task (given.left command.model) text
  pub proof : List ℕ
  pub proof_told : IfSome (given.left command.proof) (λ left. left ≡ proof)
  pub verdict : Verdict command.reading (Comes command.task proof) text status out
  pub made : out.made ≡ made_text command.task

-- the desk failed in a take of an input
pub record FailsToRead (given : Given) (faults : Faults) (out : Output) : Type 0 where
  pub command : Job
  pub spelled : command_of given.words ≡ Some command
  pub name : List ℕ
  pub input : IsInput command name
  pub rose : Rose given.faults faults.count
  pub last : faults.last ≡ Some (fault Take name)
  pub report : out ≡ only (codes "READFAULT" ∷ [])

-- no proof was put yet, and of the market that is made some first bytes, which may be all of them
pub record IsBegun (given : Given) (made proof : List ℕ) : Type 0 where
  pub count : ℕ
  pub first : (command : Job) → command_of given.words ≡ Some command → made ≡ take count (made_text command.task)
  pub none : proof ≡ []

-- first bytes of a proof that was to be put, which may be all of them; a market that is made was put whole
pub record IsStarted (given : Given) (made proof : List ℕ) : Type 0 where
  pub status : Status
  pub whole : Output
  pub judged : Judges given status whole
  pub before : made ≡ whole.made
  pub count : ℕ
  pub bytes : proof ≡ take count whole.proof

-- memory ran out before a proof was put, or while one was put
pub record LacksMemory (given : Given) (out : Output) : Type 0 where
  pub report : out.lines ≡ codes "NOMEMORY" ∷ []
  pub put : IsBegun given out.made out.proof ⊎ IsStarted given out.made out.proof

-- why a status may be answered, and what is to be written then
abbrev pub Reason : Given → Faults → Status → Output → Type 0
Reason given faults Words out = (command_of given.words ≡ None) × (out ≡ only (codes "WORDS" ∷ []))
Reason given faults ReadFault out = FailsToRead given faults out
Reason given faults WriteFault out = ⊥
Reason given faults NoMemory out = LacksMemory given out
Reason given faults status out = Judges given status out

-- these bytes were put into MODEL where it is made, these into PROOF, and nothing was put into another output
pub record Puts (given : Given) (made bytes : List ℕ) (written : List ℕ → Option (List ℕ)) : Type 0 where
  pub no_command : command_of given.words ≡ None → Same given.written written
  pub others : (command : Job) → command_of given.words ≡ Some command → (name : List ℕ) → (IsOutput command name → ⊥) → written name ≡ given.written name
  pub model : (command : Job) → command_of given.words ≡ Some command → MakesModel command.task → written command.model ≡ option_map (appended made) (given.written command.model)
  pub proof : (command : Job) → command_of given.words ≡ Some command → written command.proof ≡ option_map (appended bytes) (given.written command.proof)

-- the status has a reason, its proof was put, and then its lines were said
pub record SaysAll (given : Given) (faults : Faults) (written : List ℕ → Option (List ℕ)) (status : Status) (before after : Option (List ℕ)) : Type 0 where
  pub out : Output
  pub reason : Reason given faults status out
  pub put : Puts given out.made out.proof written
  pub said : after ≡ option_map (appended (report_of out.lines)) before

-- some status had a reason, its proof was put, and some first bytes of its lines were said
pub record SaysSome (given : Given) (faults : Faults) (written : List ℕ → Option (List ℕ)) (before after : Option (List ℕ)) : Type 0 where
  pub status : Status
  pub out : Output
  pub reason : Reason given faults status out
  pub put : Puts given out.made out.proof written
  pub said : AppendsSome (report_of out.lines) before after

-- the desk failed in a say, and some first bytes of what there was a reason to say before were said
pub record FailsToSay (given : Given) (faults : Faults) (written : List ℕ → Option (List ℕ)) (before after : Option (List ℕ)) : Type 0 where
  pub earlier : Faults
  pub later : given.faults ≤ earlier.count
  pub part : SaysSome given earlier written before after
  pub rose : Rose earlier.count faults.count
  pub last : faults.last ≡ Some (fault Say [])

-- a model was solved, the desk failed in a put into PROOF, and some first bytes of the proof were put
pub record FailsToPut (given : Given) (faults : Faults) (written : List ℕ → Option (List ℕ)) : Type 0 where
  pub command : Job
  pub spelled : command_of given.words ≡ Some command
  pub solves : (nodes : ℕ) × (budget_of command.task ≡ Some nodes)
  pub made : List ℕ
  pub bytes : List ℕ
  pub started : IsStarted given made bytes
  pub put : Puts given made bytes written
  pub rose : Rose given.faults faults.count
  pub last : faults.last ≡ Some (fault Put command.proof)

-- a market was made, the desk failed in a put into MODEL, some first bytes of the market were put there, and nothing into PROOF
pub record FailsToMake (given : Given) (faults : Faults) (written : List ℕ → Option (List ℕ)) : Type 0 where
  pub command : Job
  pub spelled : command_of given.words ≡ Some command
  pub makes : MakesModel command.task
  pub made : List ℕ
  pub begun : IsBegun given made []
  pub put : Puts given made [] written
  pub rose : Rose given.faults faults.count
  pub last : faults.last ≡ Some (fault Put command.model)

-- what a run answers; where a put failed, nothing was said
abbrev pub Answer : Given → Faults → (List ℕ → Option (List ℕ)) → Option (List ℕ) → Option (List ℕ) → Status → Type 0
Answer given faults written before after WriteFault = FailsToSay given faults written before after ⊎ ((FailsToPut given faults written ⊎ FailsToMake given faults written) × (after ≡ before))
Answer given faults written before after NoMemory = SaysSome given faults written before after
Answer given faults written before after status = SaysAll given faults written status before after

-- what a market gives: its text has no fault and is not too long, and nothing is read
abbrev pub IsOfMarket : Status → Type 0
IsOfMarket Optimal = Unit {0}
IsOfMarket Infeasible = Unit {0}
IsOfMarket Spent = Unit {0}
IsOfMarket (Large part) = Unit {0}
IsOfMarket WriteFault = Unit {0}
IsOfMarket NoMemory = Unit {0}
IsOfMarket status = ⊥

-- the status of a command that makes a market is one of these
abbrev pub AnswersMarket : Given → Status → Type 0
AnswersMarket given status = (command : Job) → command_of given.words ≡ Some command → MakesModel command.task → IsOfMarket status

-- neither a fault nor want of memory is what the status tells
abbrev pub IsCalm : Status → Type 0
IsCalm ReadFault = ⊥
IsCalm WriteFault = ⊥
IsCalm NoMemory = ⊥
IsCalm status = Unit {0}

-- the text of MODEL was judged
abbrev pub IsJudged : Status → Type 0
IsJudged Words = ⊥
IsJudged status = IsCalm status

-- the text of MODEL alone was judged
abbrev pub IsOfModel : Status → Type 0
IsOfModel (Text fault) = Unit {0}
IsOfModel (TooLong ModelText) = Unit {0}
IsOfModel (Large part) = Unit {0}
IsOfModel status = ⊥

-- the text of PROOF was judged
abbrev pub IsOfProof : Status → Type 0
IsOfProof Accepted = Unit {0}
IsOfProof (Rejected reject) = Unit {0}
IsOfProof (TooLong ProofText) = Unit {0}
IsOfProof status = ⊥

-- the desk's faults are as they were before
abbrev pub KeepsFaults : Faults → Faults → Type 0
KeepsFaults before now = now ≡ before

-- the desk failed in this run, and last in a say or in a put
pub record FailedInWrite (before now : Faults) : Type 0 where
  pub more : before.count < now.count
  pub last : (now.last ≡ Some (fault Say [])) ⊎ ((name : List ℕ) × (now.last ≡ Some (fault Put name)))

-- Which inputs were taken: none without a command, and else at most the command's. MODEL was taken to its end, or to one byte past
-- the limit, where its text was read and judged, and PROOF where its text was judged. PROOF was not taken where MODEL decided alone.
pub record TakesInput (given : Given) (left : List ℕ → Option (List ℕ)) (status : Status) : Type 0 where
  pub no_command : command_of given.words ≡ None → Same given.left left
  pub others : (command : Job) → command_of given.words ≡ Some command → (name : List ℕ) → (IsInput command name → ⊥) → left name ≡ given.left name
  pub model : (command : Job) → command_of given.words ≡ Some command → ReadsModel command.task → IsJudged status → left command.model ≡ option_map (untaken most_bytes) (given.left command.model)
  pub proof : (command : Job) → command_of given.words ≡ Some command → IsOfProof status → left command.proof ≡ option_map (untaken most_proof_bytes) (given.left command.proof)
  pub untouched : (command : Job) → command_of given.words ≡ Some command → IsOfModel status → left command.proof ≡ given.left command.proof

-- the bytes of MODEL and of PROOF give this status
abbrev pub Gives : Job → List ℕ → List ℕ → Status → Type 0
Gives command text proof status = (out : Output) × Verdict command.reading (Comes command.task proof) text status out

-- the model has a point and the status is Optimal, or it has none and the status is Infeasible
abbrev pub IsDecided : Model → Status → Type 0
IsDecided model status = ((status ≡ Optimal) × ((x : List ℤ) × IsPoint model x)) ⊎ ((status ≡ Infeasible) × ((x : List ℤ) → IsPoint model x → ⊥))

-- the proof is accepted and the status is Accepted, or it is refused at a line and the status tells it
abbrev pub IsChecked : Model → List ℕ → Status → Type 0
IsChecked model proof status =
    ((status ≡ Accepted) × ((claim : Claim) × Accepts (rows_of model) proof claim)) ⊎ ((reject : Reject) × (status ≡ Rejected reject) × RejectsAt (rows_of model) proof reject)

-- two statuses are the same, unless the budget is spent in one of them
abbrev pub SameUnlessSpent : Status → Status → Type 0
SameUnlessSpent one other = (one ≡ other) ⊎ ((one ≡ Spent) ⊎ (other ≡ Spent))

-- the text is short enough and states this model, none of whose parts is too large
pub record StatesSmall (reading : Reading) (text : List ℕ) (model : Model) : Type 0 where
  pub short : length text ≤ most_bytes
  pub states : States reading text model
  pub small : HasNoLargePart model

-- the text is what the desk tells of MODEL, or that of the market that is made
abbrev pub IsToldText : Task → Option (List ℕ) → List ℕ → Type 0
IsToldText (solving nodes) left text = left ≡ Some text
IsToldText checking left text = left ≡ Some text
IsToldText (making rows columns start) left text = text ≡ market_text rows columns start

-- the desk tells these bytes of MODEL, unless they are made, and where a proof is checked these of PROOF
pub record Tells (given : Given) (command : Job) (text proof : List ℕ) : Type 0 where
  pub spelled : command_of given.words ≡ Some command
  pub in_model : IsToldText command.task (given.left command.model) text
  pub in_proof : command.task ≡ checking → given.left command.proof ≡ Some proof

-- Where no fault rises, words without a command give Words, and a command whose inputs are told gives what their bytes give. So a
-- model without a large part is decided, unless the budget is spent, and where the budget has enough nodes it is decided; and a
-- proof within its limit is accepted, or refused at a line. Want of memory may come in place of each.
pub record IsComplete (given : Given) (faults : Faults) (status : Status) : Type 0 where
  pub no_command : command_of given.words ≡ None → (Rose given.faults faults.count → ⊥) → (status ≡ Words) ⊎ (status ≡ NoMemory)
  pub text : (command : Job) (text proof : List ℕ) → Tells given command text proof → (Rose given.faults faults.count → ⊥) → Gives command text proof status ⊎ (status ≡ NoMemory)
  pub ends : (command : Job) (nodes : ℕ) (text proof : List ℕ) (model : Model) → budget_of command.task ≡ Some nodes → Tells given command text proof → StatesSmall command.reading text model
      → (Rose given.faults faults.count → ⊥) → IsDecided model status ⊎ ((status ≡ Spent) ⊎ (status ≡ NoMemory))
  pub enough : (command : Job) (nodes : ℕ) (text proof : List ℕ) (model : Model) → budget_of command.task ≡ Some nodes → Tells given command text proof → StatesSmall command.reading text model
      → enough_nodes model ≤ nodes → (Rose given.faults faults.count → ⊥) → IsDecided model status ⊎ (status ≡ NoMemory)
  pub checks : (command : Job) (text proof : List ℕ) (model : Model) → command.task ≡ checking → Tells given command text proof → StatesSmall command.reading text model
      → length proof ≤ most_proof_bytes → (Rose given.faults faults.count → ⊥) → IsChecked model proof status ⊎ (status ≡ NoMemory)
