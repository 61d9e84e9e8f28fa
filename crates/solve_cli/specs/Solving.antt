-- What the parts of a run answer.
use Rattle.std.specs.Prelude.{◌≡◌, ◌⊎◌, ◌↔◌, ℕ, ℤ, List, [], ◌∷◌, length, codes, ◌≤◌, Option, Some, IfSome, option_map, Result, Ok, Err}
use Rattle.desk_io.specs.Desk.{fault, appended, AppendsSome, Rose}
use Rattle.desk_io.specs.declared.desk.Call.TheVariants.{Take, Say}
use Rattle.whole_rows.specs.WholeRows.{Meets, HasLeastCutValue}
use Rattle.int_model.specs.declared.model.Model.{Model}
use Rattle.int_model.specs.IntegerRows.{IntegerRows, integer_rows, value_in}
use Rattle.int_model.specs.Points.{IsPoint, IsBest, value_at}
use Rattle.int_model.specs.Large.{HasNoLargePart}
use Rattle.mps_fields.specs.Lines.{most_bytes}
use Rattle.solve_cli.specs.declared.status.Status.{Status}
use Rattle.solve_cli.specs.declared.status.Status.TheVariants.{ReadFault, WriteFault, NoMemory}
use Rattle.solve_cli.specs.declared.reply.Reply.{Reply}
use Rattle.solve_cli.specs.declared.stated.Stated.{Stated}
use Rattle.solve_cli.specs.declared.stated.Stated.TheVariants as stated
use Rattle.solve_cli.specs.Words.{Reading}
use Rattle.solve_cli.specs.Verdict.{rows_of, States, IsUnfit, Verdict}
use Rattle.solve_cli.specs.Report.{report_of}
use Rattle.solve_cli.specs.Outputs.{Output, only, with_proof, text_of}
use Rattle.solve_cli.specs.Answer.{Given, Faults, Reason, IsBegun, IsStarted, Puts, FailsToPut, FailsToMake, IsCalm, IsJudged, KeepsFaults}
use Rattle.desk_io.specs.declared.desk.DeskStop.{DeskStop}
use Rattle.desk_io.specs.declared.desk.DeskStop.TheVariants as stops

-- no part of the model is too large, so its integer rows have the same points, values and best points
pub record HasRows (model : Model) : Type 0 where
  pub small : HasNoLargePart model
  pub points : (x : List ℤ) → IsPoint model x ↔ Meets (rows_of model) x
  pub values : (x : List ℤ) → IsPoint model x → value_at model x ≡ value_in (integer_rows model) x
  pub best : (x : List ℤ) → IsBest model x ↔ HasLeastCutValue (rows_of model) x

-- what the reply would write
abbrev pub output_of : Reply → List (List ℕ) → Output
output_of reply lines = with_proof lines (text_of reply.proof)

-- the reply's report is that of some lines, and this holds of them and of its proof
abbrev pub Replies : (Status → Output → Type 0) → Reply → Type 0
Replies Holds reply = (lines : List (List ℕ)) × (reply.report.items ≡ report_of lines) × Holds reply.status (output_of reply lines)

-- what became of saying a report: it was said and the status stands, or the desk failed, or memory ran out
pub record IsSaid (report : List ℕ) (status : Status) (old new : Faults) (before after : Option (List ℕ)) (result : Status) : Type 0 where
  pub later : old.count ≤ new.count
  pub outcome :
      ((result ≡ status) × (after ≡ option_map (appended report) before) × (new ≡ old))
      ⊎ (((result ≡ WriteFault) × AppendsSome report before after × Rose old.count new.count × (new.last ≡ Some (fault Say [])))
      ⊎ ((result ≡ NoMemory) × AppendsSome report before after × (new ≡ old)))

-- the reply has a reason, its proof was put, and before it the market that is made
pub record HasReason (given : Given) (faults : Faults) (written : List ℕ → Option (List ℕ)) (reply : Reply) : Type 0 where
  pub lines : List (List ℕ)
  pub report : reply.report.items ≡ report_of lines
  pub made : List ℕ
  pub reason : Reason given faults reply.status (record { lines = lines; made = made; proof = text_of reply.proof })
  pub put : Puts given made (text_of reply.proof) written

-- The reply has a reason, and what goes with it was put. Where memory ran out, or the desk failed in a put, some first bytes of a
-- market and of a proof were put at most.
abbrev pub IsReplied : Given → Faults → (List ℕ → Option (List ℕ)) → Result Reply DeskStop → Type 0
IsReplied given faults written (Ok reply) = HasReason given faults written reply
IsReplied given faults written (Err stops.NoMemory) = (made : List ℕ) × (bytes : List ℕ) × (IsBegun given made bytes ⊎ IsStarted given made bytes) × Puts given made bytes written
IsReplied given faults written (Err stops.Failed) = FailsToPut given faults written ⊎ FailsToMake given faults written

-- where the status tells no fault, the desk's faults are as they were
abbrev pub StaysCalm : Faults → Faults → Reply → Type 0
StaysCalm before now reply = IsCalm reply.status → KeepsFaults before now

-- the desk's faults are as they were, or the last is a take
abbrev pub FailsInTake : Faults → Faults → Type 0
FailsInTake before now = KeepsFaults before now ⊎ ((name : List ℕ) × (now.last ≡ Some (fault Take name)))

-- the desk failed in a put, or else in takes alone
abbrev pub FailsAsTold : Result Reply DeskStop → Faults → Faults → Type 0
FailsAsTold (Ok reply) before now = FailsInTake before now
FailsAsTold (Err stops.NoMemory) before now = FailsInTake before now
FailsAsTold (Err stops.Failed) before now = Unit {0}

-- the text states the model, whose integer rows these are
pub record StatesRows (reading : Reading) (text : List ℕ) (model : Model) (rows : IntegerRows) : Type 0 where
  pub short : length text ≤ most_bytes
  pub states : States reading text model
  pub same : rows ≡ integer_rows model
  pub has : HasRows model

-- the model has these rows, or a part that is too large
abbrev pub IsRowed : Model → Stated → Type 0
IsRowed model (stated.Rows same rows) = (same ≡ model) × (rows ≡ integer_rows model) × HasRows model
IsRowed model (stated.Stopped reply) = Replies (IsUnfit model) reply

-- the text states that model, or there is a reply to it
abbrev pub IsStatedAs : Reading → List ℕ → Stated → Type 0
IsStatedAs reading text (stated.Rows model rows) = StatesRows reading text model rows
IsStatedAs reading text (stated.Stopped reply) = Replies (Verdict reading IsUnfit text) reply

-- some bytes, which are those that were left of an input where the desk tells them, of which this holds
pub record OfInput (left : Option (List ℕ)) (Holds : List ℕ → Type 0) : Type 0 where
  pub text : List ℕ
  pub told : IfSome left (λ bytes. bytes ≡ text)
  pub holds : Holds text

-- the desk failed in a take of the input of this name
pub record FailsAt (name : List ℕ) (before : ℕ) (now : Faults) (out : Output) : Type 0 where
  pub rose : Rose before now.count
  pub last : now.last ≡ Some (fault Take name)
  pub report : out ≡ only (codes "READFAULT" ∷ [])

-- the input could not be taken, or this is said of its bytes
abbrev pub IsTried : List ℕ → ℕ → Faults → Option (List ℕ) → (List ℕ → Status → Output → Type 0) → Status → Output → Type 0
IsTried name before now left Holds ReadFault out = FailsAt name before now out
IsTried name before now left Holds status out = OfInput left (λ text. Holds text status out)

-- the bytes of MODEL state a model with these rows, or there is a reply to them or to a failed take
abbrev pub IsModelTaken : Reading → List ℕ → ℕ → Faults → Option (List ℕ) → Stated → Type 0
IsModelTaken reading name before now left (stated.Rows model rows) = OfInput left (λ text. StatesRows reading text model rows)
IsModelTaken reading name before now left (stated.Stopped reply) = Replies (IsTried name before now left (Verdict reading IsUnfit)) reply

-- the bytes of MODEL were judged
abbrev pub IsRead : Stated → Type 0
IsRead (stated.Rows model rows) = Unit {0}
IsRead (stated.Stopped reply) = IsJudged reply.status

-- where no take failed, the desk's faults are as they were
abbrev pub LeavesCalm : Faults → Faults → Stated → Type 0
LeavesCalm before now (stated.Rows model rows) = KeepsFaults before now
LeavesCalm before now (stated.Stopped reply) = StaysCalm before now reply
