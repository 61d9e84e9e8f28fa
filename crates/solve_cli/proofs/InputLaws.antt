-- What is said of the bytes that were taken of an input is true of the bytes that were left of it.
use Rattle.std.proofs.Common.{◌≡◌, ⊎_elim, ◌<◌, ◌≤◌, ◌+◌, ℕ, List, length, length-take, Option, Some, None, refl, sym, subst, arith}
use Rattle.std.specs.Prelude.{IfSome, IfOk, Result, Ok, Err}
use Rattle.std.proofs.lemmas.Bool.{cases_lt}
use Rattle.std.proofs.lemmas.List.{take_all, length-take-le}
use Rattle.int_model.specs.declared.model.Model.{Model}
use Rattle.mps_fields.specs.Lines.{most_bytes}
use Rattle.solve_cli.specs.declared.status.Input.TheVariants.{ModelText, ProofText}
use Rattle.solve_cli.specs.declared.status.Status.{Status}
use Rattle.solve_cli.specs.declared.status.Status.TheVariants.{Accepted, Text, TooLong, Large, ReadFault, Rejected}
use Rattle.solve_cli.specs.Words.{Reading}
use Rattle.solve_cli.specs.Limits.{most_proof_bytes, taken}
use Rattle.solve_cli.specs.Outputs.{Output}
use Rattle.solve_cli.specs.declared.reply.Reply.{Reply}
use Rattle.solve_cli.specs.declared.stated.Stated.{Stated}
use Rattle.solve_cli.specs.declared.stated.Stated.TheVariants as stated
use Rattle.solve_cli.specs.Verdict.{AcceptsProof, RejectsProof, Checks, IsStated, IsRefused, IsUnfit, States, Verdict}
use Rattle.solve_cli.specs.Answer.{Faults}
use Rattle.solve_cli.specs.Solving.{output_of, Replies, IsRowed, IsStatedAs, IsModelTaken, StatesRows, OfInput, IsTried, LeavesCalm, StaysCalm}

-- ---- the bytes that were taken

-- where all bytes up to one past the limit fit within it, they are the whole text
whole_text : (limit : ℕ) (text : List ℕ) → length (taken limit text) ≤ limit → taken limit text ≡ text
unfolding taken
whole_text limit text short =
    ⊎_elim (λ (beyond : limit + 1 < length text). absurd (let e = length-take-le (limit + 1) text (omega arith) in omega arith))
    (λ (within : length text ≤ limit + 1). take_all (limit + 1) text within) (cases_lt (limit + 1) (length text))

-- and where they do not, the text is longer too
long_text : (limit : ℕ) (text : List ℕ) → limit < length (taken limit text) → limit < length text
unfolding taken
long_text limit text long = omega (arith, long, length-take (limit + 1) text)

-- the verdict on the bytes that were taken of a model is that on its text
pub verdict_taken : (reading : Reading) (Follows : Model → Status → Output → Type 0) (text : List ℕ) (status : Status) (out : Output) → Verdict reading Follows (taken most_bytes text) status out
    → Verdict reading Follows text status out
verdict_taken reading Follows text (Text fault) out v = subst (λ t. IsRefused reading t fault out) (whole_text most_bytes text v.short) v
verdict_taken reading Follows text (TooLong ModelText) out v = record { long = long_text most_bytes text v.long; report = v.report }
verdict_taken reading Follows text status out v = subst (λ t. IsStated reading t (λ model. Follows model status out)) (whole_text most_bytes text v.short) v

-- and that on the bytes that were taken of a proof
pub checks_taken : (model : Model) (text : List ℕ) (status : Status) (out : Output) → Checks (taken most_proof_bytes text) model status out → Checks text model status out
checks_taken model text Accepted out v = subst (λ t. AcceptsProof t model out) (whole_text most_proof_bytes text v.short) v
checks_taken model text (Rejected reject) out v = subst (λ t. RejectsProof t model reject out) (whole_text most_proof_bytes text v.short) v
checks_taken model text (TooLong ProofText) out v = record { small = v.small; long = long_text most_proof_bytes text v.long; report = v.report }
checks_taken model text (Large part) out v = v
checks_taken model text status out v = absurd v

-- what is true of a short text of which no byte was left is true of the whole text
pub short_taken : (Holds : List ℕ → Type 0) (text : List ℕ) → length (taken most_bytes text) ≤ most_bytes → Holds (taken most_bytes text) → Holds text
short_taken Holds text short h = subst Holds (whole_text most_bytes text short) h

-- ---- as a fact about the input

pub of_input : (limit : ℕ) (left : Option (List ℕ)) (got : List ℕ) (Holds : List ℕ → Type 0) → IfSome left (λ bytes. got ≡ taken limit bytes)
    → ((text : List ℕ) → Holds (taken limit text) → Holds text) → Holds got → OfInput left Holds
of_input limit None got Holds front whole holds = record { text = got; told = tt; holds = holds }
of_input limit (Some bytes) got Holds front whole holds = record { text = bytes; told = refl; holds = whole bytes (subst Holds front holds) }

-- what is said of the bytes, which is no fault of reading
pub tried_of : (name : List ℕ) (before : ℕ) (now : Faults) (left : Option (List ℕ)) (Holds : List ℕ → Status → Output → Type 0) → ((text : List ℕ) (out : Output) → Holds text ReadFault out → ⊥)
    → (status : Status) (out : Output) → OfInput left (λ text. Holds text status out) → IsTried name before now left Holds status out
tried_of name before now left Holds never ReadFault out of = absurd (never of.text out of.holds)
tried_of name before now left Holds never status out of = of

-- ---- the text of MODEL

-- a model with a part that is too large, as the verdict on the text that states it
unfit_verdict : (reading : Reading) (text : List ℕ) (model : Model) (status : Status) (out : Output) → length text ≤ most_bytes → States reading text model → IsUnfit model status out
    → Verdict reading IsUnfit text status out
unfit_verdict reading text model (Text fault) out short states unfit = absurd unfit
unfit_verdict reading text model (TooLong ModelText) out short states unfit = absurd unfit
unfit_verdict reading text model status out short states unfit = record { short = short; model = model; states = states; holds = unfit }

-- what came of a model is what came of the text that states it
pub stated_rows : {E : Type 0} (reading : Reading) (text : List ℕ) (model : Model) (result : Result Stated E) → length text ≤ most_bytes → States reading text model → IfOk result (IsRowed model)
    → IfOk result (IsStatedAs reading text)
stated_rows reading text model (Ok (stated.Rows same rows)) short states s =
    subst (λ m. StatesRows reading text m rows) (sym s.0) (record { short = short; states = states; same = s.1; has = s.2 })
stated_rows reading text model (Ok (stated.Stopped reply)) short states s = (s.0, s.1, unfit_verdict reading text model reply.status (output_of reply s.0) short states s.2)
stated_rows reading text model (Err e) short states s = tt

-- ---- MODEL and PROOF

module _ (name : List ℕ) (before : ℕ) (now : Faults) (left : Option (List ℕ)) (got : List ℕ) where
  -- what is said of the bytes that were taken of MODEL
  pub model_taken : {E : Type 0} (reading : Reading) (result : Result Stated E) → IfSome left (λ bytes. got ≡ taken most_bytes bytes) → IfOk result (IsStatedAs reading got)
      → IfOk result (IsModelTaken reading name before now left)
  model_taken reading (Ok (stated.Rows model rows)) front s =
      of_input most_bytes left got (λ text. StatesRows reading text model rows) front (λ text more. short_taken (λ t. StatesRows reading t model rows) text more.short more) s
  model_taken reading (Ok (stated.Stopped reply)) front s = (
    s.0,
    s.1,
    tried_of name before now left (Verdict reading IsUnfit) (λ text out v. absurd v.holds) reply.status (output_of reply s.0)
        (of_input most_bytes left got (λ text. Verdict reading IsUnfit text reply.status (output_of reply s.0)) front
        (λ text v. verdict_taken reading IsUnfit text reply.status (output_of reply s.0) v) s.2),
  )
  model_taken reading (Err e) front s = tt

  -- and of those that were taken of PROOF
  pub proof_taken : {E : Type 0} (model : Model) (result : Result Reply E) → IfSome left (λ bytes. got ≡ taken most_proof_bytes bytes) → IfOk result (Replies (Checks got model))
      → IfOk result (Replies (IsTried name before now left (λ text. Checks text model)))
  proof_taken model (Ok reply) front s = (
    s.0,
    s.1,
    tried_of name before now left (λ text. Checks text model) (λ text out c. c) reply.status (output_of reply s.0)
        (of_input most_proof_bytes left got (λ text. Checks text model reply.status (output_of reply s.0)) front
        (λ text c. checks_taken model text reply.status (output_of reply s.0) c) s.2),
  )
  proof_taken model (Err e) front s = tt

-- where the faults are as they were, they are after any reply
pub leaves_calm : {E : Type 0} (before now : Faults) (result : Result Stated E) → now ≡ before → IfOk result (LeavesCalm before now)
leaves_calm before now (Ok (stated.Rows model rows)) kept = kept
leaves_calm before now (Ok (stated.Stopped reply)) kept = λ calm. kept
leaves_calm before now (Err e) kept = tt

pub stays_calm : {E : Type 0} (before now : Faults) (result : Result Reply E) → now ≡ before → IfOk result (StaysCalm before now)
stays_calm before now (Ok reply) kept = λ calm. kept
stays_calm before now (Err e) kept = tt

-- what holds at all holds of each answer
pub on_any : {A E : Type 0} (P : A → Type 0) (Q : Type 0) (result : Result A E) → Q → IfOk result (λ answer. P answer → Q)
on_any P Q (Ok answer) q = λ p. q
on_any P Q (Err e) q = tt

-- a reply that tells a fault of reading tells nothing of the bytes
pub on_none : {E : Type 0} (P : Status → Type 0) (Q : Type 0) (result : Result Reply E) → (P ReadFault → ⊥) → IfOk result (λ reply. reply.status ≡ ReadFault) → IfOk result (λ reply. P reply.status → Q)
on_none P Q (Ok reply) never is = λ p. absurd (never (subst P is p))
on_none P Q (Err e) never is = tt
