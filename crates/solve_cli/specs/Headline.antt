-- The headline: what an answer of the program says of the model that MODEL states.
use Rattle.std.specs.Prelude.{◌≡◌, ◌≤◌, ℕ, ℤ, List, length, codes, Option, Some, option_map}
use Rattle.desk_io.specs.Desk.{appended}
use Rattle.int_model.specs.declared.model.Model.{Model}
use Rattle.int_model.specs.Points.{IsPoint, IsBest, value_at}
use Rattle.proof_text.specs.declared.claim.Claim.{Claim}
use Rattle.proof_text.specs.declared.claim.Claim.TheVariants as claims
use Rattle.tree_checker.specs.Accepts.{Accepts}
use Rattle.solve_cli.specs.declared.status.Status.{Status}
use Rattle.solve_cli.specs.declared.status.Status.TheVariants.{Optimal, Infeasible, Accepted}
use Rattle.solve_cli.specs.Words.{Job, command_of}
use Rattle.solve_cli.specs.Limits.{most_proof_bytes}
use Rattle.solve_cli.specs.Report.{report_of, found_lines, bare_lines, accepted_lines}
use Rattle.solve_cli.specs.Verdict.{rows_of, States, IsTrueFor}
use Rattle.solve_cli.specs.MarketTexts.{IsMadeModel, shown_columns, summed}
use Rattle.solve_cli.specs.Answer.{Given, IsToldText}

-- these lines were said
abbrev pub Says : List (List ℕ) → Option (List ℕ) → Option (List ℕ) → Type 0
Says lines before after = after ≡ option_map (appended (report_of lines)) before

-- what was put into PROOF is accepted with this claim, and is within the limit of a proof
pub record PutsProof (given : Given) (command : Job) (written : List ℕ → Option (List ℕ)) (model : Model) (claim : Claim) : Type 0 where
  pub proof : List ℕ
  pub put : written command.proof ≡ option_map (appended proof) (given.written command.proof)
  pub accepted : Accepts (rows_of model) proof claim
  pub short : length proof ≤ most_proof_bytes

-- the text of MODEL states a model with this best point, which is said with its value (of a market the value alone), and the proof
-- shows it
pub record AnswersBest (given : Given) (command : Job) (text : List ℕ) (written : List ℕ → Option (List ℕ)) (before after : Option (List ℕ)) : Type 0 where
  pub model : Model
  pub states : States command.reading text model
  pub market : IsMadeModel command.task model
  pub point : List ℤ
  pub best : IsBest model point
  pub nodes : ℕ
  pub plain : ℕ
  pub said : Says (summed command.task (found_lines (codes "OPTIMAL") (value_at model point) (shown_columns command.task model) point nodes plain)) before after
  pub shown : PutsProof given command written model (claims.Optimal point)

-- the text of MODEL states a model without a point, and the proof shows it
pub record AnswersNone (given : Given) (command : Job) (text : List ℕ) (written : List ℕ → Option (List ℕ)) (before after : Option (List ℕ)) : Type 0 where
  pub model : Model
  pub states : States command.reading text model
  pub market : IsMadeModel command.task model
  pub none : (x : List ℤ) → IsPoint model x → ⊥
  pub nodes : ℕ
  pub plain : ℕ
  pub said : Says (summed command.task (bare_lines (codes "INFEASIBLE") nodes plain)) before after
  pub shown : PutsProof given command written model claims.Infeasible

-- the text of MODEL states a model of which the claim is true that is said, and that is the claim of each text that is left of PROOF
pub record AnswersAccepted (given : Given) (command : Job) (text : List ℕ) (before after : Option (List ℕ)) : Type 0 where
  pub model : Model
  pub states : States command.reading text model
  pub claim : Claim
  pub is_true : IsTrueFor model claim
  pub said : Says (accepted_lines (value_at model) claim) before after
  pub accepted : (proof : List ℕ) → given.left command.proof ≡ Some proof → Accepts (rows_of model) proof claim

-- what a status says of the model that the text of MODEL states
abbrev pub Concludes : Given → Job → List ℕ → (List ℕ → Option (List ℕ)) → Option (List ℕ) → Option (List ℕ) → Status → Type 0
Concludes given command text written before after Optimal = AnswersBest given command text written before after
Concludes given command text written before after Infeasible = AnswersNone given command text written before after
Concludes given command text written before after Accepted = AnswersAccepted given command text before after
Concludes given command text written before after status = Unit {0}

-- Where the desk tells the text of MODEL, or it is that of a market that is made: the answer OPTIMAL comes only with a best point of the model that it states, INFEASIBLE
-- only where that model has no point, both with a proof in PROOF that is accepted, and ACCEPTED only where what the proof claims
-- is true of that model.
abbrev pub Headline : Given → (List ℕ → Option (List ℕ)) → Option (List ℕ) → Option (List ℕ) → Status → Type 0
Headline given written before after status = (command : Job) (text : List ℕ) → command_of given.words ≡ Some command → IsToldText command.task (given.left command.model) text
    → Concludes given command text written before after status
