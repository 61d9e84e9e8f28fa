-- What an answer says of the model that the text of MODEL states.
use Rattle.std.proofs.Common.{◌≡◌, ℕ, ℤ, ◌≤◌, List, [], ◌∷◌, length, Option, Some, None, sym, ap, subst, ⊎_elim, ◌∙◌, arith}
use Rattle.std.specs.Prelude.{codes}
use Rattle.std.proofs.lemmas.Option.{same_Some, none-some}
use Rattle.mps_fields.specs.Lines.{most_bytes}
use Rattle.solve_cli.specs.declared.status.Input.TheVariants.{ModelText, ProofText}
use Rattle.int_model.specs.declared.model.Model.{Model}
use Rattle.int_model.specs.Points.{IsPoint, IsBest, value_at}
use Rattle.tree_checker.specs.Accepts.{Accepts}
use Rattle.solve_cli.specs.declared.status.Status.{Status}
use Rattle.solve_cli.specs.declared.status.Status.TheVariants.{Optimal, Infeasible, Accepted, Spent, Words, Text, TooLong, Large, ReadFault, WriteFault, NoMemory, Rejected}
use Rattle.mps_model.specs.declared.layout.Layout.TheVariants.{Free}
use Rattle.mps_model.specs.Meaning.{meaning}
use Rattle.mps_write.specs.Markets.{market_model}
use Rattle.proof_text.specs.declared.claim.Claim.TheVariants as claims
use Rattle.solve_cli.specs.Words.{Reading, reading, Task, solving, checking, making, ReadsModel, MakesModel, Job, command_of}
use Rattle.solve_cli.specs.Limits.{most_proof_bytes}
use Rattle.solve_cli.specs.Report.{found_lines, bare_lines, market_line}
use Rattle.solve_cli.specs.MarketTexts.{IsMadeModel, shown_columns, summed}
use Rattle.solve_cli.specs.Outputs.{Output, with_proof}
use Rattle.solve_cli.specs.Verdict.{rows_of, AcceptsProof, Solves, Comes, States}
use Rattle.solve_cli.specs.Answer.{Given, Faults, IsJudgedText, IsToldText, IsInput, Judges, Answer, SaysAll, IsOfMarket, AnswersMarket}
use Rattle.solve_cli.specs.Headline.{Says, AnswersBest, AnswersNone, AnswersAccepted, Concludes, Headline}
use Rattle.solve_cli.proofs.SpellLaws.{market_reading}
use Rattle.solve_cli.proofs.VerdictLaws.{same_model, never}
use Rattle.solve_cli.proofs.AnswerLaws.{told_is, text_is}

-- ---- only one task gives each of the answers

-- a best point and its proof, with the lines that are said
record IsBestOf (task : Task) (model : Model) (out : Output) : Type 0 where
  point : List ℤ
  best : IsBest model point
  nodes : ℕ
  plain : ℕ
  lines : out.lines ≡ summed task (found_lines (codes "OPTIMAL") (value_at model point) (shown_columns task model) point nodes plain)
  accepted : Accepts (rows_of model) out.proof (claims.Optimal point)
  short : length out.proof ≤ most_proof_bytes

best_of : (task : Task) (proof : List ℕ) (model : Model) (out : Output) → Comes task proof model Optimal out → IsBestOf task model out
best_of (solving nodes) proof model out comes =
    record { point = comes.point; best = comes.best; nodes = _; plain = _; lines = ap (λ (o : Output). o.lines) comes.report; accepted = comes.accepted; short = comes.short }
best_of checking proof model out comes = absurd comes
best_of (making rows columns start) proof model out comes =
    let found = comes.solved in
    record {
      point = found.point;
      best = found.best;
      nodes = _;
      plain = _;
      lines = comes.summary ∙ ap (λ (o : Output). market_line rows columns start ∷ o.lines) found.report;
      accepted = found.accepted;
      short = found.short;
    }

-- no point and its proof, with the lines that are said
record IsNoneOf (task : Task) (model : Model) (out : Output) : Type 0 where
  none : (x : List ℤ) → IsPoint model x → ⊥
  nodes : ℕ
  plain : ℕ
  lines : out.lines ≡ summed task (bare_lines (codes "INFEASIBLE") nodes plain)
  accepted : Accepts (rows_of model) out.proof claims.Infeasible
  short : length out.proof ≤ most_proof_bytes

none_of : (task : Task) (proof : List ℕ) (model : Model) (out : Output) → Comes task proof model Infeasible out → IsNoneOf task model out
none_of (solving nodes) proof model out comes = record { none = comes.none; nodes = _; plain = _; lines = ap (λ (o : Output). o.lines) comes.report; accepted = comes.accepted; short = comes.short }
none_of checking proof model out comes = absurd comes
none_of (making rows columns start) proof model out comes =
    let found = comes.solved in
    record {
      none = found.none;
      nodes = _;
      plain = _;
      lines = comes.summary ∙ ap (λ (o : Output). market_line rows columns start ∷ o.lines) found.report;
      accepted = found.accepted;
      short = found.short;
    }

accepted_of : (task : Task) (proof : List ℕ) (model : Model) (out : Output) → Comes task proof model Accepted out → AcceptsProof proof model out
accepted_of (solving nodes) proof model out comes = absurd comes
accepted_of checking proof model out comes = comes
accepted_of (making rows columns start) proof model out comes = absurd comes.solved

-- what a market comes to is what solving it comes to
market_solves : (task : Task) (proof : List ℕ) (model : Model) (status : Status) (out : Output) → MakesModel task → Comes task proof model status out → (found : Output) × Solves [] 1000 model status found
market_solves (solving nodes) proof model status out makes comes = absurd makes
market_solves checking proof model status out makes comes = absurd makes
market_solves (making rows columns start) proof model status out makes comes = (with_proof comes.lines out.proof, comes.solved)

-- its text is within the limit, and states a model
market_fits : (task : Task) (left : Option (List ℕ)) (read : Reading) (text : List ℕ) → MakesModel task → read ≡ reading Free None → IsJudgedText task left text
    → (length text ≤ most_bytes) × ((model : Model) × States read text model)
market_fits (solving nodes) left read text makes free told = absurd makes
market_fits checking left read text makes free told = absurd makes
market_fits (making rows columns start) left read text makes free told =
    (told.short, (market_model rows columns start, subst (λ (r : Reading). States r text (market_model rows columns start)) (sym free) told.states))

-- the text of a market states no other model
market_stated : (task : Task) (left : Option (List ℕ)) (read : Reading) (text : List ℕ) (model : Model) → (MakesModel task → read ≡ reading Free None) → IsJudgedText task left text
    → States read text model → IsMadeModel task model
market_stated (solving nodes) left read text model free told states = tt
market_stated checking left read text model free told states = tt
market_stated (making rows columns start) left read text model free told states =
    same_model (meaning Free None text) model (market_model rows columns start) (subst (λ (r : Reading). States r text model) (free tt) states) told.states

says_as : (lines : List (List ℕ)) (out : Output) (before after : Option (List ℕ)) → out.lines ≡ lines → Says out.lines before after → Says lines before after
says_as lines out before after e said = subst (λ l. Says l before after) e said

-- ---- the headline

module _ (given : Given) (faults : Faults) (written : List ℕ → Option (List ℕ)) (before after : Option (List ℕ)) (command : Job) (text : List ℕ)
    (spelled : command_of given.words ≡ Some command) (told : IsToldText command.task (given.left command.model) text) where
  module _ (status : Status) (out : Output) (judges : Judges given status out) where
    same : judges.command ≡ command
    same = same_Some judges.command command (sym judges.spelled ∙ spelled)

    here : judges.text ≡ text
    here = text_is judges.command.task (given.left judges.command.model) judges.text text (subst (λ (c : Job). IsToldText c.task (given.left c.model) text) (sym same) told) judges.told

    stated : (model : Model) → States judges.command.reading judges.text model → States command.reading text model
    stated model states = subst (λ (c : Job). States c.reading text model) same (subst (λ t. States judges.command.reading t model) here states)

    is_market : (model : Model) → States judges.command.reading judges.text model → IsMadeModel command.task model
    is_market model states =
        subst (λ (c : Job). IsMadeModel c.task model) same
        (market_stated judges.command.task (given.left judges.command.model) judges.command.reading judges.text model (market_reading given.words judges.command judges.spelled) judges.told states)

    in_proof : (proof : List ℕ) → given.left command.proof ≡ Some proof → judges.proof ≡ proof
    in_proof proof is = told_is (given.left judges.command.proof) judges.proof proof (subst (λ (c : Job). given.left c.proof ≡ Some proof) (sym same) is) judges.proof_told

    -- the lines, by the command of the words
    best_lines : (model : Model) (is : IsBestOf judges.command.task model out)
        → out.lines ≡ summed command.task (found_lines (codes "OPTIMAL") (value_at model is.point) (shown_columns command.task model) is.point is.nodes is.plain)
    best_lines model is =
        subst (λ (c : Job). out.lines ≡ summed c.task (found_lines (codes "OPTIMAL") (value_at model is.point) (shown_columns c.task model) is.point is.nodes is.plain)) same is.lines

    none_lines : (model : Model) (is : IsNoneOf judges.command.task model out) → out.lines ≡ summed command.task (bare_lines (codes "INFEASIBLE") is.nodes is.plain)
    none_lines model is = subst (λ (c : Job). out.lines ≡ summed c.task (bare_lines (codes "INFEASIBLE") is.nodes is.plain)) same is.lines

  answers_best : SaysAll given faults written Optimal before after → AnswersBest given command text written before after
  answers_best answer =
      let judges : Judges given Optimal answer.out = answer.reason in
      let stated_is = judges.verdict in
      let best = best_of judges.command.task judges.proof stated_is.model answer.out stated_is.holds in
      record {
        model = stated_is.model;
        states = stated Optimal answer.out judges stated_is.model stated_is.states;
        market = is_market Optimal answer.out judges stated_is.model stated_is.states;
        point = best.point;
        best = best.best;
        nodes = _;
        plain = _;
        said = says_as _ answer.out before after (best_lines Optimal answer.out judges stated_is.model best) answer.said;
        shown = record { proof = answer.out.proof; put = answer.put.proof command spelled; accepted = best.accepted; short = best.short };
      }

  answers_none : SaysAll given faults written Infeasible before after → AnswersNone given command text written before after
  answers_none answer =
      let judges : Judges given Infeasible answer.out = answer.reason in
      let stated_is = judges.verdict in
      let none = none_of judges.command.task judges.proof stated_is.model answer.out stated_is.holds in
      record {
        model = stated_is.model;
        states = stated Infeasible answer.out judges stated_is.model stated_is.states;
        market = is_market Infeasible answer.out judges stated_is.model stated_is.states;
        none = none.none;
        nodes = _;
        plain = _;
        said = says_as _ answer.out before after (none_lines Infeasible answer.out judges stated_is.model none) answer.said;
        shown = record { proof = answer.out.proof; put = answer.put.proof command spelled; accepted = none.accepted; short = none.short };
      }

  answers_accepted : SaysAll given faults written Accepted before after → AnswersAccepted given command text before after
  answers_accepted answer =
      let judges : Judges given Accepted answer.out = answer.reason in
      let stated_is = judges.verdict in
      let shown = accepted_of judges.command.task judges.proof stated_is.model answer.out stated_is.holds in
      record {
        model = stated_is.model;
        states = stated Accepted answer.out judges stated_is.model stated_is.states;
        claim = shown.claim;
        is_true = shown.shown;
        said = says_as _ answer.out before after (ap (λ (o : Output). o.lines) shown.report) answer.said;
        accepted = λ proof is. subst (λ p. Accepts (rows_of stated_is.model) p shown.claim) (in_proof Accepted answer.out judges proof is) shown.accepted;
      }

  concludes : (status : Status) → Answer given faults written before after status → Concludes given command text written before after status
  concludes Optimal answer = answers_best answer
  concludes Infeasible answer = answers_none answer
  concludes Accepted answer = answers_accepted answer
  concludes status answer = tt

pub headline : (given : Given) (faults : Faults) (written : List ℕ → Option (List ℕ)) (before after : Option (List ℕ)) (status : Status) → Answer given faults written before after status
    → Headline given written before after status
headline given faults written before after status answer = λ command text spelled told. concludes given faults written before after command text spelled told status answer

-- ---- the statuses of a market

reads_or_makes : (task : Task) → ReadsModel task → MakesModel task → ⊥
reads_or_makes (solving nodes) reads makes = makes
reads_or_makes checking reads makes = makes
reads_or_makes (making rows columns start) reads makes = reads

module _ (given : Given) (command : Job) (spelled : command_of given.words ≡ Some command) (makes : MakesModel command.task) where
  same_makes : (other : Job) → command_of given.words ≡ Some other → MakesModel other.task
  same_makes other is = subst (λ (c : Job). MakesModel c.task) (same_Some command other (sym spelled ∙ is)) makes

  module _ (status : Status) (out : Output) (judges : Judges given status out) where
    fits : (length judges.text ≤ most_bytes) × ((model : Model) × States judges.command.reading judges.text model)
    fits =
        let is = same_makes judges.command judges.spelled in
        market_fits judges.command.task (given.left judges.command.model) judges.command.reading judges.text is (market_reading given.words judges.command judges.spelled is) judges.told

    of_model : (model : Model) → Comes judges.command.task judges.proof model status out → (found : Output) × Solves [] 1000 model status found
    of_model model comes = market_solves judges.command.task judges.proof model status out (same_makes judges.command judges.spelled) comes

  no_input : (other : Job) (name : List ℕ) → command_of given.words ≡ Some other → IsInput other name → ⊥
  no_input other name is input =
      ⊎_elim (λ reads. reads_or_makes other.task reads.0 (same_makes other is)) (λ checks. subst MakesModel checks.0 (same_makes other is)) input

  of_market : (faults : Faults) (written : List ℕ → Option (List ℕ)) (before after : Option (List ℕ)) (status : Status) → Answer given faults written before after status → IsOfMarket status
  of_market faults written before after Words answer = none-some command (sym answer.reason.0 ∙ spelled)
  of_market faults written before after ReadFault answer = no_input answer.reason.command answer.reason.name answer.reason.spelled answer.reason.input
  of_market faults written before after Accepted answer = (of_model Accepted answer.out answer.reason answer.reason.verdict.model answer.reason.verdict.holds).1
  of_market faults written before after (Rejected reject) answer = (of_model (Rejected reject) answer.out answer.reason answer.reason.verdict.model answer.reason.verdict.holds).1
  of_market faults written before after (TooLong ProofText) answer = (of_model (TooLong ProofText) answer.out answer.reason answer.reason.verdict.model answer.reason.verdict.holds).1
  of_market faults written before after (TooLong ModelText) answer = let here = fits (TooLong ModelText) answer.out answer.reason in omega (arith, here.0, answer.reason.verdict.long)
  of_market faults written before after (Text fault) answer =
      let judges = answer.reason in
      let here = fits (Text fault) answer.out judges in
      never (meaning judges.command.reading.layout judges.command.reading.upper judges.text) here.1.0 fault here.1.1 judges.verdict.first
  of_market faults written before after Optimal answer = tt
  of_market faults written before after Infeasible answer = tt
  of_market faults written before after Spent answer = tt
  of_market faults written before after (Large part) answer = tt
  of_market faults written before after WriteFault answer = tt
  of_market faults written before after NoMemory answer = tt

pub market_status : (given : Given) (faults : Faults) (written : List ℕ → Option (List ℕ)) (before after : Option (List ℕ)) (status : Status) → Answer given faults written before after status → AnswersMarket given status
market_status given faults written before after status answer = λ command spelled makes. of_market given command spelled makes faults written before after status answer
