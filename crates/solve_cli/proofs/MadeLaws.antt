-- A market that is made: what was put, and what was taken.
use Rattle.std.proofs.Common.{◌≡◌, ℕ, List, [], ◌∷◌, ◌++◌, inl, inr, ◌≤◌, length, take, Option, Some, None, refl, sym, ap, ◌∙◌, subst, subst₂, append-nil, arith}
use Rattle.std.specs.Prelude.{IfOk, IsErrOf, OnOk, OnErr, option_map, Result, Ok, Err}
use Rattle.std.proofs.lemmas.List.{take_all}
use Rattle.std.proofs.lemmas.Option.{none-some}
use Rattle.desk_io.specs.Desk.{Fault, appended, AppendsSome, Same}
use Rattle.desk_io.specs.FaultLaws.{rose_after}
use Rattle.desk_io.specs.declared.desk.DeskStop.{DeskStop}
use Rattle.desk_io.specs.declared.desk.DeskStop.TheVariants as stops
use Rattle.int_model.specs.declared.model.Column.{Column}
use Rattle.int_model.specs.declared.model.Model.{Model}
use Rattle.mps_fields.specs.Lines.{most_bytes}
use Rattle.mps_model.specs.declared.layout.Layout.TheVariants.{Free}
use Rattle.mps_model.specs.Meaning.{meaning}
use Rattle.mps_model.specs.ModelLimits.{KeepsLimits}
use Rattle.mps_write.specs.PlainModels.{IsPlain}
use Rattle.mps_write.specs.CanonicalText.{canonical_text}
use Rattle.mps_write.specs.Markets.{market_model}
use Rattle.solve_cli.specs.declared.status.Status.{Status}
use Rattle.solve_cli.specs.declared.status.Status.TheVariants.{Large, NoMemory}
use Rattle.solve_cli.specs.Words.{ReadsModel, MakesModel, Job, market_job, command_of}
use Rattle.solve_cli.specs.MarketTexts.{market_text, made_text, StatesMarket}
use Rattle.solve_cli.specs.Putting.{Told, IsPut}
use Rattle.solve_cli.specs.Answer.{Given, desk_faults, IsOutput, IsBegun, Puts, IsOfProof, TakesInput}
use Rattle.solve_cli.specs.declared.proof.Proof.{Proof}
use Rattle.solve_cli.specs.declared.reply.Reply.{Reply}
use Rattle.solve_cli.specs.Report.{report_of, market_line}
use Rattle.solve_cli.specs.Outputs.{Output, with_proof, text_of}
use Rattle.solve_cli.specs.Verdict.{IsUnfit, Solves, SumsUp}
use Rattle.solve_cli.specs.Solving.{output_of, Replies, IsReplied}
use Rattle.solve_cli.proofs.PutLaws.{appended_nothing}
use Rattle.solve_cli.proofs.SpellLaws.{names_differ}
use Rattle.solve_cli.proofs.SolveLaws.{same_job}

-- ---- the model

-- a plain model keeps the limits of those that are read
pub plain_limits : (model : Model) → IsPlain model → KeepsLimits model
plain_limits model plain = record {
  few_columns = plain.few_columns;
  few_rows = plain.few_rows;
  rows = λ i d within. (plain.rows i d within).items.distinct;
  objective = plain.objective.distinct;
}

-- the text of the model that is made
pub text_of_market : (rows columns start : ℕ) (model : Model) → model ≡ market_model rows columns start → canonical_text model ≡ market_text rows columns start
unfolding market_text
text_of_market rows columns start model same = ap canonical_text same

-- a model with a part that is too large, whatever columns are printed
pub unfit_solved : (columns : List Column) (nodes : ℕ) (model : Model) (reply : Reply) → Replies (IsUnfit model) reply → Replies (Solves columns nodes model) reply
unfit_solved columns nodes model reply unfit = (unfit.0, unfit.1, by reply.status (output_of reply unfit.0) unfit.2)
  where
    by : (status : Status) (out : Output) → IsUnfit model status out → Solves columns nodes model status out
    by (Large part) out unfit = unfit
    by status out unfit = absurd unfit

-- the line of a market in front of the report on it
pub summed_up : {E : Type 0} (rows columns start : ℕ) (model : Model) (reply : Reply) (result : Result Reply E) → Replies (Solves [] 1000 model) reply
    → IfOk result (λ (r : Reply). (r.status ≡ reply.status) × (r.proof ≡ reply.proof) × (r.report.items ≡ report_of (market_line rows columns start ∷ []) ++ reply.report.items))
    → IfOk result (Replies (SumsUp rows columns start model))
summed_up rows columns start model reply (Err e) solved is = tt
summed_up rows columns start model reply (Ok r) solved is =
    let line = market_line rows columns start in (
      line ∷ solved.0,
      is.2 ∙ ap (λ bytes. report_of (line ∷ []) ++ bytes) solved.1 ∙ one_more line solved.0,
      subst₂ (λ s (p : Proof). SumsUp rows columns start model s (with_proof (line ∷ solved.0) (text_of p))) (sym is.0) (sym is.1) (record { lines = solved.0; summary = refl; solved = solved.2 }),
    )
  where
    one_more : (line : List ℕ) (lines : List (List ℕ)) → report_of (line ∷ []) ++ report_of lines ≡ report_of (line ∷ lines)
    one_more line lines = ap (λ front. front ++ report_of lines) (append-nil (line ++ 10 ∷ []))

-- the text of the market states the market
pub market_told : (rows columns start : ℕ) (model : Model) → model ≡ market_model rows columns start → meaning Free None (canonical_text model) ≡ Ok model → length (canonical_text model) ≤ most_bytes
    → StatesMarket rows columns start (market_text rows columns start)
market_told rows columns start model same states short =
    let text = text_of_market rows columns start model same in
    record {
      canonical = refl;
      short = subst (λ bytes. length bytes ≤ most_bytes) text short;
      states = subst₂ (λ bytes (m : Model). meaning Free None bytes ≡ Ok m) text same states;
    }

pub same_faults : (count other : ℕ) (last past : Option Fault) → count ≡ other → last ≡ past → desk_faults count last ≡ desk_faults other past
same_faults count other last past e f = rw (e, f) refl

-- what solving a model comes to, by an equal model
pub summed_of : (model other : Model) (reply : Reply) → model ≡ other → Replies (Solves [] 1000 model) reply → Replies (Solves [] 1000 other) reply
summed_of model other reply same solved = subst (λ (m : Model). Replies (Solves [] 1000 m) reply) same solved

-- ---- what was put

module _ (given : Given) (model proof : List ℕ) (rows columns start : ℕ) (spelled : command_of given.words ≡ Some (market_job model proof rows columns start)) where
  abbrev command : Job
  command = market_job model proof rows columns start

  abbrev text : List ℕ
  text = market_text rows columns start

  -- first bytes of the text
  pub first_bytes : (count : ℕ) → IsBegun given (take count text) []
  first_bytes count = record { count = count; first = λ other is. same_job given command spelled (λ (c : Job). take count text ≡ take count (made_text c.task)) other is refl; none = refl }

  -- all of it
  pub all_bytes : IsBegun given text []
  all_bytes = subst (λ bytes. IsBegun given bytes []) (take_all (length text) text (omega arith)) (first_bytes (length text))

  module _ (result : Result (Unit {0}) DeskStop) (old new : Told) (same : Same given.written old.written) (later : given.faults ≤ old.faults.count) (put : IsPut model text result old new) where
    puts_made : (made : List ℕ) → new.written model ≡ option_map (appended made) (old.written model) → Puts given made [] new.written
    puts_made made behind = record {
      no_command = λ none. absurd (none-some command (sym none ∙ spelled));
      others = λ c is. same_job given command spelled (λ (c : Job). (name : List ℕ) → (IsOutput c name → ⊥) → new.written name ≡ given.written name) c is
          (λ name no. put.others name (λ e. no (inr (tt, e))) ∙ same name);
      model = λ c is. same_job given command spelled (λ (c : Job). MakesModel c.task → new.written c.model ≡ option_map (appended made) (given.written c.model)) c is
          (λ makes. behind ∙ ap (option_map (appended made)) (same model));
      proof = λ c is. same_job given command spelled (λ (c : Job). new.written c.proof ≡ option_map (appended []) (given.written c.proof)) c is
          (put.others proof (names_differ given.words command spelled) ∙ same proof ∙ appended_nothing (given.written proof));
    }

    -- the text was put
    pub made_whole : result ≡ Ok tt → Puts given text [] new.written
    made_whole ok = puts_made text (subst (λ (r : Result (Unit {0}) DeskStop). OnOk r (new.written model ≡ option_map (appended text) (old.written model))) ok put.ok)

    -- or it was not
    pub made_stop : (e : DeskStop) → result ≡ Err e → IsReplied given new.faults new.written (Err e)
    made_stop stops.NoMemory stopped =
        let some : AppendsSome text (old.written model) (new.written model) = subst (λ (r : Result (Unit {0}) DeskStop). OnErr r (AppendsSome text (old.written model) (new.written model))) stopped put.err in
        (take some.0 text, [], inl (first_bytes some.0), puts_made (take some.0 text) some.1)
    made_stop stops.Failed stopped =
        let some : AppendsSome text (old.written model) (new.written model) = subst (λ (r : Result (Unit {0}) DeskStop). OnErr r (AppendsSome text (old.written model) (new.written model))) stopped put.err in
        let failed : IsErrOf result stops.Failed = subst (λ (r : Result (Unit {0}) DeskStop). IsErrOf r stops.Failed) (sym stopped) refl in
        inr (record {
          command = command;
          spelled = spelled;
          makes = tt;
          made = take some.0 text;
          begun = first_bytes some.0;
          put = puts_made (take some.0 text) some.1;
          rose = rose_after given.faults old.faults.count new.faults.count later (put.rose failed);
          last = put.place failed;
        })

  -- ---- what was taken

  -- nothing was taken
  pub takes_nothing : (left : List ℕ → Option (List ℕ)) (status : Status) → Same given.left left → (IsOfProof status → ⊥) → TakesInput given left status
  takes_nothing left status same other = record {
    no_command = λ none name. same name;
    others = λ c is name no. same name;
    model = λ c is reads judged. absurd (same_job given command spelled (λ (c : Job). ReadsModel c.task → ⊥) c is (λ h. h) reads);
    proof = λ c is judged. absurd (other judged);
    untouched = λ c is judged. same c.proof;
  }
