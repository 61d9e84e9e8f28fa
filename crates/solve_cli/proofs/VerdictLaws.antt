-- A text gives one status at most, unless the budget is spent, and which ones it may give.
use Rattle.std.proofs.Common.{◌≡◌, ◌⊎◌, ⊎_elim, inl, inr, ℕ, ◌≤◌, ◌<◌, List, [], length, Some, refl, sym, ap, subst, ◌∙◌, arith}
use Rattle.std.specs.Prelude.{Result, Ok, Err}
use Rattle.std.proofs.lemmas.Option.{same_Some}
use Rattle.whole_rows.specs.WholeRows.{WholeRows, IsWithinLimits}
use Rattle.int_model.specs.declared.part.Part.{Part}
use Rattle.int_model.specs.declared.model.Column.{Column}
use Rattle.int_model.specs.declared.model.Model.{Model}
use Rattle.int_model.specs.Large.{IsFirstLarge, HasNoLargePart}
use Rattle.int_model.specs.FirstLargeLaws.{first_large_is_one}
use Rattle.mps_model.specs.declared.fault.TextFault.{TextFault}
use Rattle.mps_model.specs.Meaning.{meaning}
use Rattle.tree_checker.specs.declared.verdict.Verdict.{Verdict as Checked}
use Rattle.tree_checker.specs.declared.verdict.Verdict.TheVariants as checked
use Rattle.tree_checker.specs.Verdicts.{IsVerdict}
use Rattle.solve_cli.specs.declared.status.Input.TheVariants.{ModelText, ProofText}
use Rattle.solve_cli.specs.declared.status.Status.{Status}
use Rattle.solve_cli.specs.declared.status.Status.TheVariants.{Optimal, Infeasible, Accepted, Spent, Text, TooLong, Large, Rejected}
use Rattle.mps_fields.specs.Lines.{most_bytes}
use Rattle.solve_cli.specs.Words.{Reading, Task, solving, checking, making, budget_of, Job}
use Rattle.solve_cli.specs.Limits.{most_proof_bytes}
use Rattle.solve_cli.specs.Outputs.{Output, with_proof}
use Rattle.solve_cli.specs.Verdict.{rows_of, enough_nodes, Solves, Checks, Comes, IsStated, IsRefused, IsTooLong, Verdict}
use Rattle.solve_cli.specs.Answer.{IsDecided, IsChecked, StatesSmall, SameUnlessSpent, Gives}

-- ---- models

-- what a model comes to: it is decided or the budget spent, or it has a first large part
module _ (nodes : ℕ) (model : Model) where
  abbrev IsTried : Status → Type 0
  IsTried status = HasNoLargePart model × (IsDecided model status ⊎ (status ≡ Spent))

  abbrev IsLarge : Status → Type 0
  IsLarge status = (part : Part) × (status ≡ Large part) × IsFirstLarge model part

  solved : (columns : List Column) (status : Status) (out : Output) → Solves columns nodes model status out → IsTried status ⊎ IsLarge status
  solved columns Optimal out s = inl (s.small, inl (inl (refl, (s.point, s.best.point))))
  solved columns Infeasible out s = inl (s.small, inl (inr (refl, s.none)))
  solved columns Spent out s = inl (s.small, inr refl)
  solved columns (Large part) out s = inr (part, refl, s.first)
  solved columns status out s = absurd s

  one_decision : (one other : Status) → IsDecided model one → IsDecided model other → one ≡ other
  one_decision one other a b =
      ⊎_elim (λ best. ⊎_elim (λ same. best.0 ∙ sym same.0) (λ none. absurd (none.1 best.1.0 best.1.1)) b)
      (λ none. ⊎_elim (λ best. absurd (none.1 best.1.0 best.1.1)) (λ same. none.0 ∙ sym same.0) b) a

  one_try : (one other : Status) → IsTried one → IsTried other → SameUnlessSpent one other
  one_try one other a b =
      ⊎_elim (λ first. ⊎_elim (λ second. inl (one_decision one other first second)) (λ spent. inr (inr spent)) b.1) (λ spent. inr (inl spent)) a.1

  one_solve : (one other : Status) → IsTried one ⊎ IsLarge one → IsTried other ⊎ IsLarge other → SameUnlessSpent one other
  one_solve one other a b =
      ⊎_elim
      (λ first. ⊎_elim (λ second. one_try one other first second) (λ large. absurd (first.0 large.0 large.2.large)) b)
      (λ large. ⊎_elim (λ second. absurd (second.0 large.0 large.2.large))
      (λ same. inl (large.1 ∙ ap Large (first_large_is_one model large.0 same.0 large.2 same.2) ∙ sym same.1)) b)
      a

  -- a model without a large part is decided, or the budget is spent
  ends_model : (status : Status) → HasNoLargePart model → IsTried status ⊎ IsLarge status → IsDecided model status ⊎ (status ≡ Spent)
  ends_model status small s = ⊎_elim (λ tried. tried.1) (λ large. absurd (small large.0 large.2.large)) s

-- with enough nodes the budget is not spent
not_spent : (columns : List Column) (nodes : ℕ) (model : Model) (status : Status) (out : Output) → enough_nodes model ≤ nodes → Solves columns nodes model status out → status ≡ Spent → ⊥
not_spent columns nodes model status out enough s spent =
    let found : Solves columns nodes model Spent out = subst (λ one. Solves columns nodes model one out) spent s in
    absurd (omega (arith, enough, found.few))

-- a task with a budget solves the model with it
record IsSolved (nodes : ℕ) (model : Model) (status : Status) : Type 0 where
  columns : List Column
  out : Output
  solves : Solves columns nodes model status out

is_solved : (task : Task) (nodes : ℕ) (proof : List ℕ) (model : Model) (status : Status) (out : Output) → budget_of task ≡ Some nodes → Comes task proof model status out → IsSolved nodes model status
is_solved (solving count) nodes proof model status out is comes =
    subst (λ n. IsSolved n model status) (same_Some count nodes is) (record { columns = model.columns; out = out; solves = comes })
is_solved checking nodes proof model status out is comes = absurd cc
is_solved (making rows columns start) nodes proof model status out is comes =
    subst (λ n. IsSolved n model status) (same_Some 1000 nodes is) (record { columns = []; out = with_proof comes.lines out.proof; solves = comes.solved })

-- a proof within its limit is accepted or refused at a line, where the model has no large part
checked_small : (proof : List ℕ) (model : Model) (status : Status) (out : Output) → HasNoLargePart model → length proof ≤ most_proof_bytes → Checks proof model status out → IsChecked model proof status
checked_small proof model Accepted out small short c = inl (refl, (c.claim, c.accepted))
checked_small proof model (Rejected reject) out small short c = inr (reject, refl, c.refused)
checked_small proof model (TooLong ProofText) out small short c = absurd (omega (arith, short, c.long))
checked_small proof model (Large part) out small short c = absurd (small part c.first.large)
checked_small proof model status out small short c = absurd c

-- what a check comes to: the checker's verdict, or a proof that is too long, or a first large part
module _ (proof : List ℕ) (model : Model) where
  abbrev status_of : Checked → Status
  status_of (checked.Accepted claim) = Accepted
  status_of (checked.Rejected reject) = Rejected reject

  record IsOfChecker (status : Status) : Type 0 where
    small : HasNoLargePart model
    limits : IsWithinLimits (rows_of model)
    short : length proof ≤ most_proof_bytes
    verdict : Checked
    said : IsVerdict (rows_of model) proof verdict
    same : status ≡ status_of verdict

  record IsTooMuch (status : Status) : Type 0 where
    small : HasNoLargePart model
    long : most_proof_bytes < length proof
    same : status ≡ TooLong ProofText

  abbrev IsOfLarge : Status → Type 0
  IsOfLarge status = (part : Part) × (status ≡ Large part) × IsFirstLarge model part

  checked_as : (status : Status) (out : Output) → Checks proof model status out → IsOfChecker status ⊎ (IsTooMuch status ⊎ IsOfLarge status)
  checked_as Accepted out c = inl (record { small = c.small; limits = c.limits; short = c.short; verdict = checked.Accepted c.claim; said = c.accepted; same = refl })
  checked_as (Rejected reject) out c = inl (record { small = c.small; limits = c.limits; short = c.short; verdict = checked.Rejected reject; said = c.refused; same = refl })
  checked_as (TooLong ProofText) out c = inr (inl (record { small = c.small; long = c.long; same = refl }))
  checked_as (Large part) out c = inr (inr (part, refl, c.first))
  checked_as status out c = absurd c

  module _ (one_verdict : (verdict other : Checked) → IsWithinLimits (rows_of model) → IsVerdict (rows_of model) proof verdict → IsVerdict (rows_of model) proof other → verdict ≡ other) where
    never_both : {P : Type 0} → most_proof_bytes < length proof → length proof ≤ most_proof_bytes → P
    never_both long short = absurd (omega (arith, long, short))

    one_check : (one other : Status) (out more : Output) → Checks proof model one out → Checks proof model other more → one ≡ other
    one_check one other out more a b =
        ⊎_elim
        (λ first. ⊎_elim (λ second. first.same ∙ ap status_of (one_verdict first.verdict second.verdict first.limits first.said second.said) ∙ sym second.same)
        (λ r. ⊎_elim (λ long. never_both long.long first.short) (λ large. absurd (first.small large.0 large.2.large)) r) (checked_as other more b))
        (λ l. ⊎_elim
        (λ long. ⊎_elim (λ second. never_both long.long second.short)
        (λ r. ⊎_elim (λ second. long.same ∙ sym second.same) (λ large. absurd (long.small large.0 large.2.large)) r) (checked_as other more b))
        (λ large. ⊎_elim (λ second. absurd (second.small large.0 large.2.large))
        (λ r. ⊎_elim (λ long. absurd (long.small large.0 large.2.large))
        (λ same. large.1 ∙ ap Large (first_large_is_one model large.0 same.0 large.2 same.2) ∙ sym same.1) r) (checked_as other more b))
        l)
        (checked_as one out a)

-- ---- texts

pub same_model : (found : Result Model TextFault) (one other : Model) → found ≡ Ok one → found ≡ Ok other → one ≡ other
same_model found one other a b = cc

same_fault : (found : Result Model TextFault) (one other : TextFault) → found ≡ Err one → found ≡ Err other → one ≡ other
same_fault found one other a b = cc

pub never : {P : Type 0} (found : Result Model TextFault) (model : Model) (fault : TextFault) → found ≡ Ok model → found ≡ Err fault → P
never found model fault a b = absurd cc

module _ (reading : Reading) (text : List ℕ) (Follows : Model → Status → Output → Type 0) where
  -- what a text comes to is one of three
  abbrev Judged : Status → Output → Type 0
  Judged status out =
      ((status ≡ TooLong ModelText) × IsTooLong text out) ⊎ (((fault : TextFault) × (status ≡ Text fault) × IsRefused reading text fault out) ⊎ IsStated reading text (λ model. Follows model status out))

  judged : (status : Status) (out : Output) → Verdict reading Follows text status out → Judged status out
  judged (Text fault) out v = inr (inl (fault, refl, v))
  judged (TooLong ModelText) out v = inl (refl, v)
  judged status out v = inr (inr v)

  abbrev found : Result Model TextFault
  found = meaning reading.layout reading.upper text

  not_long : {P : Type 0} → most_bytes < length text → length text ≤ most_bytes → P
  not_long long short = absurd (omega (arith, long, short))

  -- a text that states a model without a large part comes to what the model does
  model_of : (model : Model) (status : Status) (out : Output) → StatesSmall reading text model → Verdict reading Follows text status out → Follows model status out
  model_of model status out small v =
      ⊎_elim (λ long. not_long long.1.long small.short)
      (λ r. ⊎_elim (λ refused. never found model refused.0 small.states refused.2.first)
      (λ stated. subst (λ m. Follows m status out) (same_model found stated.model model stated.states small.states) stated.holds) r)
      (judged status out v)

-- what holds of two statuses that a model comes to, and of one and the same status, holds of two that a text gives
module _ (reading : Reading) (text : List ℕ) (Follows : Model → Status → Output → Type 0) (R : Status → Status → Type 0) (alike : (one other : Status) → one ≡ other → R one other)
    (models : (model : Model) (one other : Status) (out more : Output) → Follows model one out → Follows model other more → R one other) where
  abbrev meant : Result Model TextFault
  meant = meaning reading.layout reading.upper text

  one_text : (one other : Status) (out more : Output) → Verdict reading Follows text one out → Verdict reading Follows text other more → R one other
  one_text one other out more a b =
      ⊎_elim
      (λ long. ⊎_elim (λ same. alike one other (long.0 ∙ sym same.0))
      (λ r. ⊎_elim (λ refused. not_long reading text Follows long.1.long refused.2.short) (λ stated. not_long reading text Follows long.1.long stated.short) r) (judged reading text Follows other more b))
      (λ l. ⊎_elim
      (λ refused. ⊎_elim (λ long. not_long reading text Follows long.1.long refused.2.short)
      (λ r. ⊎_elim (λ same. alike one other (refused.1 ∙ ap Text (same_fault meant refused.0 same.0 refused.2.first same.2.first) ∙ sym same.1))
      (λ stated. never meant stated.model refused.0 stated.states refused.2.first) r) (judged reading text Follows other more b))
      (λ stated. ⊎_elim (λ long. not_long reading text Follows long.1.long stated.short)
      (λ r. ⊎_elim (λ refused. never meant stated.model refused.0 stated.states refused.2.first)
      (λ same. models same.model one other out more (subst (λ m. Follows m one out) (same_model meant stated.model same.model stated.states same.states) stated.holds) same.holds) r) (judged reading text Follows other more b))
      l)
      (judged reading text Follows one out a)

-- ---- commands

-- the same under a command that solves
module _ (command : Job) (nodes : ℕ) (solves : budget_of command.task ≡ Some nodes) (text proof : List ℕ) where
  comes_solved : (model : Model) (status : Status) (out : Output) → Comes command.task proof model status out → IsTried nodes model status ⊎ IsLarge nodes model status
  comes_solved model status out comes = let is = is_solved command.task nodes proof model status out solves comes in solved nodes model is.columns status is.out is.solves

  pub one_given : (one other : Status) → Gives command text proof one → Gives command text proof other → SameUnlessSpent one other
  one_given one other a b =
      one_text command.reading text (Comes command.task proof) SameUnlessSpent (λ one other same. inl same)
      (λ model one other out more x y. one_solve nodes model one other (comes_solved model one out x) (comes_solved model other more y)) one other a.0 b.0 a.1 b.1

  here : (model : Model) (status : Status) → StatesSmall command.reading text model → (gives : Gives command text proof status) → Comes command.task proof model status gives.0
  here model status small gives = model_of command.reading text (Comes command.task proof) model status gives.0 small gives.1

  pub ends : (model : Model) (status : Status) → StatesSmall command.reading text model → Gives command text proof status → IsDecided model status ⊎ (status ≡ Spent)
  ends model status small gives = ends_model nodes model status small.small (comes_solved model status gives.0 (here model status small gives))

  pub decides : (model : Model) (status : Status) → StatesSmall command.reading text model → enough_nodes model ≤ nodes → Gives command text proof status → IsDecided model status
  decides model status small enough gives =
      let is = is_solved command.task nodes proof model status gives.0 solves (here model status small gives) in
      ⊎_elim (λ decided. decided)
      (λ spent. absurd (not_spent is.columns nodes model status is.out enough is.solves spent))
      (ends model status small gives)

-- and under one that checks
module _ (command : Job) (task : command.task ≡ checking) (text proof : List ℕ) where
  check_verdict : (status : Status) → (gives : Gives command text proof status) → Verdict command.reading (Checks proof) text status gives.0
  check_verdict status gives = subst (λ task. Verdict command.reading (Comes task proof) text status gives.0) task gives.1

  pub one_checked : ((rows : WholeRows) (text : List ℕ) (verdict other : Checked) → IsWithinLimits rows → IsVerdict rows text verdict → IsVerdict rows text other → verdict ≡ other)
      → (one other : Status) → Gives command text proof one → Gives command text proof other → one ≡ other
  one_checked one_verdict one other a b =
      one_text command.reading text (Checks proof) (λ one other. one ≡ other) (λ one other same. same) (λ model. one_check proof model (one_verdict (rows_of model) proof)) one other a.0 b.0
      (check_verdict one a) (check_verdict other b)

  pub checks : (model : Model) (status : Status) → StatesSmall command.reading text model → length proof ≤ most_proof_bytes → Gives command text proof status → IsChecked model proof status
  checks model status small short gives = checked_small proof model status gives.0 small.small short (model_of command.reading text (Checks proof) model status gives.0 small (check_verdict status gives))
