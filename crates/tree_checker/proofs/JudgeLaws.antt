-- What a judge has judged, it keeps.
use Rattle.std.proofs.Common.{◌≡◌, List, ℕ, ℤ, Option, Some, None, Result, Ok, Err, sym, ap, subst, ◌∙◌}
use Rattle.std.specs.Prelude.{MatchOption, MatchResult, IfOk}
use Rattle.whole_rows.specs.WholeRows.{WholeRows}
use Rattle.proof_text.specs.declared.claim.Claim.{Claim}
use Rattle.tree_checker.specs.declared.step.Step.{Step}
use Rattle.tree_checker.specs.declared.verdict.RejectKind.{RejectKind}
use Rattle.tree_checker.specs.Stages.{OpenSplit, Stage}
use Rattle.tree_checker.specs.Passes.{PassesTo}
use Rattle.tree_checker.specs.Faults.{IsFault}
use Rattle.tree_checker.specs.Judging.{Judged, stage_of}

abbrev pub Settles : Option RejectKind → Result Step RejectKind → Step → Step → Type 0
Settles result judged old new = MatchOption result (judged ≡ Ok new) (λ kind. (judged ≡ Err kind) × (new ≡ old))

-- what was judged is answered
pub settled : (result : Option RejectKind) (judged : Result Step RejectKind) (old new : Step) (P : Step → Type 0) (Q : RejectKind → Type 0) → Settles result judged old new → MatchResult judged P Q → MatchOption result (P new) Q
settled None judged old new P Q h m = subst (λ (r : Result Step RejectKind). MatchResult r P Q) h m
settled (Some kind) judged old new P Q h m = subst (λ (r : Result Step RejectKind). MatchResult r P Q) h.0 m

-- the line was judged at this place
pub judged_at : (old : Judged) (rows : WholeRows) (stage : Stage) (text : List ℕ) (result : Option RejectKind) (new : Stage) → record { rows = rows; stage = stage } ≡ old
    → MatchOption result (PassesTo rows stage text new) (IsFault rows stage text) → MatchOption result (PassesTo old.rows old.stage text new) (IsFault old.rows old.stage text)
judged_at old rows stage text result new is = subst (λ (j : Judged). MatchOption result (PassesTo j.rows j.stage text new) (IsFault j.rows j.stage text)) is

-- the place at this step
pub at_step : (old : Judged) (rows : WholeRows) (step at : Step) (claimed : Claim) (splits : List OpenSplit) (form : List ℤ) → record { rows = rows; stage = stage_of step claimed splits form } ≡ old → step ≡ at → record { rows = rows; stage = stage_of at claimed splits form } ≡ old
at_step old rows step at claimed splits form view e = ap (λ s. record { rows = rows; stage = stage_of s claimed splits form }) (sym e) ∙ view

-- what holds of the one step that can be judged
pub holds_at : (result : Option RejectKind) (judged : Result Step RejectKind) (old new next : Step) (P : Step → Type 0) → Settles result judged old new → IfOk judged (λ step. step ≡ next) → P old → P next → P new
holds_at None judged old new next P h m before after = let same : new ≡ next = subst (λ (r : Result Step RejectKind). IfOk r (λ step. step ≡ next)) h m in subst P (sym same) after
holds_at (Some kind) judged old new next P h m before after = subst P (sym h.1) before
