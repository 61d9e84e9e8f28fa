-- The first line of a text that is refused.
use Rattle.std.specs.Prelude.{◌≡◌, ◌≢◌, ◌⊎◌, ℕ, ◌+◌, ◌≤◌, ◌<◌, List, [], ◌∷◌, ◌++◌, length, All}
use Rattle.whole_rows.specs.WholeRows.{WholeRows}
use Rattle.proof_text.specs.declared.claim.Claim.{Claim}
use Rattle.proof_text.specs.Spelling.{in_lines}
use Rattle.tree_checker.specs.declared.verdict.RejectKind.{RejectKind}
use Rattle.tree_checker.specs.declared.verdict.RejectKind.TheVariants as kinds
use Rattle.tree_checker.specs.declared.verdict.Reject.{Reject}
use Rattle.tree_checker.specs.Accepts.{longest}
use Rattle.tree_checker.specs.Stages.{Stage, at_head, at_end}
use Rattle.tree_checker.specs.Passes.{PassTo}
use Rattle.tree_checker.specs.Faults.{IsFault}

-- a line without its line feed
abbrev pub IsLine : List ℕ → Type 0
IsLine line = All (λ byte. byte ≢ 10) line

-- the text goes on behind the line `DONE`
abbrev pub IsTail : List ℕ → RejectKind → Type 0
IsTail rest kind = (line : List ℕ) × (more : List ℕ) × (rest ≡ line ++ more) × IsLine line × ((more ≡ []) ⊎ ((next : List ℕ) × (more ≡ 10 ∷ next)))
    × (((kind ≡ kinds.LongLine) × (longest < length line)) ⊎ ((kind ≡ kinds.Tail) × (length line ≤ longest)))

-- the text ends within a line
abbrev pub IsCutShort : List ℕ → RejectKind → Type 0
IsCutShort rest kind = IsLine rest × (((kind ≡ kinds.LongLine) × (longest < length rest)) ⊎ ((kind ≡ kinds.Short) × (length rest ≤ longest)))

-- the text goes on with a line that does not pass
abbrev pub IsRefused : WholeRows → Stage → List ℕ → RejectKind → Type 0
IsRefused rows stage rest kind = (line : List ℕ) × (more : List ℕ) × (rest ≡ line ++ 10 ∷ more) × IsLine line
    × (((kind ≡ kinds.LongLine) × (longest < length line)) ⊎ ((length line ≤ longest) × IsFault rows stage line kind))

-- lines pass, and what comes behind them is refused with this kind
pub record RejectsAt (rows : WholeRows) (text : List ℕ) (reject : Reject) : Type 0 where
  pub lines : List (List ℕ)
  pub rest : List ℕ
  pub stage : Stage
  pub whole : text ≡ in_lines lines ++ rest
  pub passed : PassTo rows at_head lines stage
  pub number : reject.line ≡ length lines + 1
  pub refused : ((claim : Claim) × (stage ≡ at_end claim) × (rest ≢ []) × IsTail rest reject.kind)
      ⊎ (((claim : Claim) → stage ≢ at_end claim) × (IsCutShort rest reject.kind ⊎ IsRefused rows stage rest reject.kind))
