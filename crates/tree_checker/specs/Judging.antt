-- The place that a judge keeps: the step, the claim, the open splits, and the form of a split that is being opened.
use Rattle.std.specs.Prelude.{◌≡◌, ℕ, ◌+◌, ◌*◌, ◌^◌, ◌≤◌, ℤ, pos, ◌≤ℤ◌, List, length, Option}
use Rattle.whole_rows.specs.WholeRows.{WholeRows, IsWithinLimits}
use Rattle.farkas_rows.specs.declared.line.Use.{Use}
use Rattle.proof_tree.specs.Trees.{IsOfSize}
use Rattle.proof_text.specs.declared.claim.Claim.{Claim}
use Rattle.proof_text.specs.Spelling.{in_lines}
use Rattle.tree_checker.specs.declared.opening.Range.{Range}
use Rattle.tree_checker.specs.declared.step.Step.{Step}
use Rattle.tree_checker.specs.declared.step.Step.TheVariants as steps
use Rattle.tree_checker.specs.Accepts.{last_of}
use Rattle.tree_checker.specs.Stages.{OpenSplit, Stage, at_head, at_claim, at_node, at_below, at_above, at_done, at_end}
use Rattle.tree_checker.specs.Passes.{PassTo}
use Rattle.tree_checker.specs.Stacks.{Stack}
use Rattle.tree_checker.specs.Claims.{claim_of}
use Rattle.tree_checker.specs.Openings.{opening_of}

-- the rows, and what the next line is to be
pub record Judged : Type 0 where
  pub rows : WholeRows
  pub stage : Stage

-- no line is to come
abbrev pub IsAtEnd : Stage → Type 0
IsAtEnd stage = (claim : Claim) × (stage ≡ at_end claim)

-- the stage at a step below these splits
abbrev pub stage_of : Step → Claim → List OpenSplit → List ℤ → Stage
stage_of steps.Head claimed splits form = at_head
stage_of steps.Claim claimed splits form = at_claim
stage_of steps.Node claimed splits form = at_node claimed splits
stage_of (steps.Below range) claimed splits form = at_below claimed splits (opening_of range form)
stage_of (steps.Above range) claimed splits form = at_above claimed splits (opening_of range form)
stage_of steps.Done claimed splits form = at_done claimed
stage_of steps.End claimed splits form = at_end claimed

-- the values of a split are in their ranges, and its slices have room below these splits
pub record IsRange (columns : ℕ) (splits : List OpenSplit) (range : Range) : Type 0 where
  pub lo : IsOfSize (2 ^ 97) range.lo
  pub count : (pos 0 ≤ℤ range.count) × (range.count ≤ℤ pos (2 ^ 98))
  pub room : pos 1 ≤ℤ range.count → length splits + 1 ≤ 2 * columns

-- the split that is being opened at this step, if one is, may be there
abbrev pub HasRange : ℕ → List OpenSplit → Step → Type 0
HasRange columns splits steps.Head = Unit {0}
HasRange columns splits steps.Claim = Unit {0}
HasRange columns splits steps.Node = Unit {0}
HasRange columns splits (steps.Below range) = IsRange columns splits range
HasRange columns splits (steps.Above range) = IsRange columns splits range
HasRange columns splits steps.Done = Unit {0}
HasRange columns splits steps.End = Unit {0}

-- behind the claim its cut value is known
abbrev pub HasLast : WholeRows → Step → List ℤ → Option ℤ → Type 0
HasLast rows steps.Head point last = Unit {0}
HasLast rows steps.Claim point last = Unit {0}
HasLast rows _ point last = last ≡ last_of rows (claim_of point last)

-- what a judge keeps
pub record IsJudge (rows : WholeRows) (step : Step) (point : List ℤ) (last : Option ℤ) (stack : Stack) (form : List ℤ) (items : List Use) : Type 0 where
  pub limits : IsWithinLimits rows
  pub dense_point : length point ≡ length rows.box
  pub columns : stack.columns ≡ length rows.box
  pub dense : length form ≡ length rows.box
  pub room : 2 * length rows.rows + 6 * length rows.box + 1 ≤ length items
  pub range : HasRange (length rows.box) stack.splits step
  pub value : HasLast rows step point last

-- the text is lines that pass from its head on, and the next line stands there
abbrev pub PassesAll : WholeRows → List ℕ → Stage → Type 0
PassesAll rows text stage = (lines : List (List ℕ)) × (text ≡ in_lines lines) × PassTo rows at_head lines stage
