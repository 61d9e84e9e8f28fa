-- What has a spelling: numbers in their ranges, in rising order, each inequality there, and a child for each slice.
use Rattle.std.specs.Prelude.{◌≡◌, ℕ, ◌^◌, ℤ, pos, ◌+ℤ◌, ◌≤ℤ◌, List, [], length, map, All, Option, Some, None, IfSome, IsSome, ◌≢◌}
use Rattle.std.specs.List.Sorted.{IsStrictlyIncreasing}
use Rattle.whole_rows.specs.WholeRows.{WholeRows}
use Rattle.farkas_rows.specs.declared.line.Use.{Use}
use Rattle.farkas_rows.specs.declared.line.CutUse.{CutUse}
use Rattle.farkas_rows.specs.declared.line.Line.{Line}
use Rattle.farkas_rows.specs.declared.path.Slice.{Slice}
use Rattle.farkas_rows.specs.Inequalities.{Inequality, inequality_at, below, above}
use Rattle.farkas_rows.specs.Refutes.{multipliers}
use Rattle.proof_tree.specs.declared.tree.Cut.{Cut}
use Rattle.proof_tree.specs.declared.tree.Tree as tree
use Rattle.proof_tree.specs.Trees.{on_slice, IsOfSize}
use Rattle.proof_text.specs.declared.claim.Claim.{Claim}
use Rattle.proof_text.specs.declared.claim.Claim.TheVariants as claims
use Rattle.proof_text.specs.Spelling.{proof_text}

-- a multiplier is from 1 to 2 to the power 126
abbrev pub IsMultiplier : ℤ → Type 0
IsMultiplier times = (pos 1 ≤ℤ times) × (times ≤ℤ pos (2 ^ 126))

-- a line over the inequalities of a path with its end: it uses some, in rising order, each of which is there
pub record IsPrintableLine (rows : WholeRows) (path : List Slice) (end : Option Inequality) (line : Line) : Type 0 where
  pub some : multipliers line ≢ []
  pub rising : IsStrictlyIncreasing (map (λ (item : Use). item.index) line.items)
  pub there : All (λ (item : Use). IsSome (inequality_at rows path end item.index)) line.items
  pub times : All IsMultiplier (multipliers line)
  pub value : IfSome line.cut (λ (cut : CutUse). IsOfSize (2 ^ 97) cut.value)

-- a split with a form that is not all 0, and two ends
pub record IsPrintableCut (rows : WholeRows) (path : List Slice) (cut : Cut) : Type 0 where
  pub dense : length cut.form ≡ length rows.box
  pub some : ¬ (All (λ factor. factor ≡ pos 0) cut.form)
  pub factors : All (IsOfSize (2 ^ 96)) cut.form
  pub lo : IsOfSize (2 ^ 97) cut.lo
  pub count : (pos 0 ≤ℤ cut.count) × (cut.count ≤ℤ pos (2 ^ 98))
  pub below : IsPrintableLine rows path (Some (below cut.form cut.lo)) cut.below
  pub above : IsPrintableLine rows path (Some (above cut.form (cut.lo +ℤ cut.count))) cut.above

-- a tree whose splits have a child for each slice
abbrev mutual
  pub IsPrintableTree : WholeRows → List Slice → tree.Tree → Type 0
  IsPrintableTree rows path (tree.Empty line) = IsPrintableLine rows path None line
  IsPrintableTree rows path (tree.Split' _ cut _ children) = IsPrintableCut rows path cut × ArePrintableTrees rows path cut.form cut.lo (cut.lo +ℤ cut.count) children

  pub ArePrintableTrees : WholeRows → List Slice → List ℤ → ℤ → ℤ → {m : _} → tree.Row_of-Tree m → Type 0
  ArePrintableTrees rows path form from until tree.end_of-Tree = from ≡ until
  ArePrintableTrees rows path form from until (tree.more_of-Tree child rest) = IsPrintableTree rows (on_slice path form from) child × ArePrintableTrees rows path form (from +ℤ pos 1) until rest

-- a finished claim: a point has a number for each column
abbrev pub IsPrintableClaim : WholeRows → Claim → Type 0
IsPrintableClaim rows claims.Infeasible = Unit {0}
IsPrintableClaim rows (claims.Optimal x) = (length x ≡ length rows.box) × All (IsOfSize (2 ^ 96)) x
IsPrintableClaim rows claims.Open = ⊥

-- the text spells the claim and the tree
pub record Spells (rows : WholeRows) (text : List ℕ) (claim : Claim) (tree : tree.Tree) : Type 0 where
  pub bytes : text ≡ proof_text claim tree
  pub claimed : IsPrintableClaim rows claim
  pub printable : IsPrintableTree rows [] tree
