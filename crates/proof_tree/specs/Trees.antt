-- When a tree shows that no point is better than the best one that is known.
use Rattle.std.specs.Prelude.{◌≡◌, ℕ, ◌*◌, ◌^◌, ◌≤◌, ℤ, pos, neg_ℤ, ◌+ℤ◌, ◌≤ℤ◌, List, [], ◌∷◌, ◌++◌, length, All, Option, None, Some, IfSome}
use Rattle.std.specs.Option.{IsSomeAnd}
use Rattle.whole_rows.specs.WholeRows.{WholeRows, span}
use Rattle.farkas_rows.specs.declared.line.CutUse.{CutUse}
use Rattle.farkas_rows.specs.declared.line.Line.{Line}
use Rattle.farkas_rows.specs.declared.path.Slice.{Slice}
use Rattle.farkas_rows.specs.Inequalities.{Inequality, below, above}
use Rattle.farkas_rows.specs.Refutes.{Refutes}
use Rattle.proof_tree.specs.declared.tree.Cut.{Cut}
use Rattle.proof_tree.specs.declared.tree.Tree.{Tree, Empty, Split', Row_of-Tree, end_of-Tree, more_of-Tree}

-- the number is between minus the limit and the limit
abbrev pub IsOfSize : ℕ → ℤ → Type 0
IsOfSize limit number = (neg_ℤ (pos limit) ≤ℤ number) × (number ≤ℤ pos limit)

-- the path with one slice more: the form has this value
abbrev pub on_slice : List Slice → List ℤ → ℤ → List Slice
on_slice path form beta = path ++ record { form = form; beta = beta } ∷ []

-- the path has at most two slices for each column
abbrev pub IsShort : WholeRows → List Slice → Type 0
IsShort rows path = length path ≤ 2 * length rows.box

-- a factor for each column, not all 0, and of a weight of at most 2 to the power 96
pub record IsSplitForm (rows : WholeRows) (form : List ℤ) : Type 0 where
  pub dense : length form ≡ length rows.box
  pub some : ¬ (All (λ factor. factor ≡ pos 0) form)
  pub light : span form rows.box ≤ 2 ^ 96

-- each cut that a line uses has a value of at least `last`, and none is used where that is none
abbrev pub CutHolds : Option ℤ → Option CutUse → Type 0
CutHolds last cut = IfSome cut (λ (cut : CutUse). IsSomeAnd last (λ least. least ≤ℤ cut.value) × IsOfSize (2 ^ 97) cut.value)

-- The line shows that no point on the path, within the end, has a cut value below `last`, or that none is there at all where
-- `last` is none: it refutes them, and each cut that it uses has a value of at least `last`.
pub record Closes (rows : WholeRows) (last : Option ℤ) (path : List Slice) (end : Option Inequality) (line : Line) : Type 0 where
  pub refutes : Refutes rows path end line
  pub cut : CutHolds last line.cut

-- a split whose two ends are closed
pub record IsSplit (rows : WholeRows) (last : Option ℤ) (path : List Slice) (cut : Cut) : Type 0 where
  pub form : IsSplitForm rows cut.form
  pub lo : IsOfSize (2 ^ 97) cut.lo
  pub count : (pos 0 ≤ℤ cut.count) × (cut.count ≤ℤ pos (2 ^ 98))
  pub below : Closes rows last path (Some (below cut.form cut.lo)) cut.below
  pub above : Closes rows last path (Some (above cut.form (cut.lo +ℤ cut.count))) cut.above

-- The tree shows that no point on the path has a cut value below `last`, or that none is there at all where `last` is none: a
-- leaf by its line, a split by its two ends and by one child for each slice between them, in order.
abbrev mutual
  pub Holds : WholeRows → Option ℤ → List Slice → Tree → Type 0
  Holds rows last path (Empty line) = IsShort rows path × Closes rows last path None line
  Holds rows last path (Split' _ cut _ children) = IsShort rows path × IsSplit rows last path cut × HoldEach rows last path cut.form cut.lo (cut.lo +ℤ cut.count) children

  -- the children hold on the slices of the values from `from` on, and the last of them is the one before `until`
  pub HoldEach : WholeRows → Option ℤ → List Slice → List ℤ → ℤ → ℤ → {m : _} → Row_of-Tree m → Type 0
  HoldEach rows last path form from until end_of-Tree = from ≡ until
  HoldEach rows last path form from until (more_of-Tree child rest) = Holds rows last (on_slice path form from) child × HoldEach rows last path form (from +ℤ pos 1) until rest

-- the same of children in a list
abbrev pub HoldsList : WholeRows → Option ℤ → List Slice → List ℤ → ℤ → ℤ → List Tree → Type 0
HoldsList rows last path form from until [] = from ≡ until
HoldsList rows last path form from until (child ∷ rest) = Holds rows last (on_slice path form from) child × HoldsList rows last path form (from +ℤ pos 1) until rest
