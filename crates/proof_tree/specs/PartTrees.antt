-- Trees in which some nodes are open: they were not worked.
use Rattle.std.specs.Prelude.{◌≡◌, ℤ, pos, ◌+ℤ◌, ◌≤ℤ◌, List, Option, None}
use Rattle.whole_rows.specs.WholeRows.{WholeRows}
use Rattle.farkas_rows.specs.declared.path.Slice.{Slice}
use Rattle.proof_tree.specs.declared.tree.PartTree.{PartTree, Open, Empty, Split', Row_of-PartTree, end_of-PartTree, more_of-PartTree}
use Rattle.proof_tree.specs.Trees.{on_slice, IsShort, Closes, IsSplit}

-- how many neighbours of one split a part stands for: an open run for as many as it says, and a worked node for itself
abbrev pub width : PartTree → ℤ
width (Open count) = count
width (Empty line) = pos 1
width (Split' _ _ _ _) = pos 1

-- The same as of a tree, where an open run stands for that many nodes.
abbrev mutual
  pub HoldsPart : WholeRows → Option ℤ → List Slice → PartTree → Type 0
  HoldsPart rows last path (Open count) = pos 1 ≤ℤ count
  HoldsPart rows last path (Empty line) = IsShort rows path × Closes rows last path None line
  HoldsPart rows last path (Split' _ cut _ children) = IsShort rows path × IsSplit rows last path cut × HoldEachPart rows last path cut.form cut.lo (cut.lo +ℤ cut.count) children

  -- the parts stand for the slices of the values from `from` on, the last of which is the one before `until`
  pub HoldEachPart : WholeRows → Option ℤ → List Slice → List ℤ → ℤ → ℤ → {m : _} → Row_of-PartTree m → Type 0
  HoldEachPart rows last path form from until end_of-PartTree = from ≡ until
  HoldEachPart rows last path form from until (more_of-PartTree part rest) = HoldsPart rows last (on_slice path form from) part × HoldEachPart rows last path form (from +ℤ width part) until rest
