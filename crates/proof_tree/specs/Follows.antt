-- When each node of a tree was worked by a move that was allowed there.
use Rattle.std.specs.Prelude.{◌≡◌, Bool, true, false, IsTrue, ℤ, pos, ◌+ℤ◌, List, Option}
use Rattle.farkas_rows.specs.declared.path.Slice.{Slice}
use Rattle.proof_tree.specs.declared.tree.Cut.{Cut}
use Rattle.proof_tree.specs.declared.tree.Mark.{Mark}
use Rattle.proof_tree.specs.declared.tree.Mark.TheVariants.{Thin, Plain}
use Rattle.proof_tree.specs.declared.tree.Move.{Move}
use Rattle.proof_tree.specs.declared.tree.Move.TheVariants.{Close, Split}
use Rattle.proof_tree.specs.declared.tree.Tree as tree
use Rattle.proof_tree.specs.declared.tree.PartTree as part
use Rattle.proof_tree.specs.Trees.{on_slice}
use Rattle.proof_tree.specs.PartTrees.{width}
use Rattle.proof_tree.specs.Moves.{IsNoHigher}

-- the rule that chose the split is that of plain nodes
abbrev pub marks_plain : Mark → Bool
marks_plain Thin = false
marks_plain Plain = true

-- the split is marked plain where the nearest one above it is
abbrev pub KeepsPlain : Bool → Cut → Type 0
KeepsPlain above cut = IsTrue above → cut.mark ≡ Plain

module _ (allows : List Slice → Option ℤ → Move → Type 0) (last : Option ℤ) where
  -- the move was allowed at the path under a best value that the last one is no higher than
  abbrev pub WasAllowed : List Slice → Move → Type 0
  WasAllowed path move = (best : Option ℤ) × IsNoHigher last best × allows path best move

  -- Each node of the tree was closed or split by a move that was allowed there, and below a plain split there are only plain ones.
  abbrev mutual
    pub Follows : Bool → List Slice → tree.Tree → Type 0
    Follows above path (tree.Empty line) = WasAllowed path (Close line)
    Follows above path (tree.Split' _ cut _ children) = WasAllowed path (Split cut) × KeepsPlain above cut × FollowEach (marks_plain cut.mark) path cut.form cut.lo children

    -- of the children on the slices of the values from `from` on
    pub FollowEach : Bool → List Slice → List ℤ → ℤ → {m : _} → tree.Row_of-Tree m → Type 0
    FollowEach above path form from tree.end_of-Tree = Unit {0}
    FollowEach above path form from (tree.more_of-Tree child rest) = Follows above (on_slice path form from) child × FollowEach above path form (from +ℤ pos 1) rest

  -- the same of each node that was worked
  abbrev mutual
    pub FollowsPart : Bool → List Slice → part.PartTree → Type 0
    FollowsPart above path (part.Open count) = Unit {0}
    FollowsPart above path (part.Empty line) = WasAllowed path (Close line)
    FollowsPart above path (part.Split' _ cut _ children) = WasAllowed path (Split cut) × KeepsPlain above cut × FollowEachPart (marks_plain cut.mark) path cut.form cut.lo children

    -- of the parts that stand for the slices of the values from `from` on
    pub FollowEachPart : Bool → List Slice → List ℤ → ℤ → {m : _} → part.Row_of-PartTree m → Type 0
    FollowEachPart above path form from part.end_of-PartTree = Unit {0}
    FollowEachPart above path form from (part.more_of-PartTree child rest) = FollowsPart above (on_slice path form from) child × FollowEachPart above path form (from +ℤ width child) rest
