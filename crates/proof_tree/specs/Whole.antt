-- The tree of a part in which no node is open.
use Rattle.std.specs.Prelude.{◌≡◌}
use Rattle.proof_tree.specs.declared.tree.Tree as tree
use Rattle.proof_tree.specs.declared.tree.PartTree as part

-- the tree has the lines and the splits of the part, and each of its nodes was worked
abbrev mutual
  pub IsWholeOf : part.PartTree → tree.Tree → Type 0
  IsWholeOf (part.Open count) whole = ⊥
  IsWholeOf (part.Empty line) (tree.Empty line') = line ≡ line'
  IsWholeOf (part.Empty line) (tree.Split' _ _ _ _) = ⊥
  IsWholeOf (part.Split' _ _ _ _) (tree.Empty line) = ⊥
  IsWholeOf (part.Split' _ cut _ parts) (tree.Split' _ cut' _ trees) = cut ≡ cut' × AreWholeOf parts trees

  -- the same of the children of a split
  pub AreWholeOf : {m : _} {n : _} → part.Row_of-PartTree m → tree.Row_of-Tree n → Type 0
  AreWholeOf part.end_of-PartTree tree.end_of-Tree = Unit {0}
  AreWholeOf part.end_of-PartTree (tree.more_of-Tree _ _) = ⊥
  AreWholeOf (part.more_of-PartTree _ _) tree.end_of-Tree = ⊥
  AreWholeOf (part.more_of-PartTree child parts) (tree.more_of-Tree child' trees) = IsWholeOf child child' × AreWholeOf parts trees
