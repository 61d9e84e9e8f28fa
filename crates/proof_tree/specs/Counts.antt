-- How large a tree is.
use Rattle.std.specs.Prelude.{ℕ, zero, suc, ◌+◌, ◌*◌}
use Rattle.proof_tree.specs.declared.tree.Mark.{Mark}
use Rattle.proof_tree.specs.declared.tree.Mark.TheVariants.{Thin, Plain}
use Rattle.proof_tree.specs.declared.tree.Tree as tree
use Rattle.proof_tree.specs.declared.tree.PartTree as part

-- 1 for a plain split
abbrev pub plain_of : Mark → ℕ
plain_of Thin = 0
plain_of Plain = 1

-- the nodes of a tree, leaves and splits
abbrev mutual
  pub records : tree.Tree → ℕ
  records (tree.Empty line) = 1
  records (tree.Split' _ _ _ children) = 1 + records_of_each children

  pub records_of_each : {m : _} → tree.Row_of-Tree m → ℕ
  records_of_each tree.end_of-Tree = 0
  records_of_each (tree.more_of-Tree child rest) = records child + records_of_each rest

-- the plain splits of a tree
abbrev mutual
  pub plain_splits : tree.Tree → ℕ
  plain_splits (tree.Empty line) = 0
  plain_splits (tree.Split' _ cut _ children) = plain_of cut.mark + plain_splits_of_each children

  pub plain_splits_of_each : {m : _} → tree.Row_of-Tree m → ℕ
  plain_splits_of_each tree.end_of-Tree = 0
  plain_splits_of_each (tree.more_of-Tree child rest) = plain_splits child + plain_splits_of_each rest

-- the nodes of a part of a tree that were worked
abbrev mutual
  pub records_of_part : part.PartTree → ℕ
  records_of_part (part.Open count) = 0
  records_of_part (part.Empty line) = 1
  records_of_part (part.Split' _ _ _ children) = 1 + records_of_parts children

  pub records_of_parts : {m : _} → part.Row_of-PartTree m → ℕ
  records_of_parts part.end_of-PartTree = 0
  records_of_parts (part.more_of-PartTree child rest) = records_of_part child + records_of_parts rest

-- the plain splits of a part of a tree
abbrev mutual
  pub plain_splits_of_part : part.PartTree → ℕ
  plain_splits_of_part (part.Open count) = 0
  plain_splits_of_part (part.Empty line) = 0
  plain_splits_of_part (part.Split' _ cut _ children) = plain_of cut.mark + plain_splits_of_parts children

  pub plain_splits_of_parts : {m : _} → part.Row_of-PartTree m → ℕ
  plain_splits_of_parts part.end_of-PartTree = 0
  plain_splits_of_parts (part.more_of-PartTree child rest) = plain_splits_of_part child + plain_splits_of_parts rest

-- the open runs of a part of a tree
abbrev mutual
  pub open_runs : part.PartTree → ℕ
  open_runs (part.Open count) = 1
  open_runs (part.Empty line) = 0
  open_runs (part.Split' _ _ _ children) = open_runs_of_each children

  pub open_runs_of_each : {m : _} → part.Row_of-PartTree m → ℕ
  open_runs_of_each part.end_of-PartTree = 0
  open_runs_of_each (part.more_of-PartTree child rest) = open_runs child + open_runs_of_each rest

-- how many nodes a tree has at most of which no path has more than this many slices, and no split more than w + 1
abbrev pub nodes_within : ℕ → ℕ → ℕ
nodes_within w zero = 1
nodes_within w (suc slices) = 1 + (w + 1) * nodes_within w slices
