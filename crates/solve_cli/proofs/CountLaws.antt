-- The counts of a split are those of its children and its own.
use Rattle.std.proofs.Common.{◌≡◌, ◌+◌, ◌≤◌, refl, sym, ap, ◌∙◌, arith, Global}
use Rattle.std.proofs.lemmas.List.Sums.{sum_by-cons}
use Rattle.std.specs.Prelude.{sum_by}
use Rattle.std.specs.declared.boxed.Box.{Box}
use Rattle.proof_tree.specs.declared.tree.Mark.{Mark}
use Rattle.proof_tree.specs.declared.tree.Mark.TheVariants.{Thin, Plain}
use Rattle.proof_tree.specs.declared.tree.Tree as tree
use Rattle.proof_tree.specs.declared.tree.Tree.TheBlock as tree_block
use Rattle.proof_tree.specs.declared.tree.Split.{Split}
use Rattle.proof_tree.specs.declared.tree.PartTree as part
use Rattle.proof_tree.specs.declared.tree.PartTree.TheBlock as part_block
use Rattle.proof_tree.specs.declared.tree.PartSplit.{PartSplit}
use Rattle.proof_tree.specs.Counts.{plain_of, records, records_of_each, plain_splits, plain_splits_of_each, records_of_part, records_of_parts, plain_splits_of_part, plain_splits_of_parts}

plain_of-le : (mark : Mark) → plain_of mark ≤ 1
plain_of-le Thin = omega arith
plain_of-le Plain = omega arith

-- ---- trees

records-row : {m : _} (row : tree.Row_of-Tree m) → records_of_each row ≡ sum_by records (tree.items-the_row-Tree m row)
records-row tree.end_of-Tree = refl
records-row (tree.more_of-Tree {n = n} child rest) = ap (λ k. records child + k) (records-row rest) ∙ sym (sum_by-cons records child (tree.items-the_row-Tree n rest))

plain-row : {m : _} (row : tree.Row_of-Tree m) → plain_splits_of_each row ≡ sum_by plain_splits (tree.items-the_row-Tree m row)
plain-row tree.end_of-Tree = refl
plain-row (tree.more_of-Tree {n = n} child rest) = ap (λ k. plain_splits child + k) (plain-row rest) ∙ sym (sum_by-cons plain_splits child (tree.items-the_row-Tree n rest))

pub records-split : (split : Box Split Global) → records (tree.Split split) ≡ 1 + sum_by records split.value.children.trees.items
records-split split =
    ap (λ n. 1 + n) (records-row (tree_block.hidden-the_row-Tree-0 split.value.children.trees) ∙ ap (sum_by records) (tree.items_hidden-the_row-Tree-0 split.value.children.trees))

pub plain-split : (split : Box Split Global) → plain_splits (tree.Split split) ≡ plain_of split.value.cut.mark + sum_by plain_splits split.value.children.trees.items
plain-split split =
    ap (λ n. plain_of split.value.cut.mark + n) (plain-row (tree_block.hidden-the_row-Tree-0 split.value.children.trees) ∙ ap (sum_by plain_splits) (tree.items_hidden-the_row-Tree-0 split.value.children.trees))

mutual
  -- no more of the nodes are plain splits than there are
  pub plain_le : (t : tree.Tree) → plain_splits t ≤ records t
  plain_le (tree.Empty line) = omega arith
  plain_le (tree.Split' _ cut _ children) = omega (arith, plain_of-le cut.mark, plain_le-row children)

  plain_le-row : {m : _} (row : tree.Row_of-Tree m) → plain_splits_of_each row ≤ records_of_each row
  plain_le-row tree.end_of-Tree = omega arith
  plain_le-row (tree.more_of-Tree child rest) = omega (arith, plain_le child, plain_le-row rest)

-- ---- parts of trees

records-parts : {m : _} (row : part.Row_of-PartTree m) → records_of_parts row ≡ sum_by records_of_part (part.items-the_row-PartTree m row)
records-parts part.end_of-PartTree = refl
records-parts (part.more_of-PartTree {n = n} child rest) = ap (λ k. records_of_part child + k) (records-parts rest) ∙ sym (sum_by-cons records_of_part child (part.items-the_row-PartTree n rest))

plain-parts : {m : _} (row : part.Row_of-PartTree m) → plain_splits_of_parts row ≡ sum_by plain_splits_of_part (part.items-the_row-PartTree m row)
plain-parts part.end_of-PartTree = refl
plain-parts (part.more_of-PartTree {n = n} child rest) = ap (λ k. plain_splits_of_part child + k) (plain-parts rest) ∙ sym (sum_by-cons plain_splits_of_part child (part.items-the_row-PartTree n rest))

pub records-part_split : (split : Box PartSplit Global) → records_of_part (part.Split split) ≡ 1 + sum_by records_of_part split.value.children.items
records-part_split split =
    ap (λ n. 1 + n) (records-parts (part_block.hidden-the_row-PartTree-0 split.value.children) ∙ ap (sum_by records_of_part) (part.items_hidden-the_row-PartTree-0 split.value.children))

pub plain-part_split : (split : Box PartSplit Global) → plain_splits_of_part (part.Split split) ≡ plain_of split.value.cut.mark + sum_by plain_splits_of_part split.value.children.items
plain-part_split split =
    ap (λ n. plain_of split.value.cut.mark + n) (plain-parts (part_block.hidden-the_row-PartTree-0 split.value.children) ∙ ap (sum_by plain_splits_of_part) (part.items_hidden-the_row-PartTree-0 split.value.children))

mutual
  pub plain_le_part : (p : part.PartTree) → plain_splits_of_part p ≤ records_of_part p
  plain_le_part (part.Open count) = omega arith
  plain_le_part (part.Empty line) = omega arith
  plain_le_part (part.Split' _ cut _ children) = omega (arith, plain_of-le cut.mark, plain_le-parts children)

  plain_le-parts : {m : _} (row : part.Row_of-PartTree m) → plain_splits_of_parts row ≤ records_of_parts row
  plain_le-parts part.end_of-PartTree = omega arith
  plain_le-parts (part.more_of-PartTree child rest) = omega (arith, plain_le_part child, plain_le-parts rest)
