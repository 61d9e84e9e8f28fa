-- The tree of a part in which no node is open: it holds where the part does, and has as many records.
use Rattle.std.proofs.Common.{◌≡◌, ◌+◌, Bool, ℤ, pos, ◌+ℤ◌, List, [], ◌∷◌, ◌++◌, refl, ap, ◌∙◌, arith, Global}
use Rattle.std.specs.Prelude.{Option, All}
use Rattle.std.specs.List.{AllZip}
use Rattle.std.specs.declared.boxed.Box.{Box}
use Rattle.std.proofs.lemmas.List.Elements.{All-nil, All-cons}
use Rattle.whole_rows.specs.WholeRows.{WholeRows}
use Rattle.farkas_rows.specs.declared.path.Slice.{Slice}
use Rattle.proof_tree.specs.declared.tree.Move.{Move}
use Rattle.proof_tree.specs.declared.tree.Tree as tree
use Rattle.proof_tree.specs.declared.tree.Tree.TheBlock as tree_block
use Rattle.proof_tree.specs.declared.tree.Split.{Split}
use Rattle.proof_tree.specs.declared.tree.PartTree as part
use Rattle.proof_tree.specs.declared.tree.PartTree.TheBlock as part_block
use Rattle.proof_tree.specs.declared.tree.PartSplit.{PartSplit}
use Rattle.proof_tree.specs.Trees.{on_slice, Holds, HoldEach}
use Rattle.proof_tree.specs.PartTrees.{width, HoldsPart, HoldEachPart}
use Rattle.proof_tree.specs.Counts.{records, records_of_each, records_of_part, records_of_parts, open_runs}
use Rattle.proof_tree.specs.Follows.{marks_plain, Follows, FollowEach, FollowsPart, FollowEachPart}
use Rattle.proof_tree.specs.Whole.{IsWholeOf, AreWholeOf}
use Rattle.proof_tree.proofs.Parts.{open_list, open_list-row}

-- where no part of a list is open, none of them is
pub closed-each : (parts : List part.PartTree) → open_list parts ≡ 0 → All (λ part. open_runs part ≡ 0) parts
closed-each [] h = All-nil (λ part. open_runs part ≡ 0)
closed-each (first ∷ parts) h = All-cons (λ part. open_runs part ≡ 0) first parts (omega arith) (closed-each parts (omega arith))

-- the parts of a split
pub open_runs-split : (b : Box PartSplit Global) → open_runs (part.Split b) ≡ open_list b.value.children.items
open_runs-split b = open_list-row (part_block.hidden-the_row-PartTree-0 b.value.children) ∙ ap open_list (part.items_hidden-the_row-PartTree-0 b.value.children)

-- one more tree
pub AllZip-push : {A B : Type 0} (R : A → B → Type 0) (xs : List A) (ys : List B) (x : A) (y : B) → AllZip R xs ys → R x y → AllZip R (xs ++ x ∷ []) (ys ++ y ∷ [])
AllZip-push R [] [] x y h k = (k, tt)
AllZip-push R [] (v ∷ ys) x y h k = absurd h
AllZip-push R (u ∷ xs) [] x y h k = absurd h
AllZip-push R (u ∷ xs) (v ∷ ys) x y h k = (h.0, AllZip-push R xs ys x y h.1 k)

-- the trees of a list are those of a row
AreWholeOf-rows : {m : _} {n : _} (k : part.Row_of-PartTree m) (l : tree.Row_of-Tree n) → AllZip IsWholeOf (part.items-the_row-PartTree m k) (tree.items-the_row-Tree n l) → AreWholeOf k l
AreWholeOf-rows part.end_of-PartTree tree.end_of-Tree h = tt
AreWholeOf-rows part.end_of-PartTree (tree.more_of-Tree _ _) h = absurd h
AreWholeOf-rows (part.more_of-PartTree _ _) tree.end_of-Tree h = absurd h
AreWholeOf-rows (part.more_of-PartTree p k) (tree.more_of-Tree t l) h = (h.0, AreWholeOf-rows k l h.1)

-- the tree of a split
pub IsWholeOf-split : (b : Box PartSplit Global) (d : Box Split Global) → b.value.cut ≡ d.value.cut → AllZip IsWholeOf b.value.children.items d.value.children.trees.items → IsWholeOf (part.Split b) (tree.Split d)
IsWholeOf-split b d e h = (e, AreWholeOf-rows (part_block.hidden-the_row-PartTree-0 b.value.children) (tree_block.hidden-the_row-Tree-0 d.value.children.trees) (rw (part.items_hidden-the_row-PartTree-0 b.value.children, tree.items_hidden-the_row-Tree-0 d.value.children.trees) h))

-- a tree stands for one node
width-whole : (p : part.PartTree) (t : tree.Tree) → IsWholeOf p t → width p ≡ pos 1
width-whole (part.Open count) t h = absurd h
width-whole (part.Empty line) t h = refl
width-whole (part.Split' b cut s parts) t h = refl

mutual
  -- it holds where the part does
  pub Holds-whole : (rows : WholeRows) (last : Option ℤ) (path : List Slice) (p : part.PartTree) (t : tree.Tree) → IsWholeOf p t → HoldsPart rows last path p → Holds rows last path t
  Holds-whole rows last path (part.Open count) t h k = absurd h
  Holds-whole rows last path (part.Empty line) (tree.Empty line') h k = rw (← h) k
  Holds-whole rows last path (part.Empty line) (tree.Split' _ _ _ _) h k = absurd h
  Holds-whole rows last path (part.Split' _ _ _ _) (tree.Empty line) h k = absurd h
  Holds-whole rows last path (part.Split' b cut s parts) (tree.Split' b' cut' s' trees) h k = rw (← h.0) (k.0, k.1, HoldEach-whole rows last path cut.form cut.lo (cut.lo +ℤ cut.count) parts trees h.1 k.2)

  HoldEach-whole : (rows : WholeRows) (last : Option ℤ) (path : List Slice) (form : List ℤ) (from until : ℤ) {m : _} {n : _} (parts : part.Row_of-PartTree m) (trees : tree.Row_of-Tree n) → AreWholeOf parts trees → HoldEachPart rows last path form from until parts → HoldEach rows last path form from until trees
  HoldEach-whole rows last path form from until part.end_of-PartTree tree.end_of-Tree h k = k
  HoldEach-whole rows last path form from until part.end_of-PartTree (tree.more_of-Tree _ _) h k = absurd h
  HoldEach-whole rows last path form from until (part.more_of-PartTree _ _) tree.end_of-Tree h k = absurd h
  HoldEach-whole rows last path form from until (part.more_of-PartTree p parts) (tree.more_of-Tree t trees) h k = (Holds-whole rows last (on_slice path form from) p t h.0 k.0, HoldEach-whole rows last path form (from +ℤ pos 1) until parts trees h.1 (rw (width-whole p t h.0) at k.1))

mutual
  -- its nodes were worked by the same moves
  pub Follows-whole : (allows : List Slice → Option ℤ → Move → Type 0) (last : Option ℤ) (above : Bool) (path : List Slice) (p : part.PartTree) (t : tree.Tree) → IsWholeOf p t → FollowsPart allows last above path p → Follows allows last above path t
  Follows-whole allows last above path (part.Open count) t h k = absurd h
  Follows-whole allows last above path (part.Empty line) (tree.Empty line') h k = rw (← h) k
  Follows-whole allows last above path (part.Empty line) (tree.Split' _ _ _ _) h k = absurd h
  Follows-whole allows last above path (part.Split' _ _ _ _) (tree.Empty line) h k = absurd h
  Follows-whole allows last above path (part.Split' b cut s parts) (tree.Split' b' cut' s' trees) h k = rw (← h.0) (k.0, k.1, FollowEach-whole allows last (marks_plain cut.mark) path cut.form cut.lo parts trees h.1 k.2)

  FollowEach-whole : (allows : List Slice → Option ℤ → Move → Type 0) (last : Option ℤ) (above : Bool) (path : List Slice) (form : List ℤ) (from : ℤ) {m : _} {n : _} (parts : part.Row_of-PartTree m) (trees : tree.Row_of-Tree n) → AreWholeOf parts trees → FollowEachPart allows last above path form from parts → FollowEach allows last above path form from trees
  FollowEach-whole allows last above path form from part.end_of-PartTree tree.end_of-Tree h k = tt
  FollowEach-whole allows last above path form from part.end_of-PartTree (tree.more_of-Tree _ _) h k = absurd h
  FollowEach-whole allows last above path form from (part.more_of-PartTree _ _) tree.end_of-Tree h k = absurd h
  FollowEach-whole allows last above path form from (part.more_of-PartTree p parts) (tree.more_of-Tree t trees) h k = (Follows-whole allows last above (on_slice path form from) p t h.0 k.0, FollowEach-whole allows last above path form (from +ℤ pos 1) parts trees h.1 (rw (width-whole p t h.0) at k.1))

mutual
  -- it has as many records
  pub records-whole : (p : part.PartTree) (t : tree.Tree) → IsWholeOf p t → records t ≡ records_of_part p
  records-whole (part.Open count) t h = absurd h
  records-whole (part.Empty line) (tree.Empty line') h = refl
  records-whole (part.Empty line) (tree.Split' _ _ _ _) h = absurd h
  records-whole (part.Split' _ _ _ _) (tree.Empty line) h = absurd h
  records-whole (part.Split' b cut s parts) (tree.Split' b' cut' s' trees) h = ap (λ n. 1 + n) (records_of_each-whole parts trees h.1)

  records_of_each-whole : {m : _} {n : _} (parts : part.Row_of-PartTree m) (trees : tree.Row_of-Tree n) → AreWholeOf parts trees → records_of_each trees ≡ records_of_parts parts
  records_of_each-whole part.end_of-PartTree tree.end_of-Tree h = refl
  records_of_each-whole part.end_of-PartTree (tree.more_of-Tree _ _) h = absurd h
  records_of_each-whole (part.more_of-PartTree _ _) tree.end_of-Tree h = absurd h
  records_of_each-whole (part.more_of-PartTree p parts) (tree.more_of-Tree t trees) h = omega (arith, records-whole p t h.0, records_of_each-whole parts trees h.1)
