-- When a tree holds: by its root, and by its children in a list.
use Rattle.std.proofs.Common.{◌≡◌, ℕ, zero, suc, ◌+◌, ◌<◌, ◌≤◌, ℤ, pos, ◌+ℤ◌, List, [], ◌∷◌, length, get_or, drop, refl, arith, add-one, drop-cons, Global}
use Rattle.std.specs.Prelude.{Option}
use Rattle.std.specs.declared.boxed.Box.{Box}
use Rattle.whole_rows.specs.WholeRows.{WholeRows}
use Rattle.farkas_rows.specs.declared.path.Slice.{Slice}
use Rattle.proof_tree.specs.declared.tree.Tree as tree
use Rattle.proof_tree.specs.declared.tree.Tree.TheBlock.{hidden-the_row-Tree-0}
use Rattle.proof_tree.specs.declared.tree.Split.{Split}
use Rattle.proof_tree.specs.Trees.{on_slice, IsShort, IsSplit, Holds, HoldEach, HoldsList}

-- no path is too long
pub Holds-short : (rows : WholeRows) (last : Option ℤ) (path : List Slice) (t : tree.Tree) → Holds rows last path t → IsShort rows path
Holds-short rows last path (tree.Empty line) h = h.0
Holds-short rows last path (tree.Split' _ _ _ _) h = h.0

-- the children of a split as a row and as a list
row-list : (rows : WholeRows) (last : Option ℤ) (path : List Slice) (form : List ℤ) (from until : ℤ) {m : _} (k : tree.Row_of-Tree m) → HoldEach rows last path form from until k → HoldsList rows last path form from until (tree.items-the_row-Tree m k)
row-list rows last path form from until tree.end_of-Tree h = h
row-list rows last path form from until (tree.more_of-Tree child rest) h = (h.0, row-list rows last path form (from +ℤ pos 1) until rest h.1)

list-row : (rows : WholeRows) (last : Option ℤ) (path : List Slice) (form : List ℤ) (from until : ℤ) {m : _} (k : tree.Row_of-Tree m) → HoldsList rows last path form from until (tree.items-the_row-Tree m k) → HoldEach rows last path form from until k
list-row rows last path form from until tree.end_of-Tree h = h
list-row rows last path form from until (tree.more_of-Tree child rest) h = (h.0, list-row rows last path form (from +ℤ pos 1) until rest h.1)

module _ (rows : WholeRows) (last : Option ℤ) (path : List Slice) (b : Box Split Global) where
  -- a split by its children in a list
  pub Holds-children : Holds rows last path (tree.Split b) → HoldsList rows last path b.value.cut.form b.value.cut.lo (b.value.cut.lo +ℤ b.value.cut.count) b.value.children.trees.items
  Holds-children h = rw (tree.items_hidden-the_row-Tree-0 b.value.children.trees) at (row-list rows last path b.value.cut.form b.value.cut.lo (b.value.cut.lo +ℤ b.value.cut.count) (hidden-the_row-Tree-0 b.value.children.trees) h.2)

  pub Holds-split : IsShort rows path → IsSplit rows last path b.value.cut → HoldsList rows last path b.value.cut.form b.value.cut.lo (b.value.cut.lo +ℤ b.value.cut.count) b.value.children.trees.items → Holds rows last path (tree.Split b)
  Holds-split short split h = (short, split, list-row rows last path b.value.cut.form b.value.cut.lo (b.value.cut.lo +ℤ b.value.cut.count) (hidden-the_row-Tree-0 b.value.children.trees) (rw (tree.items_hidden-the_row-Tree-0 b.value.children.trees) h))

-- ---- from one child to the next

module _ (rows : WholeRows) (last : Option ℤ) (path : List Slice) (form : List ℤ) (from until : ℤ) (trees : List tree.Tree) (i : ℕ) (d : tree.Tree) where
  -- the child number i and the rest
  pub HoldsList-next : i < length trees → HoldsList rows last path form from until (drop i trees) → Holds rows last (on_slice path form from) (get_or trees i d) × HoldsList rows last path form (from +ℤ pos 1) until (drop (i + 1) trees)
  HoldsList-next more h = rw add-one (rw (drop-cons trees i d) at h)

  pub HoldsList-and : i < length trees → Holds rows last (on_slice path form from) (get_or trees i d) → HoldsList rows last path form (from +ℤ pos 1) until (drop (i + 1) trees) → HoldsList rows last path form from until (drop i trees)
  HoldsList-and more h k = rw (drop-cons trees i d) (h, rw add-one at k)

-- behind the last child
pub drop_all : (trees : List tree.Tree) (i : ℕ) → length trees ≤ i → drop i trees ≡ []
drop_all [] zero over = refl
drop_all [] (suc i) over = refl
drop_all (t ∷ trees) zero over = absurd (omega arith)
drop_all (t ∷ trees) (suc i) over = drop_all trees i (omega arith)
