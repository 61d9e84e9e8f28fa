-- Trees in a list, as the children of a split.
use Rattle.std.proofs.Common.{◌≡◌, ◌+◌, ◌*◌, ◌^◌, ◌<◌, ◌≤◌, ℤ, pos, ◌+ℤ◌, ◌≤ℤ◌, ◌<ℤ◌, List, [], ◌∷◌, ◌++◌, length, refl, ap, ◌∙◌, arith, Global}
use Rattle.std.specs.Prelude.{Option, flat_map}
use Rattle.std.specs.declared.boxed.Box.{Box}
use Rattle.std.specs.declared.vec.Vec.{Vec}
use Rattle.std.proofs.lemmas.Int.{ints}
use Rattle.std.proofs.lemmas.List.{length-append}
use denote.RawPtr.{null_ptr}
use Rattle.whole_rows.specs.WholeRows.{WholeRows}
use Rattle.farkas_rows.specs.declared.path.Slice.{Slice}
use Rattle.proof_tree.specs.declared.tree.Cut.{Cut}
use Rattle.proof_tree.specs.declared.tree.Split.{Split as SplitNode}
use Rattle.proof_tree.specs.declared.tree.Tree.{Tree, Empty, Split, Split', Row_of-Tree, end_of-Tree, more_of-Tree, items-the_row-Tree}
use Rattle.proof_tree.specs.declared.tree.Tree as tree
use Rattle.proof_tree.specs.declared.tree.Tree.TheBlock as tree_block
use Rattle.proof_tree.specs.Trees.{on_slice, IsShort, IsSplit, Holds, HoldEach}
use Rattle.proof_text.specs.Spelling.{split_lines, tree_lines, forest_lines}

-- ---- the trees of a list and those of a row

-- the trees hold on the slices of the values from `from` on, and the last of them is the one before `until`
abbrev pub HoldList : WholeRows → Option ℤ → List Slice → List ℤ → ℤ → ℤ → List Tree → Type 0
HoldList rows last path form from until [] = from ≡ until
HoldList rows last path form from until (t ∷ trees) = Holds rows last (on_slice path form from) t × HoldList rows last path form (from +ℤ pos 1) until trees

HoldEach-row : (rows : WholeRows) (last : Option ℤ) (path : List Slice) (form : List ℤ) (from until : ℤ) {m : _} (k : Row_of-Tree m) → HoldList rows last path form from until (items-the_row-Tree m k) → HoldEach rows last path form from until k
HoldEach-row rows last path form from until end_of-Tree h = h
HoldEach-row rows last path form from until (more_of-Tree t k) h = (h.0, HoldEach-row rows last path form (from +ℤ pos 1) until k h.1)

forest_lines-row : {m : _} (k : Row_of-Tree m) → forest_lines k ≡ flat_map tree_lines (items-the_row-Tree m k)
forest_lines-row end_of-Tree = refl
forest_lines-row (more_of-Tree t k) = ap (λ lines. tree_lines t ++ lines) (forest_lines-row k)

-- ---- a split, made of its cut and its trees

module _ (heap : Global) (cut : Cut) (trees : List Tree) (few : length trees < 2 ^ 63) where
  abbrev children_of : Vec Tree Global
  children_of = record { ptr = null_ptr; len = length trees; cap = length trees; alloc = heap; items = trees; ok = (refl, omega arith); small = few }

  abbrev node_of : Box SplitNode Global
  node_of = record { ptr = null_ptr; alloc = heap; value = record { cut = cut; children = record { trees = children_of } } }

  abbrev pub split_of : Tree
  split_of = Split node_of

  pub split_of-lines : tree_lines split_of ≡ split_lines cut ++ flat_map tree_lines trees
  split_of-lines = ap (λ lines. split_lines cut ++ lines) (forest_lines-row (tree_block.hidden-the_row-Tree-0 children_of) ∙ ap (flat_map tree_lines) (tree.items_hidden-the_row-Tree-0 children_of))

  pub split_of-holds : (rows : WholeRows) (last : Option ℤ) (path : List Slice) → IsShort rows path → IsSplit rows last path cut → HoldList rows last path cut.form cut.lo (cut.lo +ℤ cut.count) trees → Holds rows last path split_of
  split_of-holds rows last path short split hold = (short, split, HoldEach-row rows last path cut.form cut.lo (cut.lo +ℤ cut.count) (tree_block.hidden-the_row-Tree-0 children_of) (rw tree.items_hidden-the_row-Tree-0 hold))

-- ---- what a row says of its length

-- the path of a node that holds is short
pub Holds-short : (rows : WholeRows) (last : Option ℤ) (path : List Slice) (t : Tree) → Holds rows last path t → IsShort rows path
Holds-short rows last path (Empty line) h = h.0
Holds-short rows last path (Split' p cut s children) h = h.0

-- the values rise
pub HoldEach-rise : (rows : WholeRows) (last : Option ℤ) (path : List Slice) (form : List ℤ) (from until : ℤ) {m : _} (k : Row_of-Tree m) → HoldEach rows last path form from until k → from ≤ℤ until
HoldEach-rise rows last path form from until end_of-Tree h = omega (arith, ints, h)
HoldEach-rise rows last path form from until (more_of-Tree t k) h = let later : (from +ℤ pos 1) ≤ℤ until = HoldEach-rise rows last path form (from +ℤ pos 1) until k h.1 in omega (arith, ints, later)

-- where there is a first value, the path has room for its slice
pub HoldEach-room : (rows : WholeRows) (last : Option ℤ) (path : List Slice) (form : List ℤ) (from until : ℤ) {m : _} (k : Row_of-Tree m) → HoldEach rows last path form from until k → from <ℤ until → length path + 1 ≤ 2 * length rows.box
HoldEach-room rows last path form from until end_of-Tree h some = absurd (omega (arith, ints, h, some))
HoldEach-room rows last path form from until (more_of-Tree t k) h some =
    let short : IsShort rows (on_slice path form from) = Holds-short rows last (on_slice path form from) t h.0 in
    omega (arith, short, length-append path (record { form = form; beta = from } ∷ []))

-- a tree has a line
pub tree_lines-some : (t : Tree) → 1 ≤ length (tree_lines t)
tree_lines-some (Empty line) = omega arith
tree_lines-some (Split' p cut s children) = omega (arith, length-append (split_lines cut) (forest_lines children))

-- so trees are no more than their lines
pub few_trees : (trees : List Tree) → length trees ≤ length (flat_map tree_lines trees)
few_trees [] = omega arith
few_trees (t ∷ trees) = omega (arith, few_trees trees, tree_lines-some t, length-append (tree_lines t) (flat_map tree_lines trees))
