-- What is read of the lines of trees is what they spell.
use Rattle.std.proofs.Common.{◌≡◌, ℕ, ◌+◌, ◌^◌, ◌<◌, ◌≤◌, ℤ, pos, ◌+ℤ◌, ◌-ℤ◌, ◌≤ℤ◌, ◌<ℤ◌, List, [], ◌∷◌, ◌++◌, length, get_or, All, false, refl, sym, ap, subst, ◌∙◌, append_assoc, append-nil, arith, Global, to_z, of_z}
use Rattle.std.specs.Prelude.{flat_map}
use Rattle.std.specs.declared.boxed.Box.{Box}
use Rattle.std.specs.declared.vec.Vec.{Vec}
use Rattle.std.specs.Int.{w128}
use Rattle.std.proofs.lemmas.Int.{ints, to_z-of_z, fits_signed_from_abs}
use Rattle.exact_math.specs.IntegerRing.{linear}
use Rattle.std.proofs.lemmas.Grind.{flat_map-append}
use Rattle.std.proofs.lemmas.List.{length-append, length_push, length-replicate}
use Rattle.std.proofs.lemmas.List.Elements.{All-nil, All-cons, All-head, All-tail}
use Rattle.whole_rows.specs.WholeRows.{WholeRows, IsWithinLimits}
use Rattle.farkas_rows.specs.declared.line.Line.{Line}
use Rattle.farkas_rows.specs.declared.path.Slice.{Slice}
use Rattle.proof_tree.specs.declared.tree.Cut.{Cut}
use Rattle.proof_tree.specs.declared.tree.Tree as tree
use Rattle.proof_tree.specs.declared.tree.Tree.TheBlock.{hidden-the_row-Tree-0}
use Rattle.proof_tree.specs.declared.tree.Split.{Split}
use Rattle.proof_tree.specs.Trees.{on_slice}
use Rattle.proof_text.specs.Spelling.{closing_line, split_line, below_line, above_line, split_lines, tree_lines, forest_lines}
use Rattle.proof_text.specs.Printable.{IsPrintableCut, IsPrintableTree, ArePrintableTrees}
use Rattle.proof_text.specs.OneReading.{same_cut_lines, same_tree}
use Rattle.proof_text.specs.Reads.{some_path, SpellsLine, SpellsCut, SpellsTree, SpellsTrees}
use Rattle.proof_text.proofs.PathLengths.{tree_on}

-- ---- the children of a split as a row and as a list

forest_lines-row : {m : _} (k : tree.Row_of-Tree m) → forest_lines k ≡ flat_map tree_lines (tree.items-the_row-Tree m k)
forest_lines-row tree.end_of-Tree = refl
forest_lines-row (tree.more_of-Tree t k) = ap (λ lines. tree_lines t ++ lines) (forest_lines-row k)

length-some_path : (depth : ℕ) → length (some_path depth) ≡ depth
length-some_path depth = length-replicate depth (record { form = []; beta = pos 0 })

module _ (rows : WholeRows) (depth : ℕ) where
  one_more : (path : List Slice) (form : List ℤ) (beta : ℤ) → length path ≡ depth → length (on_slice path form beta) ≡ length (some_path (depth + 1))
  one_more path form beta e = length_push path (record { form = form; beta = beta }) ∙ ap (λ n. n + 1) e ∙ sym (length-some_path (depth + 1))

  -- the trees of a row, each printable
  pub row-list : (path : List Slice) (form : List ℤ) (from until : ℤ) {m : _} (k : tree.Row_of-Tree m) → length path ≡ depth → ArePrintableTrees rows path form from until k
      → All (IsPrintableTree rows (some_path (depth + 1))) (tree.items-the_row-Tree m k) × (from +ℤ pos (length (tree.items-the_row-Tree m k)) ≡ until)
  row-list path form from until tree.end_of-Tree e h = (All-nil (IsPrintableTree rows (some_path (depth + 1))), omega (arith, ints, h))
  row-list path form from until (tree.more_of-Tree child rest) e h =
      let later = row-list path form (from +ℤ pos 1) until rest e h.1 in (
        All-cons (IsPrintableTree rows (some_path (depth + 1))) child (tree.items-the_row-Tree _ rest) (tree_on rows (on_slice path form from) (some_path (depth + 1)) child (one_more path form from e) h.0) later.0,
        omega (arith, ints, later.1),
      )

  pub list-row : (path : List Slice) (form : List ℤ) (from until : ℤ) {m : _} (k : tree.Row_of-Tree m) → length path ≡ depth → All (IsPrintableTree rows (some_path (depth + 1))) (tree.items-the_row-Tree m k) → from +ℤ pos (length (tree.items-the_row-Tree m k)) ≡ until
      → ArePrintableTrees rows path form from until k
  list-row path form from until tree.end_of-Tree e h count = omega (arith, ints, count)
  list-row path form from until (tree.more_of-Tree child rest) e h count = (
    tree_on rows (some_path (depth + 1)) (on_slice path form from) child (sym (one_more path form from e)) (All-head (IsPrintableTree rows (some_path (depth + 1))) child (tree.items-the_row-Tree _ rest) h),
    list-row path form (from +ℤ pos 1) until rest e (All-tail (IsPrintableTree rows (some_path (depth + 1))) child (tree.items-the_row-Tree _ rest) h) (omega (arith, ints, count)),
  )

-- ---- a tree

-- a tree has a line
pub tree_lines-some : (t : tree.Tree) → 1 ≤ length (tree_lines t)
tree_lines-some (tree.Empty line) = omega arith
tree_lines-some (tree.Split' b cut v children) = omega arith

module _ (rows : WholeRows) (limits : IsWithinLimits rows) (depth : ℕ) (lines : List (List ℕ)) where
  -- no line spells no tree
  pub no_line : lines ≡ [] → (t : tree.Tree) (rest : List (List ℕ)) → SpellsTree rows depth lines rest t → ⊥
  no_line e t rest s = absurd (omega (arith, ap length e, ap length s.spelled, length-append (tree_lines t) rest, tree_lines-some t))

  module _ (text : List ℕ) (next : List (List ℕ)) (first : lines ≡ text ∷ next) where
    -- nor does a line of a node that is closed, if it is none of multipliers
    pub not_closed : (start : List ℕ) → text ≡ 69 ∷ start → ((line : Line) → SpellsLine rows depth false 69 text line → ⊥) → (t : tree.Tree) (rest : List (List ℕ)) → SpellsTree rows depth lines rest t → ⊥
    not_closed start letter none (tree.Empty line) rest s = none line (record { spelled = cc (first, s.spelled); printable = s.printable })
    not_closed start letter none (tree.Split' b cut v children) rest s =
        let same : text ≡ split_line cut = cc (first, s.spelled) in
        omega (arith, ap (λ w. get_or w 0 0) (sym letter ∙ same))

    pub closed : (line : Line) → SpellsLine rows depth false 69 text line → SpellsTree rows depth lines next (tree.Empty line)
    closed line s = record { spelled = first ∙ ap (λ l. l ∷ next) s.spelled; printable = s.printable }

    -- nor do the lines of a split that are none
    pub not_split : ((start : List ℕ) × (text ≡ 69 ∷ start) → ⊥) → ((cut : Cut) (rest : List (List ℕ)) → SpellsCut rows depth (text ∷ next) rest cut → ⊥) → (t : tree.Tree) (rest : List (List ℕ)) → SpellsTree rows depth lines rest t → ⊥
    not_split other none (tree.Empty line) rest s =
        let same : text ≡ closing_line line = cc (first, s.spelled) in
        other (_, same)
    not_split other none (tree.Split' b cut v children) rest s = none cut (forest_lines children ++ rest) (record { spelled = sym first ∙ s.spelled; printable = s.printable.0 })

    -- nor does a split without its children
    pub not_parted : (cut : Cut) (behind : List (List ℕ)) → depth ≤ 2 ^ 64 → ((start : List ℕ) × (text ≡ 69 ∷ start) → ⊥) → SpellsCut rows depth (text ∷ next) behind cut
        → ((trees : List tree.Tree) (rest : List (List ℕ)) → SpellsTrees rows (depth + 1) cut.count behind rest trees → ⊥) → (t : tree.Tree) (rest : List (List ℕ)) → SpellsTree rows depth lines rest t → ⊥
    not_parted cut behind few other read none (tree.Empty line) rest s =
        let same : text ≡ closing_line line = cc (first, s.spelled) in
        other (_, same)
    not_parted cut behind few other read none (tree.Split' b given v children) rest s =
        let both : split_line cut ∷ below_line cut ∷ above_line cut ∷ behind ≡ split_line given ∷ below_line given ∷ above_line given ∷ (forest_lines children ++ rest) = sym read.spelled ∙ sym first ∙ s.spelled in
        let one : split_line cut ≡ split_line given = cc in
        let two : below_line cut ≡ below_line given = cc in
        let three : above_line cut ≡ above_line given = cc in
        let after : behind ≡ forest_lines children ++ rest = cc in
        let cuts : cut ≡ given = same_cut_lines rows limits (some_path depth) (some_path depth) cut given (omega (arith, few, length-some_path depth)) refl read.printable s.printable.0 (cc (one, two, three)) in
        let list = row-list rows depth (some_path depth) given.form given.lo (given.lo +ℤ given.count) children (length-some_path depth) s.printable.1 in
        none (tree.items-the_row-Tree _ children) rest
        (record {
          spelled = after ∙ ap (λ l. l ++ rest) (forest_lines-row children);
          counted = omega (arith, ints, list.1, ap (λ (c : Cut). c.count) cuts);
          printable = list.0;
        })

    -- a split with its children
    pub parted : (b : Box Split Global) (cut : Cut) (v : Vec tree.Tree Global) (behind rest : List (List ℕ)) → b.value ≡ record { cut = cut; children = record { trees = v } } → SpellsCut rows depth (text ∷ next) behind cut → SpellsTrees rows (depth + 1) cut.count behind rest v.items
        → SpellsTree rows depth lines rest (tree.Split b)
    parted b cut v behind rest e c t =
        let cuts : b.value.cut ≡ cut = ap (λ (s : Split). s.cut) e in
        let items : b.value.children.trees.items ≡ v.items = ap (λ (s : Split). s.children.trees.items) e in
        let row : forest_lines (hidden-the_row-Tree-0 b.value.children.trees) ≡ flat_map tree_lines v.items =
        forest_lines-row (hidden-the_row-Tree-0 b.value.children.trees) ∙ ap (flat_map tree_lines) (tree.items_hidden-the_row-Tree-0 b.value.children.trees ∙ items) in
        record {
          spelled = first ∙ c.spelled ∙ ap (λ l. split_lines cut ++ l) (t.spelled ∙ ap (λ l. l ++ rest) (sym row)) ∙ ap (λ d. split_lines d ++ (forest_lines (hidden-the_row-Tree-0 b.value.children.trees) ++ rest)) (sym cuts);
          printable = (
            subst (λ d. IsPrintableCut rows (some_path depth) d) (sym cuts) c.printable,
            list-row rows depth (some_path depth) b.value.cut.form b.value.cut.lo (b.value.cut.lo +ℤ b.value.cut.count) (hidden-the_row-Tree-0 b.value.children.trees) (length-some_path depth)
                (rw (tree.items_hidden-the_row-Tree-0 b.value.children.trees) (subst (All (IsPrintableTree rows (some_path (depth + 1)))) (sym items) t.printable))
                (rw (tree.items_hidden-the_row-Tree-0 b.value.children.trees) (omega (arith, ints, t.counted, ap length items, ap (λ (d : Cut). d.count) cuts))),
          );
        }

-- ---- trees

module _ (rows : WholeRows) (limits : IsWithinLimits rows) (depth : ℕ) where
  -- behind the trees that are read the next one of those that are spelled begins
  pub next_tree : (read trees : List tree.Tree) (lines rest : List (List ℕ)) → depth + length (flat_map tree_lines read ++ lines) ≤ 2 ^ 64 → All (IsPrintableTree rows (some_path depth)) read → All (IsPrintableTree rows (some_path depth)) trees → length read < length trees
      → flat_map tree_lines read ++ lines ≡ flat_map tree_lines trees ++ rest → (t : tree.Tree) × (others : List (List ℕ)) × SpellsTree rows depth lines others t
  next_tree [] [] lines rest few h k less e = absurd (omega (arith, less))
  next_tree [] (t ∷ trees) lines rest few h k less e =
      (t, flat_map tree_lines trees ++ rest, record { spelled = e ∙ append_assoc (tree_lines t) (flat_map tree_lines trees) rest; printable = All-head (IsPrintableTree rows (some_path depth)) t trees k })
  next_tree (r ∷ read) [] lines rest few h k less e = absurd (omega (arith, less))
  next_tree (r ∷ read) (t ∷ trees) lines rest few h k less e =
      let whole : tree_lines r ++ (flat_map tree_lines read ++ lines) ≡ tree_lines t ++ (flat_map tree_lines trees ++ rest) = sym (append_assoc (tree_lines r) (flat_map tree_lines read) lines) ∙ e ∙ append_assoc (tree_lines t) (flat_map tree_lines trees) rest in
      let count : length (tree_lines r ++ flat_map tree_lines read ++ lines) ≡ length (tree_lines r ++ (flat_map tree_lines read ++ lines)) = ap length (append_assoc (tree_lines r) (flat_map tree_lines read) lines) in
      let first = same_tree rows limits (some_path depth) (some_path depth) r t (flat_map tree_lines read ++ lines) (flat_map tree_lines trees ++ rest) (omega (arith, few, count, length-some_path depth)) refl
      (All-head (IsPrintableTree rows (some_path depth)) r read h) (All-head (IsPrintableTree rows (some_path depth)) t trees k) whole in
      next_tree read trees lines rest (omega (arith, few, count, length-append (tree_lines r) (flat_map tree_lines read ++ lines))) (All-tail (IsPrintableTree rows (some_path depth)) r read h) (All-tail (IsPrintableTree rows (some_path depth)) t trees k) (omega (arith, less)) first.1

  -- the lines so far, with those of one tree more
  pub tree_more : (whole lines rest : List (List ℕ)) (trees : List tree.Tree) (t : tree.Tree) → whole ≡ flat_map tree_lines trees ++ lines → SpellsTree rows depth lines rest t → whole ≡ flat_map tree_lines (trees ++ t ∷ []) ++ rest
  tree_more whole lines rest trees t e s =
      e
      ∙ ap (λ l. flat_map tree_lines trees ++ l) s.spelled
      ∙ sym (append_assoc (flat_map tree_lines trees) (tree_lines t) rest)
      ∙ ap (λ l. l ++ rest) (ap (λ l. flat_map tree_lines trees ++ l) (sym (append-nil (tree_lines t))) ∙ sym (flat_map-append tree_lines trees (t ∷ [])))

  -- each tree takes a line
  pub tree_takes : (lines rest : List (List ℕ)) (t : tree.Tree) → SpellsTree rows depth lines rest t → length rest < length lines
  tree_takes lines rest t s = omega (arith, ap length s.spelled, length-append (tree_lines t) rest, tree_lines-some t)

-- ---- counts

-- where some are left fewer are read than are spelled
pub fewer : (read trees : List tree.Tree) (left count : ℤ) → pos (length read) +ℤ left ≡ count → pos 0 <ℤ left → pos (length trees) ≡ count → length read < length trees
fewer read trees left count e some f = omega (arith, ints, e, some, f)

-- what is left then fits a register
pub left_same : (read : List tree.Tree) (left count : ℤ) → pos (length read) +ℤ left ≡ count → pos 0 <ℤ left → count ≤ℤ pos (2 ^ 98) → to_z w128 (of_z w128 (left -ℤ pos 1)) ≡ left -ℤ pos 1
left_same read left count e some small = to_z-of_z w128 (left -ℤ pos 1) (fits_signed_from_abs w128 (left -ℤ pos 1) (omega linear))

pub left_some : (left : ℤ) → pos 0 <ℤ left → pos 0 ≤ℤ (left -ℤ pos 1)
left_some left some = omega linear

-- one more is read, and one fewer is left
pub counted_more : (read : List tree.Tree) (t : tree.Tree) (left count : ℤ) → pos (length read) +ℤ left ≡ count → pos (length (read ++ t ∷ [])) +ℤ (left -ℤ pos 1) ≡ count
counted_more read t left count e = omega (arith, ints, e, length_push read t)
