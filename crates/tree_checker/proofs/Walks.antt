-- The lines of a tree that holds pass, one after another.
use Rattle.std.proofs.Common.{◌≡◌, ℕ, ◌≤◌, ℤ, pos, ◌+ℤ◌, ◌≤ℤ◌, ◌<ℤ◌, Bool, true, false, List, [], ◌∷◌, ◌++◌, length, refl, ap, sym, ◌∙◌, subst, arith, append_assoc, inl, inr}
use Rattle.std.specs.Prelude.{if◌then◌else◌, All}
use Rattle.std.specs.Ordering.{int_eq}
use Rattle.std.proofs.lemmas.Bool.Decides.{Decides-int_eq}
use Rattle.std.proofs.lemmas.Int.{ints}
use Rattle.std.proofs.lemmas.List.Elements.{All-head, All-tail, All-nil, All-cons}
use Rattle.whole_rows.specs.WholeRows.{WholeRows}
use Rattle.proof_tree.specs.declared.tree.Tree.{Tree, Empty, Split', Row_of-Tree, end_of-Tree, more_of-Tree}
use Rattle.proof_tree.specs.Trees.{IsSplit, Holds, HoldEach}
use Rattle.proof_text.specs.declared.claim.Claim.{Claim}
use Rattle.proof_text.specs.Spelling.{closing_line, split_line, below_line, above_line, split_lines, tree_lines, forest_lines}
use Rattle.tree_checker.specs.Accepts.{last_of, longest, HasShortLines}
use Rattle.tree_checker.specs.Stages.{OpenSplit, Opening, Stage, at_node, at_below, at_above, path_of, behind, into}
use Rattle.tree_checker.specs.Passes.{IsOpening, PassTo}
use Rattle.tree_checker.proofs.Forests.{HoldEach-rise, HoldEach-room}
use Rattle.tree_checker.proofs.Completes.{length-path_of}

-- ---- parts of a list

pub All-left : {X : Type 0} (P : X → Type 0) (xs ys : List X) → All P (xs ++ ys) → All P xs
All-left P [] ys h = All-nil P
All-left P (x ∷ xs) ys h = All-cons P x xs (All-head P x (xs ++ ys) h) (All-left P xs ys (All-tail P x (xs ++ ys) h))

pub All-right : {X : Type 0} (P : X → Type 0) (xs ys : List X) → All P (xs ++ ys) → All P ys
All-right P [] ys h = h
All-right P (x ∷ xs) ys h = All-right P xs ys (All-tail P x (xs ++ ys) h)

-- ---- where the next value of a split stands

-- the node of this value of a split, or what is behind the split where it was the last one
abbrev at_value : Claim → List OpenSplit → List ℤ → ℤ → ℤ → Stage
at_value claimed splits form from until = if int_eq from until then behind claimed splits else at_node claimed (record { form = form; value = from; until = until } ∷ splits)

differ : (x y : ℤ) → x <ℤ y → int_eq x y ≡ false
differ x y h = by (int_eq x y) refl
  where
    by : (b : Bool) → int_eq x y ≡ b → b ≡ false
    by true e = let same : x ≡ y = (Decides-int_eq x y).0 e in absurd (omega (arith, ints, same))
    by false e = refl

at_value-last : (claimed : Claim) (splits : List OpenSplit) (form : List ℤ) (from until : ℤ) → from ≡ until → at_value claimed splits form from until ≡ behind claimed splits
at_value-last claimed splits form from until e = ap (λ b. if b then behind claimed splits else at_node claimed (record { form = form; value = from; until = until } ∷ splits)) ((Decides-int_eq from until).1 e)

at_value-more : (claimed : Claim) (splits : List OpenSplit) (form : List ℤ) (from until : ℤ) → from <ℤ until → at_value claimed splits form from until ≡ at_node claimed (record { form = form; value = from; until = until } ∷ splits)
at_value-more claimed splits form from until h = ap (λ b. if b then behind claimed splits else at_node claimed (record { form = form; value = from; until = until } ∷ splits)) (differ from until h)

-- behind the ends of a split stands its first value
into-first : (claimed : Claim) (splits : List OpenSplit) (opening : Opening) → at_value claimed splits opening.form opening.lo (opening.lo +ℤ opening.count) ≡ into claimed splits opening
into-first claimed splits opening = ap (λ b. if b then behind claimed splits else at_node claimed (record { form = opening.form; value = opening.lo; until = opening.lo +ℤ opening.count } ∷ splits)) (by (int_eq opening.lo (opening.lo +ℤ opening.count)) refl (int_eq opening.count (pos 0)) refl)
  where
    by : (a : Bool) → int_eq opening.lo (opening.lo +ℤ opening.count) ≡ a → (b : Bool) → int_eq opening.count (pos 0) ≡ b → a ≡ b
    by true e true k = refl
    by false e false k = refl
    by true e false k =
        let same : opening.lo ≡ opening.lo +ℤ opening.count = (Decides-int_eq opening.lo (opening.lo +ℤ opening.count)).0 e in
        let none : opening.count ≡ pos 0 = omega (arith, ints, same) in
        sym ((Decides-int_eq opening.count (pos 0)).1 none) ∙ k
    by false e true k =
        let none : opening.count ≡ pos 0 = (Decides-int_eq opening.count (pos 0)).0 k in
        let same : opening.lo ≡ opening.lo +ℤ opening.count = omega (arith, ints, none) in
        sym e ∙ (Decides-int_eq opening.lo (opening.lo +ℤ opening.count)).1 same

-- ---- the lines of a tree

module _ (rows : WholeRows) (claimed : Claim) (stage : Stage) where
  mutual
    -- those of a node take it to what is behind it
    pub tree_passes : (splits : List OpenSplit) (tree : Tree) (more : List (List ℕ)) → Holds rows (last_of rows claimed) (path_of splits) tree → HasShortLines (tree_lines tree) → PassTo rows (behind claimed splits) more stage → PassTo rows (at_node claimed splits) (tree_lines tree ++ more) stage
    tree_passes splits (Empty line) more holds short behind_it =
        (All-head (λ (l : List ℕ). length l ≤ longest) (closing_line line) [] short, behind claimed splits, inl ((line, refl, holds.1), refl), behind_it)
    tree_passes splits (Split' p cut s children) more holds short behind_it =
        let opening : Opening = record { mark = cut.mark; form = cut.form; lo = cut.lo; count = cut.count } in
        let split : IsSplit rows (last_of rows claimed) (path_of splits) cut = holds.1 in
        let is : IsOpening rows splits opening = record {
          form = split.form;
          lo = split.lo;
          count = split.count;
          room = λ some. let room = HoldEach-room rows (last_of rows claimed) (path_of splits) cut.form cut.lo (cut.lo +ℤ cut.count) children holds.2 (omega (arith, ints, some)) in omega (arith, room, length-path_of splits);
        } in
        let three : HasShortLines (split_lines cut) = All-left (λ (l : List ℕ). length l ≤ longest) (split_lines cut) (forest_lines children) short in
        let others : HasShortLines (forest_lines children) = All-right (λ (l : List ℕ). length l ≤ longest) (split_lines cut) (forest_lines children) short in
        let two : HasShortLines (below_line cut ∷ above_line cut ∷ []) = All-tail (λ (l : List ℕ). length l ≤ longest) (split_line cut) (below_line cut ∷ above_line cut ∷ []) three in
        let one : HasShortLines (above_line cut ∷ []) = All-tail (λ (l : List ℕ). length l ≤ longest) (below_line cut) (above_line cut ∷ []) two in (
          All-head (λ (l : List ℕ). length l ≤ longest) (split_line cut) (below_line cut ∷ above_line cut ∷ []) three,
          at_below claimed splits opening,
          inr (opening, refl, is, refl),
          (
            All-head (λ (l : List ℕ). length l ≤ longest) (below_line cut) (above_line cut ∷ []) two,
            at_above claimed splits opening,
            ((cut.below, refl, split.below), refl),
            (
              All-head (λ (l : List ℕ). length l ≤ longest) (above_line cut) [] one,
              into claimed splits opening,
              ((cut.above, refl, split.above), refl),
              subst (λ s. PassTo rows s (forest_lines children ++ more) stage) (into-first claimed splits opening) (forest_passes splits cut.form cut.lo (cut.lo +ℤ cut.count) children more holds.2 others behind_it),
            ),
          ),
        )

    -- those of the slices of a split, from one of them on
    forest_passes : (splits : List OpenSplit) (form : List ℤ) (from until : ℤ) {m : _} (children : Row_of-Tree m) (more : List (List ℕ)) → HoldEach rows (last_of rows claimed) (path_of splits) form from until children → HasShortLines (forest_lines children) → PassTo rows (behind claimed splits) more stage → PassTo rows (at_value claimed splits form from until) (forest_lines children ++ more) stage
    forest_passes splits form from until end_of-Tree more hold short behind_it = subst (λ s. PassTo rows s more stage) (sym (at_value-last claimed splits form from until hold)) behind_it
    forest_passes splits form from until (more_of-Tree child rest) more hold short behind_it =
        let split : OpenSplit = record { form = form; value = from; until = until } in
        let rise : (from +ℤ pos 1) ≤ℤ until = HoldEach-rise rows (last_of rows claimed) (path_of splits) form (from +ℤ pos 1) until rest hold.1 in
        let later : PassTo rows (behind claimed (split ∷ splits)) (forest_lines rest ++ more) stage = forest_passes splits form (from +ℤ pos 1) until rest more hold.1 (All-right (λ (l : List ℕ). length l ≤ longest) (tree_lines child) (forest_lines rest) short) behind_it in
        let here : PassTo rows (at_node claimed (split ∷ splits)) (tree_lines child ++ (forest_lines rest ++ more)) stage = tree_passes (split ∷ splits) child (forest_lines rest ++ more) hold.0 (All-left (λ (l : List ℕ). length l ≤ longest) (tree_lines child) (forest_lines rest) short) later in
        subst (λ s. PassTo rows s (tree_lines child ++ forest_lines rest ++ more) stage) (sym (at_value-more claimed splits form from until (omega (arith, ints, rise))))
        (subst (λ ls. PassTo rows (at_node claimed (split ∷ splits)) ls stage) (sym (append_assoc (tree_lines child) (forest_lines rest) more)) here)
