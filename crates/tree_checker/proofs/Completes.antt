-- Lines that pass to the end are those of a tree that holds.
use Rattle.std.proofs.Common.{◌≡◌, ℕ, suc, ◌*◌, ◌^◌, ◌<◌, ◌≤◌, ℤ, pos, ◌+ℤ◌, ◌≤ℤ◌, Bool, true, false, List, [], ◌∷◌, ◌++◌, length, refl, ap, sym, ◌∙◌, subst, arith, Global, append_assoc, inl, inr}
use Rattle.std.specs.Prelude.{Some, if◌then◌else◌, flat_map, codes}
use Rattle.std.specs.Ordering.{int_eq}
use Rattle.std.proofs.lemmas.Bool.Decides.{Decides-int_eq}
use Rattle.std.proofs.lemmas.Int.{ints}
use Rattle.std.proofs.lemmas.List.{length-append, length_push}
use Rattle.whole_rows.specs.WholeRows.{WholeRows}
use Rattle.farkas_rows.specs.declared.line.Line.{Line}
use Rattle.proof_tree.specs.declared.tree.Cut.{Cut}
use Rattle.proof_tree.specs.declared.tree.Tree.{Tree, Empty}
use Rattle.proof_tree.specs.Trees.{Closes, IsShort, IsSplit, Holds}
use Rattle.proof_text.specs.declared.claim.Claim.{Claim}
use Rattle.proof_text.specs.Spelling.{in_words, line_words, claim_line, tree_lines}
use Rattle.tree_checker.specs.Accepts.{last_of, IsClaim}
use Rattle.tree_checker.specs.Stages.{OpenSplit, Opening, Stage, at_head, at_claim, at_node, at_below, at_above, at_done, at_end, path_of, behind, into}
use Rattle.tree_checker.specs.Passes.{opening_line, below_of, above_of, IsOpening, PassesTo, PassTo}
use Rattle.tree_checker.proofs.Forests.{HoldList, split_of, split_of-lines, split_of-holds, few_trees}

-- a test that is true, or is not
pub same_int : (x y : ℤ) → int_eq x y ≡ true → x ≡ y
same_int x y e = (Decides-int_eq x y).0 e

-- the path has a slice for each open split
pub length-path_of : (splits : List OpenSplit) → length (path_of splits) ≡ length splits
length-path_of [] = refl
length-path_of (split ∷ splits) = length_push (path_of splits) (record { form = split.form; beta = split.value }) ∙ omega (arith, length-path_of splits)

-- ---- room for the slices

-- the open splits of a stage are no more than a path may have slices
abbrev pub HasRoom : WholeRows → Stage → Type 0
HasRoom rows at_head = Unit {0}
HasRoom rows at_claim = Unit {0}
HasRoom rows (at_node claimed splits) = length splits ≤ 2 * length rows.box
HasRoom rows (at_below claimed splits opening) = (length splits ≤ 2 * length rows.box) × IsOpening rows splits opening
HasRoom rows (at_above claimed splits opening) = (length splits ≤ 2 * length rows.box) × IsOpening rows splits opening
HasRoom rows (at_done claimed) = Unit {0}
HasRoom rows (at_end claimed) = Unit {0}

module _ (rows : WholeRows) where
  behind-room : (claimed : Claim) (splits : List OpenSplit) → length splits ≤ 2 * length rows.box → HasRoom rows (behind claimed splits)
  behind-room claimed [] few = tt
  behind-room claimed (split ∷ splits) few = by (int_eq (split.value +ℤ pos 1) split.until) (behind-room claimed splits (omega arith))
    where
      next : OpenSplit
      next = record { form = split.form; value = split.value +ℤ pos 1; until = split.until }

      by : (b : Bool) → HasRoom rows (behind claimed splits) → HasRoom rows (if b then behind claimed splits else at_node claimed (next ∷ splits))
      by true room = room
      by false room = few

  into-room : (claimed : Claim) (splits : List OpenSplit) (opening : Opening) → length splits ≤ 2 * length rows.box → IsOpening rows splits opening → HasRoom rows (into claimed splits opening)
  into-room claimed splits opening few is = by (int_eq opening.count (pos 0)) refl
    where
      first : OpenSplit
      first = record { form = opening.form; value = opening.lo; until = opening.lo +ℤ opening.count }

      none : int_eq opening.count (pos 0) ≡ false → opening.count ≡ pos 0 → ⊥
      none e z = let t : int_eq opening.count (pos 0) ≡ true = (Decides-int_eq opening.count (pos 0)).1 z in absurd cc

      by : (b : Bool) → int_eq opening.count (pos 0) ≡ b → HasRoom rows (if b then behind claimed splits else at_node claimed (first ∷ splits))
      by true e = behind-room claimed splits few
      by false e =
          let other : opening.count ≡ pos 0 → ⊥ = none e in
          let some : pos 1 ≤ℤ opening.count = omega (arith, ints, other, is.count) in
          omega (arith, is.room some)

  -- a line that passes leaves room
  pub roomy : (stage next : Stage) (line : List ℕ) → HasRoom rows stage → PassesTo rows stage line next → HasRoom rows next
  roomy at_head next line room p = subst (HasRoom rows) (sym p.1) tt
  roomy at_claim next line room p = subst (HasRoom rows) (sym p.3) (omega arith)
  roomy (at_node claimed splits) next line room (inl p) = subst (HasRoom rows) (sym p.1) (behind-room claimed splits room)
  roomy (at_node claimed splits) next line room (inr p) = subst (HasRoom rows) (sym p.3) (room, p.2)
  roomy (at_below claimed splits opening) next line room p = subst (HasRoom rows) (sym p.1) room
  roomy (at_above claimed splits opening) next line room p = subst (HasRoom rows) (sym p.1) (into-room claimed splits opening room.0 room.1)
  roomy (at_done claimed) next line room p = subst (HasRoom rows) (sym p.1) tt
  roomy (at_end claimed) next line room p = absurd p

-- ---- what the lines from a stage to the end are

module _ (rows : WholeRows) (claim : Claim) where
  -- behind a node: the trees of the slices that are left of each open split, and `DONE`
  abbrev pub Finishes : Claim → List OpenSplit → List (List ℕ) → Type 0
  Finishes claimed [] lines = (claimed ≡ claim) × (lines ≡ codes "DONE" ∷ [])
  Finishes claimed (split ∷ splits) lines =
      (trees : List Tree) × (rest : List (List ℕ)) × (lines ≡ flat_map tree_lines trees ++ rest)
      × HoldList rows (last_of rows claimed) (path_of splits) split.form (split.value +ℤ pos 1) split.until trees
      × Finishes claimed splits rest

  -- behind the ends of a split: the trees of all its slices first
  abbrev pub FinishesSplit : Claim → List OpenSplit → Opening → List (List ℕ) → Type 0
  FinishesSplit claimed splits opening lines =
      (trees : List Tree) × (rest : List (List ℕ)) × (lines ≡ flat_map tree_lines trees ++ rest)
      × HoldList rows (last_of rows claimed) (path_of splits) opening.form opening.lo (opening.lo +ℤ opening.count) trees
      × Finishes claimed splits rest

  abbrev pub Completes : Stage → List (List ℕ) → Type 0
  Completes at_head lines =
      (tree : Tree) × (lines ≡ codes "SLICER 1" ∷ claim_line claim ∷ (tree_lines tree ++ codes "DONE" ∷ [])) × IsClaim rows claim × Holds rows (last_of rows claim) [] tree
  Completes at_claim lines =
      (tree : Tree) × (lines ≡ claim_line claim ∷ (tree_lines tree ++ codes "DONE" ∷ [])) × IsClaim rows claim × Holds rows (last_of rows claim) [] tree
  Completes (at_node claimed splits) lines =
      (tree : Tree) × (rest : List (List ℕ)) × (lines ≡ tree_lines tree ++ rest) × Holds rows (last_of rows claimed) (path_of splits) tree × Finishes claimed splits rest
  Completes (at_below claimed splits opening) lines =
      (under : Line) × (over : Line) × (more : List (List ℕ))
      × (lines ≡ in_words (codes "B" ∷ line_words under) ∷ in_words (codes "A" ∷ line_words over) ∷ more)
      × Closes rows (last_of rows claimed) (path_of splits) (Some (below_of opening)) under
      × Closes rows (last_of rows claimed) (path_of splits) (Some (above_of opening)) over
      × FinishesSplit claimed splits opening more
  Completes (at_above claimed splits opening) lines =
      (over : Line) × (more : List (List ℕ))
      × (lines ≡ in_words (codes "A" ∷ line_words over) ∷ more)
      × Closes rows (last_of rows claimed) (path_of splits) (Some (above_of opening)) over
      × FinishesSplit claimed splits opening more
  Completes (at_done claimed) lines = (claimed ≡ claim) × (lines ≡ codes "DONE" ∷ [])
  Completes (at_end claimed) lines = (claimed ≡ claim) × (lines ≡ [])

  -- one tree in front of others
  one_more : (tree : Tree) (trees : List Tree) (lines later rest : List (List ℕ)) → lines ≡ tree_lines tree ++ later → later ≡ flat_map tree_lines trees ++ rest → lines ≡ flat_map tree_lines (tree ∷ trees) ++ rest
  one_more tree trees lines later rest e k = e ∙ ap (λ more. tree_lines tree ++ more) k ∙ sym (append_assoc (tree_lines tree) (flat_map tree_lines trees) rest)

  behind-finishes : (claimed : Claim) (splits : List OpenSplit) (lines : List (List ℕ)) → Completes (behind claimed splits) lines → Finishes claimed splits lines
  behind-finishes claimed [] lines = λ h. h
  behind-finishes claimed (split ∷ splits) lines = by (int_eq (split.value +ℤ pos 1) split.until) refl (behind-finishes claimed splits lines)
    where
      next : OpenSplit
      next = record { form = split.form; value = split.value +ℤ pos 1; until = split.until }

      by : (b : Bool) → int_eq (split.value +ℤ pos 1) split.until ≡ b → (Completes (behind claimed splits) lines → Finishes claimed splits lines) → Completes (if b then behind claimed splits else at_node claimed (next ∷ splits)) lines → Finishes claimed (split ∷ splits) lines
      by true e later h = ([], lines, refl, same_int (split.value +ℤ pos 1) split.until e, later h)
      by false e later h = let fin = h.4 in (h.0 ∷ fin.0, fin.1, one_more h.0 fin.0 lines h.1 fin.1 h.2 fin.2, (h.3, fin.3), fin.4)

  into-finishes : (claimed : Claim) (splits : List OpenSplit) (opening : Opening) (lines : List (List ℕ)) → Completes (into claimed splits opening) lines → FinishesSplit claimed splits opening lines
  into-finishes claimed splits opening lines = by (int_eq opening.count (pos 0)) refl
    where
      first : OpenSplit
      first = record { form = opening.form; value = opening.lo; until = opening.lo +ℤ opening.count }

      by : (b : Bool) → int_eq opening.count (pos 0) ≡ b → Completes (if b then behind claimed splits else at_node claimed (first ∷ splits)) lines → FinishesSplit claimed splits opening lines
      by true e h = let none : opening.count ≡ pos 0 = same_int opening.count (pos 0) e in ([], lines, refl, omega (arith, ints, none), behind-finishes claimed splits lines h)
      by false e h = let fin = h.4 in (h.0 ∷ fin.0, fin.1, one_more h.0 fin.0 lines h.1 fin.1 h.2 fin.2, (h.3, fin.3), fin.4)

  -- ---- one line

  module _ (heap : Global) where
    abbrev cut_of : Opening → Line → Line → Cut
    cut_of opening under over = record { form = opening.form; lo = opening.lo; count = opening.count; below = under; above = over; mark = opening.mark }

    -- the three lines of a split, and the trees of its slices
    opened : (claimed : Claim) (splits : List OpenSplit) (opening : Opening) (line : List ℕ) (lines : List (List ℕ)) → length lines < 2 ^ 63 → length splits ≤ 2 * length rows.box → line ≡ opening_line opening → IsOpening rows splits opening → Completes (at_below claimed splits opening) lines → Completes (at_node claimed splits) (line ∷ lines)
    opened claimed splits opening line lines few room e is h =
        let cut : Cut = cut_of opening h.0 h.1 in
        let fin = h.6 in
        let trees : List Tree = fin.0 in
        let counted : length lines ≡ suc (suc (length h.2)) = ap length h.3 in
        let joined : length h.2 ≡ length (flat_map tree_lines trees ++ fin.1) = ap length fin.2 in
        let small : length trees < 2 ^ 63 = omega (arith, few, counted, joined, few_trees trees, length-append (flat_map tree_lines trees) fin.1) in
        let short : IsShort rows (path_of splits) = omega (arith, room, length-path_of splits) in
        let split : IsSplit rows (last_of rows claimed) (path_of splits) cut = record { form = is.form; lo = is.lo; count = is.count; below = h.4; above = h.5 } in
        let under : List ℕ = in_words (codes "B" ∷ line_words h.0) in
        let over : List ℕ = in_words (codes "A" ∷ line_words h.1) in
        let whole : line ∷ lines ≡ opening_line opening ∷ under ∷ over ∷ (flat_map tree_lines trees ++ fin.1) = ap (λ l. l ∷ lines) e ∙ ap (λ ls. opening_line opening ∷ ls) (h.3 ∙ ap (λ more. under ∷ over ∷ more) fin.2) in
        (split_of heap cut trees small, fin.1, whole ∙ ap (λ ls. ls ++ fin.1) (sym (split_of-lines heap cut trees small)), split_of-holds heap cut trees small rows (last_of rows claimed) (path_of splits) short split fin.3, fin.4)

    one_line : (stage next : Stage) (line : List ℕ) (lines : List (List ℕ)) → length lines < 2 ^ 63 → HasRoom rows stage → PassesTo rows stage line next → Completes next lines → Completes stage (line ∷ lines)
    one_line at_head next line lines few room p h =
        let at : Completes at_claim lines = subst (λ s. Completes s lines) p.1 h in
        (at.0, ap (λ l. l ∷ lines) p.0 ∙ ap (λ ls. codes "SLICER 1" ∷ ls) at.1, at.2, at.3)
    one_line at_claim next line lines few room p h =
        let at : Completes (at_node p.0 []) lines = subst (λ s. Completes s lines) p.3 h in
        let same : p.0 ≡ claim = at.4.0 in
        let text : line ∷ lines ≡ claim_line p.0 ∷ (tree_lines at.0 ++ codes "DONE" ∷ []) = ap (λ l. l ∷ lines) p.1 ∙ ap (λ ls. claim_line p.0 ∷ ls) (at.2 ∙ ap (λ ls. tree_lines at.0 ++ ls) at.4.1) in
        (at.0, subst (λ c. line ∷ lines ≡ claim_line c ∷ (tree_lines at.0 ++ codes "DONE" ∷ [])) same text, subst (IsClaim rows) same p.2, subst (λ c. Holds rows (last_of rows c) [] at.0) same at.3)
    one_line (at_node claimed splits) next line lines few room (inl p) h =
        let at : Finishes claimed splits lines = behind-finishes claimed splits lines (subst (λ s. Completes s lines) p.1 h) in
        let short : IsShort rows (path_of splits) = omega (arith, room, length-path_of splits) in
        (Empty p.0.0, lines, ap (λ l. l ∷ lines) p.0.1, (short, p.0.2), at)
    one_line (at_node claimed splits) next line lines few room (inr p) h = opened claimed splits p.0 line lines few room p.1 p.2 (subst (λ s. Completes s lines) p.3 h)
    one_line (at_below claimed splits opening) next line lines few room p h =
        let at : Completes (at_above claimed splits opening) lines = subst (λ s. Completes s lines) p.1 h in
        (p.0.0, at.0, at.1, ap (λ l. l ∷ lines) p.0.1 ∙ ap (λ ls. in_words (codes "B" ∷ line_words p.0.0) ∷ ls) at.2, p.0.2, at.3, at.4)
    one_line (at_above claimed splits opening) next line lines few room p h =
        (p.0.0, lines, ap (λ l. l ∷ lines) p.0.1, p.0.2, into-finishes claimed splits opening lines (subst (λ s. Completes s lines) p.1 h))
    one_line (at_done claimed) next line lines few room p h =
        let at : Completes (at_end claimed) lines = subst (λ s. Completes s lines) p.1 h in
        (at.0, ap (λ l. l ∷ lines) p.0 ∙ ap (λ ls. codes "DONE" ∷ ls) at.1)
    one_line (at_end claimed) next line lines few room p h = absurd p

    -- lines that pass from a stage to the end
    pub completes : (stage : Stage) (lines : List (List ℕ)) → length lines < 2 ^ 63 → HasRoom rows stage → PassTo rows stage lines (at_end claim) → Completes stage lines
    completes stage [] few room p = subst (λ s. Completes s []) (sym p) (refl, refl)
    completes stage (line ∷ lines) few room p = one_line stage p.1 line lines (omega (arith, few)) room p.2 (completes p.1 lines (omega (arith, few)) (roomy rows stage p.1 line room p.2) p.3)
