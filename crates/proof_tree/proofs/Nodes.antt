-- A node that was worked, from its line or from its slices.
use Rattle.std.proofs.Common.{◌≡◌, ℕ, ◌+◌, Bool, true, false, IsTrue, ℤ, ◌+ℤ◌, List, refl, sym, ap, ◌∙◌, arith, Global}
use Rattle.std.specs.Prelude.{Option, None}
use Rattle.std.specs.declared.boxed.Box.{Box}
use Rattle.whole_rows.specs.WholeRows.{WholeRows, IsWithinLimits}
use Rattle.farkas_rows.specs.declared.line.Line.{Line}
use Rattle.farkas_rows.specs.declared.path.Slice.{Slice}
use Rattle.proof_tree.specs.declared.tree.Cut.{Cut}
use Rattle.proof_tree.specs.declared.tree.Mark.{Mark}
use Rattle.proof_tree.specs.declared.tree.Mark.TheVariants.{Thin, Plain}
use Rattle.proof_tree.specs.declared.tree.Move.{Move}
use Rattle.proof_tree.specs.declared.tree.Move.TheVariants as move
use Rattle.proof_tree.specs.declared.tree.PartTree.{PartTree, Empty, Split, items_hidden-the_row-PartTree-0, items-the_row-PartTree}
use Rattle.proof_tree.specs.declared.tree.PartTree.TheBlock.{hidden-the_row-PartTree-0}
use Rattle.proof_tree.specs.declared.tree.PartSplit.{PartSplit}
use Rattle.proof_tree.specs.declared.walk.Walk.{Walk}
use Rattle.proof_tree.specs.Trees.{IsShort}
use Rattle.proof_tree.specs.Counts.{records_of_part, open_runs}
use Rattle.proof_tree.specs.Moves.{Branches, IsChildOf, widest}
use Rattle.proof_tree.specs.Follows.{marks_plain}
use Rattle.proof_tree.specs.Search.{value_of_best, IsKnown, StaysAt, Settles, Worked}
use Rattle.proof_tree.proofs.Values.{IsNoHigher-same, best-small}
use Rattle.proof_tree.proofs.Parts.{FollowsPart-above, Closes-under, IsSplit-under, records_list, open_list, holds_list-row, follows_list-row, records_list-row, open_list-row, nodes_within-some, nodes_within-higher}
use Rattle.proof_tree.proofs.Slices.{Improved-trans, AllSlices}

module _ {Place : Type 0} (stands : WholeRows → Place → List Slice → Option ℤ → Type 0) (height : WholeRows → Place → List Slice → ℕ) (is_plain : Place → Bool) (allows : WholeRows → List Slice → Option ℤ → Move → Type 0) (rows : WholeRows) where
  -- a node that a line closes
  pub Worked-closed : (before after : Place) (from to : Walk) (budget : ℕ) (line : Line) → IsWithinLimits rows → StaysAt stands height is_plain rows before after from to → Settles stands height is_plain allows rows from.path (value_of_best to.best) after (move.Close line) → IsShort rows from.path → from.left + 1 ≡ budget → from.unfinished ≡ false → Worked allows rows (is_plain before) (height rows before from.path) budget from.path from.best to (Empty line)
  Worked-closed before after from to budget line limits stays settles short left finished =
      let last : Option ℤ = value_of_best to.best in
      record {
        same_path = stays.path;
        improved = stays.best;
        holds = (short, Closes-under rows last last from.path None line (IsNoHigher-same last) (best-small rows to.best limits stays.best.known) settles.chosen);
        single = refl;
        follows = (last, IsNoHigher-same last, settles.allowed);
        counted = omega (arith, stays.left);
        spent = λ o. absurd (omega arith);
        told = (λ t. absurd (let e : false ≡ true = sym (stays.unfinished ∙ finished) ∙ t in cc), λ o. absurd (omega arith));
        few = nodes_within-some (widest rows.box) (height rows before from.path);
      }

  -- a node whose slices are accounted for
  pub Worked-split : (place : Place) (from to : Walk) (cut : Cut) (parts : List PartTree) (b : Box PartSplit Global) → IsWithinLimits rows → IsKnown rows from.best → Settles stands height is_plain allows rows from.path (value_of_best from.best) place (move.Split cut) → IsShort rows from.path → AllSlices (allows rows) rows cut (height rows place from.path) from to parts → b.value.cut ≡ cut → b.value.children.items ≡ parts → Worked allows rows (is_plain place) (height rows place from.path) (from.left + 1) from.path from.best to (Split b)
  Worked-split place from to cut parts b limits known settles short all at_cut at_parts =
      let last : Option ℤ = value_of_best to.best in
      let best : Option ℤ = value_of_best from.best in
      let items : items-the_row-PartTree _ (hidden-the_row-PartTree-0 b.value.children) ≡ parts = items_hidden-the_row-PartTree-0 b.value.children ∙ at_parts in
      let records : records_of_part (Split b) ≡ 1 + records_list parts = ap (λ n. 1 + n) (records_list-row (hidden-the_row-PartTree-0 b.value.children) ∙ ap records_list items) in
      let runs : open_runs (Split b) ≡ open_list parts = open_list-row (hidden-the_row-PartTree-0 b.value.children) ∙ ap open_list items in
      record {
        same_path = all.path;
        improved = all.best;
        holds = rw at_cut (short, IsSplit-under rows last best from.path cut all.best.falls (best-small rows from.best limits known) settles.chosen.0, holds_list-row rows last from.path cut.form cut.lo (cut.lo +ℤ cut.count) (hidden-the_row-PartTree-0 b.value.children) (rw items all.holds));
        single = refl;
        follows = rw at_cut ((best, all.best.falls, settles.allowed), (λ t. settles.chosen.2.1 t), follows_list-row (allows rows) last (marks_plain cut.mark) from.path cut.form cut.lo (hidden-the_row-PartTree-0 b.value.children) (rw items all.follows));
        counted = omega (arith, records, all.counted);
        spent = rw runs all.spent;
        told = rw runs all.told;
        few = omega (arith, records, runs, all.few);
      }

  -- the same of the place and the walk before the node was settled
  pub Worked-stays : (before after : Place) (from mid to : Walk) (budget : ℕ) (part : PartTree) → StaysAt stands height is_plain rows before after from mid → Worked allows rows (is_plain after) (height rows after mid.path) budget mid.path mid.best to part → Worked allows rows (is_plain before) (height rows before from.path) budget from.path from.best to part
  Worked-stays before after from mid to budget part stays w =
      record {
        same_path = w.same_path ∙ stays.path;
        improved = Improved-trans rows from.best mid.best to.best stays.best w.improved;
        holds = rw stays.path at w.holds;
        single = w.single;
        follows = FollowsPart-above (allows rows) (value_of_best to.best) (is_plain after) (is_plain before) from.path part stays.plain (rw stays.path at w.follows);
        counted = w.counted;
        spent = w.spent;
        told = w.told;
        few = omega (arith, w.few, nodes_within-higher (widest rows.box) (height rows after mid.path) (height rows before from.path) (rw stays.path stays.lower));
      }

  -- the split is one of the place, where its rows and its cut are known by other names
  pub branches-from : (place : Place) (rows' : WholeRows) (cut cut' : Cut) (path : List Slice) (best : Option ℤ) → rows' ≡ rows → cut' ≡ cut → stands rows place path best → Settles stands height is_plain allows rows path best place (move.Split cut) → Branches stands height is_plain allows rows' place cut' path best
  branches-from place rows' cut cut' path best e k here settles = record {
    here = rw e here;
    chosen = rw (e, k) settles.chosen;
    allowed = rw (e, k) settles.allowed;
  }

  -- the place of a slice, where the rows and the cut are known by other names
  pub child_of-from : (place child : Place) (rows' : WholeRows) (cut cut' : Cut) (path : List Slice) (best : Option ℤ) (j : ℤ) → rows' ≡ rows → cut' ≡ cut → stands rows place path best → Settles stands height is_plain allows rows path best place (move.Split cut) → ((p : List Slice) (b : Option ℤ) → Branches stands height is_plain allows rows' place cut' p b → IsChildOf stands height is_plain rows' place p cut'.form (cut'.lo +ℤ j) child) → IsChildOf stands height is_plain rows place path cut.form (cut.lo +ℤ j) child
  child_of-from place child rows' cut cut' path best j e k here settles made = rw (e, k) at (made path best (branches-from place rows' cut cut' path best e k here settles))

  -- it is plain where the split is marked so
  pub child-plain : (place child : Place) (cut : Cut) (path : List Slice) (best : Option ℤ) (j : ℤ) → Settles stands height is_plain allows rows path best place (move.Split cut) → IsChildOf stands height is_plain rows place path cut.form (cut.lo +ℤ j) child → IsTrue (marks_plain cut.mark) → IsTrue (is_plain child)
  child-plain place child cut path best j settles made t = made.plain (settles.chosen.2.0 (marked cut.mark t))
    where
      marked : (mark : Mark) → IsTrue (marks_plain mark) → mark ≡ Plain
      marked Thin h = cc
      marked Plain h = refl
