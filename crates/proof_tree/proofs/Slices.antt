-- The slices of a split that were worked so far.
use Rattle.std.proofs.Common.{◌≡◌, ℕ, zero, suc, ◌+◌, ◌-◌, ◌*◌, ◌<◌, ◌≤◌, ◌↔◌, Bool, true, false, IsTrue, ℤ, pos, ◌+ℤ◌, ◌-ℤ◌, ◌≤ℤ◌, ◌<ℤ◌, List, [], ◌∷◌, ◌++◌, length, refl, ap, ◌∙◌, arith, length-append}
use Rattle.std.specs.Prelude.{Option}
use Rattle.exact_math.specs.IntegerRing.{linear}
use Rattle.whole_rows.specs.WholeRows.{WholeRows}
use Rattle.farkas_rows.specs.declared.path.Slice.{Slice}
use Rattle.proof_tree.specs.declared.tree.Cut.{Cut}
use Rattle.proof_tree.specs.declared.tree.Move.{Move}
use Rattle.proof_tree.specs.declared.tree.PartTree.{PartTree, Open}
use Rattle.proof_tree.specs.declared.walk.Incumbent.{Incumbent}
use Rattle.proof_tree.specs.declared.walk.Walk.{Walk}
use Rattle.proof_tree.specs.Trees.{on_slice}
use Rattle.proof_tree.specs.Counts.{nodes_within}
use Rattle.proof_tree.specs.Moves.{widest}
use Rattle.proof_tree.specs.Follows.{marks_plain}
use Rattle.proof_tree.specs.Search.{value_of_best, IsKnown, Improved, Worked}
use Rattle.proof_tree.proofs.Values.{IsNoHigher-same, IsNoHigher-trans}
use Rattle.proof_tree.proofs.Parts.{FollowsPart-above, holds_list, follows_list, records_list, open_list, holds_list-push, follows_list-push, records_list-push, open_list-push, holds_list-lower, follows_list-lower, nodes_within-some, nodes_within-higher, nodes_within-split}

pub Improved-trans : (rows : WholeRows) (a b c : Option Incumbent) → Improved rows a b → Improved rows b c → Improved rows a c
Improved-trans rows a b c h k = record { known = k.known; falls = IsNoHigher-trans (value_of_best c) (value_of_best b) (value_of_best a) k.falls h.falls }

pub Improved-same : (rows : WholeRows) (best : Option Incumbent) → IsKnown rows best → Improved rows best best
Improved-same rows best known = record { known = known; falls = IsNoHigher-same (value_of_best best) }

-- a number that is positive only where another is 0
zero_beside : (n m : ℕ) → (0 < n → m ≡ 0) → 0 < m → n ≡ 0
zero_beside zero m f h = refl
zero_beside (suc n) m f h = absurd (omega (arith, f (omega arith), h))

-- The first slices of a split were worked: the parts stand for them, and no part is open unless the budget is spent.
pub record SoFar (allows : List Slice → Option ℤ → Move → Type 0) (rows : WholeRows) (cut : Cut) (height : ℕ) (from to : Walk) (worked : ℤ) (parts : List PartTree) : Type 0 where
  pub path : to.path ≡ from.path
  pub best : Improved rows from.best to.best
  pub holds : holds_list rows (value_of_best to.best) from.path cut.form cut.lo (cut.lo +ℤ worked) parts
  pub follows : follows_list allows (value_of_best to.best) (marks_plain cut.mark) from.path cut.form cut.lo parts
  pub counted : records_list parts + to.left ≡ from.left
  pub spent : 0 < open_list parts → to.left ≡ 0
  pub told : IsTrue to.unfinished ↔ 0 < open_list parts
  pub many : pos (length parts) ≡ worked
  pub within : worked ≤ℤ cut.count
  pub few : records_list parts + open_list parts ≤ length parts * nodes_within (widest rows.box) (height - 1)

-- while something is left of the budget, no part is open
not_true : (b : Bool) → (IsTrue b → ⊥) → b ≡ false
not_true true h = absurd (h refl)
not_true false h = refl

pub SoFar-finished : (allows : List Slice → Option ℤ → Move → Type 0) (rows : WholeRows) (cut : Cut) (height : ℕ) (from to : Walk) (worked : ℤ) (parts : List PartTree) → SoFar allows rows cut height from to worked parts → 0 < to.left → to.unfinished ≡ false
SoFar-finished allows rows cut height from to worked parts h some = not_true to.unfinished (λ t. omega (arith, h.told.0 t, zero_beside (open_list parts) to.left h.spent some))

-- no slice was worked
pub SoFar-none : (allows : List Slice → Option ℤ → Move → Type 0) (rows : WholeRows) (cut : Cut) (height : ℕ) (from : Walk) → IsKnown rows from.best → from.unfinished ≡ false → pos 0 ≤ℤ cut.count → SoFar allows rows cut height from from (pos 0) []
SoFar-none allows rows cut height from known finished count = record {
  path = refl;
  best = Improved-same rows from.best known;
  holds = omega linear;
  follows = tt;
  counted = omega arith;
  spent = λ h. absurd (omega arith);
  told = rw finished (λ h. absurd (cc), λ h. absurd (omega arith));
  many = refl;
  within = count;
  few = omega arith;
}

-- one slice more: it was worked by itself, and the walk went down to it and up again
pub SoFar-more : (allows : WholeRows → List Slice → Option ℤ → Move → Type 0) (rows : WholeRows) (cut : Cut) (height below : ℕ) (above : Bool) (from to down back up : Walk) (worked : ℤ) (parts : List PartTree) (part : PartTree) → SoFar (allows rows) rows cut height from to worked parts → worked <ℤ cut.count → 0 < to.left → below + 1 ≤ height → (IsTrue (marks_plain cut.mark) → IsTrue above) → down ≡ record to { path = on_slice to.path cut.form (cut.lo +ℤ worked) } → Worked allows rows above below down.left down.path down.best back part → up ≡ record back { path = to.path } → SoFar (allows rows) rows cut height from up (worked +ℤ pos 1) (parts ++ part ∷ [])
SoFar-more allows rows cut height below above from to down back up worked parts part h more some lower plain at_down w at_up =
    let last : Option ℤ = value_of_best back.best in
    let place : holds_list rows last from.path cut.form cut.lo (cut.lo +ℤ worked) parts = holds_list-lower rows last (value_of_best to.best) from.path cut.form cut.lo (cut.lo +ℤ worked) parts (rw at_down at w.improved.falls) h.holds in
    let path : down.path ≡ on_slice from.path cut.form (cut.lo +ℤ worked) = ap (λ (walk : Walk). walk.path) at_down ∙ ap (λ p. on_slice p cut.form (cut.lo +ℤ worked)) h.path in
    let left : down.left ≡ to.left = ap (λ (walk : Walk). walk.left) at_down in
    let closed : open_list parts ≡ 0 = zero_beside (open_list parts) to.left h.spent some in
    record {
      path = ap (λ (walk : Walk). walk.path) at_up ∙ h.path;
      best = rw at_up (Improved-trans rows from.best to.best back.best h.best (rw at_down at w.improved));
      holds = rw at_up (holds_list-push rows last from.path cut.form cut.lo (cut.lo +ℤ worked) (cut.lo +ℤ (worked +ℤ pos 1)) parts part place (rw path at w.holds) (omega (linear, w.single)));
      follows = rw at_up (follows_list-push rows (allows rows) last (marks_plain cut.mark) from.path cut.form cut.lo (cut.lo +ℤ worked) parts part place (follows_list-lower (allows rows) last (value_of_best to.best) (marks_plain cut.mark) from.path cut.form cut.lo parts (rw at_down at w.improved.falls) h.follows) (FollowsPart-above (allows rows) last above (marks_plain cut.mark) (on_slice from.path cut.form (cut.lo +ℤ worked)) part plain (rw path at w.follows)));
      counted = rw at_up (omega (arith, records_list-push parts part, h.counted, w.counted, left));
      spent = rw at_up (λ o. w.spent (omega (arith, open_list-push parts part, closed, o)));
      told = rw at_up (λ t. omega (arith, open_list-push parts part, w.told.0 t), λ o. w.told.1 (omega (arith, open_list-push parts part, closed, o)));
      many = omega (linear, length-append parts (part ∷ []), h.many);
      within = omega linear;
      few = rw (records_list-push parts part, open_list-push parts part, length-append parts (part ∷ [])) (omega (arith, h.few, w.few, nodes_within-higher (widest rows.box) below (height - 1) (omega arith)));
    }

-- All slices are accounted for: they were worked, or the last of them are open.
pub record AllSlices (allows : List Slice → Option ℤ → Move → Type 0) (rows : WholeRows) (cut : Cut) (height : ℕ) (from to : Walk) (parts : List PartTree) : Type 0 where
  pub path : to.path ≡ from.path
  pub best : Improved rows from.best to.best
  pub holds : holds_list rows (value_of_best to.best) from.path cut.form cut.lo (cut.lo +ℤ cut.count) parts
  pub follows : follows_list allows (value_of_best to.best) (marks_plain cut.mark) from.path cut.form cut.lo parts
  pub counted : records_list parts + to.left ≡ from.left
  pub spent : 0 < open_list parts → to.left ≡ 0
  pub told : IsTrue to.unfinished ↔ 0 < open_list parts
  pub few : records_list parts + open_list parts + 1 ≤ nodes_within (widest rows.box) height

module _ (allows : List Slice → Option ℤ → Move → Type 0) (rows : WholeRows) (cut : Cut) (height : ℕ) (from to : Walk) (worked : ℤ) (parts : List PartTree) (h : SoFar allows rows cut height from to worked parts) (narrow : cut.count ≤ℤ pos (widest rows.box + 1)) (room : pos 1 ≤ℤ cut.count → 1 ≤ height) where
  -- all were worked
  pub AllSlices-worked : cut.count ≤ℤ worked → AllSlices allows rows cut height from to parts
  AllSlices-worked all =
      let same : worked ≡ cut.count = omega (linear, h.within) in
      record {
        path = h.path;
        best = h.best;
        holds = rw same at h.holds;
        follows = h.follows;
        counted = h.counted;
        spent = h.spent;
        told = h.told;
        few = omega (arith, h.few, nodes_within-split (widest rows.box) height (length parts) (omega (linear, h.many)) (λ k. room (omega (linear, h.many))));
      }

  -- the rest is open
  pub AllSlices-open : (after : Walk) → worked <ℤ cut.count → to.left ≡ 0 → after ≡ record to { unfinished = true } → AllSlices allows rows cut height from after (parts ++ Open (cut.count -ℤ worked) ∷ [])
  AllSlices-open after more none e =
      record {
        path = ap (λ (walk : Walk). walk.path) e ∙ h.path;
        best = rw e h.best;
        holds = rw e (holds_list-push rows (value_of_best to.best) from.path cut.form cut.lo (cut.lo +ℤ worked) (cut.lo +ℤ cut.count) parts (Open (cut.count -ℤ worked)) h.holds (omega linear) (omega linear));
        follows = rw e (follows_list-push rows allows (value_of_best to.best) (marks_plain cut.mark) from.path cut.form cut.lo (cut.lo +ℤ worked) parts (Open (cut.count -ℤ worked)) h.holds h.follows tt);
        counted = rw e (omega (arith, records_list-push parts (Open (cut.count -ℤ worked)), h.counted));
        spent = rw e (λ o. none);
        told = rw e (λ t. omega (arith, open_list-push parts (Open (cut.count -ℤ worked))), λ o. refl);
        few = rw (records_list-push parts (Open (cut.count -ℤ worked)), open_list-push parts (Open (cut.count -ℤ worked))) (omega (arith, h.few, nodes_within-some (widest rows.box) (height - 1), nodes_within-split (widest rows.box) height (suc (length parts)) (omega (linear, h.many)) (λ k. room (omega (linear, h.many)))));
      }
