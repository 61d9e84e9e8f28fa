-- What a search found, from what was carried from node to node.
use Rattle.std.proofs.Common.{◌≡◌, ℕ, zero, suc, ◌+◌, ◌*◌, ◌^◌, ◌<◌, ◌≤◌, Bool, true, ℤ, List, [], length, refl, sym, ap, ◌∙◌, arith}
use Rattle.std.proofs.Math.Nat.{mul-le-mul_left, pow-zero, pow-succ'}
use Rattle.std.specs.Prelude.{Option, Some, None, IfSome}
use Rattle.whole_rows.specs.WholeRows.{WholeRows, Meets, IsWithinLimits}
use Rattle.farkas_rows.specs.declared.path.Slice.{Slice}
use Rattle.proof_tree.specs.declared.tree.Move.{Move}
use Rattle.proof_tree.specs.declared.tree.Tree.{Tree}
use Rattle.proof_tree.specs.declared.tree.PartTree.{PartTree}
use Rattle.proof_tree.specs.declared.walk.Incumbent.{Incumbent}
use Rattle.proof_tree.specs.declared.walk.Walk.{Walk}
use Rattle.proof_tree.specs.Trees.{Holds}
use Rattle.proof_tree.specs.Counts.{open_runs, nodes_within}
use Rattle.proof_tree.specs.Moves.{widest}
use Rattle.proof_tree.specs.Search.{value_of_best, point_of_best, IsKnown, Worked}
use Rattle.proof_tree.specs.Found.{value_found, IsBestOf, IsDone, IsSpent}
use Rattle.proof_tree.specs.Soundness.{best_is_shown, none_is_shown}
use Rattle.proof_tree.specs.Whole.{IsWholeOf}
use Rattle.proof_tree.proofs.Parts.{nodes_within-some, nodes_within-higher}
use Rattle.proof_tree.proofs.Wholes.{Holds-whole, Follows-whole, records-whole}

-- the best value is that of the best point
value_is : (rows : WholeRows) (best : Option Incumbent) → IsKnown rows best → value_of_best best ≡ value_found rows (point_of_best best)
value_is rows None known = refl
value_is rows (Some best) known = ap Some known.1

-- the best point meets the rows
point_meets : (rows : WholeRows) (best : Option Incumbent) → IsKnown rows best → IfSome (point_of_best best) (Meets rows)
point_meets rows None known = tt
point_meets rows (Some best) known = known.0

-- it is best where a tree holds for it
best_holds : (rows : WholeRows) (best : Option (List ℤ)) (tree : Tree) → IsWithinLimits rows → IfSome best (Meets rows) → Holds rows (value_found rows best) [] tree → IsBestOf rows best
best_holds rows None tree limits meets holds = λ x met. none_is_shown rows x tree limits holds met
best_holds rows (Some x) tree limits meets holds = best_is_shown rows x tree limits meets holds

-- so many nodes are always enough
nodes_within-power : (w h : ℕ) → nodes_within w h ≤ (w + 2) ^ h
nodes_within-power w zero = omega (arith, pow-zero (w + 2))
nodes_within-power w (suc h) = omega (arith, pow-succ' (w + 2) h, mul-le-mul_left (w + 1) (nodes_within-power w h), nodes_within-some w h, nodes_within-power w h)

module _ (allows : WholeRows → List Slice → Option ℤ → Move → Type 0) (rows : WholeRows) (plain : Bool) (height nodes : ℕ) (walk : Walk) (part : PartTree) (best : Option (List ℤ)) (limits : IsWithinLimits rows) (w : Worked allows rows plain height nodes [] None walk part) (is : best ≡ point_of_best walk.best) where
  within_power : height ≤ 2 * length rows.box → nodes_within (widest rows.box) height ≤ (widest rows.box + 2) ^ (2 * length rows.box)
  within_power low = omega (arith, nodes_within-higher (widest rows.box) height (2 * length rows.box) low, nodes_within-power (widest rows.box) (2 * length rows.box))

  -- no node is open
  pub IsDone-from : height ≤ 2 * length rows.box → (tree : Tree) → IsWholeOf part tree → IsDone (allows rows) rows plain nodes tree best
  IsDone-from low tree whole =
      let value : value_of_best walk.best ≡ value_found rows best = value_is rows walk.best w.improved.known ∙ ap (value_found rows) (sym is) in
      let known : IfSome best (Meets rows) = rw is (point_meets rows walk.best w.improved.known) in
      let holds : Holds rows (value_found rows best) [] tree = Holds-whole rows (value_found rows best) [] part tree whole (rw value at w.holds) in
      record {
        known = known;
        holds = holds;
        follows = Follows-whole (allows rows) (value_found rows best) plain [] part tree whole (rw value at w.follows);
        counted = omega (arith, records-whole part tree whole, w.counted);
        few = omega (arith, records-whole part tree whole, w.few, within_power low);
        least = best_holds rows best tree limits known holds;
      }

  -- the budget is spent
  pub IsSpent-from : walk.unfinished ≡ true → height ≤ 2 * length rows.box → IsSpent (allows rows) rows plain nodes part best
  IsSpent-from more low =
      let value : value_of_best walk.best ≡ value_found rows best = value_is rows walk.best w.improved.known ∙ ap (value_found rows) (sym is) in
      let unfinished : 0 < open_runs part = w.told.0 more in
      record {
        known = rw is (point_meets rows walk.best w.improved.known);
        holds = rw value at w.holds;
        follows = rw value at w.follows;
        counted = omega (arith, w.counted, w.spent unfinished);
        unfinished = unfinished;
        few = omega (arith, w.counted, w.spent unfinished, w.few, within_power low);
      }
