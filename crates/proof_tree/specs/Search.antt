-- What a search carries from node to node, and what it found.
use Rattle.std.specs.Prelude.{◌≡◌, ℕ, ◌+◌, ◌<◌, ◌≤◌, ◌↔◌, Bool, IsTrue, ℤ, pos, List, Option, IfSome}
use Rattle.std.specs.Option.{option_map}
use Rattle.whole_rows.specs.WholeRows.{WholeRows, Meets, cut_value}
use Rattle.farkas_rows.specs.declared.path.Slice.{Slice}
use Rattle.proof_tree.specs.declared.tree.Move.{Move}
use Rattle.proof_tree.specs.declared.tree.Move.TheVariants.{Close, Split}
use Rattle.proof_tree.specs.declared.walk.Incumbent.{Incumbent}
use Rattle.proof_tree.specs.declared.walk.Walk.{Walk}
use Rattle.proof_tree.specs.declared.walk.Settled.{Settled}
use Rattle.proof_tree.specs.declared.walk.Settled.TheVariants as settled
use Rattle.proof_tree.specs.declared.tree.PartTree.{PartTree}
use Rattle.proof_tree.specs.PartTrees.{width, HoldsPart}
use Rattle.proof_tree.specs.Counts.{records_of_part, open_runs, nodes_within}
use Rattle.proof_tree.specs.Moves.{IsNoHigher, IsMove, widest}
use Rattle.proof_tree.specs.Follows.{FollowsPart}

-- the cut value of the best point
abbrev pub value_of_best : Option Incumbent → Option ℤ
value_of_best best = option_map (λ (best : Incumbent). best.value) best

-- the best point alone
abbrev pub point_of_best : Option Incumbent → Option (List ℤ)
point_of_best best = option_map (λ (best : Incumbent). best.point) best

-- the point meets the rows, and its value is its cut value
abbrev pub IsKnown : WholeRows → Option Incumbent → Type 0
IsKnown rows best = IfSome best (λ (best : Incumbent). Meets rows best.point × (best.value ≡ cut_value rows best.point))

-- the best point is one of the rows, and no worse than the one before
pub record Improved (rows : WholeRows) (before after : Option Incumbent) : Type 0 where
  pub known : IsKnown rows after
  pub falls : IsNoHigher (value_of_best after) (value_of_best before)

-- the move that settled the node
abbrev pub move_of : Settled → Move
move_of (settled.Closed line) = Close line
move_of (settled.Split cut) = Split cut

module _ {Place : Type 0} (stands : WholeRows → Place → List Slice → Option ℤ → Type 0) (height : WholeRows → Place → List Slice → ℕ) (is_plain : Place → Bool) where
  -- the place still stands for the node, and only the best point has changed
  pub record StaysAt (rows : WholeRows) (before after : Place) (from to : Walk) : Type 0 where
    pub path : to.path ≡ from.path
    pub left : to.left ≡ from.left
    pub unfinished : to.unfinished ≡ from.unfinished
    pub best : Improved rows from.best to.best
    pub here : stands rows after from.path (value_of_best to.best)
    pub lower : height rows after from.path ≤ height rows before from.path
    pub plain : IsTrue (is_plain before) → IsTrue (is_plain after)

  -- the move is one of the node, and is allowed there
  pub record Settles (allows : WholeRows → List Slice → Option ℤ → Move → Type 0) (rows : WholeRows) (path : List Slice) (best : Option ℤ) (place : Place) (move : Move) : Type 0 where
    pub chosen : IsMove rows path best (height rows place path) (is_plain place) move
    pub allowed : allows rows path best move

-- A node and all below it were worked, as far as the budget went: the part holds for the best point that is now known, its nodes
-- were taken from the budget, and some node of it is open only where nothing is left of the budget.
pub record Worked (allows : WholeRows → List Slice → Option ℤ → Move → Type 0) (rows : WholeRows) (above : Bool) (height : ℕ) (budget : ℕ) (path : List Slice) (best : Option Incumbent) (to : Walk) (part : PartTree) : Type 0 where
  pub same_path : to.path ≡ path
  pub improved : Improved rows best to.best
  pub holds : HoldsPart rows (value_of_best to.best) path part
  pub single : width part ≡ pos 1
  pub follows : FollowsPart (allows rows) (value_of_best to.best) above path part
  pub counted : records_of_part part + to.left ≡ budget
  pub spent : 0 < open_runs part → to.left ≡ 0
  pub told : IsTrue to.unfinished ↔ 0 < open_runs part
  pub few : records_of_part part + open_runs part ≤ nodes_within (widest rows.box) height
