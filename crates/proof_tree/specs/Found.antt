-- What a search found.
use Rattle.std.specs.Prelude.{◌≡◌, ℕ, ◌+◌, ◌*◌, ◌^◌, ◌<◌, ◌≤◌, Bool, ℤ, List, [], length, Option, Some, None, IfSome}
use Rattle.std.specs.Option.{option_map}
use Rattle.whole_rows.specs.WholeRows.{WholeRows, Meets, HasLeastCutValue, cut_value}
use Rattle.farkas_rows.specs.declared.path.Slice.{Slice}
use Rattle.proof_tree.specs.declared.tree.Move.{Move}
use Rattle.proof_tree.specs.declared.tree.Tree.{Tree}
use Rattle.proof_tree.specs.declared.tree.PartTree.{PartTree}
use Rattle.proof_tree.specs.declared.tree.Searched.{Searched}
use Rattle.proof_tree.specs.declared.tree.Searched.TheVariants.{Done, Spent}
use Rattle.proof_tree.specs.Trees.{Holds}
use Rattle.proof_tree.specs.PartTrees.{HoldsPart}
use Rattle.proof_tree.specs.Counts.{records, records_of_part, open_runs}
use Rattle.proof_tree.specs.Moves.{widest}
use Rattle.proof_tree.specs.Follows.{Follows, FollowsPart}

-- the cut value of the best point that was found
abbrev pub value_found : WholeRows → Option (List ℤ) → Option ℤ
value_found rows best = option_map (cut_value rows) best

-- no point is better than this one, or none is there
abbrev pub IsBestOf : WholeRows → Option (List ℤ) → Type 0
IsBestOf rows None = (x : List ℤ) → Meets rows x → ⊥
IsBestOf rows (Some x) = HasLeastCutValue rows x

-- The tree holds for the best point that was found, and each of its nodes was worked by a move that was allowed there. They are at most as many as
-- the budget, and as are always enough.
pub record IsDone (allows : List Slice → Option ℤ → Move → Type 0) (rows : WholeRows) (plain : Bool) (nodes : ℕ) (tree : Tree) (best : Option (List ℤ)) : Type 0 where
  pub known : IfSome best (Meets rows)
  pub holds : Holds rows (value_found rows best) [] tree
  pub follows : Follows allows (value_found rows best) plain [] tree
  pub counted : records tree ≤ nodes
  pub few : records tree ≤ (widest rows.box + 2) ^ (2 * length rows.box)
  pub least : IsBestOf rows best

-- The same as far as the nodes of the budget go, each of which was worked, while some node is open. The budget is then below
-- the number of nodes that is always enough.
pub record IsSpent (allows : List Slice → Option ℤ → Move → Type 0) (rows : WholeRows) (plain : Bool) (nodes : ℕ) (part : PartTree) (best : Option (List ℤ)) : Type 0 where
  pub known : IfSome best (Meets rows)
  pub holds : HoldsPart rows (value_found rows best) [] part
  pub follows : FollowsPart allows (value_found rows best) plain [] part
  pub counted : records_of_part part ≡ nodes
  pub unfinished : 0 < open_runs part
  pub few : nodes < (widest rows.box + 2) ^ (2 * length rows.box)

-- by cases
abbrev pub IsFound : (List Slice → Option ℤ → Move → Type 0) → WholeRows → Bool → ℕ → Searched → Type 0
IsFound allows rows plain nodes (Done tree best) = IsDone allows rows plain nodes tree best
IsFound allows rows plain nodes (Spent part best) = IsSpent allows rows plain nodes part best
