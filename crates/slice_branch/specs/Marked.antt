-- Trees whose splits are marked by what they are.
use Rattle.std.specs.Prelude.{Bool, ℤ, [], Option}
use Rattle.whole_rows.specs.WholeRows.{WholeRows}
use Rattle.proof_tree.specs.declared.tree.Tree.{Tree}
use Rattle.proof_tree.specs.declared.tree.PartTree.{PartTree}
use Rattle.proof_tree.specs.Follows.{Follows, FollowsPart}
use Rattle.slice_branch.specs.Framed.{IsAllowed}

-- Each node was closed or split by a move that is allowed there under no best value, or under one that a point has and that `last` is no higher than. A split that is marked thin is by a gap of
-- the root's equalities, or along a direction of a frame of the node. A split that is marked plain is by the values of a single column, and below it there are
-- only such; it has a cause: an excuse that holds of its node or of one above it, under no best value or one that a point has and that is not lower.
abbrev pub IsMarkedTree : WholeRows → Option ℤ → Tree → Type 0
IsMarkedTree rows last tree = (plain : Bool) × Follows (IsAllowed rows) last plain [] tree

-- so was each node of a part that was worked
abbrev pub IsMarkedPart : WholeRows → Option ℤ → PartTree → Type 0
IsMarkedPart rows last part = (plain : Bool) × FollowsPart (IsAllowed rows) last plain [] part
