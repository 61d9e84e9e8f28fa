-- The nodes for which the places of the search stand.
use Rattle.std.proofs.Common.{◌≡◌, ℕ, ◌+◌, ◌-◌, ◌*◌, ◌^◌, ◌<◌, ◌≤◌, Bool, true, false, ℤ, List, [], ◌∷◌, ◌++◌, length, ap, arith}
use Rattle.std.specs.Prelude.{All, Option, None}
use Rattle.whole_rows.specs.WholeRows.{WholeRows, IsWithinLimits, span}
use Rattle.farkas_rows.specs.declared.path.Slice.{Slice}
use Rattle.farkas_rows.specs.Refutes.{HasForms}
use Rattle.proof_tree.specs.Moves.{ClosesUnder, IsNoHigher, IsValueOfPoint}
use Rattle.proof_tree.specs.Trees.{IsOfSize}
use Rattle.plain_slices.specs.Shut.{IsFixedBy}
use Rattle.presolve_map.specs.Roots.{IsClosedRoot}
use Rattle.reformulate.specs.Substitutions.{dimension_of}
use Rattle.node_regions.specs.NodeFrames.{IsNodeFrame}
use Rattle.root_gaps.specs.GapMoves.{IsGapMove}
use Rattle.root_gaps.specs.declared.outcome.GapMove.TheVariants as gap_moves
use Rattle.exact_nodes.specs.PathExcuses.{IsExcused, IsExcusedAbove}
use Rattle.slice_branch.specs.ExcusedPaths.{excused_lower, IsExcusedBySlice}
use Rattle.slice_branch.specs.declared.place.Node.{Node}
use Rattle.slice_branch.specs.declared.place.Place.{Place}
use Rattle.slice_branch.specs.declared.place.Place.TheVariants.{Settled, Framed, Plain}
use Rattle.slice_branch.specs.declared.place.Settled as kinds
use Rattle.slice_branch.specs.declared.place.Settled.TheVariants.{Closed, Gap}

-- The slices of a path keep the limits: a factor for each column, a weight of at most 2 to the power 96, and a value of at most
-- 2 to the power 98 in size.
pub record IsPathWithin (rows : WholeRows) (path : List Slice) : Type 0 where
  pub limits : IsWithinLimits rows
  pub forms : HasForms (length rows.box) path
  pub light : All (λ (slice : Slice). span slice.form rows.box ≤ 2 ^ 96) path
  pub values : All (λ (slice : Slice). IsOfSize (2 ^ 98) slice.beta) path

-- The slices behind the first `depth`, which are at most as many as there are columns, fix as many of the first columns as they
-- are.
pub record IsPlainFrom (rows : WholeRows) (depth : ℕ) (path : List Slice) : Type 0 where
  pub within : IsPathWithin rows path
  pub early : depth ≤ length rows.box
  pub behind : depth ≤ length path
  pub short : length path ≤ depth + length rows.box
  pub fixed : (column : ℕ) → column < length path - depth → IsFixedBy (length rows.box) path column

-- A node with a frame, of a root that is not closed. Each slice that leads to it took a coordinate, so that there are at most as many as columns.
pub record IsFramedPlace (rows : WholeRows) (node : Node) (path : List Slice) : Type 0 where
  pub within : IsPathWithin rows path
  pub not_closed : ¬ (IsClosedRoot rows)
  pub depth : length path ≡ node.depth
  pub of_node : IsNodeFrame rows path node.frame
  pub short : length path + dimension_of node.frame ≤ length rows.box

-- presolving closes the root, whose line refutes it whatever the best value is; or the split without slices is one of a gap of the root's equalities
abbrev pub IsSettledBy : WholeRows → kinds.Settled → Type 0
IsSettledBy rows (Closed line) = (¬ (¬ (IsClosedRoot rows))) × ((best : Option ℤ) → ClosesUnder rows best [] None line)
IsSettledBy rows (Gap cut) = (best : Option ℤ) → IsGapMove rows best (gap_moves.Split cut)

-- by its kind; the excuse of a node that is split by single columns holds of it, or of one above it
abbrev pub StandsAt : WholeRows → Place → List Slice → Option ℤ → Type 0
StandsAt rows (Settled move) path best = IsPathWithin rows path × (path ≡ []) × IsSettledBy rows move
StandsAt rows (Framed node) path best = IsFramedPlace rows node path
StandsAt rows (Plain node) path best = IsPlainFrom rows node.depth path × IsExcusedAbove rows path best node.excuse.value

-- under no best value, or under one that a point has
abbrev pub StandsFor : WholeRows → Place → List Slice → Option ℤ → Type 0
StandsFor rows place path best = IsValueOfPoint rows best × StandsAt rows place path best

-- how many slices may still be put on the path: none on that of a settled root, and else as many thin ones as there are columns, and then as many of single
-- columns
abbrev pub height_of : WholeRows → Place → List Slice → ℕ
height_of rows (Settled move) path = 0
height_of rows (Framed node) path = 2 * length rows.box - length path
height_of rows (Plain node) path = (node.depth + length rows.box) - length path

-- the node is split by single columns
abbrev pub is_plain_place : Place → Bool
is_plain_place (Settled move) = false
is_plain_place (Framed node) = false
is_plain_place (Plain node) = true

-- the place of a root: no slice leads to it, and the move or the frame is its own, or the excuse holds of it while no point is known
abbrev pub IsRootPlace : WholeRows → Place → Type 0
IsRootPlace rows (Settled move) = IsSettledBy rows move
IsRootPlace rows (Framed node) = (node.depth ≡ 0) × ¬ (IsClosedRoot rows) × IsNodeFrame rows [] node.frame × (dimension_of node.frame ≤ length rows.box)
IsRootPlace rows (Plain node) = (node.depth ≡ 0) × IsExcused rows [] None node.excuse.value

-- the place of a slice of a node with a frame: it has a frame of one coordinate less, or the excuse holds of this slice of the frame
abbrev pub IsSlicePlace : WholeRows → Node → List Slice → Slice → Place → Type 0
IsSlicePlace rows node path slice (Settled move) = ⊥
IsSlicePlace rows node path slice (Framed child) =
    (child.depth ≡ node.depth + 1) × IsNodeFrame rows (path ++ slice ∷ []) child.frame × (dimension_of child.frame + 1 ≡ dimension_of node.frame)
IsSlicePlace rows node path slice (Plain child) = (child.depth ≡ node.depth + 1) × IsExcusedBySlice rows path node.frame slice child.excuse.value

-- a place stands for a node under each lower best value that a point has
pub stands_under : (rows : WholeRows) (place : Place) (path : List Slice) (now before : Option ℤ) → IsValueOfPoint rows now → IsNoHigher now before → StandsFor rows place path before → StandsFor rows place path now
stands_under rows (Settled move) path now before value lower here = (value, here.1)
stands_under rows (Framed node) path now before value lower here = (value, here.1)
stands_under rows (Plain node) path now before value lower here = (value, (here.1.0, excused_lower rows path now before node.excuse.value lower here.1.1))

-- no path is longer than two slices for each column
pub path_is_short : (rows : WholeRows) (place : Place) (path : List Slice) (best : Option ℤ) → StandsFor rows place path best → length path + height_of rows place path ≤ 2 * length rows.box
path_is_short rows (Settled move) path best here = omega (arith, ap length here.1.1)
path_is_short rows (Framed node) path best here = let s = here.1.short in omega (arith, s)
path_is_short rows (Plain node) path best here = let s = here.1.0.short in let e = here.1.0.early in omega (arith, s, e)
