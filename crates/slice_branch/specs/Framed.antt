-- What is done at a node of the search, and why.
use Rattle.std.specs.Prelude.{◌≡◌, ℤ, List, Option, None}
use Rattle.whole_rows.specs.WholeRows.{WholeRows}
use Rattle.farkas_rows.specs.declared.path.Slice.{Slice}
use Rattle.proof_tree.specs.declared.tree.Cut.{Cut}
use Rattle.proof_tree.specs.declared.tree.Mark.{Mark}
use Rattle.proof_tree.specs.declared.tree.Mark.TheVariants.{Thin, Plain}
use Rattle.proof_tree.specs.declared.tree.Move.{Move}
use Rattle.proof_tree.specs.declared.tree.Move.TheVariants.{Close, Split, Point}
use Rattle.proof_tree.specs.Moves.{ClosesUnder, SplitsUnder, Improves, IsValueOfPoint}
use Rattle.plain_slices.specs.PlainMoves.{IsPlainMove}
use Rattle.reformulate.specs.Substitutions.{Substitution}
use Rattle.exact_nodes.specs.PathExcuses.{IsExcusedIn}
use Rattle.exact_nodes.specs.ThinMoves.{IsThinMove}
use Rattle.slice_branch.specs.ExcusedPaths.{IsExcusedPath}
use Rattle.slice_branch.specs.declared.exact.Tried.{Tried}
use Rattle.slice_branch.specs.declared.exact.Tried.TheVariants as tried

-- the node is closed by a line that refutes it, split with both ends refuted, or has a better point
abbrev pub IsFramedMove : WholeRows → List Slice → Option ℤ → Move → Type 0
IsFramedMove rows path best (Close line) = ClosesUnder rows best path None line
IsFramedMove rows path best (Split cut) = SplitsUnder rows best path cut × IsThinMove rows path best cut × (cut.mark ≡ Thin)
IsFramedMove rows path best (Point x) = Improves rows best path x

-- such a move, or an excuse of the node in this frame
abbrev pub IsTried : WholeRows → List Slice → Option ℤ → Substitution → Tried → Type 0
IsTried rows path best frame (tried.Moved move) = IsFramedMove rows path best move
IsTried rows path best frame (tried.Excused excuse) = IsExcusedIn rows path best frame excuse

-- By its mark, a split is a thin one, by a gap or along a direction of a frame, or it is by the values of a single column, and then the node has an excuse
-- or one above it.
abbrev pub IsMarked : WholeRows → List Slice → Option ℤ → Cut → Mark → Type 0
IsMarked rows path best cut Thin = IsThinMove rows path best cut
IsMarked rows path best cut Plain = IsPlainMove rows path best cut × IsExcusedPath rows path best

-- the moves that the search by reformulation makes; a split is one under no best value, or under one that a point has
abbrev pub IsAllowed : WholeRows → List Slice → Option ℤ → Move → Type 0
IsAllowed rows path best (Close line) = ClosesUnder rows best path None line
IsAllowed rows path best (Split cut) = SplitsUnder rows best path cut × IsMarked rows path best cut cut.mark × IsValueOfPoint rows best
IsAllowed rows path best (Point x) = Improves rows best path x
