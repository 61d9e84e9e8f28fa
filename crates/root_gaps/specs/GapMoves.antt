-- The moves of a root whose equalities have a gap.
use Rattle.std.specs.Prelude.{◌≡◌, ℤ, [], Option}
use Rattle.whole_rows.specs.WholeRows.{WholeRows}
use Rattle.proof_tree.specs.Moves.{SplitsUnder}
use Rattle.proof_tree.specs.declared.tree.Mark.TheVariants.{Thin}
use Rattle.exact_nodes.specs.PathExcuses.{IsExcused}
use Rattle.exact_nodes.specs.ThinMoves.{IsGapSplit}
use Rattle.root_gaps.specs.declared.outcome.GapMove.{GapMove}
use Rattle.root_gaps.specs.declared.outcome.GapMove.TheVariants.{Split, Excused}

-- a split without slices along a form of the gap, or an excuse that holds of the root
abbrev pub IsGapMove : WholeRows → Option ℤ → GapMove → Type 0
IsGapMove rows best (Split cut) = SplitsUnder rows best [] cut × IsGapSplit rows [] cut × (cut.mark ≡ Thin)
IsGapMove rows best (Excused excuse) = IsExcused rows [] best excuse
