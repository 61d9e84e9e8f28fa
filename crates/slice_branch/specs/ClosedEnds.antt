-- Forms whose two ends are closed.
use Rattle.std.specs.Prelude.{◌+◌, ◌^◌, ℤ, pos, ◌+ℤ◌, ◌≤ℤ◌, List, Option, Some}
use Rattle.whole_rows.specs.WholeRows.{WholeRows}
use Rattle.farkas_rows.specs.declared.path.Slice.{Slice}
use Rattle.farkas_rows.specs.Inequalities.{below, above}
use Rattle.proof_tree.specs.Trees.{IsOfSize, IsSplitForm}
use Rattle.proof_tree.specs.Moves.{widest, ClosesUnder}
use Rattle.node_search.specs.declared.directions.ends.Direction.{Direction}

-- the form is one of a split, and its lines close the ends below its first value and above its last
pub record HasClosedEnds (rows : WholeRows) (best : Option ℤ) (path : List Slice) (direction : Direction) : Type 0 where
  pub form : IsSplitForm rows direction.form
  pub lo : IsOfSize (2 ^ 97) direction.lo
  pub some : pos 0 ≤ℤ direction.count
  pub narrow : direction.count ≤ℤ pos (widest rows.box + 1)
  pub below : ClosesUnder rows best path (Some (below direction.form direction.lo)) direction.below
  pub above : ClosesUnder rows best path (Some (above direction.form (direction.lo +ℤ direction.count))) direction.above
