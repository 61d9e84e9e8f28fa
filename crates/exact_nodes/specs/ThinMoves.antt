-- What makes a split thin: a gap of the root's equalities, or a direction of the node in the coordinates of a frame.
use Rattle.std.specs.Prelude.{◌≡◌, ◌<◌, ℤ, pos, ◌≤ℤ◌, List, [], length, Option}
use Rattle.whole_rows.specs.WholeRows.{WholeRows}
use Rattle.farkas_rows.specs.declared.path.Slice.{Slice}
use Rattle.node_point.specs.RationalPoints.{IsRationalPoint}
use Rattle.form_widths.specs.Directions.{IsDirection}
use Rattle.form_widths.specs.Slices.{AreSlices}
use Rattle.proof_tree.specs.declared.tree.Cut.{Cut}
use Rattle.spaces.specs.Maps.{pulled_form}
use Rattle.spaces.specs.Tables.{rows_in}
use Rattle.reformulate.specs.Gaps.{IsGap}
use Rattle.reformulate.specs.Substitutions.{Substitution, dimension_of}
use Rattle.reformulate.specs.declared.gap.Gap.{Gap}
use Rattle.presolve_map.specs.ReducedRows.{ReducedRows, IsReduced}
use Rattle.farkas_lift.specs.NodeEqualities.{node_equalities, work_form}
use Rattle.node_regions.specs.NodeFrames.{IsKeptForm, IsNodeFrame}
use Rattle.node_regions.specs.NodeRegions.{IsInNode}

-- Over the columns that presolving keeps the form is that of a gap of the root's equalities: whole times of them give so many
-- times the form as the gap's divisor says, and a side that the divisor does not divide. The next whole number above their
-- quotient is `lo`. In the other columns the form is 0.
pub record IsGapForm (rows : WholeRows) (form : List ℤ) (lo : ℤ) : Type 0 where
  pub work : ReducedRows
  pub presolved : IsReduced rows work
  pub gap : Gap
  pub shown : IsGap (length work.rows.box) (node_equalities work []) gap
  pub kept : IsKeptForm rows.box form
  pub same_form : work_form work form ≡ gap.form
  pub same_lo : lo ≡ gap.lo

-- a split of the root along such a form, without slices
pub record IsGapSplit (rows : WholeRows) (path : List Slice) (cut : Cut) : Type 0 where
  pub root : length path ≡ 0
  pub none : cut.count ≡ pos 0
  pub gap : IsGapForm rows cut.form cut.lo

-- A split of a node that has a reduced frame of its equalities, along a form on the columns that presolving keeps. In the
-- coordinates of the frame the form is a direction of the node. Its slices are exactly the whole numbers between two values that
-- it takes at rational points of the node.
pub record IsThinAlong (rows : WholeRows) (path : List Slice) (best : Option ℤ) (cut : Cut) : Type 0 where
  pub frame : Substitution
  pub of_node : IsNodeFrame rows path frame
  pub kept : IsKeptForm rows.box cut.form
  pub direction : IsDirection (IsInNode frame of_node.work best) (dimension_of frame) (rows_in frame.to_work.lines) (pulled_form frame.to_work (work_form of_node.work cut.form))
  pub slices : AreSlices (IsRationalPoint rows path best) cut.form cut.lo cut.count

-- one of the two
pub data IsThinBy (rows : WholeRows) (path : List Slice) (best : Option ℤ) (cut : Cut) : Type 0 where
  gap : IsGapSplit rows path cut → IsThinBy rows path best cut
  along : IsThinAlong rows path best cut → IsThinBy rows path best cut

-- A split that is marked thin is one of a gap or along a direction of a frame, and has slices only where the path has less
-- slices than there are columns.
pub record IsThinMove (rows : WholeRows) (path : List Slice) (best : Option ℤ) (cut : Cut) : Type 0 where
  pub short : pos 1 ≤ℤ cut.count → length path < length rows.box
  pub cause : IsThinBy rows path best cut
