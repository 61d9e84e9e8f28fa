-- A node of a model with a frame of its equalities.
use Rattle.std.specs.Prelude.{◌≡◌, ℤ, ◌+ℤ◌, List, length, Option, All}
use Rattle.exact_math.specs.Rational.{ℚ, floor, ceil, ◌≤ℚ◌}
use Rattle.whole_rows.specs.WholeRows.{WholeRows, IsWithinLimits}
use Rattle.farkas_rows.specs.declared.path.Slice.{Slice}
use Rattle.farkas_rows.specs.Refutes.{HasForms}
use Rattle.node_point.specs.RationalPoints.{form_value}
use Rattle.spaces.specs.Maps.{pulled_constant, pulled_form}
use Rattle.reformulate.specs.Frames.{IsFrame}
use Rattle.reformulate.specs.Substitutions.{IsShaped, Substitution, columns_of}
use Rattle.presolve_map.specs.ReducedRows.{ReducedRows, IsReduced}
use Rattle.farkas_lift.specs.NodeEqualities.{node_equalities, work_form}
use Rattle.node_regions.specs.NodeFrames.{IsKeptForm}
use Rattle.node_regions.specs.NodeRegions.{IsInNode}

-- The rows keep the limits; presolving leaves the work rows of them; each slice that leads to the node has a factor for each column,
-- 0 in those that are removed; x0 + K y takes the whole y one to one onto the integer solutions of the node's equalities.
pub record FramedNode : Type 0 where
  pub model : WholeRows
  pub work : ReducedRows
  pub frame : Substitution
  pub path : List Slice
  pub cut : Option ℤ
  pub limits : IsWithinLimits model
  pub reduced : IsReduced model work
  pub forms : HasForms (length model.box) path
  pub kept : All (λ (slice : Slice). IsKeptForm model.box slice.form) path
  pub shaped : IsShaped frame
  pub columns : columns_of frame ≡ length work.rows.box
  pub framed : IsFrame (node_equalities work path) frame

-- a form on the coordinates is least at the first of two points of the node's region, and greatest at the second
pub record HasEnds (node : FramedNode) (form : List ℤ) (low high : List ℚ) : Type 0 where
  pub low_there : IsInNode node.frame node.work node.cut low
  pub high_there : IsInNode node.frame node.work node.cut high
  pub least : (y : List ℚ) → IsInNode node.frame node.work node.cut y → form_value form low ≤ℚ form_value form y
  pub greatest : (y : List ℚ) → IsInNode node.frame node.work node.cut y → form_value form y ≤ℚ form_value form high

-- the least whole value of a form over all columns at points of the node, from a point of the region at which it is least
abbrev pub first_slice : FramedNode → List ℤ → List ℚ → ℤ
first_slice node form low = ceil (form_value (pulled_form node.frame.to_work (work_form node.work form)) low) +ℤ pulled_constant node.frame.to_work (work_form node.work form)

-- the greatest one, from a point at which it is greatest
abbrev pub last_slice : FramedNode → List ℤ → List ℚ → ℤ
last_slice node form high = floor (form_value (pulled_form node.frame.to_work (work_form node.work form)) high) +ℤ pulled_constant node.frame.to_work (work_form node.work form)
