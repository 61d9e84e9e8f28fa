-- The slices of a node with a frame, and their frames.
use Rattle.std.specs.Prelude.{◌≡◌, ◌+◌, ◌≤◌, ◌^◌, ℤ, List}
use Rattle.whole_rows.specs.WholeRows.{WholeRows, span}
use Rattle.farkas_rows.specs.declared.path.Slice.{Slice}
use Rattle.form_widths.specs.Widths.{IsPrimitive}
use Rattle.proof_tree.specs.Trees.{IsOfSize, on_slice}
use Rattle.spaces.specs.Maps.{pulled_form}
use Rattle.reformulate.specs.Substitutions.{Substitution, dimension_of}
use Rattle.farkas_lift.specs.NodeEqualities.{work_form}
use Rattle.node_regions.specs.NodeFrames.{IsKeptForm, IsNodeFrame}
use Rattle.exact_nodes.specs.PathExcuses.{IsExcusedSlice}
use Rattle.node_slices.specs.declared.outcome.SliceFrame.{SliceFrame}
use Rattle.node_slices.specs.declared.outcome.SliceFrame.TheVariants.{Framed, Excused}

-- in the coordinates of some frame of the node, the form is primitive
pub record IsPrimitiveThere (rows : WholeRows) (path : List Slice) (form : List ℤ) : Type 0 where
  pub frame : Substitution
  pub of_node : IsNodeFrame rows path frame
  pub primitive : IsPrimitive (pulled_form frame.to_work (work_form of_node.work form))

-- The frame is one of the node, and a slice of it is the points at which the form has the value: a form on the columns that presolving keeps, which weighs at
-- most 2 to the power 96 and is primitive in the coordinates of the node.
pub record IsSlicedNode (rows : WholeRows) (frame : Substitution) (form : List ℤ) (value : ℤ) (path : List Slice) : Type 0 where
  pub of_node : IsNodeFrame rows path frame
  pub kept : IsKeptForm rows.box form
  pub primitive : IsPrimitiveThere rows path form
  pub light : span form rows.box ≤ 2 ^ 96
  pub size : IsOfSize (2 ^ 98) value

-- a frame of the slice's node, of one coordinate less, or an excuse that holds of this slice of the frame
abbrev pub IsSliceAnswer : WholeRows → Substitution → List ℤ → ℤ → List Slice → SliceFrame → Type 0
IsSliceAnswer rows frame form value path (Framed sliced) = IsNodeFrame rows (on_slice path form value) sliced.frame × (dimension_of sliced.frame + 1 ≡ dimension_of frame)
IsSliceAnswer rows frame form value path (Excused excuse) = IsExcusedSlice rows path frame (record { form = form; beta = value }) excuse
