-- A slice of a node with a frame: its form over the kept columns and on the coordinates, its frame, and its excuses.
use Rattle.std.proofs.Common.{◌≡◌, ◌+◌, ◌<◌, ℤ, ◌-ℤ◌, List, [], length, get_or, sym, ap, subst, ◌∙◌, arith, Result, Ok, Err}
use Rattle.std.specs.Prelude.{IfErr}
use Rattle.std.specs.Result.{IsErrAnd}
use Rattle.whole_rows.specs.WholeRows.{WholeRows}
use Rattle.farkas_rows.specs.declared.path.Slice.{Slice}
use Rattle.form_widths.specs.Widths.{IsPrimitive}
use Rattle.proof_tree.specs.Trees.{on_slice}
use Rattle.spaces.specs.Maps.{AffineMap, pulled_constant, pulled_form}
use Rattle.unimodular_pair.specs.Gathering.{IsGatheredPair, StopsAfter, common_divisor}
use Rattle.unimodular_pair.specs.Pairs.{Matrices}
use Rattle.unimodular_pair.specs.declared.step.Step.{Step}
use Rattle.reformulate.specs.Excuses.{StopsSo}
use Rattle.reformulate.specs.Slices.{IsSlice, SliceLeaves}
use Rattle.reformulate.specs.Substitutions.{IsSubstitution, Substitution, columns_of, dimension_of}
use Rattle.reformulate.specs.declared.outcome.FrameExcuse.{FrameExcuse}
use Rattle.reformulate.specs.declared.outcome.FrameExcuse.TheVariants as excuses
use Rattle.reformulate.specs.declared.outcome.FrameStop.{FrameStop}
use Rattle.reformulate.specs.declared.outcome.FrameStop.TheVariants as stops
use Rattle.presolve_map.specs.Columns.{IsColumnMap}
use Rattle.farkas_lift.specs.NodeEqualities.{work_form}
use Rattle.node_regions.specs.NodeFrames.{IsNodeFrame}
use Rattle.exact_nodes.specs.PathExcuses.{EqualityLeaves, IsExcusedSlice}
use Rattle.node_slices.specs.SliceNodes.{IsSlicedNode}
use Rattle.node_slices.proofs.NodeForms.{columns_of_work, many_factors, primitive_of_node, pulled-work}
use Rattle.node_slices.proofs.PrimitiveForms.{lowest, some_factor}
use Rattle.node_slices.proofs.SliceLaws.{excuse_of_completion, excuse_of_pair, excuse_of_values, frame_of_slice}

-- what follows of an excuse follows of a stop that is handed on
pub handed_on : {T : Type 0} (P Q : FrameExcuse → Type 0) (result : Result T FrameStop) (stop : FrameStop) → IsErrAnd result (λ error. error ≡ stop) → ((excuse : FrameExcuse) → P excuse → Q excuse) → StopsSo P stop → IfErr result (StopsSo Q)
handed_on P Q (Ok x) stop is step holds = absurd is
handed_on P Q (Err error) stop is step holds = by_stop error (subst (StopsSo P) (sym is) holds)
  where
    by_stop : (error : FrameStop) → StopsSo P error → StopsSo Q error
    by_stop (stops.Excuse excuse) holds = step excuse holds
    by_stop stops.NoMemory holds = tt

module _ (rows : WholeRows) (placing : AffineMap) (is_map : IsColumnMap rows.box placing) (s : Substitution) (form : List ℤ) (beta : ℤ) (w : List ℤ) (is_work : w ≡ pulled_form placing form) where
  module _ (path : List Slice) (node : IsSlicedNode rows s form beta path) where
    over_work : w ≡ work_form node.of_node.work form
    over_work = is_work ∙ pulled-work rows placing is_map form node.kept node.of_node.work node.of_node.presolved

    pub as_many_columns : length w ≡ columns_of s
    as_many_columns = ap (λ (l : List ℤ). length l) is_work ∙ columns_of_work rows placing is_map form node.kept path s node.of_node

    primitive : IsPrimitive (pulled_form s.to_work w)
    primitive = subst (λ (f : List ℤ). IsPrimitive (pulled_form s.to_work f)) (sym over_work) (primitive_of_node rows path s form node.of_node node.primitive)

    -- so the form on the coordinates is completed to a pair
    pub is_lowest : (kernel : List ℤ) → kernel ≡ pulled_form s.to_work w → common_divisor kernel ≡ 1
    is_lowest kernel is = ap common_divisor is ∙ lowest (pulled_form s.to_work w) primitive

    -- and the frame has a coordinate
    pub has_coordinate : IsSubstitution s → 0 < dimension_of s
    has_coordinate shaped = omega (arith, some_factor (pulled_form s.to_work w) primitive, many_factors s w shaped)

    pub is_framed : (t : Substitution) (first : List ℤ) (value : ℤ) → first ≡ pulled_form s.to_work w → value ≡ beta -ℤ pulled_constant s.to_work w → IsSlice s first value t → IsNodeFrame rows (on_slice path form beta) t × (dimension_of t + 1 ≡ dimension_of s)
    is_framed t first value is is_value slice =
        (frame_of_slice rows s form beta path node.of_node w over_work t value node.kept is_value (subst (λ (f : List ℤ). IsSlice s f value t) is slice), slice.dimension)

  -- each excuse holds at each path
  pub excused_before : (excuse : FrameExcuse) → (excuse ≡ excuses.Product []) × EqualityLeaves s (record { form = w; side = beta }) → (path : List Slice) → IsSlicedNode rows s form beta path → IsExcusedSlice rows path s (record { form = form; beta = beta }) excuse
  excused_before excuse leaves path node = excuse_of_values rows s form beta path node.of_node w (over_work path node) node.kept excuse leaves

  pub excused_there : (kernel : List ℤ) → kernel ≡ pulled_form s.to_work w → (excuse : FrameExcuse) → (steps : List Step) × (excuse ≡ excuses.Product steps) × StopsAfter kernel steps → (path : List Slice) → IsSlicedNode rows s form beta path → IsExcusedSlice rows path s (record { form = form; beta = beta }) excuse
  excused_there kernel is excuse stop path node = excuse_of_completion rows s form beta path node.of_node w (over_work path node) node.kept excuse kernel is stop

  pub excused_behind : (kernel : List ℤ) (pair : Matrices) (value : ℤ) → kernel ≡ pulled_form s.to_work w → value ≡ beta -ℤ pulled_constant s.to_work w → IsGatheredPair kernel pair → get_or pair.u 0 [] ≡ kernel → (excuse : FrameExcuse) → SliceLeaves s pair value excuse → (path : List Slice) → IsSlicedNode rows s form beta path → IsExcusedSlice rows path s (record { form = form; beta = beta }) excuse
  excused_behind kernel pair value is is_value gathered first excuse leaves path node =
      excuse_of_pair rows s form beta path node.of_node w (over_work path node) node.kept excuse kernel pair value is is_value gathered first leaves
