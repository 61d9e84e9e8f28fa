-- The form of a slice over the columns that presolving keeps, and on the coordinates of a frame of the node.
use Rattle.std.proofs.Common.{◌≡◌, ℕ, ℤ, List, length, refl, sym, ap, subst, ◌∙◌}
use Rattle.std.proofs.lemmas.List.{length-map}
use Rattle.std.proofs.lemmas.Slice.Zip.{AllZip-long}
use Rattle.exact_math.specs.Ring.{integers}
use Rattle.exact_vectors.specs.MatrixLaws as Matrix
use Rattle.whole_rows.specs.declared.bounds.Bounds.{Bounds}
use Rattle.whole_rows.specs.WholeRows.{WholeRow, WholeRows}
use Rattle.farkas_rows.specs.declared.path.Slice.{Slice}
use Rattle.form_widths.specs.Widths.{IsPrimitive}
use Rattle.spaces.specs.Maps.{AffineMap, pulled_form}
use Rattle.spaces.specs.TableLaws.{HasWidth-rows_in}
use Rattle.spaces.specs.Tables.{rows_in}
use Rattle.reformulate.specs.Charts.{chart_of}
use Rattle.reformulate.specs.Frames.{IsReachedFrame}
use Rattle.reformulate.specs.Substitutions.{IsSubstitution, Substitution, columns_of, dimension_of}
use Rattle.reformulate.specs.declared.equality.Equality.{Equality}
use Rattle.presolve_map.specs.Columns.{IsColumnMap, removed_value}
use Rattle.presolve_map.specs.ReducedRows.{IsReduced, ReducedRows}
use Rattle.presolve_map.proofs.KeptLaws.{length-kept}
use Rattle.farkas_lift.specs.NodeEqualities.{node_equalities, work_form}
use Rattle.node_regions.specs.NodeFrames.{IsKeptForm, IsNodeFrame}
use Rattle.node_regions.specs.KeptFormLaws.{pulled-kept, work_form-kept}
use Rattle.node_slices.specs.SliceNodes.{IsPrimitiveThere}
use Rattle.node_slices.proofs.FrameCharts.{chart_of_frame}
use Rattle.node_slices.proofs.PrimitiveForms.{primitive_here}

-- ---- what presolving leaves is determined

reduced_rows : List Bounds → List WholeRow → List ℤ → List ℕ → List ℕ → ℤ → ReducedRows
reduced_rows box rows cost row_numbers column_numbers constant = record {
  rows = record { box = box; rows = rows; cost = cost };
  row_numbers = row_numbers;
  column_numbers = column_numbers;
  cost_constant = constant;
}

reduced_unique : (rows : WholeRows) (a b : ReducedRows) → IsReduced rows a → IsReduced rows b → a ≡ b
unfolding reduced_rows
reduced_unique rows a b h k =
    ap (λ (l : List Bounds). reduced_rows l a.rows.rows a.rows.cost a.row_numbers a.column_numbers a.cost_constant) (h.box ∙ sym k.box)
    ∙ ap (λ (l : List WholeRow). reduced_rows b.rows.box l a.rows.cost a.row_numbers a.column_numbers a.cost_constant) (h.rows ∙ sym k.rows)
    ∙ ap (λ (l : List ℤ). reduced_rows b.rows.box b.rows.rows l a.row_numbers a.column_numbers a.cost_constant) (h.cost ∙ sym k.cost)
    ∙ ap (λ (l : List ℕ). reduced_rows b.rows.box b.rows.rows b.rows.cost l a.column_numbers a.cost_constant) (h.row_numbers ∙ sym k.row_numbers)
    ∙ ap (λ (l : List ℕ). reduced_rows b.rows.box b.rows.rows b.rows.cost b.row_numbers l a.cost_constant) (h.column_numbers ∙ sym k.column_numbers)
    ∙ ap (λ (z : ℤ). reduced_rows b.rows.box b.rows.rows b.rows.cost b.row_numbers b.column_numbers z) (h.cost_constant ∙ sym k.cost_constant)

-- ---- over the kept columns

module _ (rows : WholeRows) (placing : AffineMap) (is_map : IsColumnMap rows.box placing) (form : List ℤ) (kept_form : IsKeptForm rows.box form) where
  dense : length form ≡ length rows.box
  dense = AllZip-long _ _ _ kept_form

  -- it has an item for each line of the map
  pub as_many : length form ≡ length placing.base
  as_many = dense ∙ sym (ap (λ (l : List ℤ). length l) is_map.base ∙ length-map rows.box removed_value)

  -- pulled back along the map, it is what stands over the kept columns
  pub pulled-work : (work : ReducedRows) → IsReduced rows work → pulled_form placing form ≡ work_form work form
  pulled-work work presolved = pulled-kept rows.box placing form is_map dense ∙ sym (work_form-kept rows work form presolved dense)

  pub columns_of_work : (path : List Slice) (s : Substitution) → IsNodeFrame rows path s → length (pulled_form placing form) ≡ columns_of s
  columns_of_work path s h =
      ap (λ (l : List ℤ). length l) (pulled-kept rows.box placing form is_map dense) ∙ length-kept rows.box form dense
      ∙ sym (h.reached.columns ∙ ap (λ (l : List Bounds). length l) h.presolved.box ∙ length-kept rows.box rows.box refl)

-- ---- on the coordinates

pub many_factors : (s : Substitution) (w : List ℤ) → IsSubstitution s → length (pulled_form s.to_work w) ≡ dimension_of s
many_factors s w h = Matrix.length-combination integers (dimension_of s) w (rows_in s.to_work.lines) (HasWidth-rows_in s.to_work.lines h.shaped.size_lines)

-- Where the form is primitive in the coordinates of some frame of the node, it is so in those of this one.
pub primitive_of_node : (rows : WholeRows) (path : List Slice) (s : Substitution) (form : List ℤ) → (h : IsNodeFrame rows path s) → IsPrimitiveThere rows path form → IsPrimitive (pulled_form s.to_work (work_form h.work form))
primitive_of_node rows path s form h there =
    let same : there.of_node.work ≡ h.work = reduced_unique rows there.of_node.work h.work there.of_node.presolved h.presolved in
    let n : ℕ = length h.work.rows.box in
    let equalities : List Equality = node_equalities h.work path in
    let other : IsReachedFrame n equalities there.frame = subst (λ (work : ReducedRows). IsReachedFrame (length work.rows.box) (node_equalities work path) there.frame) same there.of_node.reached in
    primitive_here n (dimension_of s) (dimension_of there.frame) equalities (chart_of s) (chart_of there.frame)
    (chart_of_frame n equalities s h.reached) (chart_of_frame n equalities there.frame other) (work_form h.work form)
    (subst (λ (work : ReducedRows). IsPrimitive (pulled_form there.frame.to_work (work_form work form))) same there.primitive)
