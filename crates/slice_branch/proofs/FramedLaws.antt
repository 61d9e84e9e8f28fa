-- The nodes that have frames, and the splits along their directions.
use Rattle.std.proofs.Common.{◌≡◌, ℕ, zero, suc, ◌+◌, ◌<◌, ◌≤◌, Bool, true, false, not, ℤ, pos, List, [], ◌∷◌, length, slice_index_or, refl, sym, ap, subst, ◌∙◌, arith}
use Rattle.std.specs.Prelude.{Option}
use Rattle.std.specs.Ordering.{int_eq}
use Rattle.std.proofs.lemmas.Bool.Decides.{Decides-int_eq}
use Rattle.std.proofs.lemmas.List.Elements.{All-weaker}
use Rattle.whole_rows.specs.declared.bounds.Bounds.{Bounds}
use Rattle.whole_rows.specs.WholeRows.{WholeRow, WholeRows}
use Rattle.farkas_rows.specs.declared.path.Slice.{Slice}
use Rattle.farkas_rows.specs.Refutes.{HasForms}
use Rattle.proof_tree.specs.declared.tree.Cut.{Cut}
use Rattle.form_widths.specs.Directions.{IsDirection}
use Rattle.form_widths.specs.Slices.{AreSlices}
use Rattle.node_point.specs.RationalPoints.{IsRationalPoint}
use Rattle.spaces.specs.Maps.{pulled_form}
use Rattle.spaces.specs.Tables.{rows_in}
use Rattle.reformulate.specs.Frames.{IsReachedFrame}
use Rattle.reformulate.specs.Substitutions.{Substitution, dimension_of}
use Rattle.presolve_map.specs.LiftedLines.{IsOverKept}
use Rattle.presolve_map.specs.ReducedRows.{ReducedRows, IsReduced}
use Rattle.presolve_map.specs.Columns.{is_open, kept}
use Rattle.presolve_map.proofs.KeptLaws.{columns_le, length-kept}
use Rattle.farkas_lift.specs.NodeEqualities.{node_equalities, work_form}
use Rattle.node_regions.specs.NodeFrames.{IsKeptForm, IsNodeFrame}
use Rattle.node_regions.specs.NodeRegions.{IsInNode}
use Rattle.node_lines.specs.NodeSystems.{IsFramedNode}
use Rattle.exact_nodes.specs.ExactMoves.{IsNodeOf}
use Rattle.exact_nodes.specs.NodeExcuses.{IsExcusedBy}
use Rattle.exact_nodes.specs.PathExcuses.{IsExcusedIn}
use Rattle.exact_nodes.specs.ThinMoves.{IsThinAlong, IsThinMove}
use Rattle.exact_nodes.specs.ThinMoves.IsThinBy.{along}
use Rattle.exact_nodes.specs.declared.excuse.Excuse.{Excuse}
use Rattle.slice_branch.proofs.DimensionLaws.{dimension_few, some_coordinate}

-- ---- work columns

-- a column that is removed has one value
closed_same : (b : Bounds) → is_open b ≡ false → b.low ≡ b.high
closed_same b closed = (Decides-int_eq b.low b.high).0 (negated (int_eq b.low b.high) closed) where
  negated : (flag : Bool) → not flag ≡ false → flag ≡ true
  negated true e = refl
  negated false e = sym e

-- so a form on the columns that are kept is 0 there
kept_zero : (box : List Bounds) (form : List ℤ) (d : Bounds) (column : ℕ) → IsKeptForm box form → column < length box → is_open (slice_index_or box column d) ≡ false → slice_index_or form column (pos 0) ≡ pos 0
kept_zero [] form d column kept_form there closed = absurd (omega arith)
kept_zero (b ∷ box) [] d column kept_form there closed = absurd kept_form
kept_zero (b ∷ box) (a ∷ form) d zero kept_form there closed = kept_form.0 (closed_same b closed)
kept_zero (b ∷ box) (a ∷ form) d (suc column) kept_form there closed = kept_zero box form d column kept_form.1 (omega arith) closed

over_kept : (rows : WholeRows) (form : List ℤ) → IsKeptForm rows.box form → IsOverKept rows form
over_kept rows form kept_form column there closed = kept_zero rows.box form _ column kept_form there closed

-- presolving leaves one thing
rows_from : (a b : WholeRows) → a.box ≡ b.box → a.rows ≡ b.rows → a.cost ≡ b.cost → a ≡ b
rows_from a b box rows cost =
    ap (λ (l : List Bounds). record { box = l; rows = a.rows; cost = a.cost }) box
    ∙ ap (λ (l : List WholeRow). record { box = b.box; rows = l; cost = a.cost }) rows
    ∙ ap (λ (l : List ℤ). record { box = b.box; rows = b.rows; cost = l }) cost

reduced_from : (a b : ReducedRows) → a.rows ≡ b.rows → a.row_numbers ≡ b.row_numbers → a.column_numbers ≡ b.column_numbers → a.cost_constant ≡ b.cost_constant → a ≡ b
reduced_from a b rows row_numbers column_numbers cost_constant =
    ap (λ (r : WholeRows). record { rows = r; row_numbers = a.row_numbers; column_numbers = a.column_numbers; cost_constant = a.cost_constant }) rows
    ∙ ap (λ (l : List ℕ). record { rows = b.rows; row_numbers = l; column_numbers = a.column_numbers; cost_constant = a.cost_constant }) row_numbers
    ∙ ap (λ (l : List ℕ). record { rows = b.rows; row_numbers = b.row_numbers; column_numbers = l; cost_constant = a.cost_constant }) column_numbers
    ∙ ap (λ (c : ℤ). record { rows = b.rows; row_numbers = b.row_numbers; column_numbers = b.column_numbers; cost_constant = c }) cost_constant

pub same_work : (rows : WholeRows) (a b : ReducedRows) → IsReduced rows a → IsReduced rows b → a ≡ b
same_work rows a b x y =
    reduced_from a b (rows_from a.rows b.rows (x.box ∙ sym y.box) (x.rows ∙ sym y.rows) (x.cost ∙ sym y.cost)) (x.row_numbers ∙ sym y.row_numbers) (x.column_numbers ∙ sym y.column_numbers) (x.cost_constant ∙ sym y.cost_constant)

-- ---- frames

-- the frame of a root has at most a coordinate for each column
pub root_dimension : (rows : WholeRows) (work : ReducedRows) (frame : Substitution) → IsReduced rows work → IsReachedFrame (length work.rows.box) (node_equalities work []) frame → dimension_of frame ≤ length rows.box
root_dimension rows work frame reduced reached =
    let few = dimension_few (length work.rows.box) (node_equalities work []) frame reached in
    let columns : length work.rows.box ≡ length (kept rows.box rows.box) = ap length reduced.box in
    omega (arith, few, columns, length-kept rows.box rows.box refl, columns_le rows.box)

module _ (rows : WholeRows) (path : List Slice) (frame : Substitution) (node : IsNodeFrame rows path frame) where
  -- where a node has a direction, in whatever frame of it, less slices lead to it than there are columns
  pub thin_short : (best : Option ℤ) (cut : Cut) → length path + dimension_of frame ≤ length rows.box → IsThinAlong rows path best cut → length path < length rows.box
  thin_short best cut few thin =
      let same = same_work rows thin.of_node.work node.work thin.of_node.presolved node.presolved in
      let other : IsReachedFrame (length node.work.rows.box) (node_equalities node.work path) thin.frame = subst (λ (w : ReducedRows). IsReachedFrame (length w.rows.box) (node_equalities w path) thin.frame) same thin.of_node.reached in
      let some = some_coordinate (node_equalities node.work path) frame thin.frame node.reached.frame other.frame (other.columns ∙ sym node.reached.columns) thin.direction.some in
      omega (arith, some, few)

  pub thin_move : (best : Option ℤ) (cut : Cut) → length path + dimension_of frame ≤ length rows.box → IsThinAlong rows path best cut → IsThinMove rows path best cut
  thin_move best cut few thin = record { short = λ some. thin_short best cut few thin; cause = along thin }

  module _ (work : ReducedRows) (presolved : IsReduced rows work) where
    same : node.work ≡ work
    same = same_work rows node.work work node.presolved presolved

    -- the node over the work rows that a brancher keeps
    pub node_of : HasForms (length rows.box) path → IsNodeOf rows work frame path
    node_of forms = record { of_node = node; same_work = same; forms = forms }

    pub framed_node : HasForms (length rows.box) path → IsFramedNode rows work frame path
    framed_node forms =
        subst (λ (w : ReducedRows). IsFramedNode rows w frame path) same (record {
          reduced = node.presolved;
          columns = node.reached.columns;
          is_frame = node.reached.frame;
          forms = forms;
          kept = All-weaker (λ (slice : Slice). IsKeptForm rows.box slice.form) (λ (slice : Slice). IsOverKept rows slice.form) (λ slice h. over_kept rows slice.form h) path node.kept;
        })

    -- a split into exact slices along a direction is thin
    pub thin_along : (best : Option ℤ) (cut : Cut) → IsKeptForm rows.box cut.form → AreSlices (IsRationalPoint rows path best) cut.form cut.lo cut.count
        → IsDirection (IsInNode frame work best) (dimension_of frame) (rows_in frame.to_work.lines) (pulled_form frame.to_work (work_form work cut.form)) → IsThinAlong rows path best cut
    thin_along best cut kept_form slices direction = record {
      frame = frame;
      of_node = node;
      kept = kept_form;
      direction = subst (λ (w : ReducedRows). IsDirection (IsInNode frame w best) (dimension_of frame) (rows_in frame.to_work.lines) (pulled_form frame.to_work (work_form w cut.form))) (sym same) direction;
      slices = slices;
    }

    -- an excuse of the node in its frame
    pub excused_there : (best : Option ℤ) (excuse : Excuse) → IsExcusedBy rows path best frame work excuse → IsExcusedIn rows path best frame excuse
    excused_there best excuse h = record { of_node = node; excused = subst (λ (w : ReducedRows). IsExcusedBy rows path best frame w excuse) (sym same) h }
