-- Forms over the columns that presolving keeps, lifted to all columns.
use Rattle.std.proofs.Common.{◌≡◌, ℕ, suc, ◌+◌, ◌<◌, Bool, true, false, not, ℤ, pos, List, [], ◌∷◌, length, drop, refl, sym, ap, ap₂, subst, ◌∙◌, drop-cons, arith}
use Rattle.std.specs.Ordering.{int_eq}
use Rattle.std.proofs.lemmas.Bool.Decides.{Decides-int_eq}
use Rattle.std.proofs.lemmas.List.{drop_all}
use Rattle.std.proofs.lemmas.Slice.Zip.{AllZip-long}
use Rattle.exact_math.specs.Ring.{integers}
use Rattle.exact_vectors.specs.DotLaws as Dot
use Rattle.exact_vectors.specs.Matrices.{times_vector}
use Rattle.whole_rows.specs.declared.bounds.Bounds.{Bounds}
use Rattle.whole_rows.specs.WholeRows.{WholeRows}
use Rattle.farkas_rows.specs.NodeLaws.{dot-unit}
use Rattle.farkas_lift.specs.NodeEqualities.{work_form}
use Rattle.spaces.specs.Maps.{AffineMap}
use Rattle.presolve_map.specs.Selections.{select, positions}
use Rattle.presolve_map.specs.Columns.{column_lines, is_open, kept, kept_columns, open_flags, IsColumnMap}
use Rattle.presolve_map.specs.Lifted.{lifted_form}
use Rattle.presolve_map.specs.ReducedRows.{ReducedRows, IsReduced}
use Rattle.presolve_map.proofs.KeptLaws.{length-kept}
use Rattle.presolve_map.proofs.PointLaws.{count-any}
use Rattle.node_regions.specs.NodeFrames.{IsKeptForm}
use Rattle.node_regions.specs.KeptFormLaws.{work_form-kept}

-- a column that is kept has two bounds
open_apart : (b : Bounds) → is_open b ≡ true → b.low ≡ b.high → ⊥
open_apart b open_b same =
    let closed : int_eq b.low b.high ≡ true = (Decides-int_eq b.low b.high).1 same in
    absurd (cc (ap not closed, open_b))

-- the form is 0 in the other columns
lifted-zero : (width place : ℕ) (box : List Bounds) (form : List ℤ) → IsKeptForm box (times_vector integers (column_lines width place (open_flags box)) form)
lifted-zero width place [] form = tt
lifted-zero width place (b ∷ box) form = by_flag (is_open b) refl (lifted-zero width (suc place) box form) (lifted-zero width place box form)
  where
    by_flag : (flag : Bool) → is_open b ≡ flag → IsKeptForm box (times_vector integers (column_lines width (suc place) (open_flags box)) form) → IsKeptForm box (times_vector integers (column_lines width place (open_flags box)) form)
        → IsKeptForm (b ∷ box) (times_vector integers (column_lines width place (flag ∷ open_flags box)) form)
    by_flag true e next same = ((λ equal. absurd (open_apart b e equal)), next)
    by_flag false e next same = ((λ _. Dot.dot-zeros_left integers width form), same)

-- and what it has in those that are kept is the form again
select-lifted : (place : ℕ) (flags : List Bool) (form : List ℤ) → length form ≡ place + length (positions 0 flags) → select flags (times_vector integers (column_lines (length form) place flags) form) ≡ drop place form
select-lifted place [] form e = sym (drop_all place form (omega arith))
select-lifted place (true ∷ flags) form e =
    let here : place < length form = omega arith in
    ap₂ {A = ℤ} {B = List ℤ} {C = List ℤ} (λ z l. z ∷ l) (dot-unit (length form) place form refl here) (select-lifted (suc place) flags form (omega (arith, count-any flags 1 0)))
    ∙ sym (drop-cons form place (pos 0) here)
select-lifted place (false ∷ flags) form e = select-lifted place flags form (omega (arith, count-any flags 1 0))

module _ (rows : WholeRows) (placing : AffineMap) (is_map : IsColumnMap rows.box placing) (work : ReducedRows) (presolved : IsReduced rows work) where
  -- the lines of the map
  lifted-lines : (form : List ℤ) → length form ≡ length (kept_columns rows.box) → lifted_form placing form ≡ times_vector integers (column_lines (length form) 0 (open_flags rows.box)) form
  lifted-lines form long = ap (λ (l : List (List ℤ)). times_vector integers l form) (is_map.lines ∙ ap (λ (n : ℕ). column_lines n 0 (open_flags rows.box)) (sym long))

  -- a form on the work columns, lifted, is 0 in the other columns
  pub lifted_kept : (form : List ℤ) → length form ≡ length work.rows.box → IsKeptForm rows.box (lifted_form placing form)
  lifted_kept form e =
      let many : length form ≡ length (kept_columns rows.box) = e ∙ ap (λ (l : List Bounds). length l) presolved.box ∙ length-kept rows.box rows.box refl in
      subst (IsKeptForm rows.box) (sym (lifted-lines form many)) (lifted-zero (length form) 0 rows.box form)

  pub lifted_long : (form : List ℤ) → length form ≡ length work.rows.box → length (lifted_form placing form) ≡ length rows.box
  lifted_long form e = AllZip-long _ _ _ (lifted_kept form e)

  -- and has its factors in those that are kept
  pub lifted_work : (form : List ℤ) → length form ≡ length work.rows.box → work_form work (lifted_form placing form) ≡ form
  lifted_work form e =
      let many : length form ≡ length (kept_columns rows.box) = e ∙ ap (λ (l : List Bounds). length l) presolved.box ∙ length-kept rows.box rows.box refl in
      work_form-kept rows work (lifted_form placing form) presolved (lifted_long form e) ∙ ap (λ (f : List ℤ). kept rows.box f) (lifted-lines form many) ∙ select-lifted 0 (open_flags rows.box) form (omega (arith, many))
