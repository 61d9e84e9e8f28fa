-- Rows that are put one after another to those that presolving leaves.
use Rattle.std.proofs.Common.{◌≡◌, ℕ, suc, ◌+◌, ◌<◌, ◌≤◌, Bool, true, false, List, [], ◌∷◌, ◌++◌, length, map, drop, ℤ, None, nat_abs, refl, ap, ap₂, sym, ◌∙◌, add-one, append_assoc, drop-cons, arith}
use Rattle.std.specs.Prelude.{Option}
use Rattle.std.proofs.lemmas.List.{length-append, drop_all, append-nil}
use Rattle.exact_math.specs.Ring.{integers}
use Rattle.exact_vectors.specs.Vectors.{dot}
use Rattle.whole_rows.specs.declared.bounds.Bounds.{Bounds}
use Rattle.whole_rows.specs.WholeRows.{WholeRow, WholeRows, row_at, span, rows_over, with_cost}
use Rattle.whole_rows.specs.Ends.{lows}
use Rattle.whole_rows.specs.EndLaws.{LiesIn-lows}
use Rattle.whole_rows.specs.WeightLaws.{dot_within}
use Rattle.presolve_map.specs.Selections.{select, positions}
use Rattle.presolve_map.specs.Columns.{kept, kept_columns, removed_part}
use Rattle.presolve_map.specs.Removed.{removed_bounds, span-removed, all_fixed, lows-removed}
use Rattle.presolve_map.specs.ReducedRows.{ReducedRows, can_violate, needed_flags, reduced_row, IsReduced}
use Rattle.presolve_map.specs.Reducing.{IsReducedTo}
use Rattle.presolve_map.specs.WorkViews.{with_work_row}

-- ---- the rows from one on

rest_added : (box : List Bounds) (r : WholeRow) (rest : List WholeRow) → can_violate box r ≡ true → map (reduced_row box) (select (needed_flags box (r ∷ rest)) (r ∷ rest)) ≡ reduced_row box r ∷ map (reduced_row box) (select (needed_flags box rest) rest)
rest_added box r rest e = ap (λ (t : Bool). map (reduced_row box) (select (t ∷ needed_flags box rest) (r ∷ rest))) e

rest_passed : (box : List Bounds) (r : WholeRow) (rest : List WholeRow) → can_violate box r ≡ false → map (reduced_row box) (select (needed_flags box (r ∷ rest)) (r ∷ rest)) ≡ map (reduced_row box) (select (needed_flags box rest) rest)
rest_passed box r rest e = ap (λ (t : Bool). map (reduced_row box) (select (t ∷ needed_flags box rest) (r ∷ rest))) e

numbers_added : (box : List Bounds) (r : WholeRow) (rest : List WholeRow) (i : ℕ) → can_violate box r ≡ true → positions i (needed_flags box (r ∷ rest)) ≡ i ∷ positions (suc i) (needed_flags box rest)
numbers_added box r rest i e = ap (λ (t : Bool). positions i (t ∷ needed_flags box rest)) e

numbers_passed : (box : List Bounds) (r : WholeRow) (rest : List WholeRow) (i : ℕ) → can_violate box r ≡ false → positions i (needed_flags box (r ∷ rest)) ≡ positions (suc i) (needed_flags box rest)
numbers_passed box r rest i e = ap (λ (t : Bool). positions i (t ∷ needed_flags box rest)) e

module _ (rows : WholeRows) (i : ℕ) (work : ReducedRows) (t : IsReducedTo rows i work) where
  next : i < length rows.rows → drop i rows.rows ≡ row_at rows i ∷ drop (i + 1) rows.rows
  next h = drop-cons rows.rows i (record { factors = []; low = None; high = None }) h ∙ ap (λ (n : ℕ). row_at rows i ∷ drop n rows.rows) (sym (add-one i))

  -- the next row is added
  pub reduced-add : i < length rows.rows → can_violate rows.box (row_at rows i) ≡ true → IsReducedTo rows (i + 1) (with_work_row work (reduced_row rows.box (row_at rows i)) i)
  reduced-add h e = record {
    box = t.box;
    few = omega (arith, t.few, length-append work.rows.rows (reduced_row rows.box (row_at rows i) ∷ []));
    rows = append_assoc work.rows.rows (reduced_row rows.box (row_at rows i) ∷ []) (map (reduced_row rows.box) (select (needed_flags rows.box (drop (i + 1) rows.rows)) (drop (i + 1) rows.rows)))
        ∙ ap (λ (l : List WholeRow). work.rows.rows ++ l) (sym (rest_added rows.box (row_at rows i) (drop (i + 1) rows.rows) e))
        ∙ ap (λ (l : List WholeRow). work.rows.rows ++ map (reduced_row rows.box) (select (needed_flags rows.box l) l)) (sym (next h))
        ∙ t.rows;
    cost = t.cost;
    row_numbers = append_assoc work.row_numbers (i ∷ []) (positions (i + 1) (needed_flags rows.box (drop (i + 1) rows.rows)))
        ∙ ap (λ (n : ℕ). work.row_numbers ++ i ∷ positions n (needed_flags rows.box (drop (i + 1) rows.rows))) (add-one i)
        ∙ ap (λ (l : List ℕ). work.row_numbers ++ l) (sym (numbers_added rows.box (row_at rows i) (drop (i + 1) rows.rows) i e))
        ∙ ap (λ (l : List WholeRow). work.row_numbers ++ positions i (needed_flags rows.box l)) (sym (next h))
        ∙ t.row_numbers;
    column_numbers = t.column_numbers;
    cost_constant = t.cost_constant;
  }

  -- the next row is passed over
  pub reduced-pass : i < length rows.rows → can_violate rows.box (row_at rows i) ≡ false → IsReducedTo rows (i + 1) work
  reduced-pass h e = record {
    box = t.box;
    few = omega (arith, t.few);
    rows = ap (λ (l : List WholeRow). work.rows.rows ++ l) (sym (rest_passed rows.box (row_at rows i) (drop (i + 1) rows.rows) e))
        ∙ ap (λ (l : List WholeRow). work.rows.rows ++ map (reduced_row rows.box) (select (needed_flags rows.box l) l)) (sym (next h))
        ∙ t.rows;
    cost = t.cost;
    row_numbers = ap (λ (n : ℕ). work.row_numbers ++ positions n (needed_flags rows.box (drop (i + 1) rows.rows))) (add-one i)
        ∙ ap (λ (l : List ℕ). work.row_numbers ++ l) (sym (numbers_passed rows.box (row_at rows i) (drop (i + 1) rows.rows) i e))
        ∙ ap (λ (l : List WholeRow). work.row_numbers ++ positions i (needed_flags rows.box l)) (sym (next h))
        ∙ t.row_numbers;
    column_numbers = t.column_numbers;
    cost_constant = t.cost_constant;
  }

  -- no row is left
  pub reduced-all : length rows.rows ≤ i → IsReduced rows work
  reduced-all h =
      let none : drop i rows.rows ≡ [] = drop_all i rows.rows h in
      record {
        box = t.box;
        rows = sym (append-nil work.rows.rows) ∙ ap (λ (l : List WholeRow). work.rows.rows ++ map (reduced_row rows.box) (select (needed_flags rows.box l) l)) (sym none) ∙ t.rows;
        cost = t.cost;
        row_numbers = sym (append-nil work.row_numbers) ∙ ap (λ (l : List WholeRow). work.row_numbers ++ positions i (needed_flags rows.box l)) (sym none) ∙ t.row_numbers;
        column_numbers = t.column_numbers;
        cost_constant = t.cost_constant;
      }

-- no row is there yet
pub reduced-none : (rows : WholeRows) (bounds : List Bounds) (cost : List ℤ) (columns : List ℕ) (constant : ℤ) → bounds ≡ kept rows.box rows.box → cost ≡ kept rows.box rows.cost → columns ≡ kept_columns rows.box → constant ≡ removed_part rows.box rows.cost → IsReducedTo rows 0 (record { rows = with_cost (rows_over bounds) cost; row_numbers = []; column_numbers = columns; cost_constant = constant })
reduced-none rows bounds cost columns constant is_box is_cost is_columns is_constant = record {
  box = is_box;
  few = omega arith;
  rows = refl;
  cost = is_cost;
  row_numbers = refl;
  column_numbers = is_columns;
  cost_constant = is_constant;
}

-- ---- sizes

-- the part in removed columns is at most the span in size
pub part_small : (factors : List ℤ) (box : List Bounds) → nat_abs (removed_part box factors) ≤ span factors box
part_small factors box =
    let within = dot_within factors (removed_bounds box) (lows (removed_bounds box)) (LiesIn-lows (removed_bounds box) (all_fixed box)) in
    let same : dot integers factors (lows (removed_bounds box)) ≡ removed_part box factors = ap (dot integers factors) (lows-removed box) in
    omega (arith, rw same at within, span-removed factors box)

-- ---- a row by its parts

pub row-is : (r : WholeRow) (factors : List ℤ) (low high : Option ℤ) → factors ≡ r.factors → low ≡ r.low → high ≡ r.high → record { factors = factors; low = low; high = high } ≡ r
row-is r factors low high e f g =
    ap₂ {C = WholeRow} (λ (t : List ℤ) (l : Option ℤ). record { factors = t; low = l; high = high }) e f ∙ ap {B = WholeRow} (λ (h : Option ℤ). record { factors = r.factors; low = r.low; high = h }) g
