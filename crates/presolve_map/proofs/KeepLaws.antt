-- The points of the rows that are left are those of the rows.
use Rattle.std.proofs.Common.{◌≡◌, Bool, true, false, List, [], ◌∷◌, length, map, ℤ, ◌+ℤ◌, ◌≤ℤ◌, refl, ap, sym, subst, ◌∙◌}
use Rattle.std.specs.Prelude.{Option, Some, None, IfSome, All, ◌||◌}
use Rattle.std.proofs.lemmas.List.{length-map}
use Rattle.std.proofs.lemmas.List.Elements.{All-nil, All-cons, All-head, All-tail}
use Rattle.std.proofs.lemmas.Slice.Zip.{AllZip-long}
use Rattle.exact_math.specs.Ring.{integers}
use Rattle.exact_math.specs.IntegerRing.{linear}
use Rattle.exact_vectors.specs.Vectors.{dot}
use Rattle.whole_rows.specs.declared.bounds.Bounds.{Bounds}
use Rattle.whole_rows.specs.declared.ends.End.TheVariants.{Least, Greatest}
use Rattle.whole_rows.specs.WholeRows.{WholeRow, WholeRows, LiesIn, MeetsRow, Meets, IsWithinLimits}
use Rattle.whole_rows.specs.Ends.{sum_at}
use Rattle.whole_rows.specs.EndLaws.{least_sum, greatest_sum}
use Rattle.spaces.specs.Maps.{AffineMap, image}
use Rattle.presolve_map.specs.Selections.{select}
use Rattle.presolve_map.specs.Columns.{kept, kept_columns, is_open, open_flags, removed_values, removed_part, IsColumnMap}
use Rattle.presolve_map.specs.ReducedRows.{ReducedRows, can_violate, falls_below, rises_above, moved_side, needed_flags, reduced_row, IsReduced}
use Rattle.presolve_map.specs.Presolved.{KeepsPoints}
use Rattle.presolve_map.proofs.SelectLaws.{length-select}
use Rattle.presolve_map.proofs.PointLaws.{flags-of_box, spread, lies-spread, select-spread, lies-select, spread-select, dot-spread, image-spread}

-- ---- one row

low-back : (side : Option ℤ) (part k s : ℤ) → s ≡ k +ℤ part → IfSome (moved_side part side) (λ l. l ≤ℤ k) → IfSome side (λ l. l ≤ℤ s)
low-back None part k s e h = tt
low-back (Some v) part k s e h = omega linear

low-on : (side : Option ℤ) (part k s : ℤ) → s ≡ k +ℤ part → IfSome side (λ l. l ≤ℤ s) → IfSome (moved_side part side) (λ l. l ≤ℤ k)
low-on None part k s e h = tt
low-on (Some v) part k s e h = omega linear

high-back : (side : Option ℤ) (part k s : ℤ) → s ≡ k +ℤ part → IfSome (moved_side part side) (λ h. k ≤ℤ h) → IfSome side (λ h. s ≤ℤ h)
high-back None part k s e h = tt
high-back (Some v) part k s e h = omega linear

high-on : (side : Option ℤ) (part k s : ℤ) → s ≡ k +ℤ part → IfSome side (λ h. s ≤ℤ h) → IfSome (moved_side part side) (λ h. k ≤ℤ h)
high-on None part k s e h = tt
high-on (Some v) part k s e h = omega linear

or_false : (a b : Bool) → (a || b) ≡ false → (a ≡ false) × (b ≡ false)
or_false false b e = (refl, e)
or_false true b e = cc

not_below : (side : Option ℤ) (least v : ℤ) → falls_below side least ≡ false → least ≤ℤ v → IfSome side (λ l. l ≤ℤ v)
not_below None least v e h = tt
not_below (Some s) least v e h = omega linear

not_above : (side : Option ℤ) (greatest v : ℤ) → rises_above side greatest ≡ false → v ≤ℤ greatest → IfSome side (λ h. v ≤ℤ h)
not_above None greatest v e h = tt
not_above (Some s) greatest v e h = omega linear

-- A row that the box cannot violate is met by all values within it.
pub passed-met : (box : List Bounds) (row : WholeRow) (x : List ℤ) → LiesIn box x → can_violate box row ≡ false → MeetsRow row x
passed-met box row x lies e =
    let neither = or_false (falls_below row.low (sum_at Least row.factors box)) (rises_above row.high (sum_at Greatest row.factors box)) e in
    (not_below row.low (sum_at Least row.factors box) (dot integers row.factors x) neither.0 (least_sum row.factors box x lies), not_above row.high (sum_at Greatest row.factors box) (dot integers row.factors x) neither.1 (greatest_sum row.factors box x lies))

-- ---- all rows

module _ (box : List Bounds) (w x : List ℤ) (lies : LiesIn box x) (sums : (factors : List ℤ) → length factors ≡ length box → dot integers factors x ≡ dot integers (kept box factors) w +ℤ removed_part box factors) where
  abbrev Met : List ℤ → WholeRow → Type 0
  Met v row = MeetsRow row v

  abbrev Dense : WholeRow → Type 0
  Dense row = length row.factors ≡ length box

  row-back : (row : WholeRow) → Dense row → MeetsRow (reduced_row box row) w → MeetsRow row x
  row-back row dense met = (low-back row.low (removed_part box row.factors) (dot integers (kept box row.factors) w) (dot integers row.factors x) (sums row.factors dense) met.0, high-back row.high (removed_part box row.factors) (dot integers (kept box row.factors) w) (dot integers row.factors x) (sums row.factors dense) met.1)

  row-on : (row : WholeRow) → Dense row → MeetsRow row x → MeetsRow (reduced_row box row) w
  row-on row dense met = (low-on row.low (removed_part box row.factors) (dot integers (kept box row.factors) w) (dot integers row.factors x) (sums row.factors dense) met.0, high-on row.high (removed_part box row.factors) (dot integers (kept box row.factors) w) (dot integers row.factors x) (sums row.factors dense) met.1)

  abbrev left_by : Bool → WholeRow → List WholeRow → List WholeRow
  left_by t row rows = map (reduced_row box) (select (t ∷ needed_flags box rows) (row ∷ rows))

  pub rows-back : (rows : List WholeRow) → All Dense rows → All (Met w) (map (reduced_row box) (select (needed_flags box rows) rows)) → All (Met x) rows
  rows-back [] dense met = All-nil (Met x)
  rows-back (row ∷ rows) dense met = by_test (rows-back rows (All-tail Dense row rows dense)) (can_violate box row) refl met
    where
      by_test : (All (Met w) (map (reduced_row box) (select (needed_flags box rows) rows)) → All (Met x) rows) → (t : Bool) → can_violate box row ≡ t → All (Met w) (left_by t row rows) → All (Met x) (row ∷ rows)
      by_test again true e m = All-cons (Met x) row rows (row-back row (All-head Dense row rows dense) (All-head (Met w) (reduced_row box row) (map (reduced_row box) (select (needed_flags box rows) rows)) m)) (again (All-tail (Met w) (reduced_row box row) (map (reduced_row box) (select (needed_flags box rows) rows)) m))
      by_test again false e m = All-cons (Met x) row rows (passed-met box row x lies e) (again m)

  pub rows-on : (rows : List WholeRow) → All Dense rows → All (Met x) rows → All (Met w) (map (reduced_row box) (select (needed_flags box rows) rows))
  rows-on [] dense met = All-nil (Met w)
  rows-on (row ∷ rows) dense met = by_test (rows-on rows (All-tail Dense row rows dense) (All-tail (Met x) row rows met)) (can_violate box row)
    where
      by_test : All (Met w) (map (reduced_row box) (select (needed_flags box rows) rows)) → (t : Bool) → All (Met w) (left_by t row rows)
      by_test again true = All-cons (Met w) (reduced_row box row) (map (reduced_row box) (select (needed_flags box rows) rows)) (row-on row (All-head Dense row rows dense) (All-head (Met x) row rows met)) again
      by_test again false = again

-- ---- the points

module _ (rows : WholeRows) (placing : AffineMap) (work : ReducedRows) (limits : IsWithinLimits rows) (map_is : IsColumnMap rows.box placing) (work_is : IsReduced rows work) where
  -- values of the kept columns are as many
  as_many : (w : List ℤ) → LiesIn (kept rows.box rows.box) w → length w ≡ length (kept_columns rows.box)
  as_many w lies = AllZip-long (λ (bounds : Bounds) (value : ℤ). (bounds.low ≤ℤ value) × (value ≤ℤ bounds.high)) (kept rows.box rows.box) w lies ∙ length-select (open_flags rows.box) rows.box 0 (length-map rows.box is_open)

  image-is : (w : List ℤ) → LiesIn (kept rows.box rows.box) w → image placing w ≡ spread (open_flags rows.box) (removed_values rows.box) w
  image-is w lies = image-spread rows.box placing w map_is (as_many w lies)

  sums-spread : (w : List ℤ) → LiesIn (kept rows.box rows.box) w → (factors : List ℤ) → length factors ≡ length rows.box → dot integers factors (spread (open_flags rows.box) (removed_values rows.box) w) ≡ dot integers (kept rows.box factors) w +ℤ removed_part rows.box factors
  sums-spread w lies factors e = dot-spread (open_flags rows.box) (removed_values rows.box) rows.box factors w (flags-of_box rows.box) e lies

  box-of : (w : List ℤ) → Meets work.rows w → LiesIn (kept rows.box rows.box) w
  box-of w meets = subst (λ (b : List Bounds). LiesIn b w) work_is.box meets.in_box

  spread-meets : (w : List ℤ) → Meets work.rows w → Meets rows (spread (open_flags rows.box) (removed_values rows.box) w)
  spread-meets w meets =
      let lies = box-of w meets in
      let spreads = lies-spread (open_flags rows.box) (removed_values rows.box) rows.box w (flags-of_box rows.box) lies in
      record {
        in_box = spreads;
        in_rows = rows-back rows.box w (spread (open_flags rows.box) (removed_values rows.box) w) spreads (sums-spread w lies) rows.rows limits.dense (subst (λ (l : List WholeRow). All (λ (row : WholeRow). MeetsRow row w) l) work_is.rows meets.in_rows);
      }

  kept-lies : (x : List ℤ) → Meets rows x → LiesIn (kept rows.box rows.box) (kept rows.box x)
  kept-lies x meets = lies-select (open_flags rows.box) (removed_values rows.box) rows.box x (flags-of_box rows.box) meets.in_box

  spread-kept : (x : List ℤ) → Meets rows x → spread (open_flags rows.box) (removed_values rows.box) (kept rows.box x) ≡ x
  spread-kept x meets = spread-select (open_flags rows.box) (removed_values rows.box) rows.box x (flags-of_box rows.box) meets.in_box

  kept-meets : (x : List ℤ) → Meets rows x → Meets work.rows (kept rows.box x)
  kept-meets x meets =
      let sums = λ (factors : List ℤ) (e : length factors ≡ length rows.box). ap (dot integers factors) (sym (spread-kept x meets)) ∙ sums-spread (kept rows.box x) (kept-lies x meets) factors e in
      record {
        in_box = subst (λ (b : List Bounds). LiesIn b (kept rows.box x)) (sym work_is.box) (kept-lies x meets);
        in_rows = subst (λ (l : List WholeRow). All (λ (row : WholeRow). MeetsRow row (kept rows.box x)) l) (sym work_is.rows) (rows-on rows.box (kept rows.box x) x meets.in_box sums rows.rows limits.dense meets.in_rows);
      }

  -- the map takes the ones to the others, one to one
  pub keeps-points : KeepsPoints rows placing work.rows
  keeps-points = record {
    into = λ w meets. subst (Meets rows) (sym (image-is w (box-of w meets))) (spread-meets w meets);
    back = λ w meets. ap (kept rows.box) (image-is w (box-of w meets)) ∙ select-spread (open_flags rows.box) (removed_values rows.box) rows.box w (flags-of_box rows.box) (box-of w meets);
    onto = kept-meets;
    from = λ x meets. image-is (kept rows.box x) (kept-lies x meets) ∙ spread-kept x meets;
  }
