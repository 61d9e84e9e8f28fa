-- The rational points of a node, over the columns that presolving keeps and in the coordinates of a frame.
use Rattle.std.proofs.Common.{◌≡◌, ℕ, zero, suc, ◌<◌, Bool, true, false, List, [], ◌∷◌, ◌++◌, length, get_or, ℤ, pos, neg_ℤ, ◌+ℤ◌, ◌-ℤ◌, map, refl, ap, ap₂, sym, subst, ◌∙◌, arith}
use Rattle.std.specs.Prelude.{Option, Some, None, IfSome, is_some, unwrap_or, ◌||◌}
use Rattle.std.specs.List.{All, AllZip}
use Rattle.std.proofs.lemmas.List.{ext_get_or, get_or_default, length-map}
use Rattle.std.proofs.lemmas.List.Elements.{All-nil, All-cons, All-head, All-tail, All-append, All-map, All-weaker}
use Rattle.std.proofs.lemmas.Slice.Zip.{AllZip-long}
use Rattle.exact_math.specs.IntegerRing.{linear}
use Rattle.exact_math.specs.Ring.{integers}
use Rattle.exact_math.specs.RingSolver.{ring, reads}
use Rattle.exact_math.specs.Rational.{ℚ, whole, ◌+ℚ◌, neg_ℚ, ◌-ℚ◌, ◌≤ℚ◌}
use Rattle.exact_math.specs.RationalOrder.{le_antisym, le_trans, whole_le}
use Rattle.exact_math.specs.RationalRing.{rationals, add_zero, whole_add}
use Rattle.exact_vectors.specs.Vectors.{negate}
use Rattle.exact_vectors.specs.Matrices.{times_vector}
use Rattle.whole_rows.specs.declared.bounds.Bounds.{Bounds}
use Rattle.whole_rows.specs.declared.ends.End.TheVariants.{Least, Greatest}
use Rattle.whole_rows.specs.WholeRows.{WholeRow, WholeRows, row_at, bounds_at, IsWithinLimits}
use Rattle.whole_rows.specs.Ends.{sum_at}
use Rattle.farkas_rows.specs.declared.path.Slice.{Slice}
use Rattle.farkas_rows.specs.Inequalities.{Inequality, unit}
use Rattle.spaces.specs.Maps.{pulled_constant, pulled_form}
use Rattle.spaces.specs.TableLaws.{HasWidth-rows_in, length-rows_in}
use Rattle.spaces.specs.Tables.{rows_in}
use Rattle.node_point.specs.RationalPoints.{form_value, IsRationalPoint, IsWithin}
use Rattle.whole_vectors.specs.WholeVectorLaws.{whole_neg}
use Rattle.form_widths.specs.FormLaws.{form_value-negate, form_value-unit}
use Rattle.form_widths.specs.Inequalities.{IsMetAt}
use Rattle.form_widths.specs.NodePointLaws.{IsIn, at_least-met}
use Rattle.form_widths.specs.PulledLaws.{form_value-point_over, IsMetAt-pulled, whole_sub}
use Rattle.form_widths.specs.RationalOrderLaws.{le_by, le_of_equal}
use Rattle.lp_dict.specs.Systems.{wholes}
use Rattle.reformulate.specs.Substitutions.{IsShaped, Substitution, columns_of, dimension_of}
use Rattle.rational_frames.specs.RationalFrameLaws.{rational_frame}
use Rattle.rational_frames.specs.RationalFrames.{IsRationalFrame, MeetsOver, SolvesOver, rational_coordinates_of, rational_point_of}
use Rattle.presolve_map.specs.Columns.{is_open, kept, open_flags, removed_part, removed_values}
use Rattle.presolve_map.specs.LiftedLines.{IsOverKept}
use Rattle.presolve_map.specs.ReducedRows.{ReducedRows, IsReduced, can_violate, falls_below, moved_side, needed_flags, reduced_row, rises_above}
use Rattle.presolve_map.specs.Selections.{select}
use Rattle.presolve_map.proofs.PointLaws.{flags-of_box}
use Rattle.farkas_lift.specs.Joined.{joined}
use Rattle.farkas_lift.specs.NodeEqualities.{common_side, equality_with, node_equalities, row_equality, work_form, work_slice}
use Rattle.farkas_lift.specs.NodeSides.{column_sides, cut_side, inequality_of, node_sides, row_sides, side_with, sides_unless}
use Rattle.farkas_lift.specs.NodeSystem.{cut_of, node_system, pulled}
use Rattle.farkas_lift.specs.declared.side.NodeSide.{NodeSide}
use Rattle.farkas_lift.specs.declared.side.NodeSide.TheVariants.{RowAtMost, RowAtLeast, ColumnAtMost, ColumnAtLeast, Cut}
use Rattle.farkas_lift.proofs.JoinedLaws.{joined-All, joined-at, joined-length, positions-at, select-at, select-length}
use Rattle.farkas_lift.proofs.NodeValues.{both_sides, no_part}
use Rattle.node_lines.specs.NodeSystems.{IsFramedNode}
use Rattle.node_regions.specs.RegionPoints.{StandsFor}
use Rattle.node_regions.specs.KeptValues.{spread, lies-spread, lies-select, select-spread, form_value-kept, least_sum, greatest_sum}
use Rattle.node_regions.specs.NodeRegions.{IsInNode}

-- ---- parts of lists

-- what holds of all holds of the front, and of the rest
front : {X : Type 0} (P : X → Type 0) (xs ys : List X) → All P (xs ++ ys) → All P xs
front P [] ys h = All-nil P
front P (x ∷ xs) ys h = All-cons P x xs (All-head P x (xs ++ ys) h) (front P xs ys (All-tail P x (xs ++ ys) h))

behind : {X : Type 0} (P : X → Type 0) (xs ys : List X) → All P (xs ++ ys) → All P ys
behind P [] ys h = h
behind P (x ∷ xs) ys h = behind P xs ys (All-tail P x (xs ++ ys) h)

-- of each part
part : {X : Type 0} (P : X → Type 0) (f : ℕ → List X) (count i : ℕ) → All P (joined f count) → i < count → All P (f i)
part P f zero i h lt = absurd (omega arith)
part P f (suc count) i h lt =
    same_or_less i count (λ e. subst (λ (j : ℕ). All P (f j)) (sym e) (behind P (joined f count) (f count) h)) (λ less. part P f count i (front P (joined f count) (f count) h) less) lt
  where
    same_or_less : {Q : Type 0} (i j : ℕ) → (i ≡ j → Q) → (i < j → Q) → i < suc j → Q
    same_or_less i j f g h = grind arith

-- what holds of images
unmapped : {X Y : Type 0} (P : X → Type 0) (f : Y → X) (ys : List Y) → All P (map f ys) → All (λ y. P (f y)) ys
unmapped P f [] h = All-nil (λ y. P (f y))
unmapped P f (y ∷ ys) h = All-cons (λ y. P (f y)) y ys (All-head P (f y) (map f ys) h) (unmapped P f ys (All-tail P (f y) (map f ys) h))

-- ---- one row

low-back : (side : Option ℤ) (part : ℤ) (k s : ℚ) → s ≡ k +ℚ whole part → IfSome (moved_side part side) (λ l. whole l ≤ℚ k) → IfSome side (λ l. whole l ≤ℚ s)
low-back None part k s e h = tt
low-back (Some v) part k s e h = le_by _ _ _ _ h (ap (λ t. t -ℚ whole v) e ∙ shifted k (whole v) (whole part) ∙ ap (λ t. k -ℚ t) (sym (whole_sub v part)))
  where
    shifted : (k v p : ℚ) → (k +ℚ p) -ℚ v ≡ k -ℚ (v -ℚ p)
    shifted k v p = ring rationals (k ∷ v ∷ p ∷ []) (search reads depth 30) (search reads depth 30) refl

low-on : (side : Option ℤ) (part : ℤ) (k s : ℚ) → s ≡ k +ℚ whole part → IfSome side (λ l. whole l ≤ℚ s) → IfSome (moved_side part side) (λ l. whole l ≤ℚ k)
low-on None part k s e h = tt
low-on (Some v) part k s e h = le_by _ _ _ _ h (ap (λ t. k -ℚ t) (whole_sub v part) ∙ shifted k (whole v) (whole part) ∙ ap (λ t. t -ℚ whole v) (sym e))
  where
    shifted : (k v p : ℚ) → k -ℚ (v -ℚ p) ≡ (k +ℚ p) -ℚ v
    shifted k v p = ring rationals (k ∷ v ∷ p ∷ []) (search reads depth 30) (search reads depth 30) refl

high-back : (side : Option ℤ) (part : ℤ) (k s : ℚ) → s ≡ k +ℚ whole part → IfSome (moved_side part side) (λ h. k ≤ℚ whole h) → IfSome side (λ h. s ≤ℚ whole h)
high-back None part k s e h = tt
high-back (Some v) part k s e h = le_by _ _ _ _ h (ap (λ t. whole v -ℚ t) e ∙ shifted k (whole v) (whole part) ∙ ap (λ t. t -ℚ k) (sym (whole_sub v part)))
  where
    shifted : (k v p : ℚ) → v -ℚ (k +ℚ p) ≡ (v -ℚ p) -ℚ k
    shifted k v p = ring rationals (k ∷ v ∷ p ∷ []) (search reads depth 30) (search reads depth 30) refl

high-on : (side : Option ℤ) (part : ℤ) (k s : ℚ) → s ≡ k +ℚ whole part → IfSome side (λ h. s ≤ℚ whole h) → IfSome (moved_side part side) (λ h. k ≤ℚ whole h)
high-on None part k s e h = tt
high-on (Some v) part k s e h = le_by _ _ _ _ h (ap (λ t. t -ℚ k) (whole_sub v part) ∙ shifted k (whole v) (whole part) ∙ ap (λ t. whole v -ℚ t) (sym e))
  where
    shifted : (k v p : ℚ) → (v -ℚ p) -ℚ k ≡ v -ℚ (k +ℚ p)
    shifted k v p = ring rationals (k ∷ v ∷ p ∷ []) (search reads depth 30) (search reads depth 30) refl

or_false : (a b : Bool) → (a || b) ≡ false → (a ≡ false) × (b ≡ false)
or_false false b e = (refl, e)
or_false true b e = cc

not_below : (side : Option ℤ) (least : ℤ) (v : ℚ) → falls_below side least ≡ false → whole least ≤ℚ v → IfSome side (λ l. whole l ≤ℚ v)
not_below None least v e h = tt
not_below (Some s) least v e h = le_trans (whole s) (whole least) v (whole_le s least (omega linear)) h

not_above : (side : Option ℤ) (greatest : ℤ) (v : ℚ) → rises_above side greatest ≡ false → v ≤ℚ whole greatest → IfSome side (λ h. v ≤ℚ whole h)
not_above None greatest v e h = tt
not_above (Some s) greatest v e h = le_trans v (whole greatest) (whole s) h (whole_le greatest s (omega linear))

-- A row that the box cannot violate is met by all values within it.
passed-met : (box : List Bounds) (row : WholeRow) (x : List ℚ) → AllZip IsIn box x → can_violate box row ≡ false → IsWithin row.low row.high (form_value row.factors x)
passed-met box row x lies e =
    let neither = or_false (falls_below row.low (sum_at Least row.factors box)) (rises_above row.high (sum_at Greatest row.factors box)) e in
    (not_below row.low (sum_at Least row.factors box) (form_value row.factors x) neither.0 (least_sum row.factors box x lies), not_above row.high (sum_at Greatest row.factors box) (form_value row.factors x) neither.1 (greatest_sum row.factors box x lies))

-- ---- all rows

-- the row is met at the values
abbrev pub IsMetRow : List ℚ → WholeRow → Type 0
IsMetRow x row = IsWithin row.low row.high (form_value row.factors x)

module _ (box : List Bounds) (w x : List ℚ) (lies : AllZip IsIn box x) (sums : (factors : List ℤ) → length factors ≡ length box → form_value factors x ≡ form_value (kept box factors) w +ℚ whole (removed_part box factors)) where
  abbrev Dense : WholeRow → Type 0
  Dense row = length row.factors ≡ length box

  row-back : (row : WholeRow) → Dense row → IsMetRow w (reduced_row box row) → IsMetRow x row
  row-back row dense met = (low-back row.low (removed_part box row.factors) (form_value (kept box row.factors) w) (form_value row.factors x) (sums row.factors dense) met.0, high-back row.high (removed_part box row.factors) (form_value (kept box row.factors) w) (form_value row.factors x) (sums row.factors dense) met.1)

  row-on : (row : WholeRow) → Dense row → IsMetRow x row → IsMetRow w (reduced_row box row)
  row-on row dense met = (low-on row.low (removed_part box row.factors) (form_value (kept box row.factors) w) (form_value row.factors x) (sums row.factors dense) met.0, high-on row.high (removed_part box row.factors) (form_value (kept box row.factors) w) (form_value row.factors x) (sums row.factors dense) met.1)

  abbrev left_by : Bool → WholeRow → List WholeRow → List WholeRow
  left_by t row rows = map (reduced_row box) (select (t ∷ needed_flags box rows) (row ∷ rows))

  rows-back : (rows : List WholeRow) → All Dense rows → All (IsMetRow w) (map (reduced_row box) (select (needed_flags box rows) rows)) → All (IsMetRow x) rows
  rows-back [] dense met = All-nil (IsMetRow x)
  rows-back (row ∷ rows) dense met = by_test (rows-back rows (All-tail Dense row rows dense)) (can_violate box row) refl met
    where
      by_test : (All (IsMetRow w) (map (reduced_row box) (select (needed_flags box rows) rows)) → All (IsMetRow x) rows) → (t : Bool) → can_violate box row ≡ t → All (IsMetRow w) (left_by t row rows) → All (IsMetRow x) (row ∷ rows)
      by_test again true e m = All-cons (IsMetRow x) row rows (row-back row (All-head Dense row rows dense) (All-head (IsMetRow w) (reduced_row box row) (map (reduced_row box) (select (needed_flags box rows) rows)) m)) (again (All-tail (IsMetRow w) (reduced_row box row) (map (reduced_row box) (select (needed_flags box rows) rows)) m))
      by_test again false e m = All-cons (IsMetRow x) row rows (passed-met box row x lies e) (again m)

  rows-on : (rows : List WholeRow) → All Dense rows → All (IsMetRow x) rows → All (IsMetRow w) (map (reduced_row box) (select (needed_flags box rows) rows))
  rows-on [] dense met = All-nil (IsMetRow w)
  rows-on (row ∷ rows) dense met = by_test (rows-on rows (All-tail Dense row rows dense) (All-tail (IsMetRow x) row rows met)) (can_violate box row)
    where
      by_test : All (IsMetRow w) (map (reduced_row box) (select (needed_flags box rows) rows)) → (t : Bool) → All (IsMetRow w) (left_by t row rows)
      by_test again true = All-cons (IsMetRow w) (reduced_row box row) (map (reduced_row box) (select (needed_flags box rows) rows)) (row-on row (All-head Dense row rows dense) (All-head (IsMetRow x) row rows met)) again
      by_test again false = again

-- ---- the work columns

-- Values of the work columns meet what presolving leaves of a node.
pub record IsWorkPoint (work : ReducedRows) (path : List Slice) (cut : Option ℤ) (w : List ℚ) : Type 0 where
  pub in_box : AllZip IsIn work.rows.box w
  pub in_rows : All (IsMetRow w) work.rows.rows
  pub on_path : All (λ (slice : Slice). form_value (work_form work slice.form) w ≡ whole slice.beta) path
  pub below_cut : IfSome cut (λ value. form_value work.rows.cost w ≤ℚ whole ((value -ℤ pos 1) -ℤ work.cost_constant))

-- the form over the work columns is its part in the kept columns
pub work_form-is : (model : WholeRows) (work : ReducedRows) (form : List ℤ) → IsReduced model work → length form ≡ length model.box → work_form work form ≡ kept model.box form
work_form-is model work form reduced dense =
    ext_get_or (pos 0) (work_form work form) (kept model.box form) (size ∙ ap length reduced.column_numbers ∙ sym (select-length 0 (open_flags model.box) form flags))
    (λ j lt.
    let here : j < length work.rows.box = subst (λ (n : ℕ). j < n) (joined-length (λ k. get_or form (get_or work.column_numbers k 0) (pos 0)) (length work.rows.box)) lt in
    let below = subst (λ (n : ℕ). j < n) (count ∙ ap length reduced.column_numbers) here in
    joined-at (λ k. get_or form (get_or work.column_numbers k 0) (pos 0)) (length work.rows.box) j (pos 0) here
    ∙ ap (λ (k : ℕ). get_or form k (pos 0)) (ap (λ (l : List ℕ). get_or l j 0) reduced.column_numbers ∙ positions-at 0 (open_flags model.box) j below ∙ omega arith)
    ∙ sym (select-at 0 (open_flags model.box) form j (pos 0) flags below))
  where
    flags : length (open_flags model.box) ≡ length form
    flags = length-map model.box is_open ∙ sym dense

    count : length work.rows.box ≡ length work.column_numbers
    count = ap length reduced.box ∙ select-length 0 (open_flags model.box) model.box (length-map model.box is_open) ∙ sym (ap length reduced.column_numbers)

    size : length (work_form work form) ≡ length work.column_numbers
    size = joined-length (λ k. get_or form (get_or work.column_numbers k 0) (pos 0)) (length work.rows.box) ∙ count

module _ (model : WholeRows) (work : ReducedRows) (path : List Slice) (cut : Option ℤ) (limits : IsWithinLimits model) (reduced : IsReduced model work) where
  -- a form at values x of all columns that stand for values w of the kept ones
  abbrev Sums : List ℚ → List ℚ → Type 0
  Sums w x = (factors : List ℤ) → length factors ≡ length model.box → form_value factors x ≡ form_value (kept model.box factors) w +ℚ whole (removed_part model.box factors)

  module _ (forms : All (λ (slice : Slice). length slice.form ≡ length model.box) path) (kept_forms : All (λ (slice : Slice). IsOverKept model slice.form) path) (w x : List ℚ) (lies : AllZip IsIn model.box x) (sums : Sums w x) where
    on_slice : (k : ℕ) (d : Slice) → k < length path → form_value (get_or path k d).form x ≡ form_value (work_form work (get_or path k d).form) w
    on_slice k d lt =
        let form = (get_or path k d).form in
        sums form (forms k d lt)
        ∙ ap (λ (z : ℤ). form_value (kept model.box form) w +ℚ whole z) (no_part model.box form (kept_forms k d lt))
        ∙ add_zero (form_value (kept model.box form) w)
        ∙ ap (λ (f : List ℤ). form_value f w) (sym (work_form-is model work form reduced (forms k d lt)))

    in_work_rows : All (IsMetRow x) model.rows → All (IsMetRow w) work.rows.rows
    in_work_rows met = subst (λ (rows : List WholeRow). All (IsMetRow w) rows) (sym reduced.rows) (rows-on model.box w x lies sums model.rows limits.dense met)

    in_model_rows : All (IsMetRow w) work.rows.rows → All (IsMetRow x) model.rows
    in_model_rows met = rows-back model.box w x lies sums model.rows limits.dense (subst (λ (rows : List WholeRow). All (IsMetRow w) rows) reduced.rows met)

    costs : form_value model.cost x ≡ form_value work.rows.cost w +ℚ whole work.cost_constant
    costs = sums model.cost limits.priced ∙ ap₂ (λ (f : List ℤ) (z : ℤ). form_value f w +ℚ whole z) (sym reduced.cost) (sym reduced.cost_constant)

    cut-on : (o : Option ℤ) → IfSome o (λ value. form_value model.cost x ≤ℚ whole (value -ℤ pos 1)) → IfSome o (λ value. form_value work.rows.cost w ≤ℚ whole ((value -ℤ pos 1) -ℤ work.cost_constant))
    cut-on None h = tt
    cut-on (Some v) h = high-on (Some (v -ℤ pos 1)) work.cost_constant (form_value work.rows.cost w) (form_value model.cost x) costs h

    cut-back : (o : Option ℤ) → IfSome o (λ value. form_value work.rows.cost w ≤ℚ whole ((value -ℤ pos 1) -ℤ work.cost_constant)) → IfSome o (λ value. form_value model.cost x ≤ℚ whole (value -ℤ pos 1))
    cut-back None h = tt
    cut-back (Some v) h = high-back (Some (v -ℤ pos 1)) work.cost_constant (form_value work.rows.cost w) (form_value model.cost x) costs h

  -- the sums at a point in the box
  sums_at : (x : List ℚ) → AllZip IsIn model.box x → Sums (kept model.box x) x
  sums_at x lies factors dense = form_value-kept (open_flags model.box) (removed_values model.box) model.box factors x (flags-of_box model.box) dense lies

  -- the work columns' values at a point of the node
  pub work_point : (x : List ℚ) → All (λ (slice : Slice). length slice.form ≡ length model.box) path → All (λ (slice : Slice). IsOverKept model slice.form) path → IsRationalPoint model path cut x → IsWorkPoint work path cut (kept model.box x)
  work_point x forms kept_forms point =
      let w = kept model.box x in
      let sums = sums_at x point.in_box in
      record {
        in_box = subst (λ (b : List Bounds). AllZip IsIn b w) (sym reduced.box) (lies-select (open_flags model.box) (removed_values model.box) model.box x (flags-of_box model.box) point.in_box);
        in_rows = in_work_rows forms kept_forms w x point.in_box sums point.in_rows;
        on_path = λ k d lt. sym (on_slice forms kept_forms w x point.in_box sums k d lt) ∙ point.on_path k d lt;
        below_cut = cut-on forms kept_forms w x point.in_box sums cut point.below_cut;
      }

  -- values of all columns for those of the work columns
  abbrev pub spread_over : List ℚ → List ℚ
  spread_over w = spread (open_flags model.box) (removed_values model.box) w

  kept_spread : (w : List ℚ) → IsWorkPoint work path cut w → kept model.box (spread_over w) ≡ w
  kept_spread w point = select-spread (open_flags model.box) (removed_values model.box) model.box w (flags-of_box model.box) (subst (λ (b : List Bounds). AllZip IsIn b w) reduced.box point.in_box)

  model_point : (w : List ℚ) → All (λ (slice : Slice). length slice.form ≡ length model.box) path → All (λ (slice : Slice). IsOverKept model slice.form) path → IsWorkPoint work path cut w → IsRationalPoint model path cut (spread_over w)
  model_point w forms kept_forms point =
      let x = spread_over w in
      let lies = lies-spread (open_flags model.box) (removed_values model.box) model.box w (flags-of_box model.box) (subst (λ (b : List Bounds). AllZip IsIn b w) reduced.box point.in_box) in
      let sums : Sums w x = subst (λ (v : List ℚ). Sums v x) (kept_spread w point) (sums_at x lies) in
      record {
        in_box = lies;
        in_rows = in_model_rows forms kept_forms w x lies sums point.in_rows;
        on_path = λ k d lt. on_slice forms kept_forms w x lies sums k d lt ∙ point.on_path k d lt;
        below_cut = cut-back forms kept_forms w x lies sums cut point.below_cut;
      }

-- ---- equalities and other inequalities

-- the value of a column
in_box-at : (box : List Bounds) (w : List ℚ) (column : ℕ) (b : Bounds) → AllZip IsIn box w → column < length box → IsIn (get_or box column b) (get_or w column (whole (pos 0)))
in_box-at [] w column b lies h = absurd (omega arith)
in_box-at (bounds ∷ box) [] column b lies h = absurd lies
in_box-at (bounds ∷ box) (q ∷ w) zero b lies h = lies.0
in_box-at (bounds ∷ box) (q ∷ w) (suc column) b lies h = in_box-at box w column b lies.1 (omega arith)

in_box-from : (box : List Bounds) (w : List ℚ) (b : Bounds) → length w ≡ length box → ((column : ℕ) → column < length box → IsIn (get_or box column b) (get_or w column (whole (pos 0)))) → AllZip IsIn box w
in_box-from [] [] b e h = tt
in_box-from [] (q ∷ w) b e h = absurd (omega arith)
in_box-from (bounds ∷ box) [] b e h = absurd (omega arith)
in_box-from (bounds ∷ box) (q ∷ w) b e h = (h 0 (omega arith), in_box-from box w b (omega arith) (λ column lt. h (suc column) (omega arith)))

-- a form that is at least a side, turned back
at_least-back : (form : List ℤ) (side : ℤ) (w : List ℚ) → form_value (negate integers form) w ≤ℚ whole (neg_ℤ side) → whole side ≤ℚ form_value form w
at_least-back form side w h = le_by _ _ _ _ h (turned (whole side) (form_value form w) ∙ sym (ap₂ (λ (s t : ℚ). s -ℚ t) (whole_neg side) (form_value-negate form w)))
  where
    turned : (s v : ℚ) → v -ℚ s ≡ neg_ℚ s -ℚ neg_ℚ v
    turned s v = ring rationals (s ∷ v ∷ []) (search reads depth 30) (search reads depth 30) refl

module _ (work : ReducedRows) (path : List Slice) (cut : Option ℤ) (w : List ℚ) where
  -- the side's inequality is met
  abbrev pub IsMetSide : NodeSide → Type 0
  IsMetSide side = IsMetAt w (inequality_of work (cut_of cut) side)

  -- ---- from the values

  equality-met : (factors : List ℤ) (low high : Option ℤ) → IsWithin low high (form_value factors w) → All (MeetsOver w) (equality_with factors (common_side low high))
  equality-met factors low high within = by_side (common_side low high) refl
    where
      by_side : (o : Option ℤ) → common_side low high ≡ o → All (MeetsOver w) (equality_with factors o)
      by_side None e = All-nil (MeetsOver w)
      by_side (Some side) e =
          let both = both_sides low high side e in
          let least = subst (λ (o : Option ℤ). IfSome o (λ l. whole l ≤ℚ form_value factors w)) both.0 within.0 in
          let greatest = subst (λ (o : Option ℤ). IfSome o (λ h. form_value factors w ≤ℚ whole h)) both.1 within.1 in
          All-cons (MeetsOver w) (record { form = factors; side = side }) [] (le_antisym (form_value factors w) (whole side) greatest least) (All-nil (MeetsOver w))

  upper-met : (i : ℕ) (o : Option ℤ) → (row_at work.rows i).high ≡ o → IfSome o (λ h. form_value (row_at work.rows i).factors w ≤ℚ whole h) → All IsMetSide (side_with (RowAtMost i) o)
  upper-met i None e h = All-nil IsMetSide
  upper-met i (Some v) e h = All-cons IsMetSide (RowAtMost i) [] (subst (λ (o : Option ℤ). form_value (row_at work.rows i).factors w ≤ℚ whole (unwrap_or o (pos 0))) (sym e) h) (All-nil IsMetSide)

  lower-met : (i : ℕ) (o : Option ℤ) → (row_at work.rows i).low ≡ o → IfSome o (λ l. whole l ≤ℚ form_value (row_at work.rows i).factors w) → All IsMetSide (side_with (RowAtLeast i) o)
  lower-met i None e h = All-nil IsMetSide
  lower-met i (Some v) e h = All-cons IsMetSide (RowAtLeast i) [] (at_least-met (row_at work.rows i).factors (unwrap_or (row_at work.rows i).low (pos 0)) w (subst (λ (o : Option ℤ). whole (unwrap_or o (pos 0)) ≤ℚ form_value (row_at work.rows i).factors w) (sym e) h)) (All-nil IsMetSide)

  row-met : (i : ℕ) → IsMetRow w (row_at work.rows i) → All IsMetSide (row_sides work i)
  row-met i within = by_side (common_side (row_at work.rows i).low (row_at work.rows i).high)
    where
      by_side : (o : Option ℤ) → All IsMetSide (sides_unless o (row_at work.rows i) i)
      by_side None = All-append IsMetSide (side_with (RowAtMost i) (row_at work.rows i).high) (side_with (RowAtLeast i) (row_at work.rows i).low) (upper-met i (row_at work.rows i).high refl within.1) (lower-met i (row_at work.rows i).low refl within.0)
      by_side (Some side) = All-nil IsMetSide

  column-met : (j : ℕ) → AllZip IsIn work.rows.box w → j < length work.rows.box → All IsMetSide (column_sides j)
  column-met j lies lt =
      let here = in_box-at work.rows.box w j (record { low = pos 0; high = pos 0 }) lies lt in
      let value : form_value (unit (length work.rows.box) j) w ≡ get_or w j (whole (pos 0)) = form_value-unit (length work.rows.box) j w (AllZip-long IsIn work.rows.box w lies) lt in
      All-cons IsMetSide (ColumnAtMost j) (ColumnAtLeast j ∷ []) (subst (λ q. q ≤ℚ whole (bounds_at work.rows j).high) (sym value) here.1)
      (All-cons IsMetSide (ColumnAtLeast j) [] (at_least-met (unit (length work.rows.box) j) (bounds_at work.rows j).low w (subst (λ q. whole (bounds_at work.rows j).low ≤ℚ q) (sym value) here.0)) (All-nil IsMetSide))

  pub solves_from : (n : ℕ) → length w ≡ n → IsWorkPoint work path cut w → SolvesOver n (node_equalities work path) w
  solves_from n size point = record {
    size = size;
    meets = All-append (MeetsOver w) (joined (λ i. row_equality (row_at work.rows i)) (length work.rows.rows)) (map (work_slice work) path)
        (joined-All (MeetsOver w) (λ i. row_equality (row_at work.rows i)) (length work.rows.rows) (λ i lt. equality-met (row_at work.rows i).factors (row_at work.rows i).low (row_at work.rows i).high (point.in_rows i no_row lt)))
        (All-map (MeetsOver w) (work_slice work) path point.on_path);
  }
    where
      no_row : WholeRow
      no_row = record { factors = []; low = None; high = None }

-- the side of a cut, where there is one
cut-met : (work : ReducedRows) (cut : Option ℤ) (w : List ℚ) → IfSome cut (λ value. form_value work.rows.cost w ≤ℚ whole ((value -ℤ pos 1) -ℤ work.cost_constant)) → All (λ side. IsMetAt w (inequality_of work (cut_of cut) side)) (cut_side (is_some cut))
cut-met work None w h = All-nil (λ side. IsMetAt w (inequality_of work (cut_of None) side))
cut-met work (Some v) w h = All-cons (λ side. IsMetAt w (inequality_of work (cut_of (Some v)) side)) Cut [] h (All-nil (λ side. IsMetAt w (inequality_of work (cut_of (Some v)) side)))

cut-unmet : (work : ReducedRows) (cut : Option ℤ) (w : List ℚ) → All (λ side. IsMetAt w (inequality_of work (cut_of cut) side)) (cut_side (is_some cut)) → IfSome cut (λ value. form_value work.rows.cost w ≤ℚ whole ((value -ℤ pos 1) -ℤ work.cost_constant))
cut-unmet work None w h = tt
cut-unmet work (Some v) w h = All-head (λ side. IsMetAt w (inequality_of work (cut_of (Some v)) side)) Cut [] h

module _ (work : ReducedRows) (path : List Slice) (cut : Option ℤ) (w : List ℚ) where
  pub sides_from : IsWorkPoint work path cut w → All (IsMetSide work path cut w) (node_sides work (is_some cut))
  sides_from point =
      All-append (IsMetSide work path cut w) (joined (row_sides work) (length work.rows.rows)) (joined column_sides (length work.rows.box) ++ cut_side (is_some cut))
      (joined-All (IsMetSide work path cut w) (row_sides work) (length work.rows.rows) (λ i lt. row-met work path cut w i (point.in_rows i (record { factors = []; low = None; high = None }) lt)))
      (All-append (IsMetSide work path cut w) (joined column_sides (length work.rows.box)) (cut_side (is_some cut))
      (joined-All (IsMetSide work path cut w) column_sides (length work.rows.box) (λ j lt. column-met work path cut w j point.in_box lt))
      (cut-met work cut w point.below_cut))

  -- ---- and back

  row-back_at : (i : ℕ) → All (MeetsOver w) (row_equality (row_at work.rows i)) → All (IsMetSide work path cut w) (row_sides work i) → IsMetRow w (row_at work.rows i)
  row-back_at i equal sides = by_side (common_side row.low row.high) refl equal sides
    where
      row : WholeRow
      row = row_at work.rows i

      upper : (o : Option ℤ) → (row_at work.rows i).high ≡ o → All (IsMetSide work path cut w) (side_with (RowAtMost i) o) → IfSome o (λ h. form_value (row_at work.rows i).factors w ≤ℚ whole h)
      upper None e h = tt
      upper (Some v) e h = subst (λ (o : Option ℤ). form_value (row_at work.rows i).factors w ≤ℚ whole (unwrap_or o (pos 0))) e (All-head (IsMetSide work path cut w) (RowAtMost i) [] h)

      lower : (o : Option ℤ) → (row_at work.rows i).low ≡ o → All (IsMetSide work path cut w) (side_with (RowAtLeast i) o) → IfSome o (λ l. whole l ≤ℚ form_value (row_at work.rows i).factors w)
      lower None e h = tt
      lower (Some v) e h = subst (λ (o : Option ℤ). whole (unwrap_or o (pos 0)) ≤ℚ form_value (row_at work.rows i).factors w) e (at_least-back (row_at work.rows i).factors (unwrap_or (row_at work.rows i).low (pos 0)) w (All-head (IsMetSide work path cut w) (RowAtLeast i) [] h))

      by_side : (o : Option ℤ) → common_side (row_at work.rows i).low (row_at work.rows i).high ≡ o → All (MeetsOver w) (equality_with (row_at work.rows i).factors o) → All (IsMetSide work path cut w) (sides_unless o (row_at work.rows i) i) → IsMetRow w (row_at work.rows i)
      by_side None e equal sides = (
        lower (row_at work.rows i).low refl (behind (IsMetSide work path cut w) (side_with (RowAtMost i) (row_at work.rows i).high) (side_with (RowAtLeast i) (row_at work.rows i).low) sides),
        upper (row_at work.rows i).high refl (front (IsMetSide work path cut w) (side_with (RowAtMost i) (row_at work.rows i).high) (side_with (RowAtLeast i) (row_at work.rows i).low) sides),
      )
      by_side (Some side) e equal sides =
          let both = both_sides (row_at work.rows i).low (row_at work.rows i).high side e in
          let is : form_value (row_at work.rows i).factors w ≡ whole side = All-head (MeetsOver w) (record { form = (row_at work.rows i).factors; side = side }) [] equal in (
            subst (λ (o : Option ℤ). IfSome o (λ l. whole l ≤ℚ form_value (row_at work.rows i).factors w)) (sym both.0) (le_of_equal (whole side) _ (sym is)),
            subst (λ (o : Option ℤ). IfSome o (λ h. form_value (row_at work.rows i).factors w ≤ℚ whole h)) (sym both.1) (le_of_equal _ (whole side) is),
          )

  column-back : (j : ℕ) → length w ≡ length work.rows.box → j < length work.rows.box → All (IsMetSide work path cut w) (column_sides j) → IsIn (bounds_at work.rows j) (get_or w j (whole (pos 0)))
  column-back j size lt h =
      let value : form_value (unit (length work.rows.box) j) w ≡ get_or w j (whole (pos 0)) = form_value-unit (length work.rows.box) j w size lt in (
        subst (λ q. whole (bounds_at work.rows j).low ≤ℚ q) value (at_least-back (unit (length work.rows.box) j) (bounds_at work.rows j).low w (All-head (IsMetSide work path cut w) (ColumnAtLeast j) [] (All-tail (IsMetSide work path cut w) (ColumnAtMost j) (ColumnAtLeast j ∷ []) h))),
        subst (λ q. q ≤ℚ whole (bounds_at work.rows j).high) value (All-head (IsMetSide work path cut w) (ColumnAtMost j) (ColumnAtLeast j ∷ []) h),
      )

  point_from : (n : ℕ) → n ≡ length work.rows.box → SolvesOver n (node_equalities work path) w → All (IsMetSide work path cut w) (node_sides work (is_some cut)) → IsWorkPoint work path cut w
  point_from n as_many solves sides =
      let of_rows = front (IsMetSide work path cut w) (joined (row_sides work) (length work.rows.rows)) (joined column_sides (length work.rows.box) ++ cut_side (is_some cut)) sides in
      let rest = behind (IsMetSide work path cut w) (joined (row_sides work) (length work.rows.rows)) (joined column_sides (length work.rows.box) ++ cut_side (is_some cut)) sides in
      let of_columns = front (IsMetSide work path cut w) (joined column_sides (length work.rows.box)) (cut_side (is_some cut)) rest in
      let of_cut = behind (IsMetSide work path cut w) (joined column_sides (length work.rows.box)) (cut_side (is_some cut)) rest in
      let equal_rows = front (MeetsOver w) (joined (λ i. row_equality (row_at work.rows i)) (length work.rows.rows)) (map (work_slice work) path) solves.meets in
      let equal_slices = behind (MeetsOver w) (joined (λ i. row_equality (row_at work.rows i)) (length work.rows.rows)) (map (work_slice work) path) solves.meets in
      let size : length w ≡ length work.rows.box = solves.size ∙ as_many in
      record {
        in_box = in_box-from work.rows.box w (record { low = pos 0; high = pos 0 }) size (λ j lt. column-back j size lt (part (IsMetSide work path cut w) column_sides (length work.rows.box) j of_columns lt));
        in_rows = λ i d lt. subst (IsMetRow w) (get_or_default work.rows.rows i (record { factors = []; low = None; high = None }) d lt) (row-back_at i (part (MeetsOver w) (λ i. row_equality (row_at work.rows i)) (length work.rows.rows) i equal_rows lt) (part (IsMetSide work path cut w) (row_sides work) (length work.rows.rows) i of_rows lt));
        on_path = unmapped (MeetsOver w) (work_slice work) path equal_slices;
        below_cut = cut-unmet work cut w of_cut;
      }

-- ---- the region

-- inequalities as rows and limits
pub rows_met : (y : List ℚ) (inequalities : List Inequality) → All (IsMetAt y) inequalities → AllZip ◌≤ℚ◌ (times_vector rationals (map (λ (inequality : Inequality). wholes inequality.factors) inequalities) y) (map (λ (inequality : Inequality). whole inequality.limit) inequalities)
rows_met y [] h = tt
rows_met y (i ∷ inequalities) h = (All-head (IsMetAt y) i inequalities h, rows_met y inequalities (All-tail (IsMetAt y) i inequalities h))

pub met_by_rows : (y : List ℚ) (inequalities : List Inequality) → AllZip ◌≤ℚ◌ (times_vector rationals (map (λ (inequality : Inequality). wholes inequality.factors) inequalities) y) (map (λ (inequality : Inequality). whole inequality.limit) inequalities) → All (IsMetAt y) inequalities
met_by_rows y [] h = All-nil (IsMetAt y)
met_by_rows y (i ∷ inequalities) h = All-cons (IsMetAt y) i inequalities h.0 (met_by_rows y inequalities h.1)

module _ (work : ReducedRows) (frame : Substitution) (path : List Slice) (cut : Option ℤ) (shaped : IsShaped frame) where
  as_many_lines : length frame.to_work.base ≡ length (rows_in frame.to_work.lines)
  as_many_lines = shaped.base ∙ sym (length-rows_in frame.to_work.lines)

  -- a point y meets the inequalities of the region where x0 + K y meets those of the sides, and the other way round
  pub sides_at : (y : List ℚ) → IsInNode frame work cut y → All (IsMetSide work path cut (rational_point_of frame y)) (node_sides work (is_some cut))
  sides_at y there =
      All-weaker (λ side. IsMetAt y (pulled frame.to_work (inequality_of work (cut_of cut) side))) (IsMetSide work path cut (rational_point_of frame y))
      (λ side met. (IsMetAt-pulled (dimension_of frame) frame.to_work.base (rows_in frame.to_work.lines) (inequality_of work (cut_of cut) side) y (HasWidth-rows_in frame.to_work.lines shaped.size_lines) as_many_lines).1 met)
      (node_sides work (is_some cut))
      (unmapped (IsMetAt y) (λ side. pulled frame.to_work (inequality_of work (cut_of cut) side)) (node_sides work (is_some cut)) (met_by_rows y (node_system frame work cut) there.met))

  pub region_from : (y : List ℚ) → length y ≡ dimension_of frame → All (IsMetSide work path cut (rational_point_of frame y)) (node_sides work (is_some cut)) → IsInNode frame work cut y
  region_from y size sides = record {
    coordinates = size;
    met = rows_met y (node_system frame work cut)
        (All-map (IsMetAt y) (λ side. pulled frame.to_work (inequality_of work (cut_of cut) side)) (node_sides work (is_some cut))
        (All-weaker (IsMetSide work path cut (rational_point_of frame y)) (λ side. IsMetAt y (pulled frame.to_work (inequality_of work (cut_of cut) side)))
        (λ side met. (IsMetAt-pulled (dimension_of frame) frame.to_work.base (rows_in frame.to_work.lines) (inequality_of work (cut_of cut) side) y (HasWidth-rows_in frame.to_work.lines shaped.size_lines) as_many_lines).0 met)
        (node_sides work (is_some cut)) sides));
  }

module _ (model : WholeRows) (work : ReducedRows) (frame : Substitution) (path : List Slice) (cut : Option ℤ) (limits : IsWithinLimits model) (shaped : IsShaped frame) (framed : IsFramedNode model work frame path) where
  over_rationals : IsRationalFrame (node_equalities work path) frame
  over_rationals = rational_frame (node_equalities work path) frame shaped framed.is_frame

  -- Each rational point of a node has coordinates in the region.
  pub inward : (x : List ℚ) → IsRationalPoint model path cut x → (y : List ℚ) × (IsInNode frame work cut y × StandsFor model frame y x)
  inward x point =
      let w = kept model.box x in
      let at_work = work_point model work path cut limits framed.reduced x framed.forms framed.kept point in
      let size : length w ≡ columns_of frame = AllZip-long IsIn work.rows.box w at_work.in_box ∙ sym framed.columns in
      let y = rational_coordinates_of frame w in
      let same : rational_point_of frame y ≡ w = over_rationals.onto w (solves_from work path cut w (columns_of frame) size at_work) in
      (y, (region_from work frame path cut shaped y (over_rationals.size w) (subst (λ (v : List ℚ). All (IsMetSide work path cut v) (node_sides work (is_some cut))) (sym same) (sides_from work path cut w at_work)), same))

  -- Each point of the region stands for one of the node.
  pub outward : (y : List ℚ) → IsInNode frame work cut y → (x : List ℚ) × (IsRationalPoint model path cut x × StandsFor model frame y x)
  outward y there =
      let w = rational_point_of frame y in
      let at_work = point_from work path cut w (columns_of frame) framed.columns (over_rationals.into y there.coordinates) (sides_at work frame path cut shaped y there) in
      (spread_over model work path cut limits framed.reduced w, (model_point model work path cut limits framed.reduced w framed.forms framed.kept at_work, sym (kept_spread model work path cut limits framed.reduced w at_work)))

  -- A form has the same values at both, up to a constant.
  pub values : (x y : List ℚ) (form : List ℤ) → IsRationalPoint model path cut x → StandsFor model frame y x → length form ≡ length model.box → form_value form x ≡ form_value (pulled_form frame.to_work (work_form work form)) y +ℚ whole (pulled_constant frame.to_work (work_form work form) +ℤ removed_part model.box form)
  values x y form point stands dense =
      let f = work_form work form in
      sums_at model work path cut limits framed.reduced x point.in_box form dense
      ∙ ap₂ (λ (g : List ℤ) (w : List ℚ). form_value g w +ℚ whole (removed_part model.box form)) (sym (work_form-is model work form framed.reduced dense)) (sym stands)
      ∙ ap (λ t. t +ℚ whole (removed_part model.box form)) (form_value-point_over (dimension_of frame) frame.to_work.base (rows_in frame.to_work.lines) f y (HasWidth-rows_in frame.to_work.lines shaped.size_lines) (as_many_lines work frame path cut shaped))
      ∙ regrouped (whole (pulled_constant frame.to_work f)) (form_value (pulled_form frame.to_work f) y) (whole (removed_part model.box form))
      ∙ ap (λ t. form_value (pulled_form frame.to_work f) y +ℚ t) (sym (whole_add (pulled_constant frame.to_work f) (removed_part model.box form)))
    where
      regrouped : (c v p : ℚ) → (c +ℚ v) +ℚ p ≡ v +ℚ (c +ℚ p)
      regrouped c v p = ring rationals (c ∷ v ∷ p ∷ []) (search reads depth 30) (search reads depth 30) refl
