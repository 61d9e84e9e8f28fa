-- The values that meet the equalities and the other inequalities of a node are the points of its reduced rows.
use Rattle.std.proofs.Common.{◌≡◌, ⊎_elim, ℕ, zero, suc, ◌<◌, Bool, true, false, List, [], ◌∷◌, ◌++◌, length, map, get_or, ℤ, pos, neg_ℤ, ◌-ℤ◌, refl, sym, ap, ap₂, subst, ◌∙◌, arith, All}
use Rattle.std.specs.Prelude.{Option, Some, None, IfSome, is_some, unwrap_or, if◌then◌else◌}
use Rattle.std.specs.Ordering.{int_eq}
use Rattle.std.proofs.lemmas.Bool.{cases_eq}
use Rattle.std.proofs.lemmas.Bool.Decides.{Decides-int_eq}
use Rattle.std.proofs.lemmas.List.Elements.{All-append, All-cons, All-from_get_or, All-get_or, All-head, All-nil, All-tail}
use Rattle.exact_math.specs.Ring.{integers}
use Rattle.exact_math.specs.Rational.{ℚ, whole, neg_ℚ, ◌-ℚ◌, ◌≤ℚ◌}
use Rattle.exact_math.specs.RationalOrder.{le_antisym}
use Rattle.exact_math.specs.RationalRing.{rationals}
use Rattle.exact_math.specs.RingSolver.{ring, reads}
use Rattle.exact_vectors.specs.Vectors.{negate}
use Rattle.whole_vectors.specs.WholeVectorLaws.{whole_neg}
use Rattle.whole_rows.specs.declared.bounds.Bounds.{Bounds}
use Rattle.whole_rows.specs.WholeRows.{WholeRow, WholeRows, row_at, bounds_at}
use Rattle.farkas_rows.specs.declared.path.Slice.{Slice}
use Rattle.farkas_rows.specs.Inequalities.{at_least, at_most, unit}
use Rattle.farkas_rows.specs.Refutes.{HasForms}
use Rattle.node_point.specs.RationalPoints.{form_value, IsWithin}
use Rattle.form_widths.specs.FormLaws.{form_value-negate, form_value-unit}
use Rattle.form_widths.specs.Inequalities.{IsMetAt}
use Rattle.form_widths.specs.RationalOrderLaws.{le_by, le_of_equal}
use Rattle.rational_frames.specs.RationalFrames.{MeetsOver}
use Rattle.presolve_map.specs.Columns.{kept}
use Rattle.presolve_map.specs.ReducedRows.{ReducedRows, IsReduced}
use Rattle.farkas_lift.specs.Joined.{joined}
use Rattle.farkas_lift.specs.NodeEqualities.{common_side, equality_with, row_equality, work_slice}
use Rattle.farkas_lift.specs.NodeSides.{column_sides, cut_side, row_sides, side_with, sides_unless}
use Rattle.farkas_lift.specs.NodeSystem.{cut_of}
use Rattle.farkas_lift.specs.declared.side.NodeSide.{NodeSide}
use Rattle.farkas_lift.specs.declared.side.NodeSide.TheVariants.{RowAtMost, RowAtLeast, ColumnAtMost, ColumnAtLeast, Cut}
use Rattle.farkas_lift.proofs.JoinedLaws.{joined-All}
use Rattle.node_regions.specs.KeptFormLaws.{work_form-kept}
use Rattle.node_regions.specs.MetNodes.{MeetsNode, MeetsSide}
use Rattle.node_regions.specs.PlacedPoints.{IsInBox, IsReducedPoint}

-- ---- what holds of all holds of the parts

pub front_part : {A : Type 0} (P : A → Type 0) (xs ys : List A) → All P (xs ++ ys) → All P xs
front_part P [] ys h = All-nil P
front_part P (x ∷ xs) ys h = All-cons P x xs (All-head P x (xs ++ ys) h) (front_part P xs ys (All-tail P x (xs ++ ys) h))

pub back_part : {A : Type 0} (P : A → Type 0) (xs ys : List A) → All P (xs ++ ys) → All P ys
back_part P [] ys h = h
back_part P (x ∷ xs) ys h = back_part P xs ys (All-tail P x (xs ++ ys) h)

pub joined_part : {A : Type 0} (P : A → Type 0) (part : ℕ → List A) (count i : ℕ) → i < count → All P (joined part count) → All P (part i)
joined_part P part zero i lt h = absurd (omega arith)
joined_part P part (suc count) i lt h =
    ⊎_elim (λ same. subst (λ (j : ℕ). All P (part j)) (sym same) (back_part P (joined part count) (part count) h))
    (λ apart. joined_part P part count i (omega (arith, apart)) (front_part P (joined part count) (part count) h)) (cases_eq i count)

-- ---- inequalities

-- a form is at least a side
least-on : (form : List ℤ) (side : ℤ) (w : List ℚ) → IsMetAt w (at_least form side) → whole side ≤ℚ form_value form w
least-on form side w h =
    le_by (whole side) (form_value form w) (form_value (negate integers form) w) (whole (neg_ℤ side)) h
    (turned (whole side) (form_value form w) ∙ ap₂ (λ (p q : ℚ). p -ℚ q) (sym (whole_neg side)) (sym (form_value-negate form w)))
  where
    turned : (s v : ℚ) → v -ℚ s ≡ neg_ℚ s -ℚ neg_ℚ v
    turned s v = ring rationals (s ∷ v ∷ []) (search reads depth 30) (search reads depth 30) refl

least-back : (form : List ℤ) (side : ℤ) (w : List ℚ) → whole side ≤ℚ form_value form w → IsMetAt w (at_least form side)
least-back form side w h =
    le_by (form_value (negate integers form) w) (whole (neg_ℤ side)) (whole side) (form_value form w) h
    (ap₂ (λ (p q : ℚ). p -ℚ q) (whole_neg side) (form_value-negate form w) ∙ turned (whole side) (form_value form w))
  where
    turned : (s v : ℚ) → neg_ℚ s -ℚ neg_ℚ v ≡ v -ℚ s
    turned s v = ring rationals (s ∷ v ∷ []) (search reads depth 30) (search reads depth 30) refl

abbrev no_bounds : Bounds
no_bounds = record { low = pos 0; high = pos 0 }

-- a box by its places
in_box-from : (box : List Bounds) (w : List ℚ) → length w ≡ length box → ((j : ℕ) → j < length box → (whole (get_or box j no_bounds).low ≤ℚ get_or w j (whole (pos 0))) × (get_or w j (whole (pos 0)) ≤ℚ whole (get_or box j no_bounds).high)) → IsInBox box w
in_box-from [] [] e h = tt
in_box-from [] (q ∷ w) e h = absurd (omega arith)
in_box-from (b ∷ box) [] e h = absurd (omega arith)
in_box-from (b ∷ box) (q ∷ w) e h = (h 0 (omega arith), in_box-from box w (omega arith) (λ j lt. h (suc j) (omega arith)))

in_box-at : (box : List Bounds) (w : List ℚ) (j : ℕ) → j < length box → IsInBox box w → (whole (get_or box j no_bounds).low ≤ℚ get_or w j (whole (pos 0))) × (get_or w j (whole (pos 0)) ≤ℚ whole (get_or box j no_bounds).high)
in_box-at [] w j lt h = absurd (omega arith)
in_box-at (b ∷ box) [] j lt h = absurd h
in_box-at (b ∷ box) (q ∷ w) zero lt h = h.0
in_box-at (b ∷ box) (q ∷ w) (suc j) lt h = in_box-at box w j (omega arith) h.1

-- both sides of an equality
common_sides : (low high : Option ℤ) (s : ℤ) → common_side low high ≡ Some s → (low ≡ Some s) × (high ≡ Some s)
common_sides None high s e = cc
common_sides (Some l) None s e = cc
common_sides (Some l) (Some h) s e = by_test (int_eq l h) refl e
  where
    by_test : (t : Bool) → int_eq l h ≡ t → (if t then Some l else None) ≡ Some s → (Some l ≡ Some s) × (Some h ≡ Some s)
    by_test true is e = (e, ap (λ (z : ℤ). Some z) (sym ((Decides-int_eq l h).0 is)) ∙ e)
    by_test false is e = cc

module _ (work : ReducedRows) (value : ℤ) (w : List ℚ) where
  -- ---- a row

  module _ (i : ℕ) where
    low-met : (low : Option ℤ) → (row_at work.rows i).low ≡ low → All (MeetsSide work value w) (side_with (RowAtLeast i) low) → IfSome low (λ l. whole l ≤ℚ form_value (row_at work.rows i).factors w)
    low-met None e h = tt
    low-met (Some l) e h = least-on (row_at work.rows i).factors l w (subst (λ (o : Option ℤ). IsMetAt w (at_least (row_at work.rows i).factors (unwrap_or o (pos 0)))) e (All-head (MeetsSide work value w) (RowAtLeast i) [] h))

    high-met : (high : Option ℤ) → (row_at work.rows i).high ≡ high → All (MeetsSide work value w) (side_with (RowAtMost i) high) → IfSome high (λ h. form_value (row_at work.rows i).factors w ≤ℚ whole h)
    high-met None e h = tt
    high-met (Some u) e h = subst (λ (o : Option ℤ). IsMetAt w (at_most (row_at work.rows i).factors (unwrap_or o (pos 0)))) e (All-head (MeetsSide work value w) (RowAtMost i) [] h)

    row-met : (o : Option ℤ) → common_side (row_at work.rows i).low (row_at work.rows i).high ≡ o → All (MeetsSide work value w) (sides_unless o (row_at work.rows i) i) → All (MeetsOver w) (equality_with (row_at work.rows i).factors o)
        → IsWithin (row_at work.rows i).low (row_at work.rows i).high (form_value (row_at work.rows i).factors w)
    row-met None e sides equalities =
        (low-met (row_at work.rows i).low refl (back_part (MeetsSide work value w) (side_with (RowAtMost i) (row_at work.rows i).high) (side_with (RowAtLeast i) (row_at work.rows i).low) sides), high-met (row_at work.rows i).high refl (front_part (MeetsSide work value w) (side_with (RowAtMost i) (row_at work.rows i).high) (side_with (RowAtLeast i) (row_at work.rows i).low) sides))
    row-met (Some s) e sides equalities =
        let both = common_sides (row_at work.rows i).low (row_at work.rows i).high s e in
        let same : form_value (row_at work.rows i).factors w ≡ whole s = All-head (MeetsOver w) (record { form = (row_at work.rows i).factors; side = s }) [] equalities in
        (subst (λ (o : Option ℤ). IfSome o (λ l. whole l ≤ℚ form_value (row_at work.rows i).factors w)) (sym both.0) (le_of_equal (whole s) (form_value (row_at work.rows i).factors w) (sym same)), subst (λ (o : Option ℤ). IfSome o (λ h. form_value (row_at work.rows i).factors w ≤ℚ whole h)) (sym both.1) (le_of_equal (form_value (row_at work.rows i).factors w) (whole s) same))

    low-side : (low : Option ℤ) → (row_at work.rows i).low ≡ low → IfSome low (λ l. whole l ≤ℚ form_value (row_at work.rows i).factors w) → All (MeetsSide work value w) (side_with (RowAtLeast i) low)
    low-side None e h = All-nil (MeetsSide work value w)
    low-side (Some l) e h = All-cons (MeetsSide work value w) (RowAtLeast i) [] (subst (λ (o : Option ℤ). IsMetAt w (at_least (row_at work.rows i).factors (unwrap_or o (pos 0)))) (sym e) (least-back (row_at work.rows i).factors l w h)) (All-nil (MeetsSide work value w))

    high-side : (high : Option ℤ) → (row_at work.rows i).high ≡ high → IfSome high (λ h. form_value (row_at work.rows i).factors w ≤ℚ whole h) → All (MeetsSide work value w) (side_with (RowAtMost i) high)
    high-side None e h = All-nil (MeetsSide work value w)
    high-side (Some u) e h = All-cons (MeetsSide work value w) (RowAtMost i) [] (subst (λ (o : Option ℤ). IsMetAt w (at_most (row_at work.rows i).factors (unwrap_or o (pos 0)))) (sym e) h) (All-nil (MeetsSide work value w))

    row-sides : (o : Option ℤ) → IsWithin (row_at work.rows i).low (row_at work.rows i).high (form_value (row_at work.rows i).factors w) → All (MeetsSide work value w) (sides_unless o (row_at work.rows i) i)
    row-sides None h = All-append (MeetsSide work value w) (side_with (RowAtMost i) (row_at work.rows i).high) (side_with (RowAtLeast i) (row_at work.rows i).low) (high-side (row_at work.rows i).high refl h.1) (low-side (row_at work.rows i).low refl h.0)
    row-sides (Some s) h = All-nil (MeetsSide work value w)

    row-equality : (o : Option ℤ) → common_side (row_at work.rows i).low (row_at work.rows i).high ≡ o → IsWithin (row_at work.rows i).low (row_at work.rows i).high (form_value (row_at work.rows i).factors w) → All (MeetsOver w) (equality_with (row_at work.rows i).factors o)
    row-equality None e h = All-nil (MeetsOver w)
    row-equality (Some s) e h =
        let both = common_sides (row_at work.rows i).low (row_at work.rows i).high s e in
        let least : whole s ≤ℚ form_value (row_at work.rows i).factors w = subst (λ (o : Option ℤ). IfSome o (λ l. whole l ≤ℚ form_value (row_at work.rows i).factors w)) both.0 h.0 in
        let greatest : form_value (row_at work.rows i).factors w ≤ℚ whole s = subst (λ (o : Option ℤ). IfSome o (λ h. form_value (row_at work.rows i).factors w ≤ℚ whole h)) both.1 h.1 in
        All-cons (MeetsOver w) (record { form = (row_at work.rows i).factors; side = s }) [] (le_antisym (form_value (row_at work.rows i).factors w) (whole s) greatest least) (All-nil (MeetsOver w))

  -- ---- a column

  column-met : (j : ℕ) → length w ≡ length work.rows.box → j < length work.rows.box → All (MeetsSide work value w) (column_sides j) → (whole (bounds_at work.rows j).low ≤ℚ get_or w j (whole (pos 0))) × (get_or w j (whole (pos 0)) ≤ℚ whole (bounds_at work.rows j).high)
  column-met j e lt sides =
      let form = unit (length work.rows.box) j in
      let is = form_value-unit (length work.rows.box) j w e lt in
      let high = All-head (MeetsSide work value w) (ColumnAtMost j) (ColumnAtLeast j ∷ []) sides in
      let low = least-on form (bounds_at work.rows j).low w (All-head (MeetsSide work value w) (ColumnAtLeast j) [] (All-tail (MeetsSide work value w) (ColumnAtMost j) (ColumnAtLeast j ∷ []) sides)) in
      (subst (λ (q : ℚ). whole (bounds_at work.rows j).low ≤ℚ q) is low, subst (λ (q : ℚ). q ≤ℚ whole (bounds_at work.rows j).high) is high)

  column-sides : (j : ℕ) → length w ≡ length work.rows.box → j < length work.rows.box → (whole (bounds_at work.rows j).low ≤ℚ get_or w j (whole (pos 0))) × (get_or w j (whole (pos 0)) ≤ℚ whole (bounds_at work.rows j).high) → All (MeetsSide work value w) (column_sides j)
  column-sides j e lt h =
      let form = unit (length work.rows.box) j in
      let is = form_value-unit (length work.rows.box) j w e lt in
      All-cons (MeetsSide work value w) (ColumnAtMost j) (ColumnAtLeast j ∷ []) (subst (λ (q : ℚ). q ≤ℚ whole (bounds_at work.rows j).high) (sym is) h.1)
      (All-cons (MeetsSide work value w) (ColumnAtLeast j) [] (least-back form (bounds_at work.rows j).low w (subst (λ (q : ℚ). whole (bounds_at work.rows j).low ≤ℚ q) (sym is) h.0)) (All-nil (MeetsSide work value w)))

-- ---- the cut

cut-met : (work : ReducedRows) (w : List ℚ) (cut : Option ℤ) → All (MeetsSide work (cut_of cut) w) (cut_side (is_some cut)) → IfSome cut (λ value. form_value work.rows.cost w ≤ℚ whole ((value -ℤ pos 1) -ℤ work.cost_constant))
cut-met work w None h = tt
cut-met work w (Some v) h = All-head (MeetsSide work v w) Cut [] h

cut-side : (work : ReducedRows) (w : List ℚ) (cut : Option ℤ) → IfSome cut (λ value. form_value work.rows.cost w ≤ℚ whole ((value -ℤ pos 1) -ℤ work.cost_constant)) → All (MeetsSide work (cut_of cut) w) (cut_side (is_some cut))
cut-side work w None h = All-nil (MeetsSide work (pos 0) w)
cut-side work w (Some v) h = All-cons (MeetsSide work v w) Cut [] h (All-nil (MeetsSide work v w))

-- ---- the path

path-met : (model : WholeRows) (work : ReducedRows) (w : List ℚ) (path : List Slice) → IsReduced model work → HasForms (length model.box) path → All (MeetsOver w) (map (work_slice work) path) → All (λ (slice : Slice). form_value (kept model.box slice.form) w ≡ whole slice.beta) path
path-met model work w [] reduced forms h = All-nil (λ (slice : Slice). form_value (kept model.box slice.form) w ≡ whole slice.beta)
path-met model work w (s ∷ path) reduced forms h =
    All-cons (λ (slice : Slice). form_value (kept model.box slice.form) w ≡ whole slice.beta) s path
    (ap (λ (f : List ℤ). form_value f w) (sym (work_form-kept model work s.form reduced (All-head (λ (slice : Slice). length slice.form ≡ length model.box) s path forms))) ∙ All-head (MeetsOver w) (work_slice work s) (map (work_slice work) path) h)
    (path-met model work w path reduced (All-tail (λ (slice : Slice). length slice.form ≡ length model.box) s path forms) (All-tail (MeetsOver w) (work_slice work s) (map (work_slice work) path) h))

path-equalities : (model : WholeRows) (work : ReducedRows) (w : List ℚ) (path : List Slice) → IsReduced model work → HasForms (length model.box) path → All (λ (slice : Slice). form_value (kept model.box slice.form) w ≡ whole slice.beta) path → All (MeetsOver w) (map (work_slice work) path)
path-equalities model work w [] reduced forms h = All-nil (MeetsOver w)
path-equalities model work w (s ∷ path) reduced forms h =
    All-cons (MeetsOver w) (work_slice work s) (map (work_slice work) path)
    (ap (λ (f : List ℤ). form_value f w) (work_form-kept model work s.form reduced (All-head (λ (slice : Slice). length slice.form ≡ length model.box) s path forms)) ∙ All-head (λ (slice : Slice). form_value (kept model.box slice.form) w ≡ whole slice.beta) s path h)
    (path-equalities model work w path reduced (All-tail (λ (slice : Slice). length slice.form ≡ length model.box) s path forms) (All-tail (λ (slice : Slice). form_value (kept model.box slice.form) w ≡ whole slice.beta) s path h))

abbrev no_row : WholeRow
no_row = record { factors = []; low = None; high = None }

-- Values that meet the node are a point of the reduced rows.
pub met_is_reduced : (model : WholeRows) (work : ReducedRows) (path : List Slice) (cut : Option ℤ) (w : List ℚ) → IsReduced model work → HasForms (length model.box) path → MeetsNode work path cut w → IsReducedPoint model.box work path cut w
met_is_reduced model work path cut w reduced forms met =
    let S : NodeSide → Type 0 = MeetsSide work (cut_of cut) w in
    let rows = joined (row_sides work) (length work.rows.rows) in
    let columns = joined column_sides (length work.rows.box) in
    let row_equalities = joined (λ i. row_equality (row_at work.rows i)) (length work.rows.rows) in
    let rest = back_part S rows (columns ++ cut_side (is_some cut)) met.sides in
    record {
      in_box = in_box-from work.rows.box w met.solves.size (λ j lt. column-met work (cut_of cut) w j met.solves.size lt (joined_part S column_sides (length work.rows.box) j lt (front_part S columns (cut_side (is_some cut)) rest)));
      in_rows = All-from_get_or (λ (row : WholeRow). IsWithin row.low row.high (form_value row.factors w)) work.rows.rows no_row (λ i lt.
          row-met work (cut_of cut) w i (common_side (row_at work.rows i).low (row_at work.rows i).high) refl
          (joined_part S (row_sides work) (length work.rows.rows) i lt (front_part S rows (columns ++ cut_side (is_some cut)) met.sides))
          (joined_part (MeetsOver w) (λ i. row_equality (row_at work.rows i)) (length work.rows.rows) i lt (front_part (MeetsOver w) row_equalities (map (work_slice work) path) met.solves.meets)));
      on_path = path-met model work w path reduced forms (back_part (MeetsOver w) row_equalities (map (work_slice work) path) met.solves.meets);
      below_cut = cut-met work w cut (back_part S columns (cut_side (is_some cut)) rest);
    }

-- And the other way round.
pub reduced_is_met : (model : WholeRows) (work : ReducedRows) (path : List Slice) (cut : Option ℤ) (w : List ℚ) → IsReduced model work → HasForms (length model.box) path → IsReducedPoint model.box work path cut w → MeetsNode work path cut w
reduced_is_met model work path cut w reduced forms point =
    let S : NodeSide → Type 0 = MeetsSide work (cut_of cut) w in
    let rows = joined (row_sides work) (length work.rows.rows) in
    let columns = joined column_sides (length work.rows.box) in
    let row_equalities = joined (λ i. row_equality (row_at work.rows i)) (length work.rows.rows) in
    let size : length w ≡ length work.rows.box = sym (box-long work.rows.box w point.in_box) in
    let at : (i : ℕ) → i < length work.rows.rows → IsWithin (row_at work.rows i).low (row_at work.rows i).high (form_value (row_at work.rows i).factors w) = λ i lt. All-get_or (λ (row : WholeRow). IsWithin row.low row.high (form_value row.factors w)) work.rows.rows i no_row lt point.in_rows in
    record {
      solves = record {
        size = size;
        meets = All-append (MeetsOver w) row_equalities (map (work_slice work) path)
            (joined-All (MeetsOver w) (λ i. row_equality (row_at work.rows i)) (length work.rows.rows) (λ i lt. row-equality work (cut_of cut) w i (common_side (row_at work.rows i).low (row_at work.rows i).high) refl (at i lt)))
            (path-equalities model work w path reduced forms point.on_path);
      };
      sides = All-append S rows (columns ++ cut_side (is_some cut))
          (joined-All S (row_sides work) (length work.rows.rows) (λ i lt. row-sides work (cut_of cut) w i (common_side (row_at work.rows i).low (row_at work.rows i).high) (at i lt)))
          (All-append S columns (cut_side (is_some cut))
          (joined-All S column_sides (length work.rows.box) (λ j lt. column-sides work (cut_of cut) w j size lt (in_box-at work.rows.box w j lt point.in_box)))
          (cut-side work w cut point.below_cut));
    }
  where
    box-long : (box : List Bounds) (w : List ℚ) → IsInBox box w → length box ≡ length w
    box-long [] [] h = refl
    box-long [] (q ∷ w) h = absurd h
    box-long (b ∷ box) [] h = absurd h
    box-long (b ∷ box) (q ∷ w) h = ap suc (box-long box w h.1)
