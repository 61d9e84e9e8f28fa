-- The only point of a frame without coordinates, among all columns.
use Rattle.std.proofs.Common.{◌≡◌, inl, inr, ℕ, zero, suc, ◌<◌, ◌≤◌, ◌^◌, Bool, true, false, List, [], ◌∷◌, length, get_or, map, ℤ, pos, nat_abs, ◌+ℤ◌, ◌-ℤ◌, ◌*ℤ◌, ◌≤ℤ◌, ◌<ℤ◌, refl, sym, ap, ap₂, subst, ◌∙◌, arith}
use Rattle.std.specs.Prelude.{All, FitsSigned, IfSome, Option, Some, None}
use Rattle.std.proofs.lemmas.Bool.{cond_both}
use Rattle.std.proofs.lemmas.Int.{ints}
use Rattle.std.proofs.lemmas.List.{length-map}
use Rattle.std.proofs.lemmas.List.Elements.{All-cons, All-get_or, All-head, All-nil, All-tail, All-weaker}
use Rattle.exact_math.specs.IntegerRing.{linear}
use Rattle.exact_math.specs.Ring.{integers}
use Rattle.exact_math.specs.Rational.{ℚ, whole, ◌+ℚ◌, ◌≤ℚ◌}
use Rattle.exact_math.specs.RationalOrder.{le_from_whole}
use Rattle.exact_math.specs.RationalRing.{rationals}
use Rattle.exact_math.specs.RingSolver.{ring, reads}
use Rattle.exact_vectors.specs.Range.{StaysInRange}
use Rattle.exact_vectors.specs.Vectors.{dot, zeros}
use Rattle.exact_vectors.specs.DotLaws as Dot
use Rattle.whole_vectors.specs.WholeVectorLaws.{dot-map_whole, whole-injective}
use Rattle.whole_rows.specs.declared.bounds.Bounds.{Bounds}
use Rattle.whole_rows.specs.WholeRows.{WholeRow, WholeRows, IsWithin, IsWithinLimits, LiesIn, MeetsRow, reach}
use Rattle.farkas_rows.specs.declared.path.Slice.{Slice}
use Rattle.farkas_rows.specs.Inequalities.{unit}
use Rattle.node_point.specs.RationalPoints as rational_points
use Rattle.node_point.specs.RationalPoints.{form_value, IsRationalPoint}
use Rattle.form_widths.specs.Inequalities.{point_over}
use Rattle.proof_tree.specs.Moves.{Improves}
use Rattle.spaces.specs.Maps.{AffineMap, ImageStays, image}
use Rattle.spaces.specs.TableLaws.{length-rows_in}
use Rattle.spaces.specs.Tables.{row_at, rows_in}
use Rattle.norm_gauge.specs.Widths.{IsInhabited}
use Rattle.reformulate.specs.Substitutions.{IsShaped, Substitution, dimension_of}
use Rattle.rational_frames.specs.RationalFrames.{rational_point_of}
use Rattle.presolve_map.specs.Columns.{IsColumnMap, is_open, kept, kept_columns, open_flags, removed_value, removed_values}
use Rattle.presolve_map.specs.Lifted.{IsColumnLine}
use Rattle.presolve_map.specs.ReducedRows.{ReducedRows}
use Rattle.presolve_map.specs.Selections.{select}
use Rattle.presolve_map.proofs.KeptLaws.{length-kept}
use Rattle.presolve_map.proofs.LiftLaws.{row-is_column}
use Rattle.presolve_map.proofs.PointLaws.{image-spread, spread}
use Rattle.node_regions.specs.CoordinateLaws.{point_of_coordinates, region-reduced}
use Rattle.node_regions.specs.NodeRegions.{node_polytope}
use Rattle.node_regions.specs.PlacedPoints.{IsInBox, placed_point, spread_over}
use Rattle.exact_nodes.specs.ExactMoves.{IsNodeOf}
use Rattle.exact_nodes.proofs.NodeFacts.{node_reached, node_reduced}
use mir.Syntax.{w128}

-- ---- sums over the line of a column

-- at most 2^96 in size
abbrev IsSmall : ℤ → Type 0
IsSmall z = nat_abs z ≤ 2 ^ 96

small_fits : (z : ℤ) → IsSmall z → FitsSigned w128 z
small_fits z h = omega (arith, ints, h)

sum_fits : (s x : ℤ) → IsSmall s → IsSmall x → FitsSigned w128 (s +ℤ x)
sum_fits s x h k = omega (arith, ints, h, k)

zeros_stay : (n : ℕ) (s : ℤ) (w : List ℤ) → FitsSigned w128 s → StaysInRange s (zeros integers n) w
zeros_stay zero s w h = tt
zeros_stay (suc n) s [] h = tt
zeros_stay (suc n) s (x ∷ w) h =
    let none : pos 0 *ℤ x ≡ pos 0 = omega linear in
    let same : s +ℤ pos 0 *ℤ x ≡ s = omega linear in (
      subst (FitsSigned w128) (sym none) (small_fits (pos 0) (omega arith)),
      subst (FitsSigned w128) (sym same) h,
      subst (λ (t : ℤ). StaysInRange t (zeros integers n) w) (sym same) (zeros_stay n s w h),
    )

unit_stays : (n k : ℕ) (s : ℤ) (w : List ℤ) → k < n → IsSmall s → All IsSmall w → StaysInRange s (unit n k) w
unit_stays zero k s w lt h small = absurd (omega (arith, lt))
unit_stays (suc n) zero s [] lt h small = tt
unit_stays (suc n) (suc k) s [] lt h small = tt
unit_stays (suc n) zero s (x ∷ w) lt h small =
    let once : pos 1 *ℤ x ≡ x = omega linear in
    let item = All-head IsSmall x w small in (
      subst (FitsSigned w128) (sym once) (small_fits x item),
      subst (λ (t : ℤ). FitsSigned w128 (s +ℤ t)) (sym once) (sum_fits s x h item),
      subst (λ (t : ℤ). StaysInRange (s +ℤ t) (zeros integers n) w) (sym once) (zeros_stay n (s +ℤ x) w (sum_fits s x h item)),
    )
unit_stays (suc n) (suc k) s (x ∷ w) lt h small =
    let none : pos 0 *ℤ x ≡ pos 0 = omega linear in
    let same : s +ℤ pos 0 *ℤ x ≡ s = omega linear in (
      subst (FitsSigned w128) (sym none) (small_fits (pos 0) (omega arith)),
      subst (FitsSigned w128) (sym same) (small_fits s h),
      subst (λ (t : ℤ). StaysInRange t (unit n k) w) (sym same) (unit_stays n k s w (omega (arith, lt)) h (All-tail IsSmall x w small)),
    )

-- ---- values in the box

-- no bound is above 2^96 in size
abbrev IsNear : Bounds → Type 0
IsNear bounds = reach bounds ≤ 2 ^ 96

near_value : (b : Bounds) (z : ℤ) → IsNear b → b.low ≤ℤ z → z ≤ℤ b.high → IsSmall z
near_value b z near low high = omega (arith, ints, near, low, high)

box_values : (box : List Bounds) (x : List ℤ) → All IsNear box → LiesIn box x → All IsSmall x
box_values box [] near h = All-nil IsSmall
box_values [] (v ∷ x) near h = absurd h
box_values (b ∷ box) (v ∷ x) near h = All-cons IsSmall v x (near_value b v (All-head IsNear b box near) h.0.0 h.0.1) (box_values box x (All-tail IsNear b box near) h.1)

select_near : (flags : List Bool) (box : List Bounds) → All IsNear box → All IsNear (select flags box)
select_near [] box near = All-nil IsNear
select_near (flag ∷ flags) [] near = All-nil IsNear
select_near (true ∷ flags) (b ∷ box) near = All-cons IsNear b (select flags box) (All-head IsNear b box near) (select_near flags box (All-tail IsNear b box near))
select_near (false ∷ flags) (b ∷ box) near = select_near flags box (All-tail IsNear b box near)

removed_small : (box : List Bounds) → All IsNear box → All IsSmall (removed_values box)
removed_small [] near = All-nil IsSmall
removed_small (b ∷ box) near =
    All-cons IsSmall (removed_value b) (removed_values box) (cond_both (is_open b) (pos 0) b.low IsSmall (λ e. omega arith) (λ e. low_small b (All-head IsNear b box near)))
    (removed_small box (All-tail IsNear b box near))
  where
    low_small : (b : Bounds) → IsNear b → IsSmall b.low
    low_small b near = omega (arith, ints, near)

-- Values of the kept columns are placed among all columns within range.
pub placing_stays : (box : List Bounds) (placing : AffineMap) (w : List ℤ) → IsColumnMap box placing → All IsNear box → LiesIn (kept box box) w → ImageStays placing w
placing_stays box placing w is near lies i lt = by_line (row-is_column placing i (box, is) (omega (arith, lt, many, is.height)))
  where
    many : length placing.base ≡ length box
    many = ap (λ (l : List ℤ). length l) is.base ∙ length-map box removed_value

    base_small : IsSmall (get_or placing.base i (pos 0))
    base_small = subst (λ (l : List ℤ). IsSmall (get_or l i (pos 0))) (sym is.base) (All-get_or IsSmall (removed_values box) i (pos 0) (omega (arith, lt, ap (λ (l : List ℤ). length l) is.base)) (removed_small box near))

    by_line : IsColumnLine placing.lines.width (row_at placing.lines i) → StaysInRange (get_or placing.base i (pos 0)) (row_at placing.lines i) w
    by_line (inl none) = subst (λ (l : List ℤ). StaysInRange (get_or placing.base i (pos 0)) l w) (sym none) (zeros_stay placing.lines.width (get_or placing.base i (pos 0)) w (small_fits (get_or placing.base i (pos 0)) base_small))
    by_line (inr some) =
        subst (λ (l : List ℤ). StaysInRange (get_or placing.base i (pos 0)) l w) (sym some.2)
        (unit_stays placing.lines.width some.0 (get_or placing.base i (pos 0)) w some.1 base_small (box_values (kept box box) w (select_near (open_flags box) box near) lies))

-- ---- whole values that are a rational point

whole_lies : (box : List Bounds) (x : List ℤ) → IsInBox box (map whole x) → LiesIn box x
whole_lies [] [] h = tt
whole_lies [] (v ∷ x) h = absurd h
whole_lies (b ∷ box) [] h = absurd h
whole_lies (b ∷ box) (v ∷ x) h = ((le_from_whole b.low v h.0.0, le_from_whole v b.high h.0.1), whole_lies box x h.1)

whole_within : (low high : Option ℤ) (z : ℤ) → rational_points.IsWithin low high (whole z) → IsWithin low high z
whole_within None None z h = (tt, tt)
whole_within None (Some b) z h = (tt, le_from_whole z b h.1)
whole_within (Some a) None z h = (le_from_whole a z h.0, tt)
whole_within (Some a) (Some b) z h = (le_from_whole a z h.0, le_from_whole z b h.1)

whole_better : (cost x : List ℤ) (cut : Option ℤ) → IfSome cut (λ value. form_value cost (map whole x) ≤ℚ whole (value -ℤ pos 1)) → IfSome cut (λ value. dot integers cost x <ℤ value)
whole_better cost x None h = tt
whole_better cost x (Some value) h =
    let le : dot integers cost x ≤ℤ (value -ℤ pos 1) = le_from_whole (dot integers cost x) (value -ℤ pos 1) (subst (λ (q : ℚ). q ≤ℚ whole (value -ℤ pos 1)) (dot-map_whole cost x) h) in
    omega (linear, le)

-- the values meet a row, and lie on a slice, over the rational numbers and over the whole ones
abbrev MeetsOver : List ℤ → WholeRow → Type 0
MeetsOver x row = rational_points.IsWithin row.low row.high (form_value row.factors (map whole x))

abbrev MeetsWhole : List ℤ → WholeRow → Type 0
MeetsWhole x row = MeetsRow row x

abbrev LiesOver : List ℤ → Slice → Type 0
LiesOver x slice = form_value slice.form (map whole x) ≡ whole slice.beta

abbrev LiesOn : List ℤ → Slice → Type 0
LiesOn x slice = dot integers slice.form x ≡ slice.beta

-- They are a better point.
pub whole_improves : (rows : WholeRows) (path : List Slice) (cut : Option ℤ) (x : List ℤ) → IsRationalPoint rows path cut (map whole x) → Improves rows cut path x
whole_improves rows path cut x point = record {
  meets = record { in_box = whole_lies rows.box x point.in_box; in_rows = All-weaker (MeetsOver x) (MeetsWhole x) row rows.rows point.in_rows };
  on_path = All-weaker (LiesOver x) (LiesOn x) (λ slice e. whole-injective (dot integers slice.form x) slice.beta (sym (dot-map_whole slice.form x) ∙ e)) path point.on_path;
  better = whole_better rows.cost x cut point.below_cut;
}
  where
    row : (r : WholeRow) → MeetsOver x r → MeetsWhole x r
    row r h = whole_within r.low r.high (dot integers r.factors x) (subst (rational_points.IsWithin r.low r.high) (dot-map_whole r.factors x) h)

-- ---- the point without coordinates

-- it is the base
base_alone : (base : List ℤ) (lines : List (List ℤ)) → length base ≡ length lines → point_over base lines [] ≡ map whole base
base_alone [] [] e = refl
base_alone [] (line ∷ lines) e = absurd (omega (arith, e))
base_alone (b ∷ base) [] e = absurd (omega (arith, e))
base_alone (b ∷ base) (line ∷ lines) e =
    ap₂ (λ (q : ℚ) (l : List ℚ). q ∷ l) (ap (λ (q : ℚ). whole b +ℚ q) (Dot.dot-nil_right rationals (map whole line)) ∙ plain (whole b)) (base_alone base lines (omega (arith, e)))
  where
    plain : (q : ℚ) → q +ℚ whole (pos 0) ≡ q
    plain q = ring rationals (q ∷ []) (search reads depth 30) (search reads depth 30) refl

-- placed among all columns as whole values
spread_whole : (flags : List Bool) (base w : List ℤ) → spread_over flags base (map whole w) ≡ map whole (spread flags base w)
spread_whole [] base w = refl
spread_whole (flag ∷ flags) [] w = refl
spread_whole (true ∷ flags) (v ∷ base) [] = ap (λ (l : List ℚ). whole v ∷ l) (spread_whole flags base [])
spread_whole (true ∷ flags) (v ∷ base) (x ∷ w) = ap (λ (l : List ℚ). whole x ∷ l) (spread_whole flags base w)
spread_whole (false ∷ flags) (v ∷ base) w = ap (λ (l : List ℚ). whole v ∷ l) (spread_whole flags base w)

no_items : (y : List ℚ) (n : ℕ) → length y ≡ n → n ≡ 0 → y ≡ []
no_items [] n e none = refl
no_items (q ∷ y) n e none = absurd (omega (arith, e, none))

module _ (rows : WholeRows) (work : ReducedRows) (frame : Substitution) (path : List Slice) (node : IsNodeOf rows work frame path) (cut : Option ℤ) (limits : IsWithinLimits rows) (shaped : IsShaped frame) (placing : AffineMap) (is_map : IsColumnMap rows.box placing) (none : dimension_of frame ≡ 0) (inhabited : IsInhabited (node_polytope frame work cut)) where
  the_point : rational_point_of frame inhabited.point ≡ map whole frame.to_work.base
  the_point =
      ap (rational_point_of frame) (no_items inhabited.point (dimension_of frame) inhabited.has.coordinates none)
      ∙ base_alone frame.to_work.base (rows_in frame.to_work.lines) (shaped.base ∙ sym (length-rows_in frame.to_work.lines))

  base_lies : LiesIn (kept rows.box rows.box) frame.to_work.base
  base_lies =
      let reduced = node_reduced rows work frame path node in
      let reached = node_reached rows work frame path node in
      subst (λ (box : List Bounds). LiesIn box frame.to_work.base) reduced.box
      (whole_lies work.rows.box frame.to_work.base
      (subst (IsInBox work.rows.box) the_point (region-reduced rows work frame path cut limits reduced node.forms node.of_node.kept shaped reached.columns reached.frame inhabited.point inhabited.has).in_box))

  -- it has a value for each kept column
  pub base_long : length frame.to_work.base ≡ length (kept_columns rows.box)
  base_long =
      let reduced = node_reduced rows work frame path node in
      let reached = node_reached rows work frame path node in
      shaped.base ∙ reached.columns ∙ ap (λ (l : List Bounds). length l) reduced.box ∙ length-kept rows.box rows.box refl

  -- Its numbers fit.
  pub base_stays : ImageStays placing frame.to_work.base
  base_stays = placing_stays rows.box placing frame.to_work.base is_map limits.light.reaches base_lies

  -- It is a better point of the node.
  pub base_improves : Improves rows cut path (image placing frame.to_work.base)
  base_improves =
      let reduced = node_reduced rows work frame path node in
      let reached = node_reached rows work frame path node in
      let same : placed_point rows.box (rational_point_of frame inhabited.point) ≡ map whole (image placing frame.to_work.base) =
      ap (placed_point rows.box) the_point ∙ spread_whole (open_flags rows.box) (removed_values rows.box) frame.to_work.base
      ∙ ap (map whole) (sym (image-spread rows.box placing frame.to_work.base is_map base_long)) in
      whole_improves rows path cut (image placing frame.to_work.base)
      (subst (IsRationalPoint rows path cut) same (point_of_coordinates rows work frame path cut limits reduced node.forms node.of_node.kept shaped reached.columns reached.frame inhabited.point inhabited.has))
