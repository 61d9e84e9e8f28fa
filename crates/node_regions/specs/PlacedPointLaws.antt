-- The rational points of reduced rows are those of the model: each gives one over all columns, and the other way round.
use Rattle.std.proofs.Common.{◌≡◌, Bool, true, false, List, [], ◌∷◌, length, map, ℤ, pos, ◌+ℤ◌, ◌-ℤ◌, ◌*ℤ◌, refl, sym, ap, ap₂, subst, ◌∙◌, arith}
use Rattle.std.specs.Prelude.{Option, Some, None, IfSome, All, ◌||◌, int_lt}
use Rattle.std.proofs.lemmas.Bool.{cond_both}
use Rattle.std.proofs.lemmas.List.Elements.{All-nil, All-cons, All-head, All-tail}
use Rattle.exact_math.specs.Ring.{integers}
use Rattle.exact_math.specs.IntegerRing.{linear}
use Rattle.exact_math.specs.Rational.{ℚ, whole, neg_ℚ, ◌+ℚ◌, ◌-ℚ◌, ◌*ℚ◌, ◌≤ℚ◌}
use Rattle.exact_math.specs.RationalOrder.{le_antisym, le_refl, le_trans, add_le, mul_le, whole_le}
use Rattle.exact_math.specs.RationalRing.{rationals, whole_add, whole_mul}
use Rattle.exact_math.specs.RingSolver.{ring, reads}
use Rattle.exact_vectors.specs.Vectors.{dot}
use Rattle.exact_vectors.specs.DotLaws as Dot
use Rattle.whole_rows.specs.declared.bounds.Bounds.{Bounds}
use Rattle.whole_rows.specs.declared.ends.End.TheVariants.{Least, Greatest}
use Rattle.whole_rows.specs.Ends.{sum_at, value_at}
use Rattle.whole_rows.specs.WholeRows.{WholeRow, WholeRows, IsWithinLimits}
use Rattle.farkas_rows.specs.declared.path.Slice.{Slice}
use Rattle.farkas_rows.specs.Refutes.{HasForms}
use Rattle.node_point.specs.RationalPoints.{form_value, IsRationalPoint, IsWithin}
use Rattle.form_widths.specs.PulledLaws.{whole_sub}
use Rattle.form_widths.specs.RationalOrderLaws.{le_by}
use Rattle.presolve_map.specs.Selections.{select}
use Rattle.presolve_map.specs.Columns.{kept, open_flags, removed_part, removed_values}
use Rattle.presolve_map.specs.ReducedRows.{ReducedRows, can_violate, falls_below, rises_above, moved_side, needed_flags, reduced_row, IsReduced}
use Rattle.presolve_map.proofs.PointLaws.{FlagsOf, flags-of_box}
use Rattle.node_regions.specs.NodeFrames.{IsKeptForm}
use Rattle.node_regions.specs.PlacedPoints.{IsInBox, IsReducedPoint, placed_point, spread_over}

-- ---- the box

pub in_box-spread : (flags : List Bool) (base : List ℤ) (box : List Bounds) (w : List ℚ) → FlagsOf flags base box → IsInBox (select flags box) w → IsInBox box (spread_over flags base w)
in_box-spread [] base box w f h = subst (λ (b : List Bounds). IsInBox b []) (sym f.1) tt
in_box-spread (flag ∷ flags) [] box w f h = absurd f
in_box-spread (flag ∷ flags) (v ∷ base) [] w f h = absurd f
in_box-spread (true ∷ flags) (v ∷ base) (b ∷ box) [] f h = absurd h
in_box-spread (true ∷ flags) (v ∷ base) (b ∷ box) (x ∷ w) f h = (h.0, in_box-spread flags base box w f.1 h.1)
in_box-spread (false ∷ flags) (v ∷ base) (b ∷ box) w f h =
    ((whole_le b.low v (omega (linear, f.0)), whole_le v b.high (omega (linear, f.0, f.1))), in_box-spread flags base box w f.2 h)

pub select-spread_over : (flags : List Bool) (base : List ℤ) (box : List Bounds) (w : List ℚ) → FlagsOf flags base box → IsInBox (select flags box) w → select flags (spread_over flags base w) ≡ w
select-spread_over [] base box [] f h = refl
select-spread_over [] base box (x ∷ w) f h = absurd h
select-spread_over (flag ∷ flags) [] box w f h = absurd f
select-spread_over (flag ∷ flags) (v ∷ base) [] w f h = absurd f
select-spread_over (true ∷ flags) (v ∷ base) (b ∷ box) [] f h = absurd h
select-spread_over (true ∷ flags) (v ∷ base) (b ∷ box) (x ∷ w) f h = ap {B = List ℚ} (λ t. x ∷ t) (select-spread_over flags base box w f.1 h.1)
select-spread_over (false ∷ flags) (v ∷ base) (b ∷ box) w f h = select-spread_over flags base box w f.2 h

pub in_box-select : (flags : List Bool) (base : List ℤ) (box : List Bounds) (x : List ℚ) → FlagsOf flags base box → IsInBox box x → IsInBox (select flags box) (select flags x)
in_box-select [] base box x f h = tt
in_box-select (flag ∷ flags) [] box x f h = absurd f
in_box-select (flag ∷ flags) (v ∷ base) [] x f h = absurd f
in_box-select (flag ∷ flags) (v ∷ base) (b ∷ box) [] f h = absurd h
in_box-select (true ∷ flags) (v ∷ base) (b ∷ box) (y ∷ x) f h = (h.0, in_box-select flags base box x f.1 h.1)
in_box-select (false ∷ flags) (v ∷ base) (b ∷ box) (y ∷ x) f h = in_box-select flags base box x f.2 h.1

pub spread_over-select : (flags : List Bool) (base : List ℤ) (box : List Bounds) (x : List ℚ) → FlagsOf flags base box → IsInBox box x → spread_over flags base (select flags x) ≡ x
spread_over-select [] base box [] f h = refl
spread_over-select [] base box (y ∷ x) f h = absurd (subst (λ (b : List Bounds). IsInBox b (y ∷ x)) f.1 h)
spread_over-select (flag ∷ flags) [] box x f h = absurd f
spread_over-select (flag ∷ flags) (v ∷ base) [] x f h = absurd f
spread_over-select (flag ∷ flags) (v ∷ base) (b ∷ box) [] f h = absurd h
spread_over-select (true ∷ flags) (v ∷ base) (b ∷ box) (y ∷ x) f h = ap {B = List ℚ} (λ t. y ∷ t) (spread_over-select flags base box x f.1 h.1)
spread_over-select (false ∷ flags) (v ∷ base) (b ∷ box) (y ∷ x) f h =
    let low : whole v ≤ℚ y = subst (λ (z : ℤ). whole z ≤ℚ y) (sym f.0) h.0.0 in
    let high : y ≤ℚ whole v = subst (λ (z : ℤ). y ≤ℚ whole z) (sym (f.0 ∙ f.1)) h.0.1 in
    ap₂ {A = ℚ} {B = List ℚ} {C = List ℚ} (λ z t. z ∷ t) (le_antisym (whole v) y low high) (spread_over-select flags base box x f.2 h.1)

-- ---- sums

pub value-spread : (flags : List Bool) (base : List ℤ) (box : List Bounds) (factors : List ℤ) (w : List ℚ) → FlagsOf flags base box → length factors ≡ length box → IsInBox (select flags box) w → form_value factors (spread_over flags base w) ≡ form_value (select flags factors) w +ℚ whole (dot integers factors base)
value-spread [] base box factors w f e h =
    let none : factors ≡ [] = empty factors (e ∙ ap (λ (l : List Bounds). length l) f.1) in
    ap (λ (l : List ℤ). form_value l []) none ∙ zero ∙ sym (ap (λ (l : List ℤ). whole (pos 0) +ℚ whole (dot integers l base)) none)
  where
    empty : (l : List ℤ) → length l ≡ 0 → l ≡ []
    empty [] e = refl
    empty (a ∷ l) e = absurd (omega arith)

    zero : whole (pos 0) ≡ whole (pos 0) +ℚ whole (pos 0)
    zero = ring rationals [] (search reads depth 30) (search reads depth 30) refl
value-spread (flag ∷ flags) [] box factors w f e h = absurd f
value-spread (flag ∷ flags) (v ∷ base) [] factors w f e h = absurd f
value-spread (flag ∷ flags) (v ∷ base) (b ∷ box) [] w f e h = absurd (omega arith)
value-spread (true ∷ flags) (v ∷ base) (b ∷ box) (a ∷ factors) [] f e h = absurd h
value-spread (true ∷ flags) (v ∷ base) (b ∷ box) (a ∷ factors) (x ∷ w) f e h =
    let rest = value-spread flags base box factors w f.1 (omega arith) h.1 in
    let none : dot integers (a ∷ factors) (v ∷ base) ≡ dot integers factors base = ap (λ (z : ℤ). (a *ℤ z) +ℤ dot integers factors base) f.0 ∙ omega linear in
    ap (λ t. whole a *ℚ x +ℚ t) rest ∙ together (whole a *ℚ x) (form_value (select flags factors) w) (whole (dot integers factors base))
    ∙ ap (λ (z : ℤ). (whole a *ℚ x +ℚ form_value (select flags factors) w) +ℚ whole z) (sym none)
  where
    together : (p s t : ℚ) → p +ℚ (s +ℚ t) ≡ (p +ℚ s) +ℚ t
    together p s t = ring rationals (p ∷ s ∷ t ∷ []) (search reads depth 30) (search reads depth 30) refl
value-spread (false ∷ flags) (v ∷ base) (b ∷ box) (a ∷ factors) w f e h =
    let rest = value-spread flags base box factors w f.2 (omega arith) h in
    ap (λ t. whole a *ℚ whole v +ℚ t) rest ∙ ap (λ p. p +ℚ (form_value (select flags factors) w +ℚ whole (dot integers factors base))) (sym (whole_mul a v))
    ∙ apart (whole (a *ℤ v)) (form_value (select flags factors) w) (whole (dot integers factors base))
    ∙ ap (λ t. form_value (select flags factors) w +ℚ t) (sym (whole_add (a *ℤ v) (dot integers factors base)))
  where
    apart : (p s t : ℚ) → p +ℚ (s +ℚ t) ≡ s +ℚ (p +ℚ t)
    apart p s t = ring rationals (p ∷ s ∷ t ∷ []) (search reads depth 30) (search reads depth 30) refl

-- ---- the ends of a row over the box

-- a product of a number in the box lies between its ends
mul_le_reversed : (r p q : ℚ) → r ≤ℚ whole (pos 0) → p ≤ℚ q → (r *ℚ q) ≤ℚ (r *ℚ p)
mul_le_reversed r p q h k =
    let turned : whole (pos 0) ≤ℚ neg_ℚ r = le_by (whole (pos 0)) (neg_ℚ r) r (whole (pos 0)) h (zero r) in
    le_by (r *ℚ q) (r *ℚ p) (neg_ℚ r *ℚ p) (neg_ℚ r *ℚ q) (mul_le (neg_ℚ r) p q turned k) (same r p q)
  where
    zero : (r : ℚ) → neg_ℚ r -ℚ whole (pos 0) ≡ whole (pos 0) -ℚ r
    zero r = ring rationals (r ∷ []) (search reads depth 30) (search reads depth 30) refl

    same : (r p q : ℚ) → (r *ℚ p) -ℚ (r *ℚ q) ≡ (neg_ℚ r *ℚ q) -ℚ (neg_ℚ r *ℚ p)
    same r p q = ring rationals (r ∷ p ∷ q ∷ []) (search reads depth 30) (search reads depth 30) refl

least_product : (a : ℤ) (b : Bounds) (q : ℚ) → whole b.low ≤ℚ q → q ≤ℚ whole b.high → whole (a *ℤ value_at Least a b) ≤ℚ (whole a *ℚ q)
least_product a b q low high =
    cond_both (int_lt a (pos 0)) b.high b.low (λ (v : ℤ). whole (a *ℤ v) ≤ℚ (whole a *ℚ q))
    (λ e. subst (λ t. t ≤ℚ (whole a *ℚ q)) (sym (whole_mul a b.high)) (mul_le_reversed (whole a) q (whole b.high) (whole_le a (pos 0) (omega linear)) high))
    (λ e. subst (λ t. t ≤ℚ (whole a *ℚ q)) (sym (whole_mul a b.low)) (mul_le (whole a) (whole b.low) q (whole_le (pos 0) a (omega linear)) low))

greatest_product : (a : ℤ) (b : Bounds) (q : ℚ) → whole b.low ≤ℚ q → q ≤ℚ whole b.high → (whole a *ℚ q) ≤ℚ whole (a *ℤ value_at Greatest a b)
greatest_product a b q low high =
    cond_both (int_lt a (pos 0)) b.low b.high (λ (v : ℤ). (whole a *ℚ q) ≤ℚ whole (a *ℤ v))
    (λ e. subst (λ t. (whole a *ℚ q) ≤ℚ t) (sym (whole_mul a b.low)) (mul_le_reversed (whole a) (whole b.low) q (whole_le a (pos 0) (omega linear)) low))
    (λ e. subst (λ t. (whole a *ℚ q) ≤ℚ t) (sym (whole_mul a b.high)) (mul_le (whole a) q (whole b.high) (whole_le (pos 0) a (omega linear)) high))

-- so do the sums
pub least_sum_over : (factors : List ℤ) (box : List Bounds) (x : List ℚ) → IsInBox box x → whole (sum_at Least factors box) ≤ℚ form_value factors x
least_sum_over [] box x h = le_refl (whole (pos 0))
least_sum_over (a ∷ factors) [] [] h = le_refl (whole (pos 0))
least_sum_over (a ∷ factors) [] (q ∷ x) h = absurd h
least_sum_over (a ∷ factors) (b ∷ box) [] h = absurd h
least_sum_over (a ∷ factors) (b ∷ box) (q ∷ x) h =
    subst (λ t. t ≤ℚ form_value (a ∷ factors) (q ∷ x)) (sym (whole_add (a *ℤ value_at Least a b) (sum_at Least factors box)))
    (add_le (whole (a *ℤ value_at Least a b)) (whole a *ℚ q) (whole (sum_at Least factors box)) (form_value factors x) (least_product a b q h.0.0 h.0.1) (least_sum_over factors box x h.1))

pub greatest_sum_over : (factors : List ℤ) (box : List Bounds) (x : List ℚ) → IsInBox box x → form_value factors x ≤ℚ whole (sum_at Greatest factors box)
greatest_sum_over [] box x h = le_refl (whole (pos 0))
greatest_sum_over (a ∷ factors) [] [] h = le_refl (whole (pos 0))
greatest_sum_over (a ∷ factors) [] (q ∷ x) h = absurd h
greatest_sum_over (a ∷ factors) (b ∷ box) [] h = absurd h
greatest_sum_over (a ∷ factors) (b ∷ box) (q ∷ x) h =
    subst (λ t. form_value (a ∷ factors) (q ∷ x) ≤ℚ t) (sym (whole_add (a *ℤ value_at Greatest a b) (sum_at Greatest factors box)))
    (add_le (whole a *ℚ q) (whole (a *ℤ value_at Greatest a b)) (form_value factors x) (whole (sum_at Greatest factors box)) (greatest_product a b q h.0.0 h.0.1) (greatest_sum_over factors box x h.1))

-- ---- one row

-- a number with a part more than another
less_part : (p q k s : ℚ) → s ≡ k +ℚ q → s -ℚ p ≡ k -ℚ (p -ℚ q)
less_part p q k s e = ap (λ t. t -ℚ p) e ∙ back p q k
  where
    back : (p q k : ℚ) → (k +ℚ q) -ℚ p ≡ k -ℚ (p -ℚ q)
    back p q k = ring rationals (p ∷ q ∷ k ∷ []) (search reads depth 30) (search reads depth 30) refl

more_part : (p q k s : ℚ) → s ≡ k +ℚ q → p -ℚ s ≡ (p -ℚ q) -ℚ k
more_part p q k s e = ap (λ t. p -ℚ t) e ∙ back p q k
  where
    back : (p q k : ℚ) → p -ℚ (k +ℚ q) ≡ (p -ℚ q) -ℚ k
    back p q k = ring rationals (p ∷ q ∷ k ∷ []) (search reads depth 30) (search reads depth 30) refl

low-back : (side : Option ℤ) (part : ℤ) (k s : ℚ) → s ≡ k +ℚ whole part → IfSome (moved_side part side) (λ l. whole l ≤ℚ k) → IfSome side (λ l. whole l ≤ℚ s)
low-back None part k s e h = tt
low-back (Some v) part k s e h = le_by (whole v) s (whole (v -ℤ part)) k h (less_part (whole v) (whole part) k s e ∙ ap (λ t. k -ℚ t) (sym (whole_sub v part)))

low-on : (side : Option ℤ) (part : ℤ) (k s : ℚ) → s ≡ k +ℚ whole part → IfSome side (λ l. whole l ≤ℚ s) → IfSome (moved_side part side) (λ l. whole l ≤ℚ k)
low-on None part k s e h = tt
low-on (Some v) part k s e h = le_by (whole (v -ℤ part)) k (whole v) s h (sym (less_part (whole v) (whole part) k s e ∙ ap (λ t. k -ℚ t) (sym (whole_sub v part))))

high-back : (side : Option ℤ) (part : ℤ) (k s : ℚ) → s ≡ k +ℚ whole part → IfSome (moved_side part side) (λ h. k ≤ℚ whole h) → IfSome side (λ h. s ≤ℚ whole h)
high-back None part k s e h = tt
high-back (Some v) part k s e h = le_by s (whole v) k (whole (v -ℤ part)) h (more_part (whole v) (whole part) k s e ∙ ap (λ t. t -ℚ k) (sym (whole_sub v part)))

high-on : (side : Option ℤ) (part : ℤ) (k s : ℚ) → s ≡ k +ℚ whole part → IfSome side (λ h. s ≤ℚ whole h) → IfSome (moved_side part side) (λ h. k ≤ℚ whole h)
high-on None part k s e h = tt
high-on (Some v) part k s e h = le_by k (whole (v -ℤ part)) s (whole v) h (sym (more_part (whole v) (whole part) k s e ∙ ap (λ t. t -ℚ k) (sym (whole_sub v part))))

or_false : (a b : Bool) → (a || b) ≡ false → (a ≡ false) × (b ≡ false)
or_false false b e = (refl, e)
or_false true b e = cc

not_below : (side : Option ℤ) (least : ℤ) (v : ℚ) → falls_below side least ≡ false → whole least ≤ℚ v → IfSome side (λ l. whole l ≤ℚ v)
not_below None least v e h = tt
not_below (Some s) least v e h = le_trans (whole s) (whole least) v (whole_le s least (omega linear)) h

not_above : (side : Option ℤ) (greatest : ℤ) (v : ℚ) → rises_above side greatest ≡ false → v ≤ℚ whole greatest → IfSome side (λ h. v ≤ℚ whole h)
not_above None greatest v e h = tt
not_above (Some s) greatest v e h = le_trans v (whole greatest) (whole s) h (whole_le greatest s (omega linear))

-- the rational point meets the row
abbrev pub MeetsOver : List ℚ → WholeRow → Type 0
MeetsOver x row = IsWithin row.low row.high (form_value row.factors x)

-- A row that the box cannot violate is met by all rational values within it.
passed-met : (box : List Bounds) (row : WholeRow) (x : List ℚ) → IsInBox box x → can_violate box row ≡ false → MeetsOver x row
passed-met box row x lies e =
    let neither = or_false (falls_below row.low (sum_at Least row.factors box)) (rises_above row.high (sum_at Greatest row.factors box)) e in
    (not_below row.low (sum_at Least row.factors box) (form_value row.factors x) neither.0 (least_sum_over row.factors box x lies), not_above row.high (sum_at Greatest row.factors box) (form_value row.factors x) neither.1 (greatest_sum_over row.factors box x lies))

-- ---- all rows

module _ (box : List Bounds) (w x : List ℚ) (lies : IsInBox box x) (sums : (factors : List ℤ) → length factors ≡ length box → form_value factors x ≡ form_value (kept box factors) w +ℚ whole (removed_part box factors)) where
  abbrev Dense : WholeRow → Type 0
  Dense row = length row.factors ≡ length box

  row-back : (row : WholeRow) → Dense row → MeetsOver w (reduced_row box row) → MeetsOver x row
  row-back row dense met = (low-back row.low (removed_part box row.factors) (form_value (kept box row.factors) w) (form_value row.factors x) (sums row.factors dense) met.0, high-back row.high (removed_part box row.factors) (form_value (kept box row.factors) w) (form_value row.factors x) (sums row.factors dense) met.1)

  row-on : (row : WholeRow) → Dense row → MeetsOver x row → MeetsOver w (reduced_row box row)
  row-on row dense met = (low-on row.low (removed_part box row.factors) (form_value (kept box row.factors) w) (form_value row.factors x) (sums row.factors dense) met.0, high-on row.high (removed_part box row.factors) (form_value (kept box row.factors) w) (form_value row.factors x) (sums row.factors dense) met.1)

  abbrev left_by : Bool → WholeRow → List WholeRow → List WholeRow
  left_by t row rows = map (reduced_row box) (select (t ∷ needed_flags box rows) (row ∷ rows))

  rows-back : (rows : List WholeRow) → All Dense rows → All (MeetsOver w) (map (reduced_row box) (select (needed_flags box rows) rows)) → All (MeetsOver x) rows
  rows-back [] dense met = All-nil (MeetsOver x)
  rows-back (row ∷ rows) dense met = by_test (rows-back rows (All-tail Dense row rows dense)) (can_violate box row) refl met
    where
      by_test : (All (MeetsOver w) (map (reduced_row box) (select (needed_flags box rows) rows)) → All (MeetsOver x) rows) → (t : Bool) → can_violate box row ≡ t → All (MeetsOver w) (left_by t row rows) → All (MeetsOver x) (row ∷ rows)
      by_test again true e m = All-cons (MeetsOver x) row rows (row-back row (All-head Dense row rows dense) (All-head (MeetsOver w) (reduced_row box row) (map (reduced_row box) (select (needed_flags box rows) rows)) m)) (again (All-tail (MeetsOver w) (reduced_row box row) (map (reduced_row box) (select (needed_flags box rows) rows)) m))
      by_test again false e m = All-cons (MeetsOver x) row rows (passed-met box row x lies e) (again m)

  rows-on : (rows : List WholeRow) → All Dense rows → All (MeetsOver x) rows → All (MeetsOver w) (map (reduced_row box) (select (needed_flags box rows) rows))
  rows-on [] dense met = All-nil (MeetsOver w)
  rows-on (row ∷ rows) dense met = by_test (rows-on rows (All-tail Dense row rows dense) (All-tail (MeetsOver x) row rows met)) (can_violate box row)
    where
      by_test : All (MeetsOver w) (map (reduced_row box) (select (needed_flags box rows) rows)) → (t : Bool) → All (MeetsOver w) (left_by t row rows)
      by_test again true = All-cons (MeetsOver w) (reduced_row box row) (map (reduced_row box) (select (needed_flags box rows) rows)) (row-on row (All-head Dense row rows dense) (All-head (MeetsOver x) row rows met)) again
      by_test again false = again

-- ---- the points

-- a form that is 0 in the columns of one value has no part in them
pub kept-part : (flags : List Bool) (base : List ℤ) (box : List Bounds) (form : List ℤ) → FlagsOf flags base box → IsKeptForm box form → dot integers form base ≡ pos 0
kept-part [] base box form f k = ap (dot integers form) f.0 ∙ Dot.dot-nil_right integers form
kept-part (flag ∷ flags) [] box form f k = absurd f
kept-part (flag ∷ flags) (v ∷ base) [] form f k = absurd f
kept-part (flag ∷ flags) (v ∷ base) (b ∷ box) [] f k = absurd k
kept-part (true ∷ flags) (v ∷ base) (b ∷ box) (a ∷ form) f k = zero_item a v (dot integers form base) f.0 (kept-part flags base box form f.1 k.1)
  where
    zero_item : (a u rest : ℤ) → u ≡ pos 0 → rest ≡ pos 0 → (a *ℤ u) +ℤ rest ≡ pos 0
    zero_item a u rest e f = ap₂ (λ x y. (a *ℤ x) +ℤ y) e f ∙ omega linear
kept-part (false ∷ flags) (v ∷ base) (b ∷ box) (a ∷ form) f k = zero_item a v (dot integers form base) (k.0 f.1) (kept-part flags base box form f.2 k.1)
  where
    zero_item : (a u rest : ℤ) → a ≡ pos 0 → rest ≡ pos 0 → (a *ℤ u) +ℤ rest ≡ pos 0
    zero_item a u rest e f = ap₂ (λ x y. (x *ℤ u) +ℤ y) e f ∙ omega linear

-- Values of the kept columns and of all columns, at which each form over all columns has the same value, up to its part in the
-- columns that are removed.
pub record AreSame (box : List Bounds) (w x : List ℚ) : Type 0 where
  pub in_box : IsInBox box x
  pub in_kept : IsInBox (kept box box) w
  pub sums : (factors : List ℤ) → length factors ≡ length box → form_value factors x ≡ form_value (kept box factors) w +ℚ whole (removed_part box factors)

-- so are values and their placed point
pub placed-same : (box : List Bounds) (w : List ℚ) → IsInBox (kept box box) w → AreSame box w (placed_point box w)
placed-same box w h = record {
  in_box = in_box-spread (open_flags box) (removed_values box) box w (flags-of_box box) h;
  in_kept = h;
  sums = λ factors e. value-spread (open_flags box) (removed_values box) box factors w (flags-of_box box) e h;
}

-- and a point with its values in the kept columns
pub placed-kept : (box : List Bounds) (x : List ℚ) → IsInBox box x → placed_point box (kept box x) ≡ x
placed-kept box x h = spread_over-select (open_flags box) (removed_values box) box x (flags-of_box box) h

pub kept-same : (box : List Bounds) (x : List ℚ) → IsInBox box x → AreSame box (kept box x) x
kept-same box x h =
    subst (AreSame box (kept box x)) (placed-kept box x h) (placed-same box (kept box x) (in_box-select (open_flags box) (removed_values box) box x (flags-of_box box) h))

module _ (rows : WholeRows) (work : ReducedRows) (limits : IsWithinLimits rows) (reduced : IsReduced rows work) (path : List Slice) (cut : Option ℤ) (forms : HasForms (length rows.box) path) (kept_path : All (λ (slice : Slice). IsKeptForm rows.box slice.form) path) (w x : List ℚ) (same : AreSame rows.box w x) where
  -- a kept form has one value at both
  pub value-same : (form : List ℤ) → length form ≡ length rows.box → IsKeptForm rows.box form → form_value form x ≡ form_value (kept rows.box form) w
  value-same form e k =
      same.sums form e ∙ ap (λ (z : ℤ). form_value (kept rows.box form) w +ℚ whole z) (kept-part (open_flags rows.box) (removed_values rows.box) rows.box form (flags-of_box rows.box) k) ∙ none (form_value (kept rows.box form) w)
    where
      none : (v : ℚ) → v +ℚ whole (pos 0) ≡ v
      none v = ring rationals (v ∷ []) (search reads depth 30) (search reads depth 30) refl

  path-back : (p : List Slice) → HasForms (length rows.box) p → All (λ (slice : Slice). IsKeptForm rows.box slice.form) p → All (λ (slice : Slice). form_value (kept rows.box slice.form) w ≡ whole slice.beta) p → All (λ (slice : Slice). form_value slice.form x ≡ whole slice.beta) p
  path-back [] dense keeps on = All-nil (λ (slice : Slice). form_value slice.form x ≡ whole slice.beta)
  path-back (s ∷ p) dense keeps on =
      All-cons (λ (slice : Slice). form_value slice.form x ≡ whole slice.beta) s p
      (value-same s.form (All-head (λ (slice : Slice). length slice.form ≡ length rows.box) s p dense) (All-head (λ (slice : Slice). IsKeptForm rows.box slice.form) s p keeps) ∙ All-head (λ (slice : Slice). form_value (kept rows.box slice.form) w ≡ whole slice.beta) s p on)
      (path-back p (All-tail (λ (slice : Slice). length slice.form ≡ length rows.box) s p dense) (All-tail (λ (slice : Slice). IsKeptForm rows.box slice.form) s p keeps) (All-tail (λ (slice : Slice). form_value (kept rows.box slice.form) w ≡ whole slice.beta) s p on))

  path-on : (p : List Slice) → HasForms (length rows.box) p → All (λ (slice : Slice). IsKeptForm rows.box slice.form) p → All (λ (slice : Slice). form_value slice.form x ≡ whole slice.beta) p → All (λ (slice : Slice). form_value (kept rows.box slice.form) w ≡ whole slice.beta) p
  path-on [] dense keeps on = All-nil (λ (slice : Slice). form_value (kept rows.box slice.form) w ≡ whole slice.beta)
  path-on (s ∷ p) dense keeps on =
      All-cons (λ (slice : Slice). form_value (kept rows.box slice.form) w ≡ whole slice.beta) s p
      (sym (value-same s.form (All-head (λ (slice : Slice). length slice.form ≡ length rows.box) s p dense) (All-head (λ (slice : Slice). IsKeptForm rows.box slice.form) s p keeps)) ∙ All-head (λ (slice : Slice). form_value slice.form x ≡ whole slice.beta) s p on)
      (path-on p (All-tail (λ (slice : Slice). length slice.form ≡ length rows.box) s p dense) (All-tail (λ (slice : Slice). IsKeptForm rows.box slice.form) s p keeps) (All-tail (λ (slice : Slice). form_value slice.form x ≡ whole slice.beta) s p on))

  cost-same : form_value rows.cost x ≡ form_value work.rows.cost w +ℚ whole work.cost_constant
  cost-same = same.sums rows.cost limits.priced ∙ ap₂ (λ (f : List ℤ) (z : ℤ). form_value f w +ℚ whole z) (sym reduced.cost) (sym reduced.cost_constant)

  cut-back : (c : Option ℤ) → IfSome c (λ value. form_value work.rows.cost w ≤ℚ whole ((value -ℤ pos 1) -ℤ work.cost_constant)) → IfSome c (λ value. form_value rows.cost x ≤ℚ whole (value -ℤ pos 1))
  cut-back None h = tt
  cut-back (Some v) h = high-back (Some (v -ℤ pos 1)) work.cost_constant (form_value work.rows.cost w) (form_value rows.cost x) cost-same h

  cut-on : (c : Option ℤ) → IfSome c (λ value. form_value rows.cost x ≤ℚ whole (value -ℤ pos 1)) → IfSome c (λ value. form_value work.rows.cost w ≤ℚ whole ((value -ℤ pos 1) -ℤ work.cost_constant))
  cut-on None h = tt
  cut-on (Some v) h = high-on (Some (v -ℤ pos 1)) work.cost_constant (form_value work.rows.cost w) (form_value rows.cost x) cost-same h

  -- A point of the reduced rows is one of the model.
  pub point-back : IsReducedPoint rows.box work path cut w → IsRationalPoint rows path cut x
  point-back point = record {
    in_box = same.in_box;
    in_rows = rows-back rows.box w x same.in_box same.sums rows.rows limits.dense (subst (All (MeetsOver w)) reduced.rows point.in_rows);
    on_path = path-back path forms kept_path point.on_path;
    below_cut = cut-back cut point.below_cut;
  }

  -- And the other way round.
  pub point-on : IsRationalPoint rows path cut x → IsReducedPoint rows.box work path cut w
  point-on point = record {
    in_box = subst (λ (b : List Bounds). IsInBox b w) (sym reduced.box) same.in_kept;
    in_rows = subst (All (MeetsOver w)) (sym reduced.rows) (rows-on rows.box w x same.in_box same.sums rows.rows limits.dense point.in_rows);
    on_path = path-on path forms kept_path point.on_path;
    below_cut = cut-on cut point.below_cut;
  }

-- A point of the reduced rows, placed among all columns, is one of the model.
pub reduced_point_is_placed : (rows : WholeRows) (work : ReducedRows) (path : List Slice) (cut : Option ℤ) (w : List ℚ) → IsWithinLimits rows → IsReduced rows work → HasForms (length rows.box) path → All (λ (slice : Slice). IsKeptForm rows.box slice.form) path → IsReducedPoint rows.box work path cut w → IsRationalPoint rows path cut (placed_point rows.box w)
reduced_point_is_placed rows work path cut w limits reduced forms kept_path point =
    point-back rows work limits reduced path cut forms kept_path w (placed_point rows.box w) (placed-same rows.box w (subst (λ (b : List Bounds). IsInBox b w) reduced.box point.in_box)) point

-- The values of a point of the model in the kept columns are a point of the reduced rows.
pub point_is_kept : (rows : WholeRows) (work : ReducedRows) (path : List Slice) (cut : Option ℤ) (x : List ℚ) → IsWithinLimits rows → IsReduced rows work → HasForms (length rows.box) path → All (λ (slice : Slice). IsKeptForm rows.box slice.form) path → IsRationalPoint rows path cut x → IsReducedPoint rows.box work path cut (kept rows.box x)
point_is_kept rows work path cut x limits reduced forms kept_path point =
    point-on rows work limits reduced path cut forms kept_path (kept rows.box x) x (kept-same rows.box x point.in_box) point
