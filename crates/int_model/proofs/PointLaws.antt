-- The points of a model are the lists that meet its integer rows, with the same values, and values order them as cut values do.
use Rattle.std.proofs.Common.{◌≡◌, ◌↔◌, ℕ, zero, suc, ◌+◌, ◌<◌, eqb, cond, List, [], ◌∷◌, length, map, get_or, ℤ, pos, ◌≤ℤ◌, refl, sym, ap, ap₂, subst, subst₂, ◌∙◌, arith}
use Rattle.std.specs.List.{All, AllZip, range_with_len}
use Rattle.std.proofs.lemmas.List.Elements.{All-nil, All-cons, All-head, All-tail}
use Rattle.std.proofs.lemmas.Bool.{cond-true, cond-false, eq-eqb, ne_eqb}
use Rattle.std.proofs.lemmas.Slice.Zip.{AllZip-long}
use Rattle.exact_math.specs.Rational.{ℚ, whole, ◌+ℚ◌, ◌*ℚ◌, neg_ℚ, inv_ℚ, ◌≤ℚ◌, floor, ceil}
use Rattle.exact_math.specs.RingLaws as Laws
use Rattle.exact_math.specs.RationalRing.{rationals, mul_inv}
use Rattle.exact_math.specs.RationalRing as ring
use Rattle.exact_math.specs.RationalOrder as order
use Rattle.exact_math.specs.RationalFloor.{floor_le, le_floor, le_ceil, ceil_le}
use Rattle.exact_math.specs.RingSolver.{ring as solve, reads}
use Rattle.int_model.specs.declared.model.Item.{Item}
use Rattle.int_model.specs.declared.model.Column.{Column}
use Rattle.int_model.specs.declared.model.Row.{Row}
use Rattle.int_model.specs.declared.model.Model.{Model}
use Rattle.int_model.specs.Points.{LiesBetween, value_of, IsPoint, value_at, IsBest}
use Rattle.int_model.specs.IntegerRows.{value_in, coefficient_of, coefficients_of, rounded_bounds, fraction_row, integer_rows, objective_of}
use Rattle.int_model.specs.Scale.{scale, sum_at, integer_row}
use Rattle.whole_rows.specs.WholeRows.{WholeRow, LiesIn, MeetsRow, Meets, HasLeastCutValue, cut_value}
use Rattle.int_model.proofs.ScaleLaws.{scale_pos, not_zero, scaled_sum, points_kept, scaled_order}

-- ---- the items of a row, and its coefficients

-- coefficients that are 0
sum_at-zeros : (a n : ℕ) (x : List ℤ) → sum_at (map (λ j. whole (pos 0)) (range_with_len a n)) x ≡ whole (pos 0)
sum_at-zeros a zero x = refl
sum_at-zeros a (suc n) [] = refl
sum_at-zeros a (suc n) (value ∷ x) =
    ap₂ ◌+ℚ◌ (Laws.zero_mul rationals (whole value)) (sum_at-zeros (a + 1) n x) ∙ ring.add_zero (whole (pos 0))

-- coefficients that are sums
sum_at-sums : (f g : ℕ → ℚ) (a n : ℕ) (x : List ℤ) → sum_at (map (λ j. f j +ℚ g j) (range_with_len a n)) x ≡ sum_at (map f (range_with_len a n)) x +ℚ sum_at (map g (range_with_len a n)) x
sum_at-sums f g a zero x = sym (ring.add_zero (whole (pos 0)))
sum_at-sums f g a (suc n) [] = sym (ring.add_zero (whole (pos 0)))
sum_at-sums f g a (suc n) (value ∷ x) =
    let v : ℚ = whole value in
    let first : ℚ = sum_at (map f (range_with_len (a + 1) n)) x in
    let second : ℚ = sum_at (map g (range_with_len (a + 1) n)) x in
    ap (λ t. (f a +ℚ g a) *ℚ v +ℚ t) (sum_at-sums f g (a + 1) n x) ∙ exchange (f a) (g a) v first second
  where
    exchange : (p q v s t : ℚ) → (p +ℚ q) *ℚ v +ℚ (s +ℚ t) ≡ (p *ℚ v +ℚ s) +ℚ (q *ℚ v +ℚ t)
    exchange p q v s t =
        solve rationals (p ∷ q ∷ v ∷ s ∷ t ∷ []) (search reads depth 30) (search reads depth 30) refl

-- one coefficient, in a column before these
sum_at-below : (column : ℕ) (factor : ℚ) (a n : ℕ) (x : List ℤ) → column < a → sum_at (map (λ j. cond (eqb column j) factor (whole (pos 0))) (range_with_len a n)) x ≡ whole (pos 0)
sum_at-below column factor a zero x h = refl
sum_at-below column factor a (suc n) [] h = refl
sum_at-below column factor a (suc n) (value ∷ x) h =
    ap₂ (λ s t. s *ℚ whole value +ℚ t) (cond-false (eqb column a) factor (whole (pos 0)) (ne_eqb column a (λ same. omega arith))) (sum_at-below column factor (a + 1) n x (omega arith)) ∙ ap (λ t. t +ℚ whole (pos 0)) (Laws.zero_mul rationals (whole value)) ∙ ring.add_zero (whole (pos 0))

-- one coefficient, in the column k places on
sum_at-single : (column : ℕ) (factor : ℚ) (a n k : ℕ) (x : List ℤ) → column ≡ a + k → length x ≡ n → sum_at (map (λ j. cond (eqb column j) factor (whole (pos 0))) (range_with_len a n)) x ≡ factor *ℚ whole (get_or x k (pos 0))
sum_at-single column factor a zero k [] e long = sym (Laws.mul_zero rationals factor)
sum_at-single column factor a zero k (value ∷ x) e long = absurd (omega arith)
sum_at-single column factor a (suc n) k [] e long = absurd (omega arith)
sum_at-single column factor a (suc n) zero (value ∷ x) e long =
    ap₂ (λ s t. s *ℚ whole value +ℚ t) (cond-true (eqb column a) factor (whole (pos 0)) (eq-eqb column a (omega arith))) (sum_at-below column factor (a + 1) n x (omega arith)) ∙ ring.add_zero (factor *ℚ whole value)
sum_at-single column factor a (suc n) (suc k) (value ∷ x) e long =
    ap₂ (λ s t. s *ℚ whole value +ℚ t) (cond-false (eqb column a) factor (whole (pos 0)) (ne_eqb column a (λ same. omega arith))) (sum_at-single column factor (a + 1) n k x (omega arith) (omega arith)) ∙ ap (λ t. t +ℚ factor *ℚ whole (get_or x k (pos 0))) (Laws.zero_mul rationals (whole value)) ∙ Laws.zero_add rationals _

-- the items come to what their coefficients come to
pub value_of-coefficients : (items : List Item) (n : ℕ) (x : List ℤ) → length x ≡ n → value_of items x ≡ sum_at (coefficients_of n items) x
value_of-coefficients [] n x long = sym (sum_at-zeros 0 n x)
value_of-coefficients (item ∷ items) n x long =
    let first = sum_at-single item.column item.factor 0 n item.column x (omega arith) long in
    let both = sum_at-sums (λ j. cond (eqb item.column j) item.factor (whole (pos 0))) (coefficient_of items) 0 n x in
    sym (both ∙ ap₂ ◌+ℚ◌ first (sym (value_of-coefficients items n x long)))

-- ---- bounds and sides

-- a bound that is rounded keeps the whole numbers
low_kept : (lo : ℚ) (value : ℤ) → (lo ≤ℚ whole value) ↔ (ceil lo ≤ℤ value)
low_kept lo value = (λ h. ceil_le value lo h, λ h. order.le_trans _ _ _ (le_ceil lo) (order.whole_le _ _ h))

high_kept : (hi : ℚ) (value : ℤ) → (whole value ≤ℚ hi) ↔ (value ≤ℤ floor hi)
high_kept hi value = (λ h. le_floor value hi h, λ h. order.le_trans _ _ _ (order.whole_le _ _ h) (floor_le hi))

-- the rounded bounds are the box
bounds-out : (columns : List Column) (x : List ℤ) → AllZip (λ (column : Column) value. (column.lo ≤ℚ whole value) × (whole value ≤ℚ column.hi)) columns x → LiesIn (map rounded_bounds columns) x
bounds-out [] [] h = h
bounds-out [] (value ∷ x) h = absurd h
bounds-out (column ∷ columns) [] h = absurd h
bounds-out (column ∷ columns) (value ∷ x) h =
    (((low_kept column.lo value).0 h.0.0, (high_kept column.hi value).0 h.0.1), bounds-out columns x h.1)

bounds-in : (columns : List Column) (x : List ℤ) → LiesIn (map rounded_bounds columns) x → AllZip (λ (column : Column) value. (column.lo ≤ℚ whole value) × (whole value ≤ℚ column.hi)) columns x
bounds-in [] [] h = h
bounds-in [] (value ∷ x) h = absurd h
bounds-in (column ∷ columns) [] h = absurd h
bounds-in (column ∷ columns) (value ∷ x) h =
    (((low_kept column.lo value).1 h.0.0, (high_kept column.hi value).1 h.0.1), bounds-in columns x h.1)

-- a row's sum lies between its sides exactly where the integer row is met
row_kept : (n : ℕ) (row : Row) (x : List ℤ) → length x ≡ n → LiesBetween row.lo row.hi (value_of row.items x) ↔ MeetsRow (integer_row (fraction_row n row)) x
row_kept n row x long =
    let is = value_of-coefficients row.items n x long in
    let kept = points_kept (fraction_row n row) x in
    (λ h. kept.0 (subst (LiesBetween row.lo row.hi) is h), λ h. subst (LiesBetween row.lo row.hi) (sym is) (kept.1 h))

rows-out : (n : ℕ) (rows : List Row) (x : List ℤ) → length x ≡ n → All (λ (row : Row). LiesBetween row.lo row.hi (value_of row.items x)) rows → All (λ row. MeetsRow row x) (map (λ row. integer_row (fraction_row n row)) rows)
rows-out n [] x long h = All-nil (λ row. MeetsRow row x)
rows-out n (row ∷ rows) x long h =
    let P : Row → Type 0 = λ (row : Row). LiesBetween row.lo row.hi (value_of row.items x) in
    All-cons (λ row. MeetsRow row x) (integer_row (fraction_row n row)) (map (λ row. integer_row (fraction_row n row)) rows) ((row_kept n row x long).0 (All-head P row rows h)) (rows-out n rows x long (All-tail P row rows h))

rows-in : (n : ℕ) (rows : List Row) (x : List ℤ) → length x ≡ n → All (λ row. MeetsRow row x) (map (λ row. integer_row (fraction_row n row)) rows) → All (λ (row : Row). LiesBetween row.lo row.hi (value_of row.items x)) rows
rows-in n [] x long h = All-nil (λ (row : Row). LiesBetween row.lo row.hi (value_of row.items x))
rows-in n (row ∷ rows) x long h =
    let P : WholeRow → Type 0 = λ row. MeetsRow row x in
    let rest : List WholeRow = map (λ row. integer_row (fraction_row n row)) rows in
    All-cons (λ (row : Row). LiesBetween row.lo row.hi (value_of row.items x)) row rows ((row_kept n row x long).1 (All-head P (integer_row (fraction_row n row)) rest h)) (rows-in n rows x long (All-tail P (integer_row (fraction_row n row)) rest h))

-- ---- points, values and best points

-- a point has a value for each column
pub point_long : (model : Model) (x : List ℤ) → IsPoint model x → length x ≡ length model.columns
point_long model x point = AllZip-long _ _ _ point.in_bounds

-- a list is a point of the model exactly where it meets the integer rows
pub points_meet_rows : (model : Model) (x : List ℤ) → IsPoint model x ↔ Meets (integer_rows model).whole x
points_meet_rows model x = (
  (λ point. record { in_box = bounds-out model.columns x point.in_bounds; in_rows = rows-out (length model.columns) model.rows x (point_long model x point) point.in_sides }),
  (λ meets.
      let within = bounds-in model.columns x meets.in_box in
      record { in_bounds = within; in_sides = rows-in (length model.columns) model.rows x (AllZip-long _ _ _ within) meets.in_rows }),
)

-- the same number is added to both
add_first : (k p q : ℚ) → (p ≤ℚ q) ↔ ((k +ℚ p) ≤ℚ (k +ℚ q))
add_first k p q = (λ h. order.add_le k k p q (order.le_refl k) h, λ h. subst₂ ◌≤ℚ◌ (back k p) (back k q) (order.add_le (neg_ℚ k) (neg_ℚ k) _ _ (order.le_refl (neg_ℚ k)) h))
  where
    back : (k p : ℚ) → neg_ℚ k +ℚ (k +ℚ p) ≡ p
    back k p = solve rationals (k ∷ p ∷ []) (search reads depth 30) (search reads depth 30) refl

-- for two points the order of the values is the order of the cut values
pub values_ordered : (model : Model) (x y : List ℤ) → IsPoint model x → IsPoint model y → (value_at model x ≤ℚ value_at model y) ↔ (cut_value (integer_rows model).whole x ≤ℤ cut_value (integer_rows model).whole y)
values_ordered model x y point other =
    let n = length model.columns in
    let here = value_of-coefficients model.objective n x (point_long model x point) in
    let there = value_of-coefficients model.objective n y (point_long model y other) in
    let added = add_first model.constant (value_of model.objective x) (value_of model.objective y) in
    let kept = scaled_order (objective_of model) x y in
    (λ h. kept.0 (subst₂ ◌≤ℚ◌ here there (added.1 h)), λ h. added.0 (subst₂ ◌≤ℚ◌ (sym here) (sym there) (kept.1 h)))

-- the value is the constant, and the step times the cut value
pub values_kept : (model : Model) (x : List ℤ) → length x ≡ length model.columns → value_at model x ≡ value_in (integer_rows model) x
values_kept model x long =
    let a = objective_of model in
    let k = scale a in
    let t = sum_at a x in
    ap (λ v. model.constant +ℚ v) (value_of-coefficients model.objective (length model.columns) x long ∙ sym (undone k t (mul_inv k (not_zero k (scale_pos a)))) ∙ ap (λ v. inv_ℚ k *ℚ v) (sym (scaled_sum a x)))
  where
    undone : (k t : ℚ) → k *ℚ inv_ℚ k ≡ whole (pos 1) → inv_ℚ k *ℚ (k *ℚ t) ≡ t
    undone k t e =
        sym (ring.mul_assoc (inv_ℚ k) k t) ∙ ap (λ p. p *ℚ t) (ring.mul_comm (inv_ℚ k) k ∙ e) ∙ Laws.one_mul rationals t

-- a best point is one of least cut value
pub best_has_least : (model : Model) (x : List ℤ) → IsBest model x ↔ HasLeastCutValue (integer_rows model).whole x
best_has_least model x = (
  (λ best. record {
    meets = (points_meet_rows model x).0 best.point;
    least = λ y h.
        let other = (points_meet_rows model y).1 h in
        (values_ordered model x y best.point other).0 (best.least y other);
  }),
  (λ found.
      let point = (points_meet_rows model x).1 found.meets in
      record {
        point = point;
        least = λ y other. (values_ordered model x y point other).1 (found.least y ((points_meet_rows model y).0 other));
      }),
)
