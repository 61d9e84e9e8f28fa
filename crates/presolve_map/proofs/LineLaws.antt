-- What lifted lines come to.
use Rattle.std.proofs.Common.{◌≡◌, ◌≢◌, ℕ, zero, suc, ◌<◌, Bool, true, false, cond, List, [], ◌∷◌, ◌++◌, length, get_or, ℤ, pos, neg_ℤ, ◌-ℤ◌, ◌*ℤ◌, refl, sym, ap, ap₂, subst, ◌∙◌, arith, append_assoc}
use Rattle.std.specs.Ordering.{int_eq}
use Rattle.std.specs.Prelude.{Option, Some, None, IfSome, unwrap_or, option_to_list, flat_map, int_lt, if◌then◌else◌, not}
use Rattle.std.specs.List.{insert}
use Rattle.std.proofs.lemmas.Int.{ints}
use Rattle.std.proofs.lemmas.Bool.{cond_both, cond-true, cond-false}
use Rattle.std.proofs.lemmas.List.{get_or-set_same, get_or-set_other, length-replicate, length-map, get_or-map}
use Rattle.std.proofs.lemmas.List.Elements.{All-nil, All-cons, All-append, All-weaker}
use Rattle.std.proofs.lemmas.Bool.Decides.{Decides-int_eq}
use Rattle.exact_math.specs.Ring.{integers}
use Rattle.exact_math.specs.Rational.{ℚ, whole, neg_ℚ, ◌+ℚ◌, ◌-ℚ◌, ◌*ℚ◌}
use Rattle.exact_math.specs.RationalRing.{rationals, whole_add, whole_mul}
use Rattle.exact_math.specs.RationalLaws.{same_terms, zero_from_num}
use Rattle.exact_math.specs.RingSolver.{ring, reads}
use Rattle.exact_math.specs.RingLaws as Laws
use Rattle.exact_vectors.specs.Vectors.{negate, zeros, sum_below}
use Rattle.exact_vectors.specs.DotLaws as Dot
use Rattle.exact_vectors.specs.MatrixLaws as Matrix
use Rattle.exact_vectors.specs.SumLaws as Sums
use Rattle.whole_rows.specs.declared.bounds.Bounds.{Bounds}
use Rattle.whole_rows.specs.WholeRows.{WholeRows, bounds_at}
use Rattle.farkas_rows.specs.declared.path.Slice.{Slice}
use Rattle.farkas_rows.specs.declared.fracs.FracUse.{FracUse}
use Rattle.farkas_rows.specs.Inequalities.{Inequality, at_most, at_least, unit, row_sides, column_bounds, slice_sides}
use Rattle.farkas_rows.specs.Refutes.{nothing}
use Rattle.farkas_rows.specs.Sides.{factor_of}
use Rattle.farkas_rows.specs.EachInequality.{EachHas, at-each, slice_sides-each, flat_map-each}
use Rattle.farkas_rows.specs.NumberLaws.{number-bound_upper, number-bound_lower}
use Rattle.presolve_map.specs.Columns.{is_open, removed_value, removed_values, removed_part}
use Rattle.presolve_map.specs.LiftedLines.{total, named, factor_in, limit_in, reduced_limit_in, cost_in, column_sum, upper_bound, lower_bound, IsRemoved, bound_of, balance, balances, IsOverKept, IsNodeOverKept, ComesToSame}

abbrev none : ℚ
none = whole (pos 0)

-- whether two numbers are the same
pub same_or_not : {P : Type 0} (i j : ℕ) → (i ≡ j → P) → (i ≢ j → P) → P
same_or_not i j f g = grind arith

-- a product with 0 adds nothing
pub nothing_added : (sum times factor : ℚ) → factor.num ≡ pos 0 → sum ≡ sum +ℚ times *ℚ factor
nothing_added sum times factor z = ring rationals (sum ∷ times ∷ []) {x = sum} {y = sum +ℚ times *ℚ whole (pos 0)} (search reads depth 30) (search reads depth 30) refl ∙ ap (λ f. sum +ℚ times *ℚ f) (sym (zero_from_num factor z))

-- ---- whole numbers

pub whole_neg : (a : ℤ) → whole (neg_ℤ a) ≡ neg_ℚ (whole a)
unfolding whole neg_ℚ
whole_neg a = same_terms (whole (neg_ℤ a)) (neg_ℚ (whole a)) refl refl

whole_sub : (a b : ℤ) → whole (a -ℤ b) ≡ whole a -ℚ whole b
whole_sub a b = whole_add a (neg_ℤ b) ∙ ap (λ z. whole a +ℚ z) (whole_neg b)

whole_sum : (n : ℕ) (f : ℕ → ℤ) → whole (sum_below integers n f) ≡ sum_below rationals n (λ k. whole (f k))
whole_sum zero f = refl
whole_sum (suc n) f = whole_add (sum_below integers n f) (f n) ∙ ap (λ z. z +ℚ whole (f n)) (whole_sum n f)

-- ---- totals

pub total-append : (value : ℕ → ℚ) (xs ys : List FracUse) → total value (xs ++ ys) ≡ total value xs +ℚ total value ys
total-append value [] ys = sym (Laws.zero_add rationals (total value ys))
total-append value (x ∷ xs) ys = ap (λ z. x.times *ℚ value x.index +ℚ z) (total-append value xs ys) ∙ sym (rationals.add_assoc (x.times *ℚ value x.index) (total value xs) (total value ys))

-- an item put in anywhere
pub total-insert : (value : ℕ → ℚ) (xs : List FracUse) (i : ℕ) (x : FracUse) → total value (insert xs i x) ≡ total value xs +ℚ x.times *ℚ value x.index
total-insert value xs zero x = rationals.add_comm (x.times *ℚ value x.index) (total value xs)
total-insert value [] (suc i) x = rationals.add_comm (x.times *ℚ value x.index) (whole (pos 0))
total-insert value (y ∷ xs) (suc i) x =
    ap (λ z. y.times *ℚ value y.index +ℚ z) (total-insert value xs i x) ∙ sym (rationals.add_assoc (y.times *ℚ value y.index) (total value xs) (x.times *ℚ value x.index))

-- values that are the same for each number
total-same : (value other : ℕ → ℚ) (items : List FracUse) → ((number : ℕ) → value number ≡ other number) → total value items ≡ total other items
total-same value other [] h = refl
total-same value other (item ∷ items) h = ap₂ (λ x y. item.times *ℚ x +ℚ y) (h item.index) (total-same value other items h)

difference_identity : (t a b x y : ℚ) → t *ℚ (a -ℚ b) +ℚ (x -ℚ y) ≡ (t *ℚ a +ℚ x) -ℚ (t *ℚ b +ℚ y)
difference_identity t a b x y = ring rationals (t ∷ a ∷ b ∷ x ∷ y ∷ []) (search reads depth 40 fits 20000) (search reads depth 40 fits 20000) refl

total-difference : (value other : ℕ → ℚ) (items : List FracUse) → total (λ number. value number -ℚ other number) items ≡ total value items -ℚ total other items
total-difference value other [] = sym (rationals.add_neg (whole (pos 0)))
total-difference value other (item ∷ items) =
    ap (λ z. item.times *ℚ (value item.index -ℚ other item.index) +ℚ z) (total-difference value other items) ∙ difference_identity item.times (value item.index) (other item.index) (total value items) (total other items)

-- a total of sums is the sum of totals
total-sum_below : (n : ℕ) (value : ℕ → ℕ → ℚ) (weight : ℕ → ℚ) (items : List FracUse) → total (λ number. sum_below rationals n (λ k. weight k *ℚ value k number)) items ≡ sum_below rationals n (λ k. weight k *ℚ total (value k) items)
total-sum_below n value weight [] = sym (Sums.sum_below-zero rationals n (λ k. weight k *ℚ whole (pos 0)) (λ k lt. Laws.mul_zero rationals (weight k)))
total-sum_below n value weight (item ∷ items) =
    ap₂ (λ x y. x +ℚ y) (sym (Sums.sum_below-scale rationals n item.times (λ k. weight k *ℚ value k item.index))) (total-sum_below n value weight items)
    ∙ sym (Sums.sum_below-add rationals n (λ k. item.times *ℚ (weight k *ℚ value k item.index)) (λ k. weight k *ℚ total (value k) items))
    ∙ Sums.sum_below-same rationals n _ _ (λ k lt. shuffle item.times (weight k) (value k item.index) (total (value k) items))
  where
    shuffle : (t w v r : ℚ) → t *ℚ (w *ℚ v) +ℚ w *ℚ r ≡ w *ℚ (t *ℚ v +ℚ r)
    shuffle t w v r = ring rationals (t ∷ w ∷ v ∷ r ∷ []) (search reads depth 40 fits 20000) (search reads depth 40 fits 20000) refl

-- a sum with one term
sum_below-only : (n j : ℕ) (f : ℕ → ℚ) → j < n → ((k : ℕ) → k < n → k ≢ j → f k ≡ none) → sum_below rationals n f ≡ f j
sum_below-only zero j f h others = absurd (omega arith)
sum_below-only (suc n) j f h others =
    same_or_not n j
    (λ same. ap₂ (λ x y. x +ℚ y) (Sums.sum_below-zero rationals n f (λ k lt. others k (omega arith) (omega arith))) (ap f same) ∙ Laws.zero_add rationals (f j))
    (λ apart. ap₂ (λ x y. x +ℚ y) (sum_below-only n j f (omega arith) (λ k lt ne. others k (omega arith) ne)) (others n (omega arith) apart) ∙ rationals.add_zero (f j))

-- ---- the bounds of removed columns

-- the bound that takes a sum to 0, where the two bounds of a column have opposite values
total-bound : (rows : WholeRows) (value : ℕ → ℚ) (column : ℕ) (sum a : ℚ) → value (upper_bound rows column) ≡ a → value (lower_bound rows column) ≡ neg_ℚ a → total value (option_to_list (bound_of rows column sum)) ≡ neg_ℚ (sum *ℚ a)
total-bound rows value column sum a up low =
    cond_both (int_lt sum.num (pos 0)) upper (if int_lt (pos 0) sum.num then lower else None) (λ o. total value (option_to_list o) ≡ neg_ℚ (sum *ℚ a))
    (λ e. ap (λ z. neg_ℚ sum *ℚ z +ℚ none) up ∙ negated sum a)
    (λ e. cond_both (int_lt (pos 0) sum.num) lower None (λ o. total value (option_to_list o) ≡ neg_ℚ (sum *ℚ a))
    (λ f. ap (λ z. sum *ℚ z +ℚ none) low ∙ turned sum a)
    (λ f. sym (ap (λ z. neg_ℚ (z *ℚ a)) (zero_from_num sum (at_zero sum.num e f)) ∙ nothing_left a)))
  where
    upper : Option FracUse
    upper = Some (record { index = upper_bound rows column; times = neg_ℚ sum })

    lower : Option FracUse
    lower = Some (record { index = lower_bound rows column; times = sum })

    negated : (s b : ℚ) → neg_ℚ s *ℚ b +ℚ whole (pos 0) ≡ neg_ℚ (s *ℚ b)
    negated s b = ring rationals (s ∷ b ∷ []) (search reads depth 30) (search reads depth 30) refl

    turned : (s b : ℚ) → s *ℚ neg_ℚ b +ℚ whole (pos 0) ≡ neg_ℚ (s *ℚ b)
    turned s b = ring rationals (s ∷ b ∷ []) (search reads depth 30) (search reads depth 30) refl

    nothing_left : (b : ℚ) → neg_ℚ (whole (pos 0) *ℚ b) ≡ whole (pos 0)
    nothing_left b = ring rationals (b ∷ []) (search reads depth 30) (search reads depth 30) refl

    at_zero : (z : ℤ) → int_lt z (pos 0) ≡ false → int_lt (pos 0) z ≡ false → z ≡ pos 0
    at_zero z e f = omega (arith, ints)

-- what the bound of a removed column comes to, where its two bounds have the values `a` and minus `a`
abbrev part : WholeRows → ℚ → List FracUse → (ℕ → ℚ) → ℕ → ℚ
part rows cut items a k = if is_open (bounds_at rows k) then none else neg_ℚ (column_sum rows cut items k *ℚ a k)

-- so do those of all columns
total-balances : (rows : WholeRows) (cut : ℚ) (items : List FracUse) (value a : ℕ → ℚ) (m : ℕ) → ((k : ℕ) → k < m → IsRemoved rows k → (value (upper_bound rows k) ≡ a k) × (value (lower_bound rows k) ≡ neg_ℚ (a k)))
    → total value (balances rows cut items m) ≡ sum_below rationals m (part rows cut items a)
total-balances rows cut items value a zero h = refl
total-balances rows cut items value a (suc m) h =
    total-append value (balances rows cut items m) (balance rows cut items m)
    ∙ ap₂ (λ x y. x +ℚ y) (total-balances rows cut items value a m (λ k lt r. h k (omega arith) r))
    (by_flag (is_open (bounds_at rows m)) refl)
  where
    by_flag : (b : Bool) → is_open (bounds_at rows m) ≡ b → total value (cond b [] (option_to_list (bound_of rows m (column_sum rows cut items m)))) ≡ cond b none (neg_ℚ (column_sum rows cut items m *ℚ a m))
    by_flag true e = refl
    by_flag false e = let both = h m (omega arith) e in total-bound rows value m (column_sum rows cut items m) (a m) both.0 both.1

-- ---- the inequalities of numbers

-- the factor of the inequality is 0 in the column
abbrev IsZeroAt : ℕ → Inequality → Type 0
IsZeroAt column inequality = factor_of column inequality ≡ pos 0

abbrev factor_at : ℕ → List (Option Inequality) → ℕ → ℤ
factor_at column sides number = factor_of column (unwrap_or (get_or sides number None) nothing)

zero_there : (column : ℕ) (side : Option Inequality) → IfSome side (IsZeroAt column) → factor_of column (unwrap_or side nothing) ≡ pos 0
zero_there column None h = refl
zero_there column (Some inequality) h = h

-- what follows the same inequalities does not count where it is 0
same_front : (column : ℕ) (front behind other : List (Option Inequality)) (number : ℕ) → EachHas (IsZeroAt column) behind → EachHas (IsZeroAt column) other → factor_at column (front ++ behind) number ≡ factor_at column (front ++ other) number
same_front column [] behind other number h k = zero_there column (get_or behind number None) (at-each (IsZeroAt column) behind number h) ∙ sym (zero_there column (get_or other number None) (at-each (IsZeroAt column) other number k))
same_front column (side ∷ front) behind other zero h k = refl
same_front column (side ∷ front) behind other (suc number) h k = same_front column front behind other number h k

pub negate-at : (v : List ℤ) (j : ℕ) → get_or (negate integers v) j (pos 0) ≡ neg_ℤ (get_or v j (pos 0))
negate-at [] j = refl
negate-at (a ∷ v) zero = refl
negate-at (a ∷ v) (suc j) = negate-at v j

-- in a removed column the numbers past the columns do not count
removed-same : (rows : WholeRows) (path : List Slice) (end : Option Inequality) (column number : ℕ) → column < length rows.box → IsRemoved rows column → IsNodeOverKept rows path end → factor_of column (named rows path end number) ≡ factor_of column (named rows [] None number)
removed-same rows path end column number h removed over =
    let first = flat_map row_sides rows.rows in
    let second = column_bounds (length rows.box) 0 rows.box in
    ap (λ l. factor_at column l number) (sym (append_assoc first second (flat_map slice_sides path ++ end ∷ [])))
    ∙ same_front column (first ++ second) (flat_map slice_sides path ++ end ∷ []) (None ∷ []) number rest (All-cons (λ side. IfSome side (IsZeroAt column)) None [] tt (All-nil (λ side. IfSome side (IsZeroAt column))))
    ∙ ap (λ l. factor_at column l number) (append_assoc first second (None ∷ []))
  where
    of_slice : (slice : Slice) → IsOverKept rows slice.form → EachHas (IsZeroAt column) (slice_sides slice)
    of_slice slice k = slice_sides-each (IsZeroAt column) slice (k column h removed) (negate-at slice.form column ∙ ap neg_ℤ (k column h removed))

    of_end : (last : Option Inequality) → IfSome last (λ inequality. IsOverKept rows inequality.factors) → IfSome last (IsZeroAt column)
    of_end None k = tt
    of_end (Some inequality) k = k column h removed

    rest : EachHas (IsZeroAt column) (flat_map slice_sides path ++ end ∷ [])
    rest =
        All-append (λ side. IfSome side (IsZeroAt column)) (flat_map slice_sides path) (end ∷ [])
        (flat_map-each (IsZeroAt column) slice_sides path (All-weaker (λ (slice : Slice). IsOverKept rows slice.form) (λ (slice : Slice). EachHas (IsZeroAt column) (slice_sides slice)) of_slice path over.slices))
        (All-cons (λ side. IfSome side (IsZeroAt column)) end [] (of_end end over.last) (All-nil (λ side. IfSome side (IsZeroAt column))))

-- ---- the bounds of a column

unit_same : (n j : ℕ) → j < n → get_or (unit n j) j (pos 0) ≡ pos 1
unit_same n j h = get_or-set_same (zeros integers n) j (pos 1) (pos 0) (omega (arith, length-replicate n (pos 0)))

pub unit_other : (n k j : ℕ) → j ≢ k → get_or (unit n k) j (pos 0) ≡ pos 0
unit_other n k j ne = get_or-set_other (zeros integers n) k j (pos 1) (pos 0) ne ∙ Matrix.zeros-at integers n j

named_is : (side : Option Inequality) (inequality : Inequality) → side ≡ Some inequality → unwrap_or side nothing ≡ inequality
named_is side inequality e = ap (λ (o : Option Inequality). unwrap_or o nothing) e

not_back : (x : Bool) → not x ≡ false → x ≡ true
not_back true e = refl
not_back false e = sym e

equal_bounds : (b : Bounds) → is_open b ≡ false → b.low ≡ b.high
equal_bounds b e = (Decides-int_eq b.low b.high).0 (not_back (int_eq b.low b.high) e)

module _ (rows : WholeRows) (path : List Slice) (end : Option Inequality) (k : ℕ) (h : k < length rows.box) where
  pub named-upper : named rows path end (upper_bound rows k) ≡ at_most (unit (length rows.box) k) (bounds_at rows k).high
  named-upper = named_is _ _ (number-bound_upper rows path end k h)

  pub named-lower : named rows path end (lower_bound rows k) ≡ at_least (unit (length rows.box) k) (bounds_at rows k).low
  named-lower = named_is _ _ (number-bound_lower rows path end k h)

  -- in a column
  bound-factor : (j : ℕ) → (factor_in rows path end j (upper_bound rows k) ≡ whole (get_or (unit (length rows.box) k) j (pos 0))) × (factor_in rows path end j (lower_bound rows k) ≡ neg_ℚ (whole (get_or (unit (length rows.box) k) j (pos 0))))
  bound-factor j = (
    ap (λ i. whole (factor_of j i)) named-upper,
    ap (λ i. whole (factor_of j i)) named-lower ∙ ap whole (negate-at (unit (length rows.box) k) j) ∙ whole_neg (get_or (unit (length rows.box) k) j (pos 0)),
  )

  -- on the right, where the bounds are equal
  bound-limit : IsRemoved rows k → (limit_in rows path end (upper_bound rows k) ≡ whole (bounds_at rows k).low) × (limit_in rows path end (lower_bound rows k) ≡ neg_ℚ (whole (bounds_at rows k).low))
  bound-limit removed = (
    ap (λ (i : Inequality). whole i.limit) named-upper ∙ ap whole (sym (equal_bounds (bounds_at rows k) removed)),
    ap (λ (i : Inequality). whole i.limit) named-lower ∙ whole_neg (bounds_at rows k).low,
  )

-- ---- removed parts

-- the value of a removed column, and 0 for a kept one
abbrev value_of : WholeRows → ℕ → ℚ
value_of rows k = whole (removed_value (bounds_at rows k))

removed-sum : (rows : WholeRows) (f : List ℤ) → whole (removed_part rows.box f) ≡ sum_below rationals (length rows.box) (λ k. value_of rows k *ℚ whole (get_or f k (pos 0)))
removed-sum rows f =
    let v : List ℤ = removed_values rows.box in
    let n : ℕ = length rows.box in
    ap whole (Dot.dot_comm integers f v ∙ Sums.dot-by_index integers v f n (omega (arith, length-map rows.box removed_value)))
    ∙ whole_sum n (λ k. get_or v k (pos 0) *ℤ get_or f k (pos 0))
    ∙ Sums.sum_below-same rationals n _ _ (λ k lt. whole_mul (get_or v k (pos 0)) (get_or f k (pos 0)) ∙ ap (λ x. whole x *ℚ whole (get_or f k (pos 0))) (get_or-map removed_value rows.box k (record { low = pos 0; high = pos 0 }) (pos 0) lt))

-- ---- the sums of a node

module _ (rows : WholeRows) (path : List Slice) (end : Option Inequality) (cut : ℚ) (items : List FracUse) (over : IsNodeOverKept rows path end) where
  -- what the items come to in a column
  abbrev items_in : ℕ → ℚ
  items_in k = total (factor_in rows path end k) items

  -- in a removed one
  column_sum-is : (k : ℕ) → k < length rows.box → IsRemoved rows k → column_sum rows cut items k ≡ cut *ℚ cost_in rows k +ℚ items_in k
  column_sum-is k h removed = ap (λ z. cut *ℚ cost_in rows k +ℚ z) (sym (total-same (factor_in rows path end k) (factor_in rows [] None k) items (λ number. ap whole (removed-same rows path end k number h removed over))))

  abbrev unit_value : ℕ → ℕ → ℚ
  unit_value j k = whole (get_or (unit (length rows.box) k) j (pos 0))

  -- no other column's bound counts
  part-other : (j k : ℕ) → j ≢ k → part rows cut items (unit_value j) k ≡ none
  part-other j k ne = by_flag (is_open (bounds_at rows k))
    where
      nothing_taken : (s : ℚ) → neg_ℚ (s *ℚ whole (pos 0)) ≡ whole (pos 0)
      nothing_taken s = ring rationals (s ∷ []) (search reads depth 30) (search reads depth 30) refl

      by_flag : (b : Bool) → cond b none (neg_ℚ (column_sum rows cut items k *ℚ unit_value j k)) ≡ none
      by_flag true = refl
      by_flag false = ap (λ z. neg_ℚ (column_sum rows cut items k *ℚ whole z)) (unit_other (length rows.box) k j ne) ∙ nothing_taken (column_sum rows cut items k)

  columns-balance : (j : ℕ) → total (factor_in rows path end j) (balances rows cut items (length rows.box)) ≡ sum_below rationals (length rows.box) (part rows cut items (unit_value j))
  columns-balance j = total-balances rows cut items (factor_in rows path end j) (unit_value j) (length rows.box) (λ k lt removed. bound-factor rows path end k lt j)

  removed-vanishes : (j : ℕ) → j < length rows.box → IsRemoved rows j → cut *ℚ cost_in rows j +ℚ (items_in j +ℚ total (factor_in rows path end j) (balances rows cut items (length rows.box))) ≡ none
  removed-vanishes j h removed =
      ap (λ z. cut *ℚ cost_in rows j +ℚ (items_in j +ℚ z))
      (columns-balance j
      ∙ sum_below-only (length rows.box) j (part rows cut items (unit_value j)) h (λ k lt ne. part-other j k (λ e. ne (sym e)))
      ∙ cond-false (is_open (bounds_at rows j)) none (neg_ℚ (column_sum rows cut items j *ℚ unit_value j j)) removed
      ∙ ap₂ (λ x y. neg_ℚ (x *ℚ whole y)) (column_sum-is j h removed) (unit_same (length rows.box) j h))
      ∙ cancels (cut *ℚ cost_in rows j) (items_in j)
    where
      cancels : (c t : ℚ) → c +ℚ (t +ℚ neg_ℚ ((c +ℚ t) *ℚ whole (pos 1))) ≡ whole (pos 0)
      cancels c t = ring rationals (c ∷ t ∷ []) (search reads depth 40 fits 20000) (search reads depth 40 fits 20000) refl

  kept-stays : (j : ℕ) → is_open (bounds_at rows j) ≡ true → total (factor_in rows path end j) (balances rows cut items (length rows.box)) ≡ none
  kept-stays j open' = columns-balance j ∙ Sums.sum_below-zero rationals (length rows.box) (part rows cut items (unit_value j)) (λ k lt. same_or_not {P = part rows cut items (unit_value j) k ≡ none} j k (λ same. subst (λ i. part rows cut items (unit_value j) i ≡ none) same (cond-true (is_open (bounds_at rows j)) none (neg_ℚ (column_sum rows cut items j *ℚ unit_value j j)) open')) (λ other. part-other j k other))

  -- the right sides
  limit-part : (k : ℕ) → k < length rows.box → part rows cut items (λ i. whole (bounds_at rows i).low) k ≡ neg_ℚ (value_of rows k *ℚ (cut *ℚ cost_in rows k +ℚ items_in k))
  limit-part k h = by_flag (is_open (bounds_at rows k)) refl
    where
      no_value : (s : ℚ) → whole (pos 0) ≡ neg_ℚ (whole (pos 0) *ℚ s)
      no_value s = ring rationals (s ∷ []) (search reads depth 30) (search reads depth 30) refl

      by_flag : (b : Bool) → is_open (bounds_at rows k) ≡ b → cond b none (neg_ℚ (column_sum rows cut items k *ℚ whole (bounds_at rows k).low)) ≡ neg_ℚ (whole (cond b (pos 0) (bounds_at rows k).low) *ℚ (cut *ℚ cost_in rows k +ℚ items_in k))
      by_flag true e = no_value (cut *ℚ cost_in rows k +ℚ items_in k)
      by_flag false e = ap (λ z. neg_ℚ (z *ℚ whole (bounds_at rows k).low)) (column_sum-is k h e) ∙ ap neg_ℚ (rationals.mul_comm (cut *ℚ cost_in rows k +ℚ items_in k) (whole (bounds_at rows k).low))

  -- what the removed columns contribute to the items' right sides
  abbrev removed_limit : ℕ → ℚ
  removed_limit number = whole (removed_part rows.box (named rows path end number).factors)

  limits-balance : total (limit_in rows path end) (balances rows cut items (length rows.box)) ≡ neg_ℚ (cut *ℚ whole (removed_part rows.box rows.cost) +ℚ total removed_limit items)
  limits-balance =
      let n : ℕ = length rows.box in
      total-balances rows cut items (limit_in rows path end) (λ i. whole (bounds_at rows i).low) n (λ k lt removed. bound-limit rows path end k lt removed)
      ∙ Sums.sum_below-same rationals n _ _ (λ k lt. limit-part k lt ∙ turned (value_of rows k) cut (cost_in rows k) (items_in k))
      ∙ Sums.sum_below-add rationals n (λ k. neg_ℚ cut *ℚ (value_of rows k *ℚ cost_in rows k)) (λ k. neg_ℚ (whole (pos 1)) *ℚ (value_of rows k *ℚ items_in k))
      ∙ ap₂ (λ x y. x +ℚ y)
      (Sums.sum_below-scale rationals n (neg_ℚ cut) (λ k. value_of rows k *ℚ cost_in rows k) ∙ ap (λ z. neg_ℚ cut *ℚ z) (sym (removed-sum rows rows.cost)))
      (Sums.sum_below-scale rationals n (neg_ℚ (whole (pos 1))) (λ k. value_of rows k *ℚ items_in k) ∙ ap (λ z. neg_ℚ (whole (pos 1)) *ℚ z) (sym (total-sum_below n (λ k number. factor_in rows path end k number) (value_of rows) items) ∙ sym (total-same removed_limit (λ number. sum_below rationals n (λ k. value_of rows k *ℚ factor_in rows path end k number)) items (λ number. removed-sum rows (named rows path end number).factors))))
      ∙ together cut (whole (removed_part rows.box rows.cost)) (total removed_limit items)
    where
      turned : (v c p t : ℚ) → neg_ℚ (v *ℚ (c *ℚ p +ℚ t)) ≡ neg_ℚ c *ℚ (v *ℚ p) +ℚ neg_ℚ (whole (pos 1)) *ℚ (v *ℚ t)
      turned v c p t = ring rationals (v ∷ c ∷ p ∷ t ∷ []) (search reads depth 60 fits 20000) (search reads depth 60 fits 20000) refl

      together : (c p t : ℚ) → neg_ℚ c *ℚ p +ℚ neg_ℚ (whole (pos 1)) *ℚ t ≡ neg_ℚ (c *ℚ p +ℚ t)
      together c p t = ring rationals (c ∷ p ∷ t ∷ []) (search reads depth 60 fits 20000) (search reads depth 60 fits 20000) refl

  reduced-total : total (reduced_limit_in rows path end) items ≡ total (limit_in rows path end) items -ℚ total removed_limit items
  reduced-total =
      total-same (reduced_limit_in rows path end) (λ number. limit_in rows path end number -ℚ removed_limit number) items (λ number. whole_sub (named rows path end number).limit (removed_part rows.box (named rows path end number).factors))
      ∙ total-difference (limit_in rows path end) removed_limit items

  -- a lifted line comes to the same
  pub comes_to_same : (lifted : List FracUse) → ((value : ℕ → ℚ) → total value lifted ≡ total value items +ℚ total value (balances rows cut items (length rows.box))) → ComesToSame rows path end cut items lifted
  comes_to_same lifted totals = record {
    removed = λ j h removed. ap (λ z. cut *ℚ cost_in rows j +ℚ z) (totals (factor_in rows path end j)) ∙ removed-vanishes j h removed;
    kept = λ j h open'. totals (factor_in rows path end j) ∙ ap (λ z. items_in j +ℚ z) (kept-stays j open') ∙ rationals.add_zero (items_in j);
    limit =
        totals (limit_in rows path end)
        ∙ ap (λ z. total (limit_in rows path end) items +ℚ z) limits-balance
        ∙ apart (total (limit_in rows path end) items) (cut *ℚ whole (removed_part rows.box rows.cost)) (total removed_limit items)
        ∙ ap (λ z. z -ℚ cut *ℚ whole (removed_part rows.box rows.cost)) (sym reduced-total);
  }
    where
      apart : (l c t : ℚ) → l +ℚ neg_ℚ (c +ℚ t) ≡ (l -ℚ t) -ℚ c
      apart l c t = ring rationals (l ∷ c ∷ t ∷ []) (search reads depth 40 fits 20000) (search reads depth 40 fits 20000) refl
