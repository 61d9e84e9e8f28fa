-- The factors of numbered inequalities, and where the numbers of bounds stand.
use Rattle.std.proofs.Common.{◌≡◌, ◌≢◌, ◌⊎◌, inl, inr, ℕ, zero, suc, ◌+◌, ◌*◌, ◌-◌, ◌/◌, ◌%◌, ◌<◌, ◌≤◌, ◌^◌, true, List, [], ◌∷◌, ◌++◌, length, get_or, drop, ℤ, pos, neg_ℤ, nat_abs, refl, sym, ap, ap₂, subst, subst₂, ◌∙◌, arith, append_assoc, add-one, drop-cons, ⊎_elim}
use Rattle.std.specs.Prelude.{Option, Some, None, IsSome, All, unwrap_or, option_to_list, option_map, int_lt, if◌then◌else◌, Result, Ok, Err, IsErr, OkIff}
use Rattle.std.specs.List.{insert}
use Rattle.std.specs.List.Sorted.{IsPermutation}
use Rattle.std.proofs.lemmas.List.{append-nil}
use Rattle.std.proofs.lemmas.List.Sorted.{IsPermutation-trans, IsPermutation-to_front, IsPermutation-cons, IsPermutation-insert}
use Rattle.std.proofs.lemmas.Int.{ints}
use Rattle.std.proofs.lemmas.Bool.{cond_both, cond-true, cond-false, cases_lt}
use Rattle.std.proofs.lemmas.List.Elements.{All-nil, All-cons, All-append}
use Rattle.exact_math.specs.Rational.{ℚ, whole, neg_ℚ, ◌+ℚ◌, ◌*ℚ◌, ◌<ℚ◌}
use Rattle.exact_math.specs.RationalOrder.{pos_from_num}
use Rattle.exact_math.specs.RationalRing.{rationals}
use Rattle.whole_rows.specs.declared.bounds.Bounds.{Bounds}
use Rattle.whole_rows.specs.WholeRows.{WholeRows, row_at, bounds_at, span}
use Rattle.whole_rows.specs.WeightLaws.{span-term_le, factor_le_term}
use Rattle.farkas_rows.specs.declared.fracs.FracUse.{FracUse}
use Rattle.farkas_rows.specs.Inequalities.{Inequality, at_most, at_least, unit, inequality_at}
use Rattle.farkas_rows.specs.Refutes.{nothing}
use Rattle.farkas_rows.specs.Sides.{factor_of}
use Rattle.farkas_rows.specs.NumberLaws.{number-row_upper, number-row_lower, number-end, number-past}
use Rattle.presolve_map.specs.Columns.{is_open}
use Rattle.presolve_map.specs.LiftedLines.{total, named, factor_in, numbers_of, upper_bound, lower_bound, column_sum, bound_of, balance, balances, IsRemoved, IsWith, IsWorkNumber, ItemStays, SumStays}
use Rattle.presolve_map.proofs.LineLaws.{same_or_not, negate-at, unit_other, named-upper, named-lower, total-append, total-insert}

-- a factor of a light form is small
pub factor_small : (factors : List ℤ) (box : List Bounds) (j : ℕ) → length factors ≡ length box → j < length box → span factors box ≤ 2 ^ 96 → nat_abs (get_or factors j (pos 0)) ≤ 2 ^ 96
factor_small factors box j e h light =
    let b : Bounds = record { low = pos 0; high = pos 0 } in
    let inside : j < length factors = omega arith in
    omega (arith, span-term_le j factors box (pos 0) b inside h, factor_le_term (get_or factors j (pos 0)) (get_or box j b))

-- the factor of a row's side that is there
side-factor : (side : Option ℤ) (f : ℤ → Inequality) (column : ℕ) (a : ℤ) → IsSome (option_map f side) → ((v : ℤ) → factor_of column (f v) ≡ a) → factor_of column (unwrap_or (option_map f side) nothing) ≡ a
side-factor None f column a is h = cc
side-factor (Some v) f column a is h = h v

module _ (rows : WholeRows) (column number : ℕ) (work : IsWorkNumber rows number) where
  -- of a row's upper side
  pub upper-factor : (i : ℕ) → i < length rows.rows → number ≡ 2 * i → factor_of column (named rows [] None number) ≡ get_or (row_at rows i).factors column (pos 0)
  upper-factor i h e =
      let is = ap (inequality_at rows [] None) e ∙ number-row_upper rows [] None i h in
      let there : IsSome (inequality_at rows [] None number) = work.there (omega arith) in
      ap (λ (o : Option Inequality). factor_of column (unwrap_or o nothing)) is ∙ side-factor (row_at rows i).high (at_most (row_at rows i).factors) column (get_or (row_at rows i).factors column (pos 0)) (subst IsSome is there) (λ v. refl)

  -- of its lower side
  pub lower-factor : (i : ℕ) → i < length rows.rows → number ≡ 2 * i + 1 → factor_of column (named rows [] None number) ≡ neg_ℤ (get_or (row_at rows i).factors column (pos 0))
  lower-factor i h e =
      let is = ap (inequality_at rows [] None) e ∙ number-row_lower rows [] None i h in
      let there : IsSome (inequality_at rows [] None number) = work.there (omega arith) in
      ap (λ (o : Option Inequality). factor_of column (unwrap_or o nothing)) is ∙ side-factor (row_at rows i).low (at_least (row_at rows i).factors) column (neg_ℤ (get_or (row_at rows i).factors column (pos 0))) (subst IsSome is there) (λ v. negate-at (row_at rows i).factors column)

  -- past the rows, in a removed column
  pub past-factor : column < length rows.box → IsRemoved rows column → 2 * length rows.rows ≤ number → factor_of column (named rows [] None number) ≡ pos 0
  past-factor h removed le =
      ⊎_elim
      (λ (inside : number < 2 * length rows.rows + 2 * length rows.box). of_bound ((number - 2 * length rows.rows) / 2) (omega arith) (same_or_not {P = (number ≡ upper_bound rows ((number - 2 * length rows.rows) / 2)) ⊎ (number ≡ lower_bound rows ((number - 2 * length rows.rows) / 2))} ((number - 2 * length rows.rows) % 2) 0 (λ e. inl (omega arith)) (λ e. inr (omega arith))))
      (λ (past : 2 * length rows.rows + 2 * length rows.box ≤ number). of_rest (number - (2 * length rows.rows + 2 * length rows.box)) (omega arith))
      (cases_lt number (2 * length rows.rows + 2 * length rows.box))
    where
      of_bound : (k : ℕ) → k < length rows.box → (number ≡ upper_bound rows k) ⊎ (number ≡ lower_bound rows k) → factor_of column (named rows [] None number) ≡ pos 0
      of_bound k lt (inl e) =
          let apart : column ≢ k = λ same. (work.kept column h removed).0 (e ∙ ap (upper_bound rows) (sym same)) in
          ap (λ m. factor_of column (named rows [] None m)) e ∙ ap (factor_of column) (named-upper rows [] None k lt) ∙ unit_other (length rows.box) k column apart
      of_bound k lt (inr e) =
          let apart : column ≢ k = λ same. (work.kept column h removed).1 (e ∙ ap (lower_bound rows) (sym same)) in
          ap (λ m. factor_of column (named rows [] None m)) e ∙ ap (factor_of column) (named-lower rows [] None k lt) ∙ negate-at (unit (length rows.box) k) column ∙ ap neg_ℤ (unit_other (length rows.box) k column apart)

      of_rest : (m : ℕ) → number ≡ 2 * length rows.rows + 2 * length rows.box + m → factor_of column (named rows [] None number) ≡ pos 0
      of_rest zero e = ap (λ (o : Option Inequality). factor_of column (unwrap_or o nothing)) (ap (inequality_at rows [] None) (omega arith) ∙ number-end rows [] None)
      of_rest (suc m) e = ap (λ (o : Option Inequality). factor_of column (unwrap_or o nothing)) (ap (inequality_at rows [] None) (omega arith) ∙ number-past rows [] None m)

-- ---- sums item by item

item_is : (items : List FracUse) (i : ℕ) (item : FracUse) → i < length items → item ≡ get_or items i item → drop i items ≡ item ∷ drop (i + 1) items
item_is items i item h e = drop-cons items i item h ∙ ap₂ (λ (x : FracUse) (k : ℕ). x ∷ drop k items) (sym e) (sym (add-one i))

pub total-more : (value : ℕ → ℚ) (items : List FracUse) (i : ℕ) (item : FracUse) (sum : ℚ) → i < length items → item ≡ get_or items i item → (sum +ℚ item.times *ℚ value item.index) +ℚ total value (drop (i + 1) items) ≡ sum +ℚ total value (drop i items)
total-more value items i item sum h e = rationals.add_assoc sum (item.times *ℚ value item.index) (total value (drop (i + 1) items)) ∙ ap (λ l. sum +ℚ total value l) (sym (item_is items i item h e))

pub stays-more : (rows : WholeRows) (column : ℕ) (sum : ℚ) (items : List FracUse) (i : ℕ) (item : FracUse) → i < length items → item ≡ get_or items i item
    → ItemStays sum item.times (factor_in rows [] None column item.index) → SumStays rows column (sum +ℚ item.times *ℚ factor_in rows [] None column item.index) (drop (i + 1) items) → SumStays rows column sum (drop i items)
stays-more rows column sum items i item h e here rest = subst (SumStays rows column sum) (sym (item_is items i item h e)) (here, rest)

pub stays-parts : (rows : WholeRows) (column : ℕ) (sum : ℚ) (items : List FracUse) (i : ℕ) (item : FracUse) → i < length items → item ≡ get_or items i item
    → SumStays rows column sum (drop i items) → ItemStays sum item.times (factor_in rows [] None column item.index) × SumStays rows column (sum +ℚ item.times *ℚ factor_in rows [] None column item.index) (drop (i + 1) items)
stays-parts rows column sum items i item h e all = let parts = subst (SumStays rows column sum) (item_is items i item h e) all in (parts.0, parts.1)

pub drop_none : (items : List FracUse) (i : ℕ) → length items ≤ i → drop i items ≡ []
drop_none [] zero h = refl
drop_none [] (suc i) h = refl
drop_none (item ∷ items) zero h = absurd (omega arith)
drop_none (item ∷ items) (suc i) h = drop_none items i (omega arith)

-- ---- the numbers of bounds

pub numbers_of-insert : (items : List FracUse) (i : ℕ) (item : FracUse) → numbers_of (insert items i item) ≡ insert (numbers_of items) i item.index
numbers_of-insert items zero item = refl
numbers_of-insert [] (suc i) item = refl
numbers_of-insert (u ∷ items) (suc i) item = ap {B = List ℕ} (λ t. u.index ∷ t) (numbers_of-insert items i item)

-- what holds of both bounds of a column, so many times, holds of the one that is taken
bound-each : (P : FracUse → Type 0) (rows : WholeRows) (column : ℕ) (sum : ℚ)
    → (int_lt sum.num (pos 0) ≡ true → P (record { index = upper_bound rows column; times = neg_ℚ sum })) → (int_lt (pos 0) sum.num ≡ true → P (record { index = lower_bound rows column; times = sum })) → All P (option_to_list (bound_of rows column sum))
bound-each P rows column sum f g =
    cond_both (int_lt sum.num (pos 0)) upper (if int_lt (pos 0) sum.num then lower else None) (λ o. All P (option_to_list o))
    (λ e. All-cons P _ [] (f e) (All-nil P))
    (λ e. cond_both (int_lt (pos 0) sum.num) lower None (λ o. All P (option_to_list o)) (λ h. All-cons P _ [] (g h) (All-nil P)) (λ h. All-nil P))
  where
    upper : Option FracUse
    upper = Some (record { index = upper_bound rows column; times = neg_ℚ sum })

    lower : Option FracUse
    lower = Some (record { index = lower_bound rows column; times = sum })

-- and of those of all columns
balances-each : (P : FracUse → Type 0) (rows : WholeRows) (cut : ℚ) (items : List FracUse) (m : ℕ) → ((k : ℕ) → k < m → All P (option_to_list (bound_of rows k (column_sum rows cut items k)))) → All P (balances rows cut items m)
balances-each P rows cut items zero h = All-nil P
balances-each P rows cut items (suc m) h =
    All-append P (balances rows cut items m) (balance rows cut items m) (balances-each P rows cut items m (λ k lt. h k (omega arith)))
    (cond_both (is_open (bounds_at rows m)) [] (option_to_list (bound_of rows m (column_sum rows cut items m))) (All P) (λ e. All-nil P) (λ e. h m (omega arith)))

-- the bounds of columns before one have other numbers
pub balances-apart : (rows : WholeRows) (cut : ℚ) (items : List FracUse) (m : ℕ) → All (λ (other : FracUse). (other.index ≢ upper_bound rows m) × (other.index ≢ lower_bound rows m)) (balances rows cut items m)
balances-apart rows cut items m = balances-each (λ (other : FracUse). (other.index ≢ upper_bound rows m) × (other.index ≢ lower_bound rows m)) rows cut items m (λ k lt. bound-each (λ (other : FracUse). (other.index ≢ upper_bound rows m) × (other.index ≢ lower_bound rows m)) rows k (column_sum rows cut items k) (λ e. (omega arith, omega arith)) (λ e. (omega arith, omega arith)))

turned_positive : (q : ℚ) → int_lt q.num (pos 0) ≡ true → whole (pos 0) <ℚ neg_ℚ q
unfolding neg_ℚ
turned_positive q e = pos_from_num (neg_ℚ q) (omega (arith, ints))

-- each is taken a positive number of times
pub balances-positive : (rows : WholeRows) (cut : ℚ) (items : List FracUse) (m : ℕ) → All (λ (item : FracUse). whole (pos 0) <ℚ item.times) (balances rows cut items m)
balances-positive rows cut items m = balances-each (λ (item : FracUse). whole (pos 0) <ℚ item.times) rows cut items m (λ k lt. bound-each (λ (item : FracUse). whole (pos 0) <ℚ item.times) rows k (column_sum rows cut items k) (λ e. turned_positive (column_sum rows cut items k) e) (λ e. pos_from_num (column_sum rows cut items k) (omega (arith, ints))))

-- ---- answers

pub ok_iff_err : {T E : Type 0} (r : Result T E) (P : Type 0) (v : T) → IsErr r → (P → ⊥) → OkIff r P v
ok_iff_err (Ok x) P v is h = cc
ok_iff_err (Err e) P v is h = h

-- ---- one column more

pub with-permutation : (xs lifted new : List FracUse) (o : Option FracUse) → IsWith o lifted new → IsPermutation xs lifted → IsPermutation (xs ++ option_to_list o) new
with-permutation xs lifted new None put p = subst₂ IsPermutation (sym (append-nil xs)) (sym put) p
with-permutation xs lifted new (Some item) put p =
    IsPermutation-trans (xs ++ item ∷ []) (item ∷ xs) new (IsPermutation-to_front xs item)
    (IsPermutation-trans (item ∷ xs) (item ∷ lifted) new (IsPermutation-cons item xs lifted p) (subst (IsPermutation (item ∷ lifted)) (sym put.2) (IsPermutation-insert lifted put.0 item)))

pub with-total : (value : ℕ → ℚ) (lifted new : List FracUse) (o : Option FracUse) → IsWith o lifted new → total value new ≡ total value lifted +ℚ total value (option_to_list o)
with-total value lifted new None put = ap (total value) put ∙ sym (rationals.add_zero (total value lifted))
with-total value lifted new (Some item) put = ap (total value) put.2 ∙ total-insert value lifted put.0 item ∙ ap (λ z. total value lifted +ℚ z) (sym (rationals.add_zero (item.times *ℚ value item.index)))

-- the state of the lifting before a column
pub record IsLiftedTo (rows : WholeRows) (cut : ℚ) (items : List FracUse) (column : ℕ) (lifted : List FracUse) : Type 0 where
  pub same : IsPermutation (items ++ balances rows cut items column) lifted
  pub totals : (value : ℕ → ℚ) → total value lifted ≡ total value items +ℚ total value (balances rows cut items column)

-- after a removed one
pub lifted-removed : (rows : WholeRows) (cut : ℚ) (items : List FracUse) (column : ℕ) (sum : ℚ) (lifted new : List FracUse) → IsRemoved rows column → sum ≡ column_sum rows cut items column → IsWith (bound_of rows column sum) lifted new
    → IsLiftedTo rows cut items column lifted → IsLiftedTo rows cut items (column + 1) new
lifted-removed rows cut items column sum lifted new removed is put to =
    let o : Option FracUse = bound_of rows column sum in
    let next : balances rows cut items (column + 1) ≡ balances rows cut items column ++ option_to_list o =
    ap (balances rows cut items) (add-one column) ∙ ap (λ l. balances rows cut items column ++ l) (cond-false (is_open (bounds_at rows column)) [] (option_to_list (bound_of rows column (column_sum rows cut items column))) removed ∙ ap (λ s. option_to_list (bound_of rows column s)) (sym is)) in
    record {
      same = subst (λ l. IsPermutation l new) (append_assoc items (balances rows cut items column) (option_to_list o) ∙ ap (λ l. items ++ l) (sym next)) (with-permutation (items ++ balances rows cut items column) lifted new o put to.same);
      totals = λ value.
          with-total value lifted new o put
          ∙ ap (λ z. z +ℚ total value (option_to_list o)) (to.totals value)
          ∙ rationals.add_assoc (total value items) (total value (balances rows cut items column)) (total value (option_to_list o))
          ∙ ap (λ z. total value items +ℚ z) (sym (total-append value (balances rows cut items column) (option_to_list o)) ∙ ap (total value) (sym next));
    }

-- after a kept one
pub lifted-kept : (rows : WholeRows) (cut : ℚ) (items : List FracUse) (column : ℕ) (lifted : List FracUse) → is_open (bounds_at rows column) ≡ true → IsLiftedTo rows cut items column lifted → IsLiftedTo rows cut items (column + 1) lifted
lifted-kept rows cut items column lifted open' to =
    let next : balances rows cut items column ≡ balances rows cut items (column + 1) =
    sym (ap (balances rows cut items) (add-one column) ∙ ap (λ l. balances rows cut items column ++ l) (cond-true (is_open (bounds_at rows column)) [] (option_to_list (bound_of rows column (column_sum rows cut items column))) open') ∙ append-nil (balances rows cut items column)) in
    record {
      same = subst (λ l. IsPermutation (items ++ l) lifted) next to.same;
      totals = λ value. to.totals value ∙ ap (λ l. total value items +ℚ total value l) next;
    }

-- what holds of the columns before one, and of it
pub below_next : (P : ℕ → Type 0) (column : ℕ) → ((k : ℕ) → k < column → P k) → P column → (k : ℕ) → k < column + 1 → P k
below_next P column h here k lt = same_or_not {P = P k} k column (λ e. subst P (sym e) here) (λ e. h k (omega arith))
