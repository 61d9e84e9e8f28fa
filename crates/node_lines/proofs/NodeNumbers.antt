-- The numbers of lifted items: each names an inequality of the node, and all are below that of an end.
use Rattle.std.proofs.Common.{◌≡◌, ℕ, zero, suc, ◌+◌, ◌-◌, ◌*◌, ◌<◌, ◌≤◌, ◌⊎◌, inl, inr, pos, List, [], ◌∷◌, ◌++◌, length, get_or, refl, sym, ap, subst, ◌∙◌, arith, All, ⊎_elim}
use Rattle.std.specs.Prelude.{Option, Some, None, IsSome, int_lt, if◌then◌else◌, option_to_list}
use Rattle.std.specs.List.Sorted.{IsStrictlyIncreasing}
use Rattle.std.proofs.Math.ListN.{get_or-append}
use Rattle.std.proofs.Math.Seq.{get_or-append_seam}
use Rattle.std.proofs.lemmas.Bool.{cases_lt, cond_both}
use Rattle.std.proofs.lemmas.List.{length-append}
use Rattle.std.proofs.lemmas.List.Elements.{All-nil, All-cons, All-append, All-get_or}
use Rattle.std.proofs.lemmas.List.Sorted.{All-permutation}
use Rattle.exact_math.specs.Rational.{ℚ, whole, neg_ℚ, ◌≤ℚ◌, ◌<ℚ◌}
use Rattle.whole_rows.specs.WholeRows.{WholeRows, IsWithinLimits, bounds_at}
use Rattle.farkas_rows.specs.declared.fracs.FracUse.{FracUse}
use Rattle.farkas_rows.specs.declared.path.Slice.{Slice}
use Rattle.farkas_rows.specs.Inequalities.{Inequality, inequality_at}
use Rattle.farkas_rows.specs.NumberLaws.{number-row_upper, number-row_lower, number-bound_upper, number-bound_lower, number-slice_upper, number-slice_lower}
use Rattle.presolve_map.specs.Columns.{is_open}
use Rattle.presolve_map.specs.LiftedLines.{balance, balances, bound_of, column_sum, lower_bound, upper_bound, IsLiftedLine, IsWorkNumber}
use Rattle.presolve_map.specs.ReducedRows.{ReducedRows, IsReduced}
use Rattle.farkas_lift.specs.NodeLifting.{node_places, uses_of}
use Rattle.farkas_lift.specs.declared.place.Place.{Place}
use Rattle.farkas_lift.specs.declared.place.Place.TheVariants.{Side, Equality}
use Rattle.farkas_lift.proofs.NodePlaces.{places-within}
use Rattle.farkas_lift.proofs.UseLaws.{uses-each, AtPlace, Within}
use Rattle.node_lines.specs.Combinations.{AreOfNode}

-- ---- those of the items of a node

low_high : (low high : ℕ) (places : List Place) → Within low high places → low ≤ high
low_high low high [] w = w
low_high low high (Side number ∷ places) w = omega (arith, w.0, low_high (number + 1) high places w.1)
low_high low high (Equality number ∷ places) w = omega (arith, w.0, low_high (number + 2) high places w.1)

-- the number of an item at this place is below
abbrev IsBelow : ℕ → Place → Type 0
IsBelow high = AtPlace (λ (item : FracUse). item.index < high) (λ number. number < high) (λ number t lt positive. lt)

places_below : (low high : ℕ) (places : List Place) → Within low high places → All (IsBelow high) places
places_below low high [] w = All-nil (IsBelow high)
places_below low high (Side number ∷ places) w = All-cons (IsBelow high) (Side number) places (omega (arith, low_high (number + 1) high places w.1)) (places_below (number + 1) high places w.1)
places_below low high (Equality number ∷ places) w =
    let two : number + 2 ≤ high = low_high (number + 2) high places w.1 in
    All-cons (IsBelow high) (Equality number) places (omega (arith, two), omega (arith, two)) (places_below (number + 2) high places w.1)

pub uses-below : (model : WholeRows) (rows : ReducedRows) (slices : ℕ) (weights times : List ℚ) → IsWithinLimits model → IsReduced model rows → All (λ w. whole (pos 0) ≤ℚ w) weights
    → All (λ (item : FracUse). item.index < 2 * (length model.rows + length model.box + slices)) (uses_of (node_places model rows slices) weights times)
uses-below model rows slices weights times limits reduced h =
    let high : ℕ = 2 * (length model.rows + length model.box + slices) in
    uses-each (λ (item : FracUse). item.index < high) (λ number. number < high) (λ number t lt positive. lt) (node_places model rows slices) weights times (places_below 0 high (node_places model rows slices) (places-within model rows limits reduced slices)) h

-- ---- those of the bounds of removed columns

-- what holds of the numbers of both bounds of a column holds of that of the one that is taken
bound_numbers : (P : ℕ → Type 0) (rows : WholeRows) (column : ℕ) (sum : ℚ) → P (upper_bound rows column) → P (lower_bound rows column) → All (λ (item : FracUse). P item.index) (option_to_list (bound_of rows column sum))
bound_numbers P rows column sum h k =
    let Q = λ (item : FracUse). P item.index in
    let upper : FracUse = record { index = upper_bound rows column; times = neg_ℚ sum } in
    let lower : FracUse = record { index = lower_bound rows column; times = sum } in
    cond_both (int_lt sum.num (pos 0)) (Some upper) (if int_lt (pos 0) sum.num then Some lower else None) (λ o. All Q (option_to_list o))
    (λ e. All-cons Q upper [] h (All-nil Q))
    (λ e. cond_both (int_lt (pos 0) sum.num) (Some lower) None (λ o. All Q (option_to_list o)) (λ f. All-cons Q lower [] k (All-nil Q)) (λ f. All-nil Q))

pub balance_numbers : (P : ℕ → Type 0) (rows : WholeRows) (cut : ℚ) (items : List FracUse) (m : ℕ) → ((k : ℕ) → k < m → P (upper_bound rows k) × P (lower_bound rows k)) → All (λ (item : FracUse). P item.index) (balances rows cut items m)
balance_numbers P rows cut items zero h = All-nil (λ (item : FracUse). P item.index)
balance_numbers P rows cut items (suc m) h =
    let Q = λ (item : FracUse). P item.index in
    All-append Q (balances rows cut items m) (balance rows cut items m) (balance_numbers P rows cut items m (λ k lt. h k (omega arith)))
    (cond_both (is_open (bounds_at rows m)) [] (option_to_list (bound_of rows m (column_sum rows cut items m))) (All Q) (λ e. All-nil Q) (λ e. let both = h m (omega arith) in bound_numbers P rows m (column_sum rows cut items m) both.0 both.1))

-- ---- they name inequalities

parity : (n : ℕ) → ((i : ℕ) × (n ≡ 2 * i)) ⊎ ((i : ℕ) × (n ≡ 2 * i + 1))
parity zero = inl (0, refl)
parity (suc n) = ⊎_elim (λ even. inr (even.0, omega (arith, even.1))) (λ odd. inl (odd.0 + 1, omega (arith, odd.1))) (parity n)

is_some_of : (o : Option Inequality) (x : Inequality) → o ≡ Some x → IsSome o
is_some_of o x e = rw e refl

module _ (rows : WholeRows) (path : List Slice) (end : Option Inequality) where
  at_number : (n m : ℕ) (x : Inequality) → m ≡ n → inequality_at rows path end m ≡ Some x → IsSome (inequality_at rows path end n)
  at_number n m x same is = subst (λ (k : ℕ). IsSome (inequality_at rows path end k)) same (is_some_of (inequality_at rows path end m) x is)

  no_slice : Slice
  no_slice = record { form = []; beta = pos 0 }

  upper_there : (i : ℕ) → 2 * i < 2 * (length rows.rows + length rows.box + length path) → (2 * i < 2 * length rows.rows → IsSome (inequality_at rows [] None (2 * i))) → IsSome (inequality_at rows path end (2 * i))
  upper_there i h there =
      ⊎_elim
      (λ (of_row : i < length rows.rows). subst IsSome (number-row_upper rows [] None i of_row ∙ sym (number-row_upper rows path end i of_row)) (there (omega arith)))
      (λ (past : length rows.rows ≤ i). let j : ℕ = i - length rows.rows in ⊎_elim
      (λ (of_column : i - length rows.rows < length rows.box). at_number (2 * i) (2 * length rows.rows + 2 * j) _ (omega arith) (number-bound_upper rows path end j of_column))
      (λ (beyond : length rows.box ≤ i - length rows.rows). let e : ℕ = i - length rows.rows - length rows.box in at_number (2 * i) (2 * length rows.rows + 2 * length rows.box + 2 * e) _ (omega arith) (number-slice_upper rows path end e no_slice (omega arith)))
      (cases_lt (i - length rows.rows) (length rows.box)))
      (cases_lt i (length rows.rows))

  lower_there : (i : ℕ) → 2 * i + 1 < 2 * (length rows.rows + length rows.box + length path) → (2 * i + 1 < 2 * length rows.rows → IsSome (inequality_at rows [] None (2 * i + 1))) → IsSome (inequality_at rows path end (2 * i + 1))
  lower_there i h there =
      ⊎_elim
      (λ (of_row : i < length rows.rows). subst IsSome (number-row_lower rows [] None i of_row ∙ sym (number-row_lower rows path end i of_row)) (there (omega arith)))
      (λ (past : length rows.rows ≤ i). let j : ℕ = i - length rows.rows in ⊎_elim
      (λ (of_column : i - length rows.rows < length rows.box). at_number (2 * i + 1) (2 * length rows.rows + 2 * j + 1) _ (omega arith) (number-bound_lower rows path end j of_column))
      (λ (beyond : length rows.box ≤ i - length rows.rows). let e : ℕ = i - length rows.rows - length rows.box in at_number (2 * i + 1) (2 * length rows.rows + 2 * length rows.box + 2 * e + 1) _ (omega arith) (number-slice_lower rows path end e no_slice (omega arith)))
      (cases_lt (i - length rows.rows) (length rows.box)))
      (cases_lt i (length rows.rows))

  -- a number before that of the end names an inequality, where one of a row's side does
  pub named-there : (number : ℕ) → number < 2 * (length rows.rows + length rows.box + length path) → (number < 2 * length rows.rows → IsSome (inequality_at rows [] None number)) → IsSome (inequality_at rows path end number)
  named-there number h there =
      ⊎_elim
      (λ even. subst (λ (n : ℕ). IsSome (inequality_at rows path end n)) (sym even.1) (upper_there even.0 (omega (arith, even.1)) (subst (λ (n : ℕ). n < 2 * length rows.rows → IsSome (inequality_at rows [] None n)) even.1 there)))
      (λ odd. subst (λ (n : ℕ). IsSome (inequality_at rows path end n)) (sym odd.1) (lower_there odd.0 (omega (arith, odd.1)) (subst (λ (n : ℕ). n < 2 * length rows.rows → IsSome (inequality_at rows [] None n)) odd.1 there)))
      (parity number)

-- ---- a greater number behind rising ones

pub rising-last : (xs : List ℕ) (n : ℕ) → IsStrictlyIncreasing xs → All (λ x. x < n) xs → IsStrictlyIncreasing (xs ++ n ∷ [])
rising-last xs n rising below k h =
    let long : length (xs ++ n ∷ []) ≡ length xs + 1 = length-append xs (n ∷ []) in
    ⊎_elim
    (λ (inside : k + 1 < length xs). rw (get_or-append xs (n ∷ []) 0 k (omega arith), get_or-append xs (n ∷ []) 0 (k + 1) inside) (rising k inside))
    (λ (last : length xs ≤ k + 1). let at_end : k + 1 ≡ length xs = omega (arith, long, h) in
    let value : get_or (xs ++ n ∷ []) (k + 1) 0 ≡ n = ap (λ (j : ℕ). get_or (xs ++ n ∷ []) j 0) at_end ∙ get_or-append_seam xs n [] 0 in
    rw (get_or-append xs (n ∷ []) 0 k (omega arith), value) (All-get_or (λ x. x < n) xs k 0 (omega arith) below))
    (cases_lt (k + 1) (length xs))

-- ---- the items with the bounds of removed columns

pub are-of-node : (model : WholeRows) (work : ReducedRows) (path : List Slice) (weights times : List ℚ) (cut : ℚ) (items lifted : List FracUse) → IsWithinLimits model → IsReduced model work → All (λ w. whole (pos 0) ≤ℚ w) weights
    → items ≡ uses_of (node_places model work (length path)) weights times → All (λ (item : FracUse). IsWorkNumber model item.index) items → All (λ (item : FracUse). whole (pos 0) <ℚ item.times) lifted → IsLiftedLine model cut items lifted → AreOfNode model path lifted
are-of-node model work path weights times cut items lifted limits reduced nonneg is_items of_work positive line =
    let N : ℕ = 2 * (length model.rows + length model.box + length path) in
    let P = λ (number : ℕ). (number < 2 * (length model.rows + length model.box + length path)) × (number < 2 * length model.rows → IsSome (inequality_at model [] None number)) in
    let below : All (λ (item : FracUse). item.index < 2 * (length model.rows + length model.box + length path)) items = subst (All (λ (item : FracUse). item.index < N)) (sym is_items) (uses-below model work (length path) weights times limits reduced nonneg) in
    let all : All (λ (item : FracUse). P item.index) lifted =
    All-permutation (λ (item : FracUse). P item.index) (items ++ balances model cut items (length model.box)) lifted line.same
    (All-append (λ (item : FracUse). P item.index) items (balances model cut items (length model.box)) (λ k d lt. (below k d lt, (of_work k d lt).there))
    (balance_numbers P model cut items (length model.box) (λ k lt. ((omega arith, λ row. absurd (omega arith)), (omega arith, λ row. absurd (omega arith)))))) in
    record {
      rising = line.rising;
      before_end = λ k d lt. (all k d lt).0;
      there = λ end k d lt. let one = all k d lt in named-there model path end (get_or lifted k d).index one.0 one.1;
      positive = positive;
    }
