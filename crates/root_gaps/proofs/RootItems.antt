-- The items of the equalities of a root, so many times, and of the bounds of removed columns.
use Rattle.std.proofs.Common.{◌≡◌, ℕ, zero, suc, ◌+◌, ◌*◌, ◌<◌, ◌≤◌, nat_abs, false, ℤ, pos, List, [], ◌∷◌, ◌++◌, length, refl, sym, ap, subst, ◌∙◌, arith, append_assoc, All}
use Rattle.std.specs.Prelude.{Option, Some, None, int_lt, if◌then◌else◌, option_to_list, ⊤}
use Rattle.std.specs.Ordering.{int_eq}
use Rattle.std.specs.List.Sorted.{IsStrictlyIncreasing}
use Rattle.std.proofs.lemmas.Bool.{cond_both}
use Rattle.std.proofs.lemmas.Bool.Decides.{Decides-int_eq}
use Rattle.std.proofs.lemmas.List.{append-nil, length-map, map-append}
use Rattle.std.proofs.lemmas.List.Elements.{All-nil, All-cons, All-append, All-head, All-map, All-tail, All-weaker}
use Rattle.std.proofs.lemmas.List.Sorted.{IsPermutation-refl}
use Rattle.exact_math.specs.GcdLaws.{nat_abs-neg_ℤ}
use Rattle.exact_math.specs.Rational.{ℚ, whole, neg_ℚ}
use Rattle.exact_math.specs.RationalRing.{rationals}
use Rattle.exact_math.specs.RingLaws as Laws
use Rattle.exact_vectors.specs.Vectors.{zeros}
use Rattle.whole_rows.specs.WholeRows.{WholeRows, bounds_at, IsWithinLimits}
use Rattle.lp_dict.specs.Systems.{wholes}
use Rattle.row_lifting.specs.Lifting.{none}
use Rattle.farkas_rows.specs.declared.fracs.FracUse.{FracUse}
use Rattle.presolve_map.specs.Columns.{is_open}
use Rattle.presolve_map.specs.LiftedLines.{balance, balances, bound_of, column_sum, cost_in, factor_in, lower_bound, numbers_of, total, upper_bound, IsLiftedLine}
use Rattle.presolve_map.specs.ReducedRows.{ReducedRows, IsReduced}
use Rattle.farkas_lift.specs.NodeEqualities.{node_equalities}
use Rattle.farkas_lift.specs.NodeLifting.{equality_use, node_places, root_uses, side_use, uses_of}
use Rattle.farkas_lift.specs.NodeSides.{node_sides}
use Rattle.farkas_lift.specs.declared.place.Place.{Place}
use Rattle.farkas_lift.specs.declared.place.Place.TheVariants.{Side, Equality}
use Rattle.farkas_lift.proofs.NodePlaces.{numbers-rise}
use Rattle.farkas_lift.proofs.NodeTotals.{equalities-agree, places-each, sides-agree, Agrees}
use Rattle.farkas_lift.proofs.NodeValues as Node
use Rattle.farkas_lift.proofs.UseLaws.{equalities_in, sides_in}
use Rattle.farkas_rows.proofs.LeastLemmas.{whole_num}
use Rattle.node_lines.proofs.NodeNumbers.{rising-last}
use Rattle.root_gaps.proofs.WholeLines.{integer-add, integer-mul, integer-neg, size, IsInteger}

-- ---- lists

pub all-front : {A : Type 0} (P : A → Type 0) (xs ys : List A) → All P (xs ++ ys) → All P xs
all-front P [] ys h = All-nil P
all-front P (x ∷ xs) ys h = All-cons P x xs (All-head P x (xs ++ ys) h) (all-front P xs ys (All-tail P x (xs ++ ys) h))

pub all-back : {A : Type 0} (P : A → Type 0) (xs ys : List A) → All P (xs ++ ys) → All P ys
all-back P [] ys h = h
all-back P (x ∷ xs) ys h = all-back P xs ys (All-tail P x (xs ++ ys) h)

-- ---- items at places, where the inequalities that are no equalities do not count

abbrev IsNone : ℚ → Type 0
IsNone q = q ≡ none

zeros-none : (n : ℕ) → All IsNone (zeros rationals n)
zeros-none zero = All-nil IsNone
zeros-none (suc n) = All-cons IsNone none (zeros rationals n) refl (zeros-none n)

side-zero : (number : ℕ) → side_use number (whole (pos 0)) ≡ []
unfolding whole
side-zero number = refl

side-none : (number : ℕ) (w : ℚ) → IsNone w → side_use number w ≡ []
side-none number w is = ap (side_use number) is ∙ side-zero number

module _ (P : FracUse → Type 0) (Of : ℕ → Type 0) (Q : ℚ → Type 0) (each : (number : ℕ) (t : ℚ) → Of number → Q t → All P (equality_use number t)) where
  abbrev AtEquality : Place → Type 0
  AtEquality (Side number) = ⊤
  AtEquality (Equality number) = Of number

  uses-hold : (places : List Place) (weights times : List ℚ) → All AtEquality places → All IsNone weights → All Q times → All P (uses_of places weights times)
  uses-hold [] weights times h k q = All-nil P
  uses-hold (Side number ∷ places) [] times h k q = All-nil P
  uses-hold (Side number ∷ places) (w ∷ weights) times h k q =
      subst (λ (l : List FracUse). All P (l ++ uses_of places weights times)) (sym (side-none number w (All-head IsNone w weights k)))
      (uses-hold places weights times (All-tail AtEquality (Side number) places h) (All-tail IsNone w weights k) q)
  uses-hold (Equality number ∷ places) weights [] h k q = All-nil P
  uses-hold (Equality number ∷ places) weights (t ∷ times) h k q =
      All-append P (equality_use number t) (uses_of places weights times) (each number t (All-head AtEquality (Equality number) places h) (All-head Q t times q)) (uses-hold places weights times (All-tail AtEquality (Equality number) places h) k (All-tail Q t times q))

-- ---- back to the times

module _ (P : ℕ → Type 0) (at_zero : P 0) where
  abbrev OfSize : FracUse → Type 0
  OfSize item = P (size item)

  abbrev OfTimes : ℚ → Type 0
  OfTimes t = P (nat_abs t.num)

  turned : (t : ℚ) → P (nat_abs (neg_ℚ t).num) → P (nat_abs t.num)
  unfolding neg_ℚ
  turned t h = subst P (nat_abs-neg_ℤ t.num) h

  time-back : (number : ℕ) (t : ℚ) → All OfSize (equality_use number t) → OfTimes t
  time-back number t =
      cond_both (int_lt t.num (pos 0)) (record { index = number + 1; times = neg_ℚ t } ∷ []) (side_use number t) (λ (l : List FracUse). All OfSize l → OfTimes t)
      (λ e h. turned t (All-head OfSize (record { index = number + 1; times = neg_ℚ t }) [] h))
      (λ f. cond_both (int_eq t.num (pos 0)) [] (record { index = number; times = t } ∷ []) (λ (l : List FracUse). All OfSize l → OfTimes t)
      (λ e h. subst (λ (z : ℤ). P (nat_abs z)) (sym ((Decides-int_eq t.num (pos 0)).0 e)) at_zero)
      (λ e h. All-head OfSize (record { index = number; times = t }) [] h))

  uses-back : (places : List Place) (weights times : List ℚ) → All IsNone weights → length (sides_in places) ≤ length weights → length times ≤ length (equalities_in places) → All OfSize (uses_of places weights times) → All OfTimes times
  uses-back [] weights [] k m n h = All-nil OfTimes
  uses-back [] weights (t ∷ times) k m n h = absurd (omega (arith, n))
  uses-back (Side number ∷ places) [] times k m n h = absurd (omega (arith, m))
  uses-back (Side number ∷ places) (w ∷ weights) times k m n h =
      uses-back places weights times (All-tail IsNone w weights k) (omega (arith, m)) n (all-back OfSize (side_use number w) (uses_of places weights times) h)
  uses-back (Equality number ∷ places) weights [] k m n h = All-nil OfTimes
  uses-back (Equality number ∷ places) weights (t ∷ times) k m n h =
      All-cons OfTimes t times (time-back number t (all-front OfSize (equality_use number t) (uses_of places weights times) h))
      (uses-back places weights times k m (omega (arith, n)) (all-back OfSize (equality_use number t) (uses_of places weights times) h))

-- ---- the bounds of removed columns

module _ (P : FracUse → Type 0) (rows : WholeRows) (k : ℕ) where
  -- what holds of both bounds of a column holds of that of the one that is taken
  bound-holds : (sum : ℚ) → P (record { index = upper_bound rows k; times = neg_ℚ sum }) → P (record { index = lower_bound rows k; times = sum }) → All P (option_to_list (bound_of rows k sum))
  bound-holds sum h l =
      let upper : FracUse = record { index = upper_bound rows k; times = neg_ℚ sum } in
      let lower : FracUse = record { index = lower_bound rows k; times = sum } in
      cond_both (int_lt sum.num (pos 0)) (Some upper) (if int_lt (pos 0) sum.num then Some lower else None) (λ o. All P (option_to_list o))
      (λ e. All-cons P upper [] h (All-nil P))
      (λ e. cond_both (int_lt (pos 0) sum.num) (Some lower) None (λ o. All P (option_to_list o)) (λ f. All-cons P lower [] l (All-nil P)) (λ f. All-nil P))

abbrev OfInteger : FracUse → Type 0
OfInteger item = IsInteger item.times

total-integer : (rows : WholeRows) (column : ℕ) (items : List FracUse) → All OfInteger items → IsInteger (total (factor_in rows [] None column) items)
total-integer rows column [] h = (pos 0, refl)
total-integer rows column (item ∷ items) h =
    integer-add _ _ (integer-mul item.times (factor_in rows [] None column item.index) (All-head OfInteger item items h) (_, refl)) (total-integer rows column items (All-tail OfInteger item items h))

balances-integer : (rows : WholeRows) (items : List FracUse) (m : ℕ) → All OfInteger items → All OfInteger (balances rows none items m)
balances-integer rows items zero h = All-nil OfInteger
balances-integer rows items (suc m) h =
    let sum : IsInteger (column_sum rows none items m) = integer-add _ _ (integer-mul none (cost_in rows m) (pos 0, refl) (_, refl)) (total-integer rows m items h) in
    All-append OfInteger (balances rows none items m) (balance rows none items m) (balances-integer rows items m h)
    (cond_both (is_open (bounds_at rows m)) [] (option_to_list (bound_of rows m (column_sum rows none items m))) (All OfInteger) (λ e. All-nil OfInteger)
    (λ e. bound-holds OfInteger rows m (column_sum rows none items m) (integer-neg _ sum) sum))

-- ---- their numbers

-- the numbers rise, and stay below a bound
abbrev RisesBelow : ℕ → List FracUse → Type 0
RisesBelow bound items = IsStrictlyIncreasing (numbers_of items) × All (λ (n : ℕ). n < bound) (numbers_of items)

rises-weaker : (low high : ℕ) (items : List FracUse) → low ≤ high → RisesBelow low items → RisesBelow high items
rises-weaker low high items le h = (h.0, All-weaker (λ (n : ℕ). n < low) (λ (n : ℕ). n < high) (λ n lt. omega (arith, lt, le)) (numbers_of items) h.1)

rises-more : (low high : ℕ) (items : List FracUse) (item : FracUse) → low ≤ item.index → item.index < high → RisesBelow low items → RisesBelow high (items ++ item ∷ [])
rises-more low high items item le lt h =
    let n : ℕ = item.index in
    let before : RisesBelow item.index items = rises-weaker low item.index items le h in
    subst (λ (l : List ℕ). IsStrictlyIncreasing l × All (λ (m : ℕ). m < high) l) (sym (map-append (λ (other : FracUse). other.index) items (item ∷ []))) (
      rising-last (numbers_of items) item.index before.0 before.1,
      All-append (λ (m : ℕ). m < high) (numbers_of items) (item.index ∷ []) (All-weaker (λ (m : ℕ). m < item.index) (λ (m : ℕ). m < high) (λ m less. omega (arith, less, lt)) (numbers_of items) before.1) (All-cons (λ (m : ℕ). m < high) item.index [] lt (All-nil (λ (m : ℕ). m < high))),
    )

balances-rise : (rows : WholeRows) (items : List FracUse) (m : ℕ) → RisesBelow (upper_bound rows 0) items → RisesBelow (upper_bound rows m) (items ++ balances rows none items m)
balances-rise rows items zero h = subst (RisesBelow (upper_bound rows 0)) (sym (append-nil items)) h
balances-rise rows items (suc m) h =
    let front : List FracUse = items ++ balances rows none items m in
    let before : RisesBelow (upper_bound rows m) (items ++ balances rows none items m) = balances-rise rows items m h in
    let same : RisesBelow (upper_bound rows (suc m)) ((items ++ balances rows none items m) ++ []) = subst (RisesBelow (upper_bound rows (suc m))) (sym (append-nil front)) (rises-weaker (upper_bound rows m) (upper_bound rows (suc m)) front (omega arith) before) in
    let sum : ℚ = column_sum rows none items m in
    let upper : FracUse = record { index = upper_bound rows m; times = neg_ℚ sum } in
    let lower : FracUse = record { index = lower_bound rows m; times = sum } in
    subst (RisesBelow (upper_bound rows (suc m))) (append_assoc items (balances rows none items m) (balance rows none items m))
    (cond_both (is_open (bounds_at rows m)) [] (option_to_list (bound_of rows m (column_sum rows none items m))) (λ (l : List FracUse). RisesBelow (upper_bound rows (suc m)) (front ++ l)) (λ e. same)
    (λ e. cond_both (int_lt sum.num (pos 0)) (Some upper) (if int_lt (pos 0) sum.num then Some lower else None) (λ (o : Option FracUse). RisesBelow (upper_bound rows (suc m)) (front ++ option_to_list o))
    (λ f. rises-more (upper_bound rows m) (upper_bound rows (suc m)) front upper (omega arith) (omega arith) before)
    (λ f. cond_both (int_lt (pos 0) sum.num) (Some lower) None (λ (o : Option FracUse). RisesBelow (upper_bound rows (suc m)) (front ++ option_to_list o))
    (λ g. rises-more (upper_bound rows m) (upper_bound rows (suc m)) front lower (omega arith) (omega arith) before) (λ g. same))))

-- ---- those of a root

module _ (rows : WholeRows) (work : ReducedRows) (limits : IsWithinLimits rows) (reduced : IsReduced rows work) (numbers : List ℤ) where
  abbrev IsRootItem : FracUse → Type 0
  IsRootItem item = IsInteger item.times × (item.index < 2 * length rows.rows)

  equality-item : (number : ℕ) (t : ℚ) → number + 1 < 2 * length rows.rows → IsInteger t → All IsRootItem (equality_use number t)
  equality-item number t lt is =
      let first : FracUse = record { index = number + 1; times = neg_ℚ t } in
      let second : FracUse = record { index = number; times = t } in
      cond_both (int_lt t.num (pos 0)) (record { index = number + 1; times = neg_ℚ t } ∷ []) (side_use number t) (All IsRootItem) (λ e. All-cons IsRootItem first [] (integer-neg t is, lt) (All-nil IsRootItem))
      (λ f. cond_both (int_eq t.num (pos 0)) [] (record { index = number; times = t } ∷ []) (All IsRootItem) (λ e. All-nil IsRootItem) (λ e. All-cons IsRootItem second [] (is, omega (arith, lt)) (All-nil IsRootItem)))

  wholes-integer : (v : List ℤ) → All IsInteger (wholes v)
  wholes-integer [] = All-nil IsInteger
  wholes-integer (a ∷ v) = All-cons IsInteger (whole a) (wholes v) (a, refl) (wholes-integer v)

  root-items : All IsRootItem (root_uses rows work (wholes numbers))
  root-items =
      let Of = λ (number : ℕ). number + 1 < 2 * length rows.rows in
      uses-hold IsRootItem Of IsInteger equality-item (node_places rows work 0) (zeros rationals (length (node_sides work false))) (wholes numbers)
      (places-each (AtEquality IsRootItem Of IsInteger equality-item) rows work 0 (λ i lt. ((λ _. tt), (λ _. tt), (λ side e. omega (arith, Node.row-number rows work limits reduced i lt, Node.row-below rows work limits reduced i lt)))) (λ j lt. (tt, tt)) (λ e lt. absurd (omega (arith, lt))))
      (zeros-none (length (node_sides work false))) (wholes-integer numbers)

  -- the items with the bounds of removed columns
  abbrev pub lifted_root : List FracUse
  lifted_root = root_uses rows work (wholes numbers) ++ balances rows none (root_uses rows work (wholes numbers)) (length rows.box)

  pub root-integer : All OfInteger (root_uses rows work (wholes numbers))
  root-integer = All-weaker IsRootItem OfInteger (λ item h. h.0) (root_uses rows work (wholes numbers)) root-items

  pub lifted-integer : All OfInteger lifted_root
  lifted-integer = All-append OfInteger (root_uses rows work (wholes numbers)) (balances rows none (root_uses rows work (wholes numbers)) (length rows.box)) root-integer (balances-integer rows (root_uses rows work (wholes numbers)) (length rows.box) root-integer)

  pub root-lifted : IsLiftedLine rows none (root_uses rows work (wholes numbers)) lifted_root
  root-lifted =
      let items : List FracUse = root_uses rows work (wholes numbers) in
      record {
        same = IsPermutation-refl lifted_root;
        rising =
            (balances-rise rows items (length rows.box) (
              numbers-rise rows work limits reduced 0 (zeros rationals (length (node_sides work false))) (wholes numbers),
              All-map (λ (n : ℕ). n < upper_bound rows 0) (λ (item : FracUse). item.index) items (All-weaker IsRootItem (λ (item : FracUse). item.index < upper_bound rows 0) (λ item h. omega (arith, h.1)) items root-items),
            )).0;
      }

  -- ---- the places and the equalities

  agrees : Agrees rows work [] (λ number. none) (λ side. none) (λ equality. none)
  agrees = record {
    upper = λ i lt is. refl;
    lower = λ i lt is. refl;
    column_upper = λ j lt. refl;
    column_lower = λ j lt. refl;
    row = λ i side lt e. refl;
    row_turned = λ i side lt e. Laws.literal_neg rationals (pos 0);
    slice = λ e lt. refl;
    slice_turned = λ e lt. Laws.literal_neg rationals (pos 0);
  }

  many-sides : length (sides_in (node_places rows work 0)) ≡ length (node_sides work false)
  many-sides = sym (length-map (sides_in (node_places rows work 0)) (λ number. none)) ∙ ap (λ (l : List ℚ). length l) (sides-agree rows work [] (λ number. none) (λ side. none) (λ equality. none) agrees) ∙ length-map (node_sides work false) (λ side. none)

  many-equalities : length (equalities_in (node_places rows work 0)) ≡ length (node_equalities work [])
  many-equalities = sym (length-map (equalities_in (node_places rows work 0)) (λ number. none)) ∙ ap (λ (l : List ℚ). length l) (equalities-agree rows work [] (λ number. none) (λ side. none) (λ equality. none) agrees) ∙ length-map (node_equalities work []) (λ equality. none)

  -- what holds of each item's size, and of 0, holds of the size of each time
  pub numbers-back : (P : ℕ → Type 0) → P 0 → length numbers ≡ length (node_equalities work []) → All (λ (item : FracUse). P (size item)) (root_uses rows work (wholes numbers)) → All (λ (z : ℤ). P (nat_abs z)) numbers
  numbers-back P at_zero many h =
      whole-back numbers
      (uses-back P at_zero (node_places rows work 0) (zeros rationals (length (node_sides work false))) (wholes numbers) (zeros-none (length (node_sides work false))) (omega (arith, many-sides, length-zeros (length (node_sides work false)))) (omega (arith, many-equalities, many, length-map numbers whole)) h)
    where
      whole-back : (v : List ℤ) → All (λ (t : ℚ). P (nat_abs t.num)) (wholes v) → All (λ (z : ℤ). P (nat_abs z)) v
      whole-back [] k = All-nil (λ (z : ℤ). P (nat_abs z))
      whole-back (a ∷ v) k =
          All-cons (λ (z : ℤ). P (nat_abs z)) a v (subst (λ (z : ℤ). P (nat_abs z)) (whole_num a).0 (All-head (λ (t : ℚ). P (nat_abs t.num)) (whole a) (wholes v) k)) (whole-back v (All-tail (λ (t : ℚ). P (nat_abs t.num)) (whole a) (wholes v) k))

      length-zeros : (n : ℕ) → length (zeros rationals n) ≡ n
      length-zeros zero = refl
      length-zeros (suc n) = ap suc (length-zeros n)
