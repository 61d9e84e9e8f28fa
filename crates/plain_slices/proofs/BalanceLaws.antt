-- One column more is balanced by the bound at which its product is least.
use Rattle.std.proofs.Common.{◌≡◌, ◌≢◌, ◌⊎◌, inl, inr, ℕ, zero, suc, ◌+◌, ◌*◌, ◌^◌, ◌<◌, ◌≤◌, max, List, [], ◌∷◌, length, take, drop, get_or, ℤ, pos, negsuc, neg_ℤ, ◌+ℤ◌, ◌*ℤ◌, ◌≤ℤ◌, ◌<ℤ◌, nat_abs, refl, sym, ap, ap₂, ◌∙◌, subst, arith, ⊎_elim, add-one, drop-cons, mul-le-mul_left}
use Rattle.std.specs.Prelude.{Option, Some, None, All, IsSome, unwrap_or, int_lt}
use Rattle.std.specs.List.{insert, sum_by}
use Rattle.std.specs.List.Sorted.{IsStrictlyIncreasing}
use Rattle.std.proofs.lemmas.Bool.{cond_both}
use Rattle.std.proofs.lemmas.List.Elements.{All-append, All-cons, All-take, All-drop, All-weaker}
use Rattle.exact_math.specs.Ring.{integers}
use Rattle.exact_math.specs.IntegerRing.{linear, mul_neg, neg_mul, zero_mul}
use Rattle.exact_math.specs.IntegerOrder.{le_or_lt}
use Rattle.exact_vectors.specs.Vectors.{add, scale, negate}
use Rattle.whole_rows.specs.declared.bounds.Bounds.{Bounds}
use Rattle.whole_rows.specs.declared.ends.End.TheVariants.{Least}
use Rattle.whole_rows.specs.WholeRows.{WholeRows, reach, span}
use Rattle.whole_rows.specs.Ends.{value_at, sum_at}
use Rattle.farkas_rows.specs.declared.line.Use.{Use}
use Rattle.farkas_rows.specs.declared.path.Slice.{Slice}
use Rattle.farkas_rows.specs.Inequalities.{Inequality, at_most, at_least, unit, inequality_at}
use Rattle.farkas_rows.specs.Refutes.{nothing, inequality_weight}
use Rattle.plain_slices.specs.declared.node.Source.{Source}
use Rattle.plain_slices.specs.Nodes.{narrowed_at, source_at, IsNarrowed}
use Rattle.plain_slices.specs.Items.{numbers_of, left_of, limit_of, weight_of, less, IsPutIn, bound_item, named_by, IsApartFrom, IsBalanced}
use Rattle.plain_slices.proofs.ItemLaws.{left_of-insert, limit_of-insert, weight_of-insert, less-more, less-skip, scale-negate, sizes_of_unit, sizes_of_negated}
use Rattle.plain_slices.proofs.UnitLaws.{unit-same, unit-other, negate-at}

-- ---- what is put in

pub All-insert : {X : Type 0} (P : X → Type 0) (xs : List X) (i : ℕ) (x : X) → P x → All P xs → All P (insert xs i x)
All-insert P xs i x here all = All-append P (take i xs) (x ∷ drop i xs) (All-take P i xs all) (All-cons P x (drop i xs) here (All-drop P i xs all))

-- what an item is for a column with this factor: it takes the factor away, at the end of the bounds at which the product is least
record Takes (n column : ℕ) (factor : ℤ) (bounds : Bounds) (inequality : Inequality) (item : Use) : Type 0 where
  once : (pos 1 ≤ℤ item.times) × (item.times ≤ℤ pos (nat_abs factor))
  form : scale integers item.times inequality.factors ≡ scale integers (neg_ℤ factor) (unit n column)
  here : (get_or inequality.factors column (pos 0) *ℤ factor) <ℤ pos 0
  others : (k : ℕ) → k ≢ column → get_or inequality.factors k (pos 0) ≡ pos 0
  limit : item.times *ℤ inequality.limit ≡ neg_ℤ (factor *ℤ value_at Least factor bounds)
  weight : (item.times *ℤ pos (inequality_weight inequality)) ≤ℤ pos (2 * (nat_abs factor * reach bounds))

-- the weight of a column's bound
bound_weight : (n column : ℕ) (bounds : Bounds) (limit : ℤ) (form : List ℤ) → nat_abs limit ≤ reach bounds → sum_by nat_abs form ≡ 1 → inequality_weight (record { factors = form; limit = limit }) ≤ 2 * reach bounds
bound_weight n column bounds limit form h e = omega arith

turned_size : (low high : ℤ) → nat_abs (neg_ℤ low) ≤ max 1 (max (nat_abs low) (nat_abs high))
turned_size low high = let e : nat_abs (neg_ℤ low) ≡ nat_abs low = omega linear in omega arith

times_weight : (times : ℤ) (factor : ℤ) (w r : ℕ) → times ≡ pos (nat_abs factor) → w ≤ 2 * r → (times *ℤ pos w) ≤ℤ pos (2 * (nat_abs factor * r))
times_weight times factor w r e h = rw e (omega (linear, mul-le-mul_left (nat_abs factor) h))

takes_above : (n column : ℕ) (factor : ℤ) (bounds : Bounds) (item : Use) → column < n → factor <ℤ pos 0 → item.times ≡ neg_ℤ factor → Takes n column factor bounds (at_most (unit n column) bounds.high) item
takes_above n column factor bounds item h negative is = record {
  once = (omega (linear, is), omega (linear, is));
  form = ap (λ (t : ℤ). scale integers t (unit n column)) is;
  here = rw (unit-same n column h) (omega linear);
  others = λ k differ. unit-other n column k differ;
  limit = cond_both (int_lt factor (pos 0)) bounds.high bounds.low (λ v. item.times *ℤ bounds.high ≡ neg_ℤ (factor *ℤ v)) (λ e. ap (λ (t : ℤ). t *ℤ bounds.high) is ∙ neg_mul factor bounds.high) (λ e. absurd (omega linear));
  weight = times_weight item.times factor (inequality_weight (at_most (unit n column) bounds.high)) (reach bounds) (omega (linear, is)) (bound_weight n column bounds bounds.high (unit n column) (omega arith) (sizes_of_unit n column h));
}

takes_below : (n column : ℕ) (factor : ℤ) (bounds : Bounds) (item : Use) → column < n → pos 0 <ℤ factor → item.times ≡ factor → Takes n column factor bounds (at_least (unit n column) bounds.low) item
takes_below n column factor bounds item h positive is = record {
  once = (omega (linear, is), omega (linear, is));
  form = scale-negate item.times (unit n column) ∙ ap (λ (t : ℤ). scale integers (neg_ℤ t) (unit n column)) is;
  here = rw (negate-at, unit-same n column h) (omega linear);
  others = λ k differ. negate-at (unit n column) k ∙ ap neg_ℤ (unit-other n column k differ);
  limit = cond_both (int_lt factor (pos 0)) bounds.high bounds.low (λ v. item.times *ℤ neg_ℤ bounds.low ≡ neg_ℤ (factor *ℤ v)) (λ e. absurd (omega linear)) (λ e. ap (λ (t : ℤ). t *ℤ neg_ℤ bounds.low) is ∙ mul_neg factor bounds.low);
  weight = times_weight item.times factor (inequality_weight (at_least (unit n column) bounds.low)) (reach bounds) (omega (linear, is)) (bound_weight n column bounds (neg_ℤ bounds.low) (negate integers (unit n column)) (turned_size bounds.low bounds.high) (sizes_of_negated (unit n column) ∙ sizes_of_unit n column h));
}

-- ---- sums from a column on

sum-drop : (form : List ℤ) (bounds : List Bounds) (j : ℕ) → j < length form → j < length bounds → sum_at Least (drop j form) (drop j bounds) ≡ get_or form j (pos 0) *ℤ value_at Least (get_or form j (pos 0)) (narrowed_at bounds j) +ℤ sum_at Least (drop (j + 1) form) (drop (j + 1) bounds)
sum-drop form bounds j h k = rw (add-one, drop-cons form j (pos 0), drop-cons bounds j (record { low = pos 0; high = pos 0 })) refl

span-drop : (form : List ℤ) (bounds : List Bounds) (j : ℕ) → j < length form → j < length bounds → span (drop j form) (drop j bounds) ≡ nat_abs (get_or form j (pos 0)) * reach (narrowed_at bounds j) + span (drop (j + 1) form) (drop (j + 1) bounds)
span-drop form bounds j h k = rw (add-one, drop-cons form j (pos 0), drop-cons bounds j (record { low = pos 0; high = pos 0 })) refl

-- no factor is larger than the span
pub factor_size : (form : List ℤ) (bounds : List Bounds) (j : ℕ) → length form ≡ length bounds → j < length form → nat_abs (get_or form j (pos 0)) ≤ span form bounds
factor_size [] bounds j e h = absurd (omega arith)
factor_size (a ∷ form) [] j e h = absurd (omega arith)
factor_size (a ∷ form) (b ∷ bounds) zero e h =
    let one : 1 ≤ reach b = omega arith in
    omega (arith, mul-le-mul_left (nat_abs a) one)
factor_size (a ∷ form) (b ∷ bounds) (suc j) e h = omega (arith, factor_size form bounds j (omega arith) (omega arith))

-- ---- one column more

-- the column's factor is taken away by an item
balance-item : (rows : WholeRows) (path : List Slice) (bounds : List Bounds) (form : List ℤ) (column : ℕ) (old current new : List Use) (inequality : Inequality) (item : Use) → length bounds ≡ length rows.box → length form ≡ length rows.box → column < length rows.box → nat_abs (get_or form column (pos 0)) ≤ 2 ^ 96 → length (left_of (named_by rows path None) (length rows.box) old) ≡ length rows.box → inequality_at rows path None item.index ≡ Some inequality → Takes (length rows.box) column (get_or form column (pos 0)) (narrowed_at bounds column) inequality item → IsBalanced rows path bounds form column old current → IsApartFrom (named_by rows path None) column form current → IsPutIn item current new → IsStrictlyIncreasing (numbers_of new) → IsBalanced rows path bounds form (column + 1) old new × IsApartFrom (named_by rows path None) (column + 1) form new
balance-item rows path bounds form column old current new inequality item dense wide h small l_wide names takes balanced apart put rising =
    let n = length rows.box in
    let named = named_by rows path None in
    let is : named item.index ≡ inequality = ap (λ (o : Option Inequality). unwrap_or o nothing) names in
    let in_form : column < length form = omega (arith, wide) in
    let in_bounds : column < length bounds = omega (arith, dense) in
    let place = put.0 in
    let c = get_or form column (pos 0) in
    let there : IsSome (inequality_at rows path None item.index) = subst IsSome (sym names) refl in (
      record {
        gathered = record {
          rising = rising;
          there = subst (All (λ (item : Use). IsSome (inequality_at rows path None item.index))) (sym put.2) (All-insert (λ (item : Use). IsSome (inequality_at rows path None item.index)) current place item there balanced.gathered.there);
          in_range = subst (All (λ (item : Use). (pos 1 ≤ℤ item.times) × (item.times ≤ℤ pos (2 ^ 126)))) (sym put.2) (All-insert (λ (item : Use). (pos 1 ≤ℤ item.times) × (item.times ≤ℤ pos (2 ^ 126))) current place item (takes.once.0, omega (linear, takes.once.1)) balanced.gathered.in_range);
        };
        left = ap (left_of named n) put.2 ∙ left_of-insert named n current place item ∙ ap (λ (i : Inequality). add integers (scale integers item.times i.factors) (left_of named n current)) is ∙ ap₂ {A = List ℤ} {B = List ℤ} {C = List ℤ} (add integers) takes.form balanced.left ∙ less-more n column (left_of named n old) form (neg_ℤ c) l_wide wide h refl ∙ ap (λ (k : ℕ). less k (left_of named n old) form) (sym (add-one column));
        limit =
            let more = ap (limit_of named) put.2 ∙ limit_of-insert named current place item ∙ ap (λ (i : Inequality). item.times *ℤ i.limit +ℤ limit_of named current) is in
            omega (linear, more, takes.limit, balanced.limit, sum-drop form bounds column in_form in_bounds);
        weight =
            let more = ap (weight_of named) put.2 ∙ weight_of-insert named current place item ∙ ap (λ (i : Inequality). item.times *ℤ pos (inequality_weight i) +ℤ weight_of named current) is in
            omega (linear, more, takes.weight, balanced.weight, span-drop form bounds column in_form in_bounds);
      },
      subst (IsApartFrom named (column + 1) form) (sym put.2) (All-insert (λ (item : Use). (k : ℕ) → column + 1 ≤ k → pos 0 ≤ℤ (get_or (named item.index).factors k (pos 0) *ℤ get_or form k (pos 0))) current place item
          (λ k le. let zero_here : get_or (named item.index).factors k (pos 0) ≡ pos 0 = ap (λ (i : Inequality). get_or i.factors k (pos 0)) is ∙ takes.others k (omega arith) in omega (linear, ap (λ (t : ℤ). t *ℤ get_or form k (pos 0)) zero_here, zero_mul (get_or form k (pos 0))))
          (All-weaker (λ (item : Use). (k : ℕ) → column ≤ k → pos 0 ≤ℤ (get_or (named item.index).factors k (pos 0) *ℤ get_or form k (pos 0))) (λ (item : Use). (k : ℕ) → column + 1 ≤ k → pos 0 ≤ℤ (get_or (named item.index).factors k (pos 0) *ℤ get_or form k (pos 0))) (λ x apart k le. apart k (omega arith)) current apart)),
    )

-- a column without a factor
balance-zero : (rows : WholeRows) (path : List Slice) (bounds : List Bounds) (form : List ℤ) (column : ℕ) (old current new : List Use) → length bounds ≡ length rows.box → length form ≡ length rows.box → column < length rows.box → length (left_of (named_by rows path None) (length rows.box) old) ≡ length rows.box → get_or form column (pos 0) ≡ pos 0 → IsBalanced rows path bounds form column old current → IsApartFrom (named_by rows path None) column form current → new ≡ current → IsBalanced rows path bounds form (column + 1) old new × IsApartFrom (named_by rows path None) (column + 1) form new
balance-zero rows path bounds form column old current new dense wide h l_wide none balanced apart kept =
    let n = length rows.box in
    let named = named_by rows path None in
    let in_form : column < length form = omega (arith, wide) in
    let in_bounds : column < length bounds = omega (arith, dense) in
    let product : get_or form column (pos 0) *ℤ value_at Least (get_or form column (pos 0)) (narrowed_at bounds column) ≡ pos 0 = ap (λ (t : ℤ). t *ℤ value_at Least (get_or form column (pos 0)) (narrowed_at bounds column)) none ∙ zero_mul (value_at Least (get_or form column (pos 0)) (narrowed_at bounds column)) in
    rw kept (
      record {
        gathered = balanced.gathered;
        left = balanced.left ∙ sym (less-skip n column (left_of named n old) form l_wide wide h none) ∙ ap (λ (k : ℕ). less k (left_of named n old) form) (sym (add-one column));
        limit = omega (linear, product, balanced.limit, sum-drop form bounds column in_form in_bounds);
        weight = omega (linear, balanced.weight, span-drop form bounds column in_form in_bounds);
      },
      All-weaker (λ (item : Use). (k : ℕ) → column ≤ k → pos 0 ≤ℤ (get_or (named item.index).factors k (pos 0) *ℤ get_or form k (pos 0))) (λ (item : Use). (k : ℕ) → column + 1 ≤ k → pos 0 ≤ℤ (get_or (named item.index).factors k (pos 0) *ℤ get_or form k (pos 0))) (λ x apart k le. apart k (omega arith)) current apart,
    )

-- an item of the opposite sign has a number of its own
new_number : (named : ℕ → Inequality) (n column : ℕ) (form : List ℤ) (bounds : Bounds) (current : List Use) (inequality : Inequality) (item : Use) → named item.index ≡ inequality → Takes n column (get_or form column (pos 0)) bounds inequality item → IsApartFrom named column form current → All (λ (other : Use). other.index ≢ item.index) current
new_number named n column form bounds current inequality item is takes apart = λ k d lt same.
    let positive = apart k d lt column (omega arith) in
    let e : get_or (named (get_or current k d).index).factors column (pos 0) ≡ get_or inequality.factors column (pos 0) = ap (λ (i : ℕ). get_or (named i).factors column (pos 0)) same ∙ ap (λ (i : Inequality). get_or i.factors column (pos 0)) is in
    absurd (omega (linear, takes.here, positive, ap (λ (t : ℤ). t *ℤ get_or form column (pos 0)) e))

-- the item of a column that has a factor
bound-takes : (rows : WholeRows) (path : List Slice) (bounds : List Bounds) (sources : List Source) (column : ℕ) (factor : ℤ) → IsNarrowed rows path path bounds sources → column < length rows.box → factor ≢ pos 0 → (inequality : Inequality) × (inequality_at rows path None (bound_item (source_at sources column) factor).index ≡ Some inequality) × Takes (length rows.box) column factor (narrowed_at bounds column) inequality (bound_item (source_at sources column) factor)
bound-takes rows path bounds sources column factor narrowed h other =
    let n = length rows.box in
    let s = source_at sources column in
    let b = narrowed_at bounds column in
    let t = narrowed.tight column h in
    let above : Use = record { index = s.above; times = neg_ℤ factor } in
    let below : Use = record { index = s.below; times = factor } in
    cond_both (int_lt factor (pos 0)) above below (λ (item : Use). (inequality : Inequality) × (inequality_at rows path None item.index ≡ Some inequality) × Takes n column factor b inequality item)
    (λ e. (at_most (unit n column) b.high, t.above, takes_above n column factor b above h (omega linear) refl))
    (λ e. (at_least (unit n column) b.low, t.below, takes_below n column factor b below h (positive factor other (omega linear)) refl))
  where
    positive : (factor : ℤ) → factor ≢ pos 0 → pos 0 ≤ℤ factor → pos 0 <ℤ factor
    positive factor other h = ⊎_elim (λ (s : factor ≤ℤ pos 0). absurd (other (omega linear))) (λ (s : pos 0 <ℤ factor). s) (le_or_lt factor (pos 0))

zero_or_not : (c : ℤ) → (c ≡ pos 0) ⊎ (c ≢ pos 0)
zero_or_not (pos zero) = inl refl
zero_or_not (pos (suc n)) = inr (λ e. absurd (omega linear))
zero_or_not (negsuc n) = inr (λ e. absurd (omega linear))

-- its number is not among those that stand there
pub balance-number : (rows : WholeRows) (path : List Slice) (bounds : List Bounds) (sources : List Source) (form : List ℤ) (column : ℕ) (current : List Use) → IsNarrowed rows path path bounds sources → column < length rows.box → IsApartFrom (named_by rows path None) column form current → get_or form column (pos 0) ≢ pos 0 → All (λ (other : Use). other.index ≢ (bound_item (source_at sources column) (get_or form column (pos 0))).index) current
balance-number rows path bounds sources form column current narrowed h apart other =
    let takes = bound-takes rows path bounds sources column (get_or form column (pos 0)) narrowed h other in
    new_number (named_by rows path None) (length rows.box) column form (narrowed_at bounds column) current takes.0 (bound_item (source_at sources column) (get_or form column (pos 0))) (ap (λ (o : Option Inequality). unwrap_or o nothing) takes.1) takes.2 apart

-- One column more is balanced.
pub balance-more : (rows : WholeRows) (path : List Slice) (bounds : List Bounds) (sources : List Source) (form : List ℤ) (column : ℕ) (old current new : List Use) → IsNarrowed rows path path bounds sources → length form ≡ length rows.box → column < length rows.box → nat_abs (get_or form column (pos 0)) ≤ 2 ^ 96 → length (left_of (named_by rows path None) (length rows.box) old) ≡ length rows.box → IsBalanced rows path bounds form column old current → IsApartFrom (named_by rows path None) column form current → (get_or form column (pos 0) ≡ pos 0 → new ≡ current) → (get_or form column (pos 0) ≢ pos 0 → IsPutIn (bound_item (source_at sources column) (get_or form column (pos 0))) current new) → IsStrictlyIncreasing (numbers_of new) → IsBalanced rows path bounds form (column + 1) old new × IsApartFrom (named_by rows path None) (column + 1) form new
balance-more rows path bounds sources form column old current new narrowed wide h small l_wide balanced apart kept put rising = ⊎_elim
    (λ (none : get_or form column (pos 0) ≡ pos 0). balance-zero rows path bounds form column old current new narrowed.dense wide h l_wide none balanced apart (kept none))
    (λ (other : get_or form column (pos 0) ≢ pos 0).
    let takes = bound-takes rows path bounds sources column (get_or form column (pos 0)) narrowed h other in
    balance-item rows path bounds form column old current new takes.0 (bound_item (source_at sources column) (get_or form column (pos 0))) narrowed.dense wide h small l_wide takes.1 takes.2 balanced apart (put other) rising)
    (zero_or_not (get_or form column (pos 0)))
