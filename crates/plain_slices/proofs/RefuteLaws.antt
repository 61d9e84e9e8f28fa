-- The lines that a node's inequalities give refute it.
use Rattle.std.proofs.Common.{◌≡◌, ◌≢◌, ℕ, zero, suc, ◌^◌, ◌<◌, ◌≤◌, List, [], ◌∷◌, length, drop, get_or, map, ℤ, pos, neg_ℤ, ◌+ℤ◌, ◌-ℤ◌, ◌*ℤ◌, ◌≤ℤ◌, ◌<ℤ◌, nat_abs, refl, sym, ap, ap₂, ◌∙◌, subst, arith}
use Rattle.std.specs.Prelude.{Option, Some, None, All, IsSome, unwrap_or}
use Rattle.std.specs.List.{insert, sum_by}
use Rattle.std.specs.List.Sorted.{IsStrictlyIncreasing}
use Rattle.std.proofs.lemmas.List.Elements.{All-cons, All-nil, All-map}
use Rattle.exact_math.specs.Ring.{integers}
use Rattle.exact_math.specs.IntegerRing.{linear, one_mul}
use Rattle.exact_math.specs.IntegerOrder.{square_nonneg}
use Rattle.exact_vectors.specs.Vectors.{add, scale, negate, zeros}
use Rattle.whole_rows.specs.declared.bounds.Bounds.{Bounds}
use Rattle.whole_rows.specs.declared.ends.End.TheVariants.{Least}
use Rattle.whole_rows.specs.WholeRows.{WholeRows, span}
use Rattle.whole_rows.specs.Ends.{sum_at}
use Rattle.farkas_rows.specs.declared.line.Use.{Use}
use Rattle.farkas_rows.specs.declared.line.CutUse.{CutUse}
use Rattle.farkas_rows.specs.declared.line.Line.{Line}
use Rattle.farkas_rows.specs.declared.path.Slice.{Slice}
use Rattle.farkas_rows.specs.Inequalities.{Inequality, at_most, at_least, unit, inequality_at, cut_inequality}
use Rattle.farkas_rows.specs.NodeLaws.{length-unit}
use Rattle.farkas_rows.specs.Refutes.{nothing, inequality_weight, Refutes}
use Rattle.plain_slices.specs.Items.{numbers_of, times_of, left_of, limit_of, weight_of, less, IsPutIn, named_by, IsGathered, IsApartFrom, IsBalanced}
use Rattle.plain_slices.proofs.UnitLaws.{unit-same, negate-at}
use Rattle.plain_slices.proofs.BalanceLaws.{All-insert}
use Rattle.plain_slices.proofs.ItemLaws.{left_of-insert, limit_of-insert, weight_of-insert, less-itself, add-less_zeros, sizes_of_unit, sizes_of_negated}

-- ---- the beginning of a line

-- one item of an inequality
abbrev pub once : ℕ → Use
once number = record { index = number; times = pos 1 }

pub one-gathered : (rows : WholeRows) (path : List Slice) (end : Option Inequality) (number : ℕ) (inequality : Inequality) → inequality_at rows path end number ≡ Some inequality → IsGathered rows path end (once number ∷ [])
one-gathered rows path end number inequality names = record {
  rising = λ k h. absurd (omega arith);
  there = All-cons (λ (item : Use). IsSome (inequality_at rows path end item.index)) (once number) [] (subst IsSome (sym names) refl) (All-nil (λ (item : Use). IsSome (inequality_at rows path end item.index)));
  in_range = All-cons (λ (item : Use). (pos 1 ≤ℤ item.times) × (item.times ≤ℤ pos (2 ^ 126))) (once number) [] (omega linear, omega linear) (All-nil (λ (item : Use). (pos 1 ≤ℤ item.times) × (item.times ≤ℤ pos (2 ^ 126))));
}

pub none-gathered : (rows : WholeRows) (path : List Slice) (end : Option Inequality) → IsGathered rows path end []
none-gathered rows path end = record {
  rising = λ k h. absurd (omega arith);
  there = All-nil (λ (item : Use). IsSome (inequality_at rows path end item.index));
  in_range = All-nil (λ (item : Use). (pos 1 ≤ℤ item.times) × (item.times ≤ℤ pos (2 ^ 126)));
}

scale_once : (form : List ℤ) → scale integers (pos 1) form ≡ form
scale_once [] = refl
scale_once (a ∷ form) = ap₂ {A = ℤ} {B = List ℤ} {C = List ℤ} (λ x t. x ∷ t) (one_mul a) (scale_once form)

add_zeros_right : (n : ℕ) (form : List ℤ) → length form ≡ n → add integers form (zeros integers n) ≡ form
add_zeros_right zero [] e = refl
add_zeros_right zero (a ∷ form) e = absurd (omega arith)
add_zeros_right (suc n) [] e = absurd (omega arith)
add_zeros_right (suc n) (a ∷ form) e = ap₂ {A = ℤ} {B = List ℤ} {C = List ℤ} (λ x t. x ∷ t) (omega linear) (add_zeros_right n form (omega arith))

-- the left side of one item
one-left : (named : ℕ → Inequality) (n number : ℕ) → length (named number).factors ≡ n → left_of named n (once number ∷ []) ≡ (named number).factors
one-left named n number e = ap (λ (f : List ℤ). add integers f (zeros integers n)) (scale_once (named number).factors) ∙ add_zeros_right n (named number).factors e

pub one-wide : (named : ℕ → Inequality) (n number : ℕ) (inequality : Inequality) → named number ≡ inequality → length inequality.factors ≡ n → length (left_of named n (once number ∷ [])) ≡ n
one-wide named n number inequality is e =
    let wide : length (named number).factors ≡ n = ap (λ (i : Inequality). length i.factors) is ∙ e in
    ap length (one-left named n number wide) ∙ wide

pub one-apart : (named : ℕ → Inequality) (form : List ℤ) (number : ℕ) → (named number).factors ≡ form → IsApartFrom named 0 form (once number ∷ [])
one-apart named form number is = All-cons (λ (item : Use). (k : ℕ) → 0 ≤ k → pos 0 ≤ℤ (get_or (named item.index).factors k (pos 0) *ℤ get_or form k (pos 0))) (once number) [] (λ k h. rw is (square_nonneg (get_or form k (pos 0)))) (All-nil (λ (item : Use). (k : ℕ) → 0 ≤ k → pos 0 ≤ℤ (get_or (named item.index).factors k (pos 0) *ℤ get_or form k (pos 0))))

-- ---- the whole line

map_twice : {X Y Z : Type 0} (f : Y → Z) (g : X → Y) (xs : List X) → map f (map g xs) ≡ map (λ x. f (g x)) xs
map_twice f g [] = refl
map_twice {Z} f g (x ∷ xs) = ap {B = List Z} (λ t. f (g x) ∷ t) (map_twice f g xs)

-- a line without a cut, by what its items come to
pub refutes-items : (rows : WholeRows) (path : List Slice) (end : Option Inequality) (line : Line) → line.cut ≡ None → IsGathered rows path end line.items → left_of (named_by rows path end) (length rows.box) line.items ≡ zeros integers (length rows.box) → limit_of (named_by rows path end) line.items <ℤ pos 0 → weight_of (named_by rows path end) line.items ≤ℤ pos (2 ^ 126) → Refutes rows path end line
refutes-items rows path end line no_cut gathered vanishes negative light =
    let named = named_by rows path end in
    let items = line.items in
    let whole : Refutes rows path end (record { cut = None; items = items }) = record {
      rising = gathered.rising;
      there = gathered.there;
      in_range = All-map (λ times. (pos 1 ≤ℤ times) × (times ≤ℤ pos (2 ^ 126))) (λ (item : Use). item.times) items gathered.in_range;
      light = rw (map_twice (λ (inequality : Inequality). pos (inequality_weight inequality)) (λ (item : Use). named item.index) items) light;
      combination = record {
        vanishes = rw (map_twice (λ (inequality : Inequality). inequality.factors) (λ (item : Use). named item.index) items) vanishes;
        negative = rw (map_twice (λ (inequality : Inequality). inequality.limit) (λ (item : Use). named item.index) items) negative;
      };
    } in
    subst (λ (cut : Option CutUse). Refutes rows path end (record { cut = cut; items = items })) (sym no_cut) whole

-- a line with the cut once
pub refutes-cut : (rows : WholeRows) (path : List Slice) (end : Option Inequality) (value : ℤ) (line : Line) → line.cut ≡ Some (record { value = value; times = pos 1 }) → IsGathered rows path end line.items → add integers rows.cost (left_of (named_by rows path end) (length rows.box) line.items) ≡ zeros integers (length rows.box) → ((value -ℤ pos 1) +ℤ limit_of (named_by rows path end) line.items) <ℤ pos 0 → (pos (inequality_weight (cut_inequality rows value)) +ℤ weight_of (named_by rows path end) line.items) ≤ℤ pos (2 ^ 126) → Refutes rows path end line
refutes-cut rows path end value line is_cut gathered vanishes negative light =
    let named = named_by rows path end in
    let items = line.items in
    let whole : Refutes rows path end (record { cut = Some (record { value = value; times = pos 1 }); items = items }) = record {
      rising = gathered.rising;
      there = gathered.there;
      in_range = All-cons (λ times. (pos 1 ≤ℤ times) × (times ≤ℤ pos (2 ^ 126))) (pos 1) (times_of items) (omega linear, omega linear) (All-map (λ times. (pos 1 ≤ℤ times) × (times ≤ℤ pos (2 ^ 126))) (λ (item : Use). item.times) items gathered.in_range);
      light = rw (map_twice (λ (inequality : Inequality). pos (inequality_weight inequality)) (λ (item : Use). named item.index) items) (omega (linear, light, one_mul (pos (inequality_weight (cut_inequality rows value)))));
      combination = record {
        vanishes = rw (map_twice (λ (inequality : Inequality). inequality.factors) (λ (item : Use). named item.index) items) (ap (λ (f : List ℤ). add integers f (left_of named (length rows.box) items)) (scale_once rows.cost) ∙ vanishes);
        negative = rw (map_twice (λ (inequality : Inequality). inequality.limit) (λ (item : Use). named item.index) items) (omega (linear, negative, one_mul (value -ℤ pos 1)));
      };
    } in
    subst (λ (cut : Option CutUse). Refutes rows path end (record { cut = cut; items = items })) (sym is_cut) whole

-- past the last column nothing is left
rest_zero : (form : List ℤ) (bounds : List Bounds) → sum_at Least (drop (length form) form) (drop (length form) bounds) ≡ pos 0
rest_zero [] bounds = refl
rest_zero (a ∷ form) [] = nothing_left (drop (length form) form)
  where
    nothing_left : (form : List ℤ) → sum_at Least form [] ≡ pos 0
    nothing_left [] = refl
    nothing_left (a ∷ form) = refl
rest_zero (a ∷ form) (b ∷ bounds) = rest_zero form bounds

-- ---- an inequality out of reach, with the bounds that balance it
pub refutes-side : (rows : WholeRows) (path : List Slice) (bounds : List Bounds) (form : List ℤ) (number : ℕ) (limit : ℤ) (line : Line) → length form ≡ length rows.box → span form bounds ≤ 2 ^ 96 → inequality_at rows path None number ≡ Some (record { factors = form; limit = limit }) → limit <ℤ sum_at Least form bounds → inequality_weight (record { factors = form; limit = limit }) ≤ 2 ^ 100 → IsBalanced rows path bounds form (length rows.box) (once number ∷ []) line.items → line.cut ≡ None → Refutes rows path None line
refutes-side rows path bounds form number limit line wide light names out weight balanced no_cut =
    let n = length rows.box in
    let named = named_by rows path None in
    let is : named number ≡ record { factors = form; limit = limit } = ap (λ (o : Option Inequality). unwrap_or o nothing) names in
    let factors : (named number).factors ≡ form = ap (λ (i : Inequality). i.factors) is in
    let dense : length (named number).factors ≡ n = ap length factors ∙ wide in
    let rest : sum_at Least (drop n form) (drop n bounds) ≡ pos 0 = subst (λ (k : ℕ). sum_at Least (drop k form) (drop k bounds) ≡ pos 0) wide (rest_zero form bounds) in
    refutes-items rows path None line no_cut balanced.gathered
    (balanced.left ∙ ap (λ (f : List ℤ). less n f form) (one-left named n number dense ∙ factors) ∙ less-itself n form wide)
    (omega (linear, balanced.limit, rest, one_mul limit, ap (λ (i : Inequality). pos 1 *ℤ i.limit) is))
    (omega (linear, balanced.weight, one_mul (pos (inequality_weight (record { factors = form; limit = limit }))), ap (λ (i : Inequality). pos 1 *ℤ pos (inequality_weight i)) is))

-- the cut, with the bounds that balance it
pub refutes-cut_side : (rows : WholeRows) (path : List Slice) (bounds : List Bounds) (value : ℤ) (line : Line) → length rows.cost ≡ length rows.box → span rows.cost bounds ≤ 2 ^ 96 → (value -ℤ pos 1) <ℤ sum_at Least rows.cost bounds → inequality_weight (cut_inequality rows value) ≤ 2 ^ 100 → IsBalanced rows path bounds rows.cost (length rows.box) [] line.items → line.cut ≡ Some (record { value = value; times = pos 1 }) → Refutes rows path None line
refutes-cut_side rows path bounds value line wide light out weight balanced is_cut =
    let n = length rows.box in
    let rest : sum_at Least (drop n rows.cost) (drop n bounds) ≡ pos 0 = subst (λ (k : ℕ). sum_at Least (drop k rows.cost) (drop k bounds) ≡ pos 0) wide (rest_zero rows.cost bounds) in
    refutes-cut rows path None value line is_cut balanced.gathered
    (ap (add integers rows.cost) balanced.left ∙ add-less_zeros n rows.cost wide)
    (omega (linear, balanced.limit, rest))
    (omega (linear, balanced.weight))

-- ---- the two bounds of one column

-- an upper bound and a lower bound differ
pub pair-differ : (rows : WholeRows) (path : List Slice) (end : Option Inequality) (column above below : ℕ) (high low : ℤ) → column < length rows.box → inequality_at rows path end above ≡ Some (at_most (unit (length rows.box) column) high) → inequality_at rows path end below ≡ Some (at_least (unit (length rows.box) column) low) → above ≢ below
pair-differ rows path end column above below high low h names_above names_below same =
    let n = length rows.box in
    let named = named_by rows path end in
    let first : get_or (named above).factors column (pos 0) ≡ pos 1 = ap (λ (o : Option Inequality). get_or (unwrap_or o nothing).factors column (pos 0)) names_above ∙ unit-same n column h in
    let second : get_or (named below).factors column (pos 0) ≡ neg_ℤ (pos 1) = ap (λ (o : Option Inequality). get_or (unwrap_or o nothing).factors column (pos 0)) names_below ∙ negate-at (unit n column) column ∙ ap neg_ℤ (unit-same n column h) in
    absurd (omega (linear, first, second, ap (λ (k : ℕ). get_or (named k).factors column (pos 0)) same))

-- a form and minus the form
add-negated : (n : ℕ) (form : List ℤ) → length form ≡ n → add integers (negate integers form) form ≡ zeros integers n
add-negated zero [] e = refl
add-negated zero (a ∷ form) e = absurd (omega arith)
add-negated (suc n) [] e = absurd (omega arith)
add-negated (suc n) (a ∷ form) e = ap₂ {A = ℤ} {B = List ℤ} {C = List ℤ} (λ x t. x ∷ t) (omega linear) (add-negated n form (omega arith))

-- an upper bound that is below a lower bound
pub refutes-pair : (rows : WholeRows) (path : List Slice) (end : Option Inequality) (column above below : ℕ) (high low : ℤ) (line : Line) → column < length rows.box → inequality_at rows path end above ≡ Some (at_most (unit (length rows.box) column) high) → inequality_at rows path end below ≡ Some (at_least (unit (length rows.box) column) low) → high <ℤ low → nat_abs high ≤ 2 ^ 100 → nat_abs low ≤ 2 ^ 100 → line.cut ≡ None → IsPutIn (once below) (once above ∷ []) line.items → IsStrictlyIncreasing (numbers_of line.items) → Refutes rows path end line
refutes-pair rows path end column above below high low line h names_above names_below crosses small_high small_low no_cut put rising =
    let n = length rows.box in
    let named = named_by rows path end in
    let place = put.0 in
    let first : named above ≡ at_most (unit n column) high = ap (λ (o : Option Inequality). unwrap_or o nothing) names_above in
    let second : named below ≡ at_least (unit n column) low = ap (λ (o : Option Inequality). unwrap_or o nothing) names_below in
    let wide : length (named above).factors ≡ n = ap (λ (i : Inequality). length i.factors) first ∙ length-unit n column in
    let heavy_high : inequality_weight (at_most (unit n column) high) ≤ 2 ^ 101 = omega (arith, sizes_of_unit n column h) in
    let heavy_low : inequality_weight (at_least (unit n column) low) ≤ 2 ^ 101 = pair_weight n column low h small_low in
    let both = insert-gathered rows path end place (once above) (once below) (one-gathered rows path end above (at_most (unit n column) high) names_above) (one-gathered rows path end below (at_least (unit n column) low) names_below) in
    refutes-items rows path end line no_cut
    (record { rising = rising; there = subst (All (λ (item : Use). IsSome (inequality_at rows path end item.index))) (sym put.2) both.0; in_range = subst (All (λ (item : Use). (pos 1 ≤ℤ item.times) × (item.times ≤ℤ pos (2 ^ 126)))) (sym put.2) both.1 })
    (ap (left_of named n) put.2 ∙ left_of-insert named n (once above ∷ []) place (once below) ∙ ap₂ {A = List ℤ} {B = List ℤ} {C = List ℤ} (add integers) (scale_once (named below).factors ∙ ap (λ (i : Inequality). i.factors) second) (one-left named n above wide ∙ ap (λ (i : Inequality). i.factors) first) ∙ add-negated n (unit n column) (length-unit n column))
    (let sum = ap (limit_of named) put.2 ∙ limit_of-insert named (once above ∷ []) place (once below) in omega (linear, sum, one_mul high, one_mul (neg_ℤ low), ap (λ (i : Inequality). pos 1 *ℤ i.limit) first, ap (λ (i : Inequality). pos 1 *ℤ i.limit) second))
    (let sum = ap (weight_of named) put.2 ∙ weight_of-insert named (once above ∷ []) place (once below) in omega (linear, sum, heavy_high, heavy_low, one_mul (pos (inequality_weight (at_most (unit n column) high))), one_mul (pos (inequality_weight (at_least (unit n column) low))), ap (λ (i : Inequality). pos 1 *ℤ pos (inequality_weight i)) first, ap (λ (i : Inequality). pos 1 *ℤ pos (inequality_weight i)) second))
  where
    pair_weight : (n column : ℕ) (low : ℤ) → column < n → nat_abs low ≤ 2 ^ 100 → inequality_weight (at_least (unit n column) low) ≤ 2 ^ 101
    pair_weight n column low h small =
        let size : sum_by nat_abs (negate integers (unit n column)) ≡ 1 = sizes_of_negated (unit n column) ∙ sizes_of_unit n column h in
        let turned : nat_abs (neg_ℤ low) ≡ nat_abs low = omega linear in
        omega arith

    insert-gathered : (rows : WholeRows) (path : List Slice) (end : Option Inequality) (place : ℕ) (one other : Use) → IsGathered rows path end (one ∷ []) → IsGathered rows path end (other ∷ []) → All (λ (item : Use). IsSome (inequality_at rows path end item.index)) (insert (one ∷ []) place other) × All (λ (item : Use). (pos 1 ≤ℤ item.times) × (item.times ≤ℤ pos (2 ^ 126))) (insert (one ∷ []) place other)
    insert-gathered rows path end place one other g k = (
      All-insert (λ (item : Use). IsSome (inequality_at rows path end item.index)) (one ∷ []) place other (k.there 0 other (omega arith)) g.there,
      All-insert (λ (item : Use). (pos 1 ≤ℤ item.times) × (item.times ≤ℤ pos (2 ^ 126))) (one ∷ []) place other (k.in_range 0 other (omega arith)) g.in_range,
    )
