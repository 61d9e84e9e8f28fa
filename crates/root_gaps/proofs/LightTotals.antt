-- Where items that are taken whole numbers of times are light, no product and no sum on the way to what they come to leaves the range.
use Rattle.std.proofs.Common.{◌≡◌, ℕ, zero, suc, ◌+◌, ◌*◌, ◌^◌, ◌/◌, ◌<◌, ◌≤◌, nat_abs, ℤ, pos, ◌*ℤ◌, ◌+ℤ◌, List, [], ◌∷◌, ◌++◌, get_or, sym, ap, ap₂, subst, subst₂, ◌∙◌, arith, append_assoc, All}
use Rattle.std.specs.Prelude.{Option, None, flat_map, unwrap_or, length}
use Rattle.std.proofs.Math.Nat.{le-mul_of_pos_right}
use Rattle.std.proofs.lemmas.List.Elements.{All-nil, All-cons, All-head, All-tail, All-weaker}
use Rattle.exact_math.specs.Gcd.{gcd}
use Rattle.exact_math.specs.GcdLaws.{gcd_self}
use Rattle.exact_math.specs.IntegerOrder.{abs_add_le, abs_mul_le}
use Rattle.exact_math.specs.IntegerRing.{linear}
use Rattle.exact_math.specs.Rational.{ℚ, whole, ◌+ℚ◌, ◌*ℚ◌}
use Rattle.exact_math.specs.RationalRing.{rationals, whole_add, whole_mul}
use Rattle.exact_math.specs.RingLaws as Laws
use Rattle.frac128.specs.Range.{InRange, SumInRange}
use Rattle.row_lifting.specs.Lifting.{none}
use Rattle.whole_rows.specs.WholeRows.{WholeRows}
use Rattle.farkas_rows.specs.declared.fracs.FracUse.{FracUse}
use Rattle.farkas_rows.specs.Inequalities.{Inequality, column_bounds, row_sides}
use Rattle.farkas_rows.specs.Refutes.{inequality_weight, nothing}
use Rattle.farkas_rows.specs.Sides.{factor_of}
use Rattle.farkas_rows.proofs.LineLemmas.{factor-small}
use Rattle.presolve_map.specs.LiftedLines.{cost_in, factor_in, named, LineStays, SumStays}
use Rattle.root_gaps.proofs.WholeLines.{items_weight, size, IsCounted}

-- ---- the range of whole numbers

in-range : (z : ℤ) → nat_abs z ≤ 2 ^ 126 → InRange (whole z)
unfolding whole
in-range z h = record { num = omega (arith, h); den = omega arith }

narrow-times : (z : ℤ) (k : ℕ) → k ≡ 1 → nat_abs z ≤ 2 ^ 126 → nat_abs (z *ℤ pos k) < 2 ^ 127
narrow-times z k e h = subst (λ (n : ℕ). nat_abs (z *ℤ pos n) < 2 ^ 127) (sym e) (once z h)
  where
    once : (z : ℤ) → nat_abs z ≤ 2 ^ 126 → nat_abs (z *ℤ pos 1) < 2 ^ 127
    once z h = omega (linear, h)

narrow-sum : (z w : ℤ) (k : ℕ) → k ≡ 1 → nat_abs (z +ℤ w) ≤ 2 ^ 126 → nat_abs (z *ℤ pos k +ℤ w *ℤ pos k) < 2 ^ 127
narrow-sum z w k e h = subst (λ (n : ℕ). nat_abs (z *ℤ pos n +ℤ w *ℤ pos n) < 2 ^ 127) (sym e) (once z w h)
  where
    once : (z w : ℤ) → nat_abs (z +ℤ w) ≤ 2 ^ 126 → nat_abs (z *ℤ pos 1 +ℤ w *ℤ pos 1) < 2 ^ 127
    once z w h = omega (linear, h)

sum-in_range : (z w : ℤ) → nat_abs z + nat_abs w ≤ 2 ^ 126 → SumInRange (whole z) (whole w)
unfolding whole
sum-in_range z w h = record {
  first = narrow-times z (1 / gcd 1 1) one (omega (arith, h));
  second = narrow-times w (1 / gcd 1 1) one (omega (arith, h));
  sum = narrow-sum z w (1 / gcd 1 1) one (omega (arith, h, abs_add_le z w));
  den = omega (arith, one);
}
  where
    one : 1 / gcd 1 1 ≡ 1
    one = ap (λ (n : ℕ). 1 / n) (gcd_self 1)

-- ---- factors and weights

abbrev inequality_in : List (Option Inequality) → ℕ → Inequality
inequality_in sides number = unwrap_or (get_or sides number None) nothing

-- whatever stands last, no factor without it is larger than the weight with it
front-weight : (column : ℕ) (end : Option Inequality) (front : List (Option Inequality)) (number : ℕ) → nat_abs (factor_of column (inequality_in (front ++ None ∷ []) number)) ≤ inequality_weight (inequality_in (front ++ end ∷ []) number)
front-weight column end [] zero = omega arith
front-weight column end [] (suc number) = omega arith
front-weight column end (side ∷ front) zero = factor-small column (unwrap_or side nothing)
front-weight column end (side ∷ front) (suc number) = front-weight column end front number

pub factor-weight : (rows : WholeRows) (end : Option Inequality) (column number : ℕ) → nat_abs (factor_of column (named rows [] None number)) ≤ inequality_weight (named rows [] end number)
factor-weight rows end column number =
    let first : List (Option Inequality) = flat_map row_sides rows.rows in
    let second : List (Option Inequality) = column_bounds (length rows.box) 0 rows.box in
    subst₂ (λ (l m : List (Option Inequality)). nat_abs (factor_of column (inequality_in l number)) ≤ inequality_weight (inequality_in m number)) (append_assoc first second (None ∷ [])) (append_assoc first second (end ∷ [])) (front-weight column end (first ++ second) number)

-- ---- sizes

one-at_least : (inequality : Inequality) → 0 < inequality_weight inequality
one-at_least inequality = omega arith

-- no item is taken more often than they weigh
pub sizes-small : (rows : WholeRows) (end : Option Inequality) (items : List FracUse) → All (λ (item : FracUse). size item ≤ items_weight rows end items) items
sizes-small rows end [] = All-nil (λ (item : FracUse). size item ≤ items_weight rows end [])
sizes-small rows end (item ∷ items) =
    let w : ℕ = inequality_weight (named rows [] end item.index) in
    let first : size item ≤ size item * w = le-mul_of_pos_right (size item) (one-at_least (named rows [] end item.index)) in
    All-cons (λ (other : FracUse). size other ≤ items_weight rows end (item ∷ items)) item items (at_least (size item) (size item * w) (items_weight rows end items) first)
    (All-weaker (λ (other : FracUse). size other ≤ items_weight rows end items) (λ (other : FracUse). size other ≤ items_weight rows end (item ∷ items)) (λ other h. more (size other) (size item * w) (items_weight rows end items) h) items (sizes-small rows end items))
  where
    at_least : (a b c : ℕ) → a ≤ b → a ≤ b + c
    at_least a b c h = omega (arith, h)

    more : (a b c : ℕ) → a ≤ c → a ≤ b + c
    more a b c h = omega (arith, h)

-- ---- sums

module _ (rows : WholeRows) (end : Option Inequality) (column : ℕ) where
  light-sum : (items : List FracUse) (sum : ℚ) (z : ℤ) → sum ≡ whole z → All IsCounted items → nat_abs z + items_weight rows end items ≤ 2 ^ 126 → SumStays rows column sum items
  light-sum [] sum z is counted light = tt
  light-sum (item ∷ items) sum z is counted light =
      let f : ℤ = factor_of column (named rows [] None item.index) in
      let w : ℕ = inequality_weight (named rows [] end item.index) in
      let p : ℤ = pos (size item) *ℤ f in
      let product : item.times *ℚ factor_in rows [] None column item.index ≡ whole (pos (size item) *ℤ f) = ap (λ (t : ℚ). t *ℚ whole f) (All-head IsCounted item items counted) ∙ sym (whole_mul (pos (size item)) f) in
      let small : nat_abs (pos (size item) *ℤ f) ≤ size item * w = abs_mul_le (pos (size item)) f (size item) w (omega arith) (factor-weight rows end column item.index) in
      let all : nat_abs z + (size item * w + items_weight rows end items) ≤ 2 ^ 126 = light in (
        (λ some. (subst InRange (sym product) (in-range p (within (nat_abs z) (nat_abs p) (size item * w) (items_weight rows end items) small all)), subst₂ SumInRange (sym is) (sym product) (sum-in_range z p (both (nat_abs z) (nat_abs p) (size item * w) (items_weight rows end items) small all)))),
        light-sum items (sum +ℚ item.times *ℚ factor_in rows [] None column item.index) (z +ℤ p) (ap₂ (λ (a b : ℚ). a +ℚ b) is product ∙ sym (whole_add z p)) (All-tail IsCounted item items counted)
            (next (nat_abs z) (nat_abs p) (nat_abs (z +ℤ p)) (size item * w) (items_weight rows end items) small (abs_add_le z p) all),
      )
    where
      within : (a b c d : ℕ) → b ≤ c → a + (c + d) ≤ 2 ^ 126 → b ≤ 2 ^ 126
      within a b c d h k = omega (arith, h, k)

      both : (a b c d : ℕ) → b ≤ c → a + (c + d) ≤ 2 ^ 126 → a + b ≤ 2 ^ 126
      both a b c d h k = omega (arith, h, k)

      next : (a b n c d : ℕ) → b ≤ c → n ≤ a + b → a + (c + d) ≤ 2 ^ 126 → n + d ≤ 2 ^ 126
      next a b n c d h l k = omega (arith, h, l, k)

-- in each removed column
pub light-stays : (rows : WholeRows) (end : Option Inequality) (items : List FracUse) → All IsCounted items → items_weight rows end items ≤ 2 ^ 126 → LineStays rows none items
light-stays rows end items counted light column h removed =
    let zero_is : none *ℚ cost_in rows column ≡ none = Laws.zero_mul rationals (cost_in rows column) in
    (subst InRange (sym zero_is) (in-range (pos 0) (omega arith)), light-sum rows end column items (none *ℚ cost_in rows column) (pos 0) zero_is counted (omega (arith, light)))
