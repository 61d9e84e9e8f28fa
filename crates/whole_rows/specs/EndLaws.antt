-- A row's sums over a box lie between its two ends, so where the row is met they reach its sides.
use Rattle.std.proofs.Common.{◌≡◌, ◌≤◌, List, [], ◌∷◌, ℤ, pos, Option, Some, None, ◌+ℤ◌, ◌*ℤ◌, ◌≤ℤ◌, nat_abs, refl, sym, ap, subst, arith}
use Rattle.std.specs.Prelude.{int_lt, IfSome}
use Rattle.std.proofs.lemmas.List.Elements.{All-head, All-tail}
use Rattle.std.proofs.lemmas.Bool.{cond_both}
use Rattle.exact_math.specs.Ring.{integers}
use Rattle.exact_math.specs.IntegerRing.{linear}
use Rattle.exact_math.specs.IntegerOrder.{mul_le, mul_le_reversed, le_trans}
use Rattle.exact_vectors.specs.Vectors.{dot}
use Rattle.whole_rows.specs.declared.bounds.Bounds.{Bounds}
use Rattle.whole_rows.specs.WholeRows.{WholeRow, LiesIn, MeetsRow, reach}
use Rattle.whole_rows.specs.declared.ends.End.{End}
use Rattle.whole_rows.specs.declared.ends.End.TheVariants.{Least, Greatest}
use Rattle.whole_rows.specs.Ends.{AllFixed, lows, value_at, sum_at, ReachesSides}

-- either end is at most the reach in size
pub abs-value_at : (end : End) (factor : ℤ) (bounds : Bounds) → nat_abs (value_at end factor bounds) ≤ reach bounds
abs-value_at Least factor bounds = cond_both (int_lt factor (pos 0)) bounds.high bounds.low (λ v. nat_abs v ≤ reach bounds) (λ e. omega arith) (λ e. omega arith)
abs-value_at Greatest factor bounds = cond_both (int_lt factor (pos 0)) bounds.low bounds.high (λ v. nat_abs v ≤ reach bounds) (λ e. omega arith) (λ e. omega arith)

-- no value between the bounds has a product below the least
pub least_product : (factor value : ℤ) (bounds : Bounds) → bounds.low ≤ℤ value → value ≤ℤ bounds.high → (factor *ℤ value_at Least factor bounds) ≤ℤ (factor *ℤ value)
least_product factor value bounds above below = cond_both (int_lt factor (pos 0)) bounds.high bounds.low (λ v. (factor *ℤ v) ≤ℤ (factor *ℤ value)) (λ e. mul_le_reversed factor value bounds.high (omega linear) below) (λ e. mul_le factor bounds.low value (omega linear) above)

-- nor above the greatest
pub greatest_product : (factor value : ℤ) (bounds : Bounds) → bounds.low ≤ℤ value → value ≤ℤ bounds.high → (factor *ℤ value) ≤ℤ (factor *ℤ value_at Greatest factor bounds)
greatest_product factor value bounds above below = cond_both (int_lt factor (pos 0)) bounds.low bounds.high (λ v. (factor *ℤ value) ≤ℤ (factor *ℤ v)) (λ e. mul_le_reversed factor bounds.low value (omega linear) above) (λ e. mul_le factor value bounds.high (omega linear) below)

-- so the sums lie between the two ends
pub least_sum : (factors : List ℤ) (bounds : List Bounds) (x : List ℤ) → LiesIn bounds x → sum_at Least factors bounds ≤ℤ dot integers factors x
least_sum [] bounds x lies = omega linear
least_sum (factor ∷ factors) [] [] lies = omega linear
least_sum (factor ∷ factors) [] (value ∷ x) lies = absurd lies
least_sum (factor ∷ factors) (b ∷ bounds) [] lies = absurd lies
least_sum (factor ∷ factors) (b ∷ bounds) (value ∷ x) lies = omega (linear, least_product factor value b lies.0.0 lies.0.1, least_sum factors bounds x lies.1)

pub greatest_sum : (factors : List ℤ) (bounds : List Bounds) (x : List ℤ) → LiesIn bounds x → dot integers factors x ≤ℤ sum_at Greatest factors bounds
greatest_sum [] bounds x lies = omega linear
greatest_sum (factor ∷ factors) [] [] lies = omega linear
greatest_sum (factor ∷ factors) [] (value ∷ x) lies = absurd lies
greatest_sum (factor ∷ factors) (b ∷ bounds) [] lies = absurd lies
greatest_sum (factor ∷ factors) (b ∷ bounds) (value ∷ x) lies = omega (linear, greatest_product factor value b lies.0.0 lies.0.1, greatest_sum factors bounds x lies.1)

-- at a fixed column both ends are its value
value_at-fixed : (end : End) (factor : ℤ) (b : Bounds) → b.low ≡ b.high → value_at end factor b ≡ b.low
value_at-fixed Least factor b e = cond_both (int_lt factor (pos 0)) b.high b.low (λ v. v ≡ b.low) (λ _. sym e) (λ _. refl)
value_at-fixed Greatest factor b e = cond_both (int_lt factor (pos 0)) b.low b.high (λ v. v ≡ b.low) (λ _. refl) (λ _. sym e)

-- at fixed columns both ends are the sum itself
pub sum_at-fixed : (end : End) (factors : List ℤ) (bounds : List Bounds) → AllFixed bounds → sum_at end factors bounds ≡ dot integers factors (lows bounds)
sum_at-fixed end [] bounds fixed = refl
sum_at-fixed end (factor ∷ factors) [] fixed = refl
sum_at-fixed end (factor ∷ factors) (b ∷ bounds) fixed =
    let here : value_at end factor b ≡ b.low = value_at-fixed end factor b (All-head (λ (b : Bounds). b.low ≡ b.high) b bounds fixed) in
    rw here (ap (λ t. factor *ℤ b.low +ℤ t) (sum_at-fixed end factors bounds (All-tail (λ (b : Bounds). b.low ≡ b.high) b bounds fixed)))

-- a fact of a side follows from another
side_weaker : (side : Option ℤ) (P Q : ℤ → Type 0) → ((v : ℤ) → P v → Q v) → IfSome side P → IfSome side Q
side_weaker None P Q f h = h
side_weaker (Some v) P Q f h = f v h

-- where values within the bounds meet a row, the row's ends reach its sides
pub ReachesSides-meets : (row : WholeRow) (bounds : List Bounds) (x : List ℤ) → LiesIn bounds x → MeetsRow row x → ReachesSides row.factors row.low row.high bounds
ReachesSides-meets row bounds x lies meets = (
  side_weaker row.low (λ l. l ≤ℤ dot integers row.factors x) (λ l. l ≤ℤ sum_at Greatest row.factors bounds) (λ l h. le_trans l (dot integers row.factors x) (sum_at Greatest row.factors bounds) h (greatest_sum row.factors bounds x lies)) meets.0,
  side_weaker row.high (λ h. dot integers row.factors x ≤ℤ h) (λ h. sum_at Least row.factors bounds ≤ℤ h) (λ h k. le_trans (sum_at Least row.factors bounds) (dot integers row.factors x) h (least_sum row.factors bounds x lies) k) meets.1,
)

-- at fixed columns the row is then met
pub MeetsRow-fixed : (row : WholeRow) (bounds : List Bounds) → AllFixed bounds → ReachesSides row.factors row.low row.high bounds → MeetsRow row (lows bounds)
MeetsRow-fixed row bounds fixed reaches = (
  subst (λ v. IfSome row.low (λ l. l ≤ℤ v)) (sum_at-fixed Greatest row.factors bounds fixed) reaches.0,
  subst (λ v. IfSome row.high (λ h. v ≤ℤ h)) (sum_at-fixed Least row.factors bounds fixed) reaches.1,
)

-- the bounds of fixed columns hold their values
pub LiesIn-lows : (bounds : List Bounds) → AllFixed bounds → LiesIn bounds (lows bounds)
LiesIn-lows [] fixed = tt
LiesIn-lows (b ∷ bounds) fixed =
    let here : b.low ≡ b.high = All-head (λ (b : Bounds). b.low ≡ b.high) b bounds fixed in
    ((omega linear, omega linear), LiesIn-lows bounds (All-tail (λ (b : Bounds). b.low ≡ b.high) b bounds fixed))
