-- Sums of a row at one end of a box, place by place.
use Rattle.std.proofs.Common.{◌≡◌, ℕ, ◌+◌, ◌^◌, ◌<◌, ◌≤◌, List, length, drop, get_or, ℤ, pos, ◌+ℤ◌, ◌*ℤ◌, nat_abs, refl, sym, ap, ◌∙◌, arith, FitsSigned}
use Rattle.std.specs.Int.{w128}
use Rattle.std.proofs.Math.Nat.{mul-le-mul_left}
use Rattle.std.proofs.lemmas.List.{drop_more}
use Rattle.std.proofs.lemmas.Int.{fits_signed_from_abs}
use Rattle.exact_math.specs.IntegerRing.{add_assoc}
use Rattle.exact_math.specs.IntegerOrder.{abs_mul, abs_add_le}
use Rattle.whole_rows.specs.declared.bounds.Bounds.{Bounds}
use Rattle.whole_rows.specs.WholeRows.{span}
use Rattle.whole_rows.specs.declared.ends.End.{End}
use Rattle.whole_rows.specs.Ends.{value_at, sum_at}
use Rattle.whole_rows.specs.EndLaws.{abs-value_at}

-- a sum up to one place, and what is left
pub record IsSumUpTo (end : End) (factors : List ℤ) (bounds : List Bounds) (i : ℕ) (sum : ℤ) : Type 0 where
  pub value : sum +ℤ sum_at end (drop i factors) (drop i bounds) ≡ sum_at end factors bounds
  pub small : nat_abs sum + span (drop i factors) (drop i bounds) ≤ 2 ^ 96

-- the product at a place, and what is left after it
abbrev pub product_at : End → List ℤ → List Bounds → ℕ → ℤ
product_at end factors bounds i = get_or factors i (pos 0) *ℤ value_at end (get_or factors i (pos 0)) (get_or bounds i (record { low = pos 0; high = pos 0 }))

sum_at-drop : (end : End) (factors : List ℤ) (bounds : List Bounds) (i : ℕ) → i < length factors → i < length bounds → sum_at end (drop i factors) (drop i bounds) ≡ product_at end factors bounds i +ℤ sum_at end (drop (i + 1) factors) (drop (i + 1) bounds)
sum_at-drop end factors bounds i h k = rw (drop_more factors i (pos 0) h, drop_more bounds i (record { low = pos 0; high = pos 0 }) k) refl

span-drop : (end : End) (factors : List ℤ) (bounds : List Bounds) (i : ℕ) → i < length factors → i < length bounds → nat_abs (product_at end factors bounds i) + span (drop (i + 1) factors) (drop (i + 1) bounds) ≤ span (drop i factors) (drop i bounds)
span-drop end factors bounds i h k =
    let factor = get_or factors i (pos 0) in
    let b : Bounds = get_or bounds i (record { low = pos 0; high = pos 0 }) in
    rw (drop_more factors i (pos 0) h, drop_more bounds i (record { low = pos 0; high = pos 0 }) k) (omega (arith, abs_mul factor (value_at end factor b), mul-le-mul_left (nat_abs factor) (abs-value_at end factor b)))

pub IsSumUpTo-more : (end : End) (factors : List ℤ) (bounds : List Bounds) (i : ℕ) (sum : ℤ) → i < length factors → i < length bounds → IsSumUpTo end factors bounds i sum → IsSumUpTo end factors bounds (i + 1) (sum +ℤ product_at end factors bounds i)
IsSumUpTo-more end factors bounds i sum h k s = record {
  value = add_assoc sum (product_at end factors bounds i) _ ∙ ap (λ t. sum +ℤ t) (sym (sum_at-drop end factors bounds i h k)) ∙ s.value;
  small = omega (arith, s.small, span-drop end factors bounds i h k, abs_add_le sum (product_at end factors bounds i));
}

-- the product and the sum fit 128 bits
pub product_fits : (end : End) (factors : List ℤ) (bounds : List Bounds) (i : ℕ) (sum : ℤ) → i < length factors → i < length bounds → IsSumUpTo end factors bounds i sum → FitsSigned w128 (product_at end factors bounds i)
product_fits end factors bounds i sum h k s = fits_signed_from_abs w128 (product_at end factors bounds i) (omega (arith, s.small, span-drop end factors bounds i h k))

pub sum_fits : (end : End) (factors : List ℤ) (bounds : List Bounds) (i : ℕ) (sum : ℤ) → IsSumUpTo end factors bounds i sum → FitsSigned w128 sum
sum_fits end factors bounds i sum s = fits_signed_from_abs w128 sum (omega (arith, s.small))
