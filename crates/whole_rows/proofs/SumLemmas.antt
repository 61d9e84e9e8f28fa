-- Sums of products, place by place.
use Rattle.std.proofs.Common.{◌≡◌, ℕ, ◌+◌, ◌*◌, ◌^◌, ◌<◌, ◌≤◌, List, length, drop, get_or, ℤ, pos, ◌+ℤ◌, ◌*ℤ◌, nat_abs, refl, sym, ap, ◌∙◌, arith, FitsSigned}
use Rattle.std.specs.Int.{w128}
use Rattle.std.proofs.lemmas.List.{drop_more}
use Rattle.std.proofs.lemmas.Int.{fits_signed_from_abs}
use Rattle.exact_math.specs.Ring.{integers}
use Rattle.exact_math.specs.IntegerRing.{add_assoc}
use Rattle.exact_math.specs.IntegerOrder.{abs_mul, abs_add_le}
use Rattle.exact_vectors.specs.Vectors.{dot}
use Rattle.exact_vectors.specs.DotLaws.{dot-drop}
use Rattle.whole_rows.specs.WholeRows.{size_sum}

-- the sizes of the products from one place on
pub size_sum-drop : (a x : List ℤ) (i : ℕ) → i < length a → i < length x → size_sum (drop i a) (drop i x) ≡ nat_abs (get_or a i (pos 0)) * nat_abs (get_or x i (pos 0)) + size_sum (drop (i + 1) a) (drop (i + 1) x)
size_sum-drop a x i h k = rw (drop_more a i (pos 0) h, drop_more x i (pos 0) k) refl

-- what a sum up to one place keeps when the product there is added
pub record IsSumUpTo (a x : List ℤ) (i : ℕ) (sum : ℤ) : Type 0 where
  pub value : sum +ℤ dot integers (drop i a) (drop i x) ≡ dot integers a x
  pub small : nat_abs sum + size_sum (drop i a) (drop i x) ≤ 2 ^ 96

pub IsSumUpTo-more : (a x : List ℤ) (i : ℕ) (sum : ℤ) → i < length a → i < length x → IsSumUpTo a x i sum → IsSumUpTo a x (i + 1) (sum +ℤ get_or a i (pos 0) *ℤ get_or x i (pos 0))
IsSumUpTo-more a x i sum h k s = record {
  value = add_assoc sum (get_or a i (pos 0) *ℤ get_or x i (pos 0)) _ ∙ ap (λ t. sum +ℤ t) (sym (dot-drop integers a x i (pos 0) (pos 0) h k)) ∙ s.value;
  small = omega (arith, s.small, size_sum-drop a x i h k, abs_mul (get_or a i (pos 0)) (get_or x i (pos 0)), abs_add_le sum (get_or a i (pos 0) *ℤ get_or x i (pos 0)));
}

-- the product and the sum fit 128 bits
pub product_fits : (a x : List ℤ) (i : ℕ) (sum : ℤ) → i < length a → i < length x → IsSumUpTo a x i sum → FitsSigned w128 (get_or a i (pos 0) *ℤ get_or x i (pos 0))
product_fits a x i sum h k s = fits_signed_from_abs w128 (get_or a i (pos 0) *ℤ get_or x i (pos 0)) (omega (arith, s.small, size_sum-drop a x i h k, abs_mul (get_or a i (pos 0)) (get_or x i (pos 0))))

pub sum_fits : (a x : List ℤ) (i : ℕ) (sum : ℤ) → IsSumUpTo a x i sum → FitsSigned w128 sum
sum_fits a x i sum s = fits_signed_from_abs w128 sum (omega (arith, s.small))
