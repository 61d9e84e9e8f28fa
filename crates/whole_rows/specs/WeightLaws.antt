-- What weights bound: terms, first terms, factors, sides, and sums within the box.
use Rattle.std.proofs.Common.{◌≡◌, add-one, add_comm, add_assoc, ℕ, zero, suc, ◌+◌, ◌*◌, ◌^◌, ◌<◌, ◌≤◌, List, [], ◌∷◌, length, take, get_or, ℤ, ◌≤ℤ◌, ◌*ℤ◌, None, nat_abs, sym, ap, ◌∙◌, arith}
use Rattle.std.proofs.Math.Nat.{mul-le-mul_left}
use Rattle.std.proofs.lemmas.List.Elements.{All-get_or}
use Rattle.exact_math.specs.Ring.{integers}
use Rattle.exact_math.specs.IntegerRing.{linear}
use Rattle.exact_math.specs.IntegerOrder.{abs_mul, abs_add_le}
use Rattle.exact_vectors.specs.Vectors.{dot}
use Rattle.whole_rows.specs.declared.bounds.Bounds.{Bounds}
use Rattle.whole_rows.specs.WholeRows.{WholeRow, WholeRows, LiesIn, reach, span, weight, size_sum, row_at, IsWithinLimits}

-- ---- the terms of a span

-- a reach is at least 1
pub reach_pos : (bounds : Bounds) → 1 ≤ reach bounds
reach_pos bounds = omega arith

-- the sum of the first k terms
pub span-take_le : (k : ℕ) (factors : List ℤ) (box : List Bounds) → span (take k factors) box ≤ span factors box
span-take_le zero factors box = omega arith
span-take_le (suc k) [] box = omega arith
span-take_le (suc k) (factor ∷ factors) [] = omega arith
span-take_le (suc k) (factor ∷ factors) (bounds ∷ box) = omega (arith, span-take_le k factors box)

-- one more term
next_term : (k : ℕ) (factors : List ℤ) (box : List Bounds) (d : ℤ) (e : Bounds) → k < length factors → k < length box → span (take (suc k) factors) box ≡ span (take k factors) box + nat_abs (get_or factors k d) * reach (get_or box k e)
next_term k [] box d e h l = absurd (omega arith)
next_term k (factor ∷ factors) [] d e h l = absurd (omega arith)
next_term zero (factor ∷ factors) (bounds ∷ box) d e h l = add_comm (nat_abs factor * reach bounds) 0
next_term (suc k) (factor ∷ factors) (bounds ∷ box) d e h l =
    ap (λ t. nat_abs factor * reach bounds + t) (next_term k factors box d e (omega arith) (omega arith)) ∙ sym (add_assoc (nat_abs factor * reach bounds) _ _)

pub span-take_more : (k : ℕ) (factors : List ℤ) (box : List Bounds) (d : ℤ) (e : Bounds) → k < length factors → k < length box → span (take (k + 1) factors) box ≡ span (take k factors) box + nat_abs (get_or factors k d) * reach (get_or box k e)
span-take_more k factors box d e h l =
    ap (λ n. span (take n factors) box) (add-one k) ∙ next_term k factors box d e h l

-- a single term
pub span-term_le : (k : ℕ) (factors : List ℤ) (box : List Bounds) (d : ℤ) (e : Bounds) → k < length factors → k < length box → nat_abs (get_or factors k d) * reach (get_or box k e) ≤ span factors box
span-term_le k factors box d e h l =
    omega (arith, span-take_more k factors box d e h l, span-take_le (k + 1) factors box)

-- a factor is at most its term in size
pub factor_le_term : (factor : ℤ) (bounds : Bounds) → nat_abs factor ≤ nat_abs factor * reach bounds
factor_le_term factor bounds = omega (arith, mul-le-mul_left (nat_abs factor) (reach_pos bounds))

-- ---- light rows

-- a row is light
pub weight-row_at : (rows : WholeRows) (i : ℕ) → IsWithinLimits rows → i < length rows.rows → weight rows.box (row_at rows i) ≤ 2 ^ 96
weight-row_at rows i limits h =
    All-get_or (λ (row : WholeRow). weight rows.box row ≤ 2 ^ 96) rows.rows i (record { factors = []; low = None; high = None }) h limits.light.weights

-- a row spans at most what it weighs
pub span-row_at : (rows : WholeRows) (i : ℕ) → IsWithinLimits rows → i < length rows.rows → span (row_at rows i).factors rows.box ≤ 2 ^ 96
span-row_at rows i limits h = omega (arith, All-get_or (λ (row : WholeRow). weight rows.box row ≤ 2 ^ 96) rows.rows i (record { factors = []; low = None; high = None }) h limits.light.weights)

-- ---- sums within the box

-- a value between two bounds is at most their reach in size
pub size_within : (bounds : Bounds) (value : ℤ) → bounds.low ≤ℤ value → value ≤ℤ bounds.high → nat_abs value ≤ reach bounds
size_within bounds value above below = omega linear

-- within the box, the sizes of the products sum to the row's span at most
pub size_sum-within : (factors : List ℤ) (box : List Bounds) (x : List ℤ) → LiesIn box x → size_sum factors x ≤ span factors box
size_sum-within [] box x lies = omega arith
size_sum-within (factor ∷ factors) [] [] lies = omega arith
size_sum-within (factor ∷ factors) [] (value ∷ x) lies = absurd lies
size_sum-within (factor ∷ factors) (bounds ∷ box) [] lies = absurd lies
size_sum-within (factor ∷ factors) (bounds ∷ box) (value ∷ x) lies = omega (arith, size_sum-within factors box x lies.1, mul-le-mul_left (nat_abs factor) (size_within bounds value lies.0.0 lies.0.1))

-- a sum of products is at most the sum of their sizes
pub abs_dot_le : (a x : List ℤ) → nat_abs (dot integers a x) ≤ size_sum a x
abs_dot_le [] x = omega arith
abs_dot_le (factor ∷ factors) [] = omega arith
abs_dot_le (factor ∷ factors) (value ∷ x) =
    omega (arith, abs_mul factor value, abs_add_le (factor *ℤ value) (dot integers factors x), abs_dot_le factors x)

-- within the box it is at most the span
pub dot_within : (factors : List ℤ) (box : List Bounds) (x : List ℤ) → LiesIn box x → nat_abs (dot integers factors x) ≤ span factors box
dot_within factors box x lies = omega (arith, abs_dot_le factors x, size_sum-within factors box x lies)
