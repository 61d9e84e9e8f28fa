-- What one more item does to the sums of a line's items.
use Rattle.std.proofs.Common.{◌≡◌, ℕ, zero, suc, ◌+◌, ◌<◌, ◌≤◌, List, [], ◌∷◌, length, get_or, ℤ, pos, neg_ℤ, ◌+ℤ◌, ◌-ℤ◌, ◌*ℤ◌, nat_abs, refl, sym, ap, ap₂, ◌∙◌, arith, ⊎_elim, ◌-◌}
use Rattle.std.specs.List.{insert, sum_by}
use Rattle.std.proofs.lemmas.List.Sums.{sum_by-cons}
use Rattle.std.proofs.lemmas.Bool.{cases_lt}
use Rattle.std.specs.List.Sorted.{IsStrictlyIncreasing}
use Rattle.std.proofs.lemmas.List.Edits.{get_or-insert_below, get_or-insert_at, get_or-insert_above, length-insert}
use Rattle.exact_math.specs.Ring.{integers}
use Rattle.exact_math.specs.IntegerRing.{linear, mul_neg, neg_mul, mul_zero, add_left_comm, mul_one}
use Rattle.exact_vectors.specs.Vectors.{add, scale, negate, zeros}
use Rattle.farkas_rows.specs.declared.line.Use.{Use}
use Rattle.farkas_rows.specs.Inequalities.{Inequality, unit}
use Rattle.farkas_rows.specs.Refutes.{inequality_weight}
use Rattle.plain_slices.specs.Items.{numbers_of, left_of, limit_of, weight_of, less}

-- the order in which lists are added does not matter
add_swap : (a b c : List ℤ) → add integers a (add integers b c) ≡ add integers b (add integers a c)
add_swap [] [] c = refl
add_swap [] (y ∷ b) c = refl
add_swap (x ∷ a) [] c = refl
add_swap (x ∷ a) (y ∷ b) [] = refl
add_swap (x ∷ a) (y ∷ b) (z ∷ c) = ap₂ {A = ℤ} {B = List ℤ} {C = List ℤ} (λ h t. h ∷ t) (add_left_comm x y z) (add_swap a b c)

-- an item that is put in anywhere adds its multiple
pub left_of-insert : (named : ℕ → Inequality) (n : ℕ) (items : List Use) (i : ℕ) (item : Use) → left_of named n (insert items i item) ≡ add integers (scale integers item.times (named item.index).factors) (left_of named n items)
left_of-insert named n items zero item = refl
left_of-insert named n [] (suc i) item = refl
left_of-insert named n (u ∷ items) (suc i) item = ap (add integers (scale integers u.times (named u.index).factors)) (left_of-insert named n items i item) ∙ add_swap (scale integers u.times (named u.index).factors) (scale integers item.times (named item.index).factors) (left_of named n items)

-- so do its limit
pub limit_of-insert : (named : ℕ → Inequality) (items : List Use) (i : ℕ) (item : Use) → limit_of named (insert items i item) ≡ item.times *ℤ (named item.index).limit +ℤ limit_of named items
limit_of-insert named items zero item = refl
limit_of-insert named [] (suc i) item = refl
limit_of-insert named (u ∷ items) (suc i) item = ap (λ t. u.times *ℤ (named u.index).limit +ℤ t) (limit_of-insert named items i item) ∙ add_left_comm (u.times *ℤ (named u.index).limit) (item.times *ℤ (named item.index).limit) (limit_of named items)

-- and its weight
pub weight_of-insert : (named : ℕ → Inequality) (items : List Use) (i : ℕ) (item : Use) → weight_of named (insert items i item) ≡ item.times *ℤ pos (inequality_weight (named item.index)) +ℤ weight_of named items
weight_of-insert named items zero item = refl
weight_of-insert named [] (suc i) item = refl
weight_of-insert named (u ∷ items) (suc i) item = ap (λ t. u.times *ℤ pos (inequality_weight (named u.index)) +ℤ t) (weight_of-insert named items i item) ∙ add_left_comm (u.times *ℤ pos (inequality_weight (named u.index))) (item.times *ℤ pos (inequality_weight (named item.index))) (weight_of named items)

-- the numbers of the items after one is put in
pub numbers_of-insert : (items : List Use) (i : ℕ) (item : Use) → numbers_of (insert items i item) ≡ insert (numbers_of items) i item.index
numbers_of-insert items zero item = refl
numbers_of-insert [] (suc i) item = refl
numbers_of-insert (u ∷ items) (suc i) item = ap {B = List ℕ} (λ t. u.index ∷ t) (numbers_of-insert items i item)

-- ---- units

-- a unit form's sizes add up to 1
sizes_of_zeros : (n : ℕ) → sum_by nat_abs (zeros integers n) ≡ 0
sizes_of_zeros zero = refl
sizes_of_zeros (suc n) = omega (arith, sum_by-cons nat_abs (pos 0) (zeros integers n), sizes_of_zeros n)

pub sizes_of_unit : (n j : ℕ) → j < n → sum_by nat_abs (unit n j) ≡ 1
sizes_of_unit zero j h = absurd (omega arith)
sizes_of_unit (suc n) zero h = omega (arith, sum_by-cons nat_abs (pos 1) (zeros integers n), sizes_of_zeros n)
sizes_of_unit (suc n) (suc j) h = omega (arith, sum_by-cons nat_abs (pos 0) (unit n j), sizes_of_unit n j (omega arith))

pub sizes_of_negated : (form : List ℤ) → sum_by nat_abs (negate integers form) ≡ sum_by nat_abs form
sizes_of_negated [] = refl
sizes_of_negated (a ∷ form) =
    let here : nat_abs (neg_ℤ a) ≡ nat_abs a = omega linear in
    sum_by-cons nat_abs (neg_ℤ a) (negate integers form) ∙ ap₂ {A = ℕ} {B = ℕ} {C = ℕ} (λ x y. x + y) here (sizes_of_negated form) ∙ sym (sum_by-cons nat_abs a form)

-- ---- one column more is balanced

scale_zeros : (k : ℤ) (n : ℕ) → scale integers k (zeros integers n) ≡ zeros integers n
scale_zeros k zero = refl
scale_zeros k (suc n) = ap₂ {A = ℤ} {B = List ℤ} {C = List ℤ} (λ h t. h ∷ t) (mul_zero k) (scale_zeros k n)

add_zeros : (n : ℕ) (l : List ℤ) → length l ≡ n → add integers (zeros integers n) l ≡ l
add_zeros zero [] e = refl
add_zeros zero (x ∷ l) e = absurd (omega arith)
add_zeros (suc n) [] e = absurd (omega arith)
add_zeros (suc n) (x ∷ l) e = ap₂ {A = ℤ} {B = List ℤ} {C = List ℤ} (λ h t. h ∷ t) (omega linear) (add_zeros n l (omega arith))

-- minus the coefficient, as often as the column's unit form, takes the column's number away
pub less-more : (n j : ℕ) (l c : List ℤ) (k : ℤ) → length l ≡ n → length c ≡ n → j < n → k ≡ neg_ℤ (get_or c j (pos 0)) → add integers (scale integers k (unit n j)) (less j l c) ≡ less (suc j) l c
less-more zero j l c k el ec h e = absurd (omega arith)
less-more (suc n) j [] c k el ec h e = absurd (omega arith)
less-more (suc n) j (x ∷ l) [] k el ec h e = absurd (omega arith)
less-more (suc n) zero (x ∷ l) (y ∷ c) k el ec h e = ap₂ {A = ℤ} {B = List ℤ} {C = List ℤ} (λ h t. h ∷ t) (omega (linear, mul_one k)) (ap (λ z. add integers z l) (scale_zeros k n) ∙ add_zeros n l (omega arith))
less-more (suc n) (suc j) (x ∷ l) (y ∷ c) k el ec h e = ap₂ {A = ℤ} {B = List ℤ} {C = List ℤ} (λ h t. h ∷ t) (omega (linear, mul_zero k)) (less-more n j l c k (omega arith) (omega arith) (omega arith) e)

-- a column without a coefficient needs nothing
pub less-skip : (n j : ℕ) (l c : List ℤ) → length l ≡ n → length c ≡ n → j < n → get_or c j (pos 0) ≡ pos 0 → less (suc j) l c ≡ less j l c
less-skip zero j l c el ec h e = absurd (omega arith)
less-skip (suc n) j [] c el ec h e = absurd (omega arith)
less-skip (suc n) j (x ∷ l) [] el ec h e = absurd (omega arith)
less-skip (suc n) zero (x ∷ l) (y ∷ c) el ec h e = ap {B = List ℤ} (λ h. h ∷ l) (omega linear)
less-skip (suc n) (suc j) (x ∷ l) (y ∷ c) el ec h e = ap {B = List ℤ} (λ t. (x -ℤ y) ∷ t) (less-skip n j l c (omega arith) (omega arith) (omega arith) e)

-- as often as minus the form is as often the other way as the form
pub scale-negate : (k : ℤ) (form : List ℤ) → scale integers k (negate integers form) ≡ scale integers (neg_ℤ k) form
scale-negate k [] = refl
scale-negate k (a ∷ form) = ap₂ {A = ℤ} {B = List ℤ} {C = List ℤ} (λ h t. h ∷ t) (omega (linear, mul_neg k a, neg_mul k a)) (scale-negate k form)

-- all of a list lessened by itself is zero
pub less-itself : (n : ℕ) (c : List ℤ) → length c ≡ n → less n c c ≡ zeros integers n
less-itself zero [] e = refl
less-itself zero (x ∷ c) e = absurd (omega arith)
less-itself (suc n) [] e = absurd (omega arith)
less-itself (suc n) (x ∷ c) e = ap₂ {A = ℤ} {B = List ℤ} {C = List ℤ} (λ h t. h ∷ t) (omega linear) (less-itself n c (omega arith))

-- a list and zeros lessened by it
pub add-less_zeros : (n : ℕ) (c : List ℤ) → length c ≡ n → add integers c (less n (zeros integers n) c) ≡ zeros integers n
add-less_zeros zero [] e = refl
add-less_zeros zero (x ∷ c) e = absurd (omega arith)
add-less_zeros (suc n) [] e = absurd (omega arith)
add-less_zeros (suc n) (x ∷ c) e = ap₂ {A = ℤ} {B = List ℤ} {C = List ℤ} (λ h t. h ∷ t) (omega linear) (add-less_zeros n c (omega arith))
