-- Greatest sizes, and how many rows have one above 0.
use Rattle.std.proofs.Common.{◌≡◌, ℕ, zero, suc, ◌+◌, ◌<◌, ◌≤◌, ℤ, pos, nat_abs, List, [], ◌∷◌, ◌++◌, length, get_or, take, refl, ap, ◌∙◌, arith}
use Rattle.std.specs.Prelude.{All}
use Rattle.std.proofs.Math.Nat.{le-max_left, le-max_right}
use Rattle.std.proofs.lemmas.Int.{ints}
use Rattle.std.proofs.lemmas.List.{take_more, take_all}
use Rattle.std.proofs.lemmas.List.Elements.{All-cons, All-nil, All-weaker}
use Rattle.thin_columns.specs.Sizes.{greatest_size, one_if_some, sloping}

-- no entry is larger
pub size_most : (v : List ℤ) → All (λ entry. nat_abs entry ≤ greatest_size v) v
size_most [] = All-nil (λ (entry : ℤ). nat_abs entry ≤ 0)
size_most (a ∷ v) =
    let size = greatest_size (a ∷ v) in
    All-cons (λ (entry : ℤ). nat_abs entry ≤ size) a v (le-max_left (nat_abs a) (greatest_size v))
    (All-weaker (λ (entry : ℤ). nat_abs entry ≤ greatest_size v) (λ (entry : ℤ). nat_abs entry ≤ size) (λ entry h. omega (arith, h, le-max_right (nat_abs a) (greatest_size v))) v (size_most v))

-- entries of size 0 are 0
pub none_sloping : (v : List ℤ) → greatest_size v ≡ 0 → All (λ entry. entry ≡ pos 0) v
none_sloping v e =
    All-weaker (λ (entry : ℤ). nat_abs entry ≤ greatest_size v) (λ (entry : ℤ). entry ≡ pos 0) (λ entry h. size entry (omega (arith, h, e))) v (size_most v)
  where
    size : (z : ℤ) → nat_abs z ≡ 0 → z ≡ pos 0
    size z h = omega (arith, ints, h)

pub one_of_none : (n : ℕ) → n ≡ 0 → one_if_some n ≡ 0
one_of_none n e = ap one_if_some e

pub one_of_some : (n : ℕ) → (n ≡ 0 → ⊥) → one_if_some n ≡ 1
one_of_some zero h = absurd (h refl)
one_of_some (suc n) h = refl

sloping-append : (rows : List (List ℤ)) (row : List ℤ) → sloping (rows ++ row ∷ []) ≡ sloping rows + one_if_some (greatest_size row)
sloping-append [] row = omega arith
sloping-append (first ∷ rows) row = omega (arith, sloping-append rows row)

-- one more row
pub sloping_more : (rows : List (List ℤ)) (i : ℕ) → i < length rows → sloping (take (i + 1) rows) ≡ sloping (take i rows) + one_if_some (greatest_size (get_or rows i []))
sloping_more rows i lt = ap sloping (take_more rows i [] lt) ∙ sloping-append (take i rows) (get_or rows i [])

pub sloping_all : (rows : List (List ℤ)) (i : ℕ) → length rows ≤ i → sloping (take i rows) ≡ sloping rows
sloping_all rows i h = ap sloping (take_all i rows h)

-- no more rows than were taken
pub sloping_few : (rows : List (List ℤ)) (i : ℕ) → sloping (take i rows) ≤ i
sloping_few rows zero = omega arith
sloping_few [] (suc i) = omega arith
sloping_few (row ∷ rows) (suc i) = omega (arith, sloping_few rows i, one (greatest_size row))
  where
    one : (n : ℕ) → one_if_some n ≤ 1
    one zero = omega arith
    one (suc n) = omega arith
