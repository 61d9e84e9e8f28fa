-- Sizes of rows.
use Rattle.std.specs.Prelude.{ℕ, zero, suc, ◌+◌, max, ℤ, List, [], ◌∷◌, nat_abs}

-- the greatest size of an entry; 0 where all are 0
abbrev pub greatest_size : List ℤ → ℕ
greatest_size [] = 0
greatest_size (entry ∷ entries) = max (nat_abs entry) (greatest_size entries)

-- 1 for a size above 0
abbrev pub one_if_some : ℕ → ℕ
one_if_some zero = 0
one_if_some (suc n) = 1

-- how many rows have an entry other than 0
abbrev pub sloping : List (List ℤ) → ℕ
sloping [] = 0
sloping (row ∷ rows) = one_if_some (greatest_size row) + sloping rows
