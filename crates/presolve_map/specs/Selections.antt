-- Parts of lists by flags, and where the flags are set.
use Rattle.std.specs.Prelude.{ℕ, suc, Bool, true, false, List, [], ◌∷◌}

-- the items whose flag is set
abbrev pub select : {A : Type 0} → List Bool → List A → List A
select [] xs = []
select (flag ∷ flags) [] = []
select (true ∷ flags) (x ∷ xs) = x ∷ select flags xs
select (false ∷ flags) (x ∷ xs) = select flags xs

-- the numbers of the flags that are set, where the first flag has the number `first`
abbrev pub positions : ℕ → List Bool → List ℕ
positions first [] = []
positions first (true ∷ flags) = first ∷ positions (suc first) flags
positions first (false ∷ flags) = positions (suc first) flags
