-- Items by flags, and the places of the flags.
use Rattle.std.proofs.Common.{◌≡◌, ℕ, zero, suc, ◌+◌, ◌<◌, ◌≤◌, Bool, true, false, List, [], ◌∷◌, length, drop, get_or, ℤ, refl, ap, add-one, drop-cons, arith}
use Rattle.std.specs.Prelude.{All}
use Rattle.std.proofs.lemmas.List.Elements.{All-nil, All-cons, All-head, All-tail}
use Rattle.whole_rows.specs.declared.bounds.Bounds.{Bounds}
use Rattle.whole_rows.specs.WholeRows.{span}
use Rattle.presolve_map.specs.Selections.{select, positions}

-- ---- a loop's step

pub select-set : {A : Type 0} (flags : List Bool) (xs : List A) (i : ℕ) (b : Bool) (d : A) → i < length flags → i < length xs → get_or flags i b ≡ true → select (drop i flags) (drop i xs) ≡ get_or xs i d ∷ select (drop (i + 1) flags) (drop (i + 1) xs)
select-set {A} flags xs i b d h k e = rw (add-one, drop-cons flags i b, drop-cons xs i d, e) refl

pub select-unset : {A : Type 0} (flags : List Bool) (xs : List A) (i : ℕ) (b : Bool) → i < length flags → i < length xs → get_or flags i b ≡ false → select (drop i flags) (drop i xs) ≡ select (drop (i + 1) flags) (drop (i + 1) xs)
select-unset {A} flags xs i b h k e = rw (add-one i) (past flags xs i h k e)
  where
    past : (flags : List Bool) (xs : List A) (i : ℕ) → i < length flags → i < length xs → get_or flags i b ≡ false → select (drop i flags) (drop i xs) ≡ select (drop (suc i) flags) (drop (suc i) xs)
    past [] xs i h k e = absurd (omega arith)
    past (f ∷ flags) [] i h k e = absurd (omega arith)
    past (f ∷ flags) (x ∷ xs) zero h k e = ap (λ (t : Bool). select (t ∷ flags) (x ∷ xs)) e
    past (f ∷ flags) (x ∷ xs) (suc i) h k e = past flags xs i (omega arith) (omega arith) e

pub positions-set : (flags : List Bool) (i k : ℕ) (b : Bool) → i < length flags → get_or flags i b ≡ true → positions k (drop i flags) ≡ k ∷ positions (k + 1) (drop (i + 1) flags)
positions-set flags i k b h e = rw (add-one k, add-one i, drop-cons flags i b, e) refl

pub positions-unset : (flags : List Bool) (i k : ℕ) (b : Bool) → i < length flags → get_or flags i b ≡ false → positions k (drop i flags) ≡ positions (k + 1) (drop (i + 1) flags)
positions-unset flags i k b h e = rw (add-one k, add-one i, drop-cons flags i b, e) refl

-- past the end
pub select-end : {A : Type 0} (flags : List Bool) (xs : List A) (i : ℕ) → length flags ≤ i → select (drop i flags) (drop i xs) ≡ []
select-end [] xs zero h = refl
select-end [] xs (suc i) h = refl
select-end (f ∷ flags) xs zero h = absurd (omega arith)
select-end (f ∷ flags) [] (suc i) h = nothing (drop i flags)
  where
    nothing : {A : Type 0} (flags : List Bool) → select {A = A} flags [] ≡ []
    nothing [] = refl
    nothing (f ∷ flags) = refl
select-end (f ∷ flags) (x ∷ xs) (suc i) h = select-end flags xs i (omega arith)

pub positions-end : (flags : List Bool) (i k : ℕ) → length flags ≤ i → positions k (drop i flags) ≡ []
positions-end [] zero k h = refl
positions-end [] (suc i) k h = refl
positions-end (f ∷ flags) zero k h = absurd (omega arith)
positions-end (f ∷ flags) (suc i) k h = positions-end flags i k (omega arith)

-- ---- how many

pub length-select : {A : Type 0} (flags : List Bool) (xs : List A) (k : ℕ) → length flags ≡ length xs → length (select flags xs) ≡ length (positions k flags)
length-select [] xs k e = refl
length-select (f ∷ flags) [] k e = absurd (omega arith)
length-select (true ∷ flags) (x ∷ xs) k e = ap suc (length-select flags xs (suc k) (omega arith))
length-select (false ∷ flags) (x ∷ xs) k e = length-select flags xs (suc k) (omega arith)

pub positions_le : (flags : List Bool) (k : ℕ) → length (positions k flags) ≤ length flags
positions_le [] k = omega arith
positions_le (true ∷ flags) k = omega (arith, positions_le flags (suc k))
positions_le (false ∷ flags) k = omega (arith, positions_le flags (suc k))

-- ---- facts of all

pub All-select : {A : Type 0} (P : A → Type 0) (flags : List Bool) (xs : List A) → All P xs → All P (select flags xs)
All-select P [] xs h = All-nil P
All-select P (f ∷ flags) [] h = All-nil P
All-select P (true ∷ flags) (x ∷ xs) h = All-cons P x (select flags xs) (All-head P x xs h) (All-select P flags xs (All-tail P x xs h))
All-select P (false ∷ flags) (x ∷ xs) h = All-select P flags xs (All-tail P x xs h)

-- ---- spans

span-nil : (factors : List ℤ) → span factors [] ≡ 0
span-nil [] = refl
span-nil (a ∷ factors) = refl

pub span-select : (flags : List Bool) (factors : List ℤ) (box : List Bounds) → span (select flags factors) (select flags box) ≤ span factors box
span-select [] factors box = omega arith
span-select (f ∷ flags) [] box = omega arith
span-select (true ∷ flags) (a ∷ factors) [] = omega arith
span-select (false ∷ flags) (a ∷ factors) [] = omega (arith, span-nil (select flags factors))
span-select (true ∷ flags) (a ∷ factors) (b ∷ box) = omega (arith, span-select flags factors box)
span-select (false ∷ flags) (a ∷ factors) (b ∷ box) = omega (arith, span-select flags factors box)
