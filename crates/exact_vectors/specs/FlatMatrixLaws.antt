-- Matrices that are one list in row order: their rows, and what a changed item changes.
use Rattle.std.proofs.Common.{◌≡◌, ℕ, zero, suc, ◌+◌, ◌*◌, ◌<◌, ◌≤◌, List, [], ◌∷◌, length, get_or, take, drop, set, refl, ap, ap₂, ◌∙◌, arith, length-take, length-drop, drop-drop, get_or-take, get_or-drop}
use Rattle.std.proofs.Math.Seq.{take-set-le, take-set-lt, drop-set-lt, drop-set-add}
use Rattle.exact_vectors.specs.Matrices.{HasWidth, rows_of}

module _ {A : Type 0} where
  -- an item changed: it changes in its row, and the other rows stay
  pub rows_of-set : (n m : ℕ) (flat : List A) (i j : ℕ) (b : A) → i < m → j < n → rows_of n m (set flat (i * n + j) b) ≡ set (rows_of n m flat) i (set (get_or (rows_of n m flat) i []) j b)
  rows_of-set n zero flat i j b h k = absurd (omega arith)
  rows_of-set n (suc m) flat zero j b h k =
      let place : 0 * n + j ≡ j = omega arith in
      rw place (ap₂ (λ (row : List A) (rest : List A). row ∷ rows_of n m rest) (take-set-lt n flat j b k) (drop-set-lt n flat j b k))
  rows_of-set n (suc m) flat (suc i) j b h k =
      let place : suc i * n + j ≡ n + (i * n + j) = omega arith in
      rw place (ap₂ (λ (row : List A) (rest : List A). row ∷ rows_of n m rest) (take-set-le n flat (n + (i * n + j)) b (omega arith)) (drop-set-add n flat (i * n + j) b))
      ∙ ap {B = List (List A)} (λ rows. take n flat ∷ rows) (rows_of-set n m (drop n flat) i j b (omega arith) k)

  -- the item of a row stands at the row's index times the width, plus its own
  pub rows_of-item : (n m : ℕ) (flat : List A) (i j : ℕ) (d : A) → i < m → j < n → get_or (get_or (rows_of n m flat) i []) j d ≡ get_or flat (i * n + j) d
  rows_of-item n zero flat i j d h k = absurd (omega arith)
  rows_of-item n (suc m) flat zero j d h k = let place : 0 * n + j ≡ j = omega arith in rw place (get_or-take n flat j d k)
  rows_of-item n (suc m) flat (suc i) j d h k = rows_of-item n m (drop n flat) i j d (omega arith) k ∙ get_or-drop n flat (i * n + j) d ∙ ap (λ p. get_or flat p d) (omega arith)

-- the number of rows of a flat matrix
pub length-rows_of : {A : Type 0} (n m : ℕ) (flat : List A) → length (rows_of n m flat) ≡ m
length-rows_of n zero flat = refl
length-rows_of n (suc m) flat = ap suc (length-rows_of n m (drop n flat))

-- a flat matrix with enough items has its width
pub HasWidth-rows_of : {A : Type 0} (n m : ℕ) (flat : List A) → m * n ≤ length flat → HasWidth n (rows_of n m flat)
HasWidth-rows_of n zero flat h = tt
HasWidth-rows_of n (suc m) flat h =
    let enough : n + m * n ≤ length flat = omega arith in
    let first : length (take n flat) ≡ n = simp length-take (omega arith) in
    let others : m * n ≤ length (drop n flat) = simp length-drop (omega arith) in
    (first, HasWidth-rows_of n m (drop n flat) others)

-- the row of an index stands at its multiple of the width
pub rows_of-at : {A : Type 0} (n m : ℕ) (flat : List A) (i : ℕ) (e : List A) → i < m → get_or (rows_of n m flat) i e ≡ take n (drop (i * n) flat)
rows_of-at n zero flat i e h = absurd (omega arith)
rows_of-at n (suc m) flat zero e h = ap (λ k. take n (drop k flat)) (zero-is n)
  where
    zero-is : (n : ℕ) → 0 ≡ 0 * n
    zero-is n = omega arith
rows_of-at n (suc m) flat (suc i) e h = rows_of-at n m (drop n flat) i e (omega arith) ∙ ap (take n) (drop-drop (i * n) n flat) ∙ ap (λ k. take n (drop k flat)) (next n i)
  where
    next : (n i : ℕ) → n + i * n ≡ suc i * n
    next n i = omega arith
