-- Vectors as lists over a commutative ring. Two lists of different lengths are read as far as the shorter one goes.
-- Each word is an `abbrev` of the file's own recursion, so that a proof by cases on the lists computes without a further line: `dot integers (a ∷ v) (x ∷ w)` is `(a *ℤ x) +ℤ dot integers v w`.
use Rattle.std.specs.Prelude.{ℕ, zero, suc, List, [], ◌∷◌, map, replicate, pos}
use Rattle.exact_math.specs.Ring.{Ring}

-- the dot product: the sum of the products of the items at one index
abbrev pub dot : {A : Type 0} → Ring A → List A → List A → A
dot r [] w = r.literal (pos 0)
dot r (a ∷ v) [] = r.literal (pos 0)
dot r (a ∷ v) (x ∷ w) = r.add (r.mul a x) (dot r v w)

-- the sum of the items
abbrev pub sum : {A : Type 0} → Ring A → List A → A
sum r [] = r.literal (pos 0)
sum r (a ∷ v) = r.add a (sum r v)

-- each item times `k`
abbrev pub scale : {A : Type 0} → Ring A → A → List A → List A
scale r k = map (r.mul k)

-- each item with the other sign
abbrev pub negate : {A : Type 0} → Ring A → List A → List A
negate r = map r.neg

-- the sums of the items at one index
abbrev pub add : {A : Type 0} → Ring A → List A → List A → List A
add r [] w = []
add r (a ∷ v) [] = []
add r (a ∷ v) (b ∷ w) = r.add a b ∷ add r v w

-- `n` zeros
abbrev pub zeros : {A : Type 0} → Ring A → ℕ → List A
zeros r n = replicate n (r.literal (pos 0))

-- the sum of `f i` over each `i` below `n`
abbrev pub sum_below : {A : Type 0} → Ring A → ℕ → (ℕ → A) → A
sum_below r zero f = r.literal (pos 0)
sum_below r (suc n) f = r.add (sum_below r n f) (f n)
