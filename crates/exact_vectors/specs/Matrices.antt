-- Matrices over a commutative ring as lists of rows. The number of columns is given where an empty matrix would not show it.
use Rattle.std.specs.Prelude.{◌≡◌, ℕ, zero, suc, List, [], ◌∷◌, length, get_or, take, drop, replicate, pos}
use Rattle.exact_math.specs.Ring.{Ring}
use Rattle.exact_vectors.specs.Vectors.{dot, scale, add, zeros}

-- each row has `n` items
abbrev pub HasWidth : {A : Type 0} → ℕ → List (List A) → Type 0
HasWidth n [] = Unit {0}
HasWidth n (row ∷ rows) = (length row ≡ n) × HasWidth n rows

-- the product with a vector: the dot product of each row with it
abbrev pub times_vector : {A : Type 0} → Ring A → List (List A) → List A → List A
times_vector r [] x = []
times_vector r (row ∷ rows) x = dot r row x ∷ times_vector r rows x

-- the combination of the rows with the multipliers `y`: the product of the transpose with `y`
abbrev pub combination : {A : Type 0} → Ring A → ℕ → List A → List (List A) → List A
combination r n [] rows = zeros r n
combination r n (k ∷ y) [] = zeros r n
combination r n (k ∷ y) (row ∷ rows) = add r (scale r k row) (combination r n y rows)

-- the items of one column
abbrev pub column : {A : Type 0} → Ring A → List (List A) → ℕ → List A
column r [] j = []
column r (row ∷ rows) j = get_or row j (r.literal (pos 0)) ∷ column r rows j

-- a first row in front of each column
abbrev pub put_row : {A : Type 0} → List A → List (List A) → List (List A)
put_row [] columns = []
put_row (a ∷ row) [] = []
put_row (a ∷ row) (c ∷ columns) = (a ∷ c) ∷ put_row row columns

-- the transpose of a matrix of `n` columns
abbrev pub transpose : {A : Type 0} → ℕ → List (List A) → List (List A)
transpose n [] = replicate n []
transpose n (row ∷ rows) = put_row row (transpose n rows)

-- the product of two matrices, the second of `n` columns: each row combines the rows of the second
abbrev pub times_matrix : {A : Type 0} → Ring A → ℕ → List (List A) → List (List A) → List (List A)
times_matrix r n [] right = []
times_matrix r n (row ∷ rows) right = combination r n row right ∷ times_matrix r n rows right

-- the `m` rows of `n` items each of a matrix that is one list in row order
abbrev pub rows_of : {A : Type 0} → ℕ → ℕ → List A → List (List A)
rows_of n zero flat = []
rows_of n (suc m) flat = take n flat ∷ rows_of n m (drop n flat)
