-- Polynomials over a commutative ring: expressions over a list of atoms, and their normal form, a sorted list of terms with whole coefficients.
use Rattle.std.proofs.Common.{ℕ, zero, suc, ℤ, pos, negsuc, ◌+ℤ◌, ◌*ℤ◌, Bool, true, false, eqb, ltb, List, [], ◌∷◌, get_or}
use Rattle.exact_math.specs.Ring.{Ring}

-- an expression; `atom i` stands for the i-th item of the list of atoms
pub data Expression : Type 0 where
  atom : ℕ → Expression
  number : ℤ → Expression
  plus : Expression → Expression → Expression
  times : Expression → Expression → Expression
  minus : Expression → Expression

-- the atom of an index, and zero past the end
abbrev pub atom_at : {A : Type 0} → Ring A → List A → ℕ → A
atom_at r atoms i = get_or atoms i (r.literal (pos 0))

-- what an expression means over given atoms
abbrev pub value : {A : Type 0} → Ring A → List A → Expression → A
value r atoms (atom i) = atom_at r atoms i
value r atoms (number n) = r.literal n
value r atoms (plus e f) = r.add (value r atoms e) (value r atoms f)
value r atoms (times e f) = r.mul (value r atoms e) (value r atoms f)
value r atoms (minus e) = r.neg (value r atoms e)

-- a term: a coefficient, and the indices of its factors in rising order
pub record Term : Type 0 where
  pub coefficient : ℤ
  pub factors : List ℕ

-- the product of the atoms of a list of indices
abbrev pub product_of : {A : Type 0} → Ring A → List A → List ℕ → A
product_of r atoms [] = r.literal (pos 1)
product_of r atoms (i ∷ m) = r.mul (atom_at r atoms i) (product_of r atoms m)

-- what a term means
abbrev pub term_value : {A : Type 0} → Ring A → List A → Term → A
term_value r atoms t = r.mul (r.literal t.coefficient) (product_of r atoms t.factors)

-- what a sum of terms means
abbrev pub sum_of : {A : Type 0} → Ring A → List A → List Term → A
sum_of r atoms [] = r.literal (pos 0)
sum_of r atoms (t ∷ p) = r.add (term_value r atoms t) (sum_of r atoms p)

-- where one product of factors stands beside another in the sorted list
pub data Place : Type 0 where
  earlier same later : Place

-- the lexicographic order in which a product comes before its own beginnings: a common factor keeps it
abbrev pub place : List ℕ → List ℕ → Place
place [] [] = same
place [] (j ∷ n) = later
place (i ∷ m) [] = earlier
place (i ∷ m) (j ∷ n) = elim (eqb i j) [ true ↦ place m n | false ↦ elim (ltb i j) [ true ↦ earlier | false ↦ later ] ]

-- the factors `i ∷ m` and `n` together, where `rest` joins `m` to a list
abbrev pub join_factors : ℕ → List ℕ → (List ℕ → List ℕ) → List ℕ → List ℕ
join_factors i m rest [] = i ∷ m
join_factors i m rest (j ∷ n) = elim (ltb j i) [ true ↦ j ∷ join_factors i m rest n | false ↦ i ∷ rest (j ∷ n) ]

-- the factors of a product of two
abbrev pub multiply_factors : List ℕ → List ℕ → List ℕ
multiply_factors [] n = n
multiply_factors (i ∷ m) n = join_factors i m (λ k. multiply_factors m k) n

-- whether a coefficient is zero
abbrev pub is_zero : ℤ → Bool
is_zero (pos zero) = true
is_zero (pos (suc n)) = false
is_zero (negsuc n) = false

-- a term in front of a sum, unless its coefficient is zero
abbrev pub put_term : ℤ → List ℕ → List Term → List Term
put_term c m p = elim (is_zero c) [ true ↦ p | false ↦ record { coefficient = c; factors = m } ∷ p ]

-- the sum of `t ∷ p` and `q`, where `rest` adds `p` to a sum
abbrev pub join_terms : Term → List Term → (List Term → List Term) → List Term → List Term
join_terms t p rest [] = t ∷ p
join_terms t p rest (s ∷ q) = elim (place t.factors s.factors) [
  | earlier ↦ t ∷ rest (s ∷ q)
  | same ↦ put_term (t.coefficient +ℤ s.coefficient) t.factors (rest q)
  | later ↦ s ∷ join_terms t p rest q
]

-- the sum of two sorted sums
abbrev pub add_sums : List Term → List Term → List Term
add_sums [] q = q
add_sums (t ∷ p) q = join_terms t p (λ s. add_sums p s) q

-- a term times another
abbrev pub multiply_terms : Term → Term → Term
multiply_terms t s = record { coefficient = t.coefficient *ℤ s.coefficient; factors = multiply_factors t.factors s.factors }

-- a term times a sum
abbrev pub scale_sum : Term → List Term → List Term
scale_sum t [] = []
scale_sum t (s ∷ q) = multiply_terms t s ∷ scale_sum t q

-- the product of two sorted sums
abbrev pub multiply_sums : List Term → List Term → List Term
multiply_sums [] q = []
multiply_sums (t ∷ p) q = add_sums (scale_sum t q) (multiply_sums p q)

-- the normal form
abbrev pub normal : Expression → List Term
normal (atom i) = record { coefficient = pos 1; factors = i ∷ [] } ∷ []
normal (number n) = put_term n [] []
normal (plus e f) = add_sums (normal e) (normal f)
normal (times e f) = multiply_sums (normal e) (normal f)
normal (minus e) = scale_sum (record { coefficient = negsuc 0; factors = [] }) (normal e)
