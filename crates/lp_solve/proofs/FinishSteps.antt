-- What the loops that read the last dictionary use.
use Rattle.std.proofs.Common.{◌≡◌, ℕ, zero, suc, ◌+◌, ◌≤◌, List, [], ◌∷◌, ◌++◌, length, map, refl, ap, ap₂, ◌∙◌, arith, add-one}
use Rattle.exact_math.specs.Rational.{ℚ}
use Rattle.exact_math.specs.RationalRing.{rationals}
use Rattle.exact_vectors.specs.Matrices.{column}
use Rattle.lp_dict.specs.Dictionaries.{numbers_from}

-- a column has an item for each row
pub length-column : (rows : List (List ℚ)) (j : ℕ) → length (column rationals rows j) ≡ length rows
length-column [] j = refl
length-column (row ∷ rows) j = ap suc (length-column rows j)

-- one more value
pub values_more : (f : ℕ → ℚ) (first i : ℕ) → map f (numbers_from first i) ++ f (first + i) ∷ [] ≡ map f (numbers_from first (i + 1))
values_more f first i = rw add-one (go f first i)
  where
    go : (f : ℕ → ℚ) (first i : ℕ) → map f (numbers_from first i) ++ f (first + i) ∷ [] ≡ map f (numbers_from first (suc i))
    go f first zero = let same : first + 0 ≡ first = omega arith in ap (λ n. f n ∷ []) same
    go f first (suc i) = let same : first + suc i ≡ suc first + i = omega arith in ap (λ n. f first ∷ (map f (numbers_from (suc first) i) ++ f n ∷ [])) same ∙ ap (λ l. f first ∷ l) (go f (suc first) i)

-- a value is put at the end
pub value_next : (f : ℕ → ℚ) (first i place : ℕ) (items new : List ℚ) (x : ℚ) → items ≡ map f (numbers_from first i) → new ≡ items ++ x ∷ [] → x ≡ f place → place ≡ first + i → new ≡ map f (numbers_from first (i + 1))
value_next f first i place items new x done put value at = put ∙ ap₂ (λ l q. l ++ q ∷ []) done (value ∙ ap f at) ∙ values_more f first i

-- all values
pub values_all : (f : ℕ → ℚ) (first i count : ℕ) (items : List ℚ) → items ≡ map f (numbers_from first i) → count ≤ i → i ≤ count → items ≡ map f (numbers_from first count)
values_all f first i count items done low high = let end : i ≡ count = omega arith in done ∙ ap (λ n. map f (numbers_from first n)) end
