-- What the loops that write the pair system use.
use Rattle.std.proofs.Common.{◌≡◌, ℕ, zero, suc, ◌+◌, ◌<◌, ◌≤◌, ℤ, List, [], ◌∷◌, ◌++◌, length, get_or, take, refl, sym, ap, ap₂, ◌∙◌, arith, add-one, append_assoc, length-append}
use Rattle.std.specs.Prelude.{flat_map}
use Rattle.std.proofs.lemmas.List.{take_all}
use Rattle.std.proofs.lemmas.List.Concat.{flat_map-cons}
use Rattle.exact_math.specs.Ring.{integers}
use Rattle.exact_vectors.specs.Vectors.{scale}
use Rattle.exact_vectors.specs.MatrixLaws as Matrix
use Rattle.spaces.specs.Tables.{Table, rows_in, row_at}
use Rattle.spaces.specs.TableLaws as Table
use Rattle.norm_gauge.specs.PairTables.{pair_row}

-- one more row is taken
flat_map-take : (f : List ℤ → List ℤ) (rows : List (List ℤ)) (k : ℕ) → k < length rows → flat_map f (take (suc k) rows) ≡ flat_map f (take k rows) ++ f (get_or rows k [])
flat_map-take f [] k h = absurd (omega arith)
flat_map-take f (row ∷ rows) zero h = rw flat_map-cons (append_nil (f row))
  where
    append_nil : (l : List ℤ) → l ++ [] ≡ l
    append_nil [] = refl
    append_nil (a ∷ l) = ap (λ r. a ∷ r) (append_nil l)
flat_map-take f (row ∷ rows) (suc k) h = rw (flat_map-cons, flat_map-cons, append_assoc) (ap (λ l. f row ++ l) (flat_map-take f rows k (omega arith)))

-- what one more row puts at the end
pub mapped_more : (f : List ℤ → List ℤ) (t : Table ℤ) (old now next row : List ℤ) (k : ℕ) → k < t.rows → row ≡ row_at t k → now ≡ old ++ flat_map f (take k (rows_in t)) → next ≡ now ++ f row → next ≡ old ++ flat_map f (take (k + 1) (rows_in t))
mapped_more f t old now next row k h r done put =
    let there : k < length (rows_in t) = omega (arith, Table.length-rows_in t) in
    let last : f row ≡ f (get_or (rows_in t) k []) = ap f (r ∙ sym (Table.rows_in-at t k h)) in
    put ∙ ap₂ (λ a b. a ++ b) done last ∙ append_assoc old _ _ ∙ ap (λ l. old ++ l) (sym (flat_map-take f (rows_in t) k there)) ∙ ap (λ n. old ++ flat_map f (take n (rows_in t))) (sym (add-one k))

-- all rows are taken
pub mapped_all : (f : List ℤ → List ℤ) (t : Table ℤ) (old now : List ℤ) (k : ℕ) → t.rows ≤ k → now ≡ old ++ flat_map f (take k (rows_in t)) → now ≡ old ++ flat_map f (rows_in t)
mapped_all f t old now k h done = done ∙ ap (λ rows. old ++ flat_map f rows) (take_all k (rows_in t) (omega (arith, Table.length-rows_in t)))

-- a row of the pair system is twice as long as the row
pub length-pair_row : (n : ℕ) (first second : ℤ) (row : List ℤ) → length row ≡ n → length (pair_row first second row) ≡ n + n
length-pair_row n first second row h = length-append (scale integers first row) (scale integers second row) ∙ ap₂ (λ a b. a + b) (Matrix.length-scale integers first row ∙ h) (Matrix.length-scale integers second row ∙ h)
