-- Steps of the loops that write a matrix row after row, and a row item after item.
use Rattle.std.proofs.Common.{◌≡◌, ⊎_elim, ℕ, zero, suc, ◌+◌, ◌*◌, ◌<◌, ◌≤◌, ℤ, pos, List, [], ◌∷◌, length, map, get_or, set, refl, sym, ap, subst, ◌∙◌, arith, below_more, get_or-set_other, get_or-set_same}
use Rattle.std.specs.List.{remove}
use Rattle.std.proofs.lemmas.Bool.{cases_lt}
use Rattle.std.proofs.lemmas.List.{ext_get_or}
use Rattle.std.proofs.lemmas.List.Edits.{get_or-remove_above, get_or-remove_below}
use Rattle.exact_math.specs.Ring.{integers}
use Rattle.exact_vectors.specs.Matrices.{HasWidth, column, transpose}
use Rattle.exact_vectors.specs.MatrixLaws as Matrix
use Rattle.spaces.specs.Tables.{Table, row_at, rows_in, with_row}
use Rattle.spaces.specs.TableLaws as Tables
use Rattle.unimodular_pair.specs.PairLaws.{length-column}
use Rattle.reformulate.proofs.VectorSteps.{column-transpose, HasWidth-transpose}

-- a row more
pub row_more : (t : Table ℤ) (rows : List (List ℤ)) (i : ℕ) (row : List ℤ) → length t.items ≡ t.rows * t.width → i < t.rows → length row ≡ t.width → row ≡ get_or rows i []
    → ((j : ℕ) → j < i → get_or (rows_in t) j [] ≡ get_or rows j []) → (j : ℕ) → j < i + 1 → get_or (rows_in (with_row t i row)) j [] ≡ get_or rows j []
row_more t rows i row size below long is done =
    let long_rows = Tables.length-rows_in t in
    subst (λ (l : List (List ℤ)). (j : ℕ) → j < i + 1 → get_or l j [] ≡ get_or rows j []) (sym (Tables.rows_in-with_row t i row size below long))
    (below_more _ _ (λ j lt. get_or-set_other (rows_in t) i j row [] (omega arith) ∙ done j lt) (get_or-set_same (rows_in t) i row [] (omega (arith, long_rows)) ∙ is))

-- all rows
pub rows_all : (t : Table ℤ) (rows : List (List ℤ)) (i : ℕ) → length rows ≡ t.rows → t.rows ≤ i → ((j : ℕ) → j < i → get_or (rows_in t) j [] ≡ get_or rows j []) → rows_in t ≡ rows
rows_all t rows i same past done =
    let long = Tables.length-rows_in t in
    ext_get_or [] (rows_in t) rows (long ∙ sym same) (λ j lt. done j (omega (arith, long)))

-- an item more
pub item_more : (items target : List ℤ) (k : ℕ) (value : ℤ) → k < length items → value ≡ get_or target k (pos 0) → ((m : ℕ) → m < k → get_or items m (pos 0) ≡ get_or target m (pos 0)) → (m : ℕ) → m < k + 1 → get_or (set items k value) m (pos 0) ≡ get_or target m (pos 0)
item_more items target k value below is done = below_more _ _ (λ m lt. get_or-set_other items k m value (pos 0) (omega arith) ∙ done m lt) (get_or-set_same items k value (pos 0) below ∙ is)

-- all items
pub items_all : (items target : List ℤ) (k : ℕ) → length items ≡ length target → length items ≤ k → ((m : ℕ) → m < k → get_or items m (pos 0) ≡ get_or target m (pos 0)) → items ≡ target
items_all items target k same past done = ext_get_or (pos 0) items target same (λ m lt. done m (omega arith))

-- the item of a column
pub column_item : (t : Table ℤ) (place k : ℕ) → k < t.rows → get_or (row_at t k) place (pos 0) ≡ get_or (column integers (rows_in t) place) k (pos 0)
column_item t place k below =
    let there : k < length (rows_in t) = omega (arith, Tables.length-rows_in t) in
    ap (λ l. get_or l place (pos 0)) (sym (Tables.rows_in-at t k below)) ∙ sym (Matrix.column-at integers (rows_in t) place k [] (pos 0) there)

-- how many it has
pub column_length : (t : Table ℤ) (place : ℕ) → length (column integers (rows_in t) place) ≡ t.rows
column_length t place = length-column (rows_in t) place ∙ Tables.length-rows_in t

-- the item of a list without one
pub removed_item : {A : Type 0} (xs : List A) (place k before : ℕ) (d : A) → place < length xs → (k < place → before ≡ k) → (place ≤ k → before ≡ k + 1) → get_or xs before d ≡ get_or (remove xs place) k d
removed_item xs place k before d h below above =
    ⊎_elim
    (λ (lt : k < place). ap (λ j. get_or xs j d) (below lt) ∙ sym (get_or-remove_below xs place d k lt h))
    (λ (le : place ≤ k). ap (λ j. get_or xs j d) (above le) ∙ sym (get_or-remove_above xs place d k le h))
    (cases_lt k place)

-- the row of a list of rows that each were changed
pub row_of_map : (f : List ℤ → List ℤ) (rows : List (List ℤ)) (i : ℕ) → i < length rows → get_or (map f rows) i [] ≡ f (get_or rows i [])
row_of_map f [] i h = absurd (omega arith)
row_of_map f (row ∷ rows) zero h = refl
row_of_map f (row ∷ rows) (suc i) h = row_of_map f rows i (omega arith)

-- the row of the transpose
pub row_of_transpose : (r : ℕ) (rows : List (List ℤ)) (i : ℕ) → HasWidth r rows → i < r → get_or (transpose r rows) i [] ≡ column integers rows i
row_of_transpose r rows i h lt =
    let height = Matrix.length-transpose integers r rows h in
    let there : i < length (transpose r rows) = omega (arith, height) in
    let wide : length (get_or (transpose r rows) i []) ≡ length rows = Matrix.HasWidth-at integers (length rows) (transpose r rows) i [] (HasWidth-transpose r rows h) there in
    ext_get_or (pos 0) _ _ (wide ∙ sym (length-column rows i))
    (λ j below.
    let inside : j < length rows = omega (arith, wide) in
    sym (Matrix.column-at integers (transpose r rows) j i [] (pos 0) there)
    ∙ ap (λ l. get_or l i (pos 0)) (column-transpose r rows j h inside)
    ∙ sym (Matrix.column-at integers rows i j [] (pos 0) inside))
