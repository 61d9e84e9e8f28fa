-- The loops that write a matrix row after row.
use Rattle.std.proofs.Common.{◌≡◌, ℕ, ◌+◌, ◌*◌, ◌<◌, ◌≤◌, ℤ, List, [], length, get_or, sym, subst, ◌∙◌, arith, below_more, get_or-set_other, get_or-set_same}
use Rattle.std.proofs.lemmas.List.{ext_get_or}
use Rattle.spaces.specs.Tables.{Table, rows_in, with_row}
use Rattle.spaces.specs.TableLaws as Tables

-- a row more
pub row_more : (t : Table ℤ) (rows : List (List ℤ)) (i : ℕ) (row : List ℤ) → length t.items ≡ t.rows * t.width → i < t.rows → length row ≡ t.width → row ≡ get_or rows i []
    → ((j : ℕ) → j < i → get_or (rows_in t) j [] ≡ get_or rows j []) → (j : ℕ) → j < i + 1 → get_or (rows_in (with_row t i row)) j [] ≡ get_or rows j []
row_more t rows i row size below long is done =
    let long_rows = Tables.length-rows_in t in
    subst (λ (l : List (List ℤ)). (j : ℕ) → j < i + 1 → get_or l j [] ≡ get_or rows j []) (sym (Tables.rows_in-with_row t i row size below long))
    (below_more _ _ (λ j lt. get_or-set_other (rows_in t) i j row [] (omega arith) ∙ done j lt) (get_or-set_same (rows_in t) i row [] (omega (arith, long_rows)) ∙ is))

-- all rows
pub rows_all : (t : Table ℤ) (rows : List (List ℤ)) (i : ℕ) → length rows ≡ t.rows → t.rows ≤ i → ((j : ℕ) → j < i → get_or (rows_in t) j [] ≡ get_or rows j []) → rows_in t ≡ rows
rows_all t rows i same past done =
    let long = Tables.length-rows_in t in
    ext_get_or [] (rows_in t) rows (long ∙ sym same) (λ j lt. done j (omega (arith, long)))
