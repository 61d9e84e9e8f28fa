-- Matrices as one list, row after row.
use Rattle.std.specs.Prelude.{ℕ, ◌*◌, List, ◌++◌, length, take, drop, replicate, refl}
use Rattle.exact_vectors.specs.Matrices.{rows_of}
use Rattle.std.specs.Coded.{Coded, code_by, coded×, coded_ℕ, coded_list}

-- a matrix: how many rows it has, how many items each row has, and the items, row after row
pub record Table (A : Type 0) : Type 0 where
  pub rows : ℕ
  pub width : ℕ
  pub items : List A

-- a matrix is stored as the three
abbrev pub table_code : {A : Type 0} → Coded A → Coded (Table A)
table_code {A} c =
    code_by (ℕ × (ℕ × List A)) (coded× coded_ℕ (coded× coded_ℕ (coded_list c))) (λ t. (t.rows, (t.width, t.items))) (λ p. record { rows = p.0; width = p.1.0; items = p.1.1 }) (λ _. refl)

-- one item at each place
abbrev pub filled : {A : Type 0} → ℕ → ℕ → A → Table A
filled rows width item = record { rows = rows; width = width; items = replicate (rows * width) item }

-- row `i`
abbrev pub row_at : {A : Type 0} → Table A → ℕ → List A
row_at t i = take t.width (drop (i * t.width) t.items)

-- the rows in order
abbrev pub rows_in : {A : Type 0} → Table A → List (List A)
rows_in t = rows_of t.width t.rows t.items

-- the matrix with `row` written over its row `i`; `row` has the matrix's width
abbrev pub with_row : {A : Type 0} → Table A → ℕ → List A → Table A
with_row t i row = record t { items = take (length t.items) (take (i * t.width) t.items ++ (row ++ drop (length row) (drop (i * t.width) t.items))) }

-- the matrix with `items` in place of its items; they are as many
abbrev pub with_items : {A : Type 0} → Table A → List A → Table A
with_items t items = record t { items = take (length t.items) (items ++ drop (length items) t.items) }
