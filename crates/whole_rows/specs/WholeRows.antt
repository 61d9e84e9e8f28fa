-- Rows of whole numbers with a factor for each column, over a box, and how large the numbers are that they lead to.
use Rattle.std.specs.Prelude.{◌≡◌, ℕ, ◌+◌, ◌*◌, ◌^◌, ◌<◌, ◌≤◌, max, ℤ, pos, ◌≤ℤ◌, List, [], ◌∷◌, ◌++◌, length, take, replicate, Option, Some, None, IfSome, All, slice_index_or, unsigned_abs}
use Rattle.std.specs.List.{AllZip}
use Rattle.exact_math.specs.Ring.{integers}
use Rattle.exact_vectors.specs.Vectors.{dot}
use Rattle.whole_rows.specs.declared.bounds.Bounds.{Bounds}

-- a value between two sides, both included; a side that is absent bounds nothing
abbrev pub IsWithin : Option ℤ → Option ℤ → ℤ → Type 0
IsWithin low high value = IfSome low (λ l. l ≤ℤ value) × IfSome high (λ h. value ≤ℤ h)

-- the sum of each factor times the value in its place lies between the sides
pub record WholeRow : Type 0 where
  pub factors : List ℤ
  pub low : Option ℤ
  pub high : Option ℤ

-- the bounds of each column, the rows, and a cost for each column
pub record WholeRows : Type 0 where
  pub box : List Bounds
  pub rows : List WholeRow
  pub cost : List ℤ

-- one value for each of the bounds, and between them
abbrev pub LiesIn : List Bounds → List ℤ → Type 0
LiesIn box x = AllZip (λ (bounds : Bounds) value. (bounds.low ≤ℤ value) × (value ≤ℤ bounds.high)) box x

-- the row's sum lies between its sides
abbrev pub MeetsRow : WholeRow → List ℤ → Type 0
MeetsRow row x = IsWithin row.low row.high (dot integers row.factors x)

-- x lies in the box and meets each row
pub record Meets (rows : WholeRows) (x : List ℤ) : Type 0 where
  pub in_box : LiesIn rows.box x
  pub in_rows : All (λ row. MeetsRow row x) rows.rows

-- the sum of each cost times the value in its place
abbrev pub cut_value : WholeRows → List ℤ → ℤ
cut_value rows x = dot integers rows.cost x

-- a list that meets the rows, and none that does has a smaller cut value
pub record HasLeastCutValue (rows : WholeRows) (x : List ℤ) : Type 0 where
  pub meets : Meets rows x
  pub least : (y : List ℤ) → Meets rows y → cut_value rows x ≤ℤ cut_value rows y

-- row number i
abbrev pub row_at : WholeRows → ℕ → WholeRow
row_at rows i = slice_index_or rows.rows i (record { factors = []; low = None; high = None })

-- the bounds of column number j
abbrev pub bounds_at : WholeRows → ℕ → Bounds
bounds_at rows j = slice_index_or rows.box j (record { low = pos 0; high = pos 0 })

-- no value between the bounds is larger in size than this, nor are the bounds, and it is at least 1
abbrev pub reach : Bounds → ℕ
reach bounds = max 1 (max (unsigned_abs bounds.low) (unsigned_abs bounds.high))

-- the sum of each factor's size times the reach of its column
abbrev pub span : List ℤ → List Bounds → ℕ
span [] box = 0
span (factor ∷ factors) [] = 0
span (factor ∷ factors) (bounds ∷ box) = unsigned_abs factor * reach bounds + span factors box

-- the size of a side, 0 where there is none
abbrev pub size_of_side : Option ℤ → ℕ
size_of_side None = 0
size_of_side (Some side) = unsigned_abs side

-- a bound on all that a row leads to within the box: its sums, and its sides
abbrev pub weight : List Bounds → WholeRow → ℕ
weight box row = span row.factors box + size_of_side row.low + size_of_side row.high

-- a weight above 2 to the power 96
abbrev pub IsHeavy : ℕ → Type 0
IsHeavy weight = 2 ^ 96 < weight

-- no column reaches, and no row weighs, above 2 to the power 96
pub record IsLight (rows : WholeRows) : Type 0 where
  pub reaches : All (λ bounds. reach bounds ≤ 2 ^ 96) rows.box
  pub weights : All (λ row. weight rows.box row ≤ 2 ^ 96) rows.rows

-- The limits that all whole rows keep: at most 256 columns and 256 rows, a factor and a cost for each column, light
-- rows and a light cost.
pub record IsWithinLimits (rows : WholeRows) : Type 0 where
  pub few_columns : length rows.box ≤ 256
  pub few_rows : length rows.rows ≤ 256
  pub dense : All (λ (row : WholeRow). length row.factors ≡ length rows.box) rows.rows
  pub light : IsLight rows
  pub priced : length rows.cost ≡ length rows.box
  pub light_cost : span rows.cost rows.box ≤ 2 ^ 96

-- column number j reaches above 2 to the power 96, and no column before it does
pub record IsFirstHeavy (box : List Bounds) (j : ℕ) : Type 0 where
  pub within : j < length box
  pub heavy : IsHeavy (reach (slice_index_or box j (record { low = pos 0; high = pos 0 })))
  pub first : All (λ bounds. reach bounds ≤ 2 ^ 96) (take j box)

-- the box, without rows and at no cost
abbrev pub rows_over : List Bounds → WholeRows
rows_over box = record { box = box; rows = []; cost = replicate (length box) (pos 0) }

-- one row more, at the end
abbrev pub with_row : WholeRows → WholeRow → WholeRows
with_row rows row = record rows { rows = rows.rows ++ row ∷ [] }

-- the same rows at other costs
abbrev pub with_cost : WholeRows → List ℤ → WholeRows
with_cost rows cost = record rows { cost = cost }

-- the sum of the sizes of the products: no part of the sum of the products is larger in size
abbrev pub size_sum : List ℤ → List ℤ → ℕ
size_sum [] x = 0
size_sum (factor ∷ factors) [] = 0
size_sum (factor ∷ factors) (value ∷ x) = unsigned_abs factor * unsigned_abs value + size_sum factors x
