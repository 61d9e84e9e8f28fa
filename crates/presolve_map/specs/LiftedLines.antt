-- Combinations of the inequalities of reduced rows, as combinations of those of the model: the bounds of the removed columns
-- take the sums there to 0.
use Rattle.std.specs.Prelude.{◌≡◌, ◌≢◌, ℕ, zero, suc, ◌+◌, ◌*◌, ◌<◌, ◌≤◌, true, false, ℤ, pos, ◌-ℤ◌, List, [], ◌∷◌, ◌++◌, length, map, All, Option, Some, None, IfSome, IsSome, unwrap_or, option_to_list, if◌then◌else◌, slice_index_or, int_lt, ⊤}
use Rattle.std.specs.List.{insert}
use Rattle.std.specs.List.Sorted.{IsStrictlyIncreasing, IsPermutation}
use Rattle.exact_math.specs.Rational.{ℚ, whole, neg_ℚ, ◌+ℚ◌, ◌-ℚ◌, ◌*ℚ◌}
use Rattle.frac128.specs.Range.{ProductInRange, SumInRange}
use Rattle.whole_rows.specs.WholeRows.{WholeRows, bounds_at}
use Rattle.farkas_rows.specs.declared.path.Slice.{Slice}
use Rattle.farkas_rows.specs.declared.fracs.FracUse.{FracUse}
use Rattle.farkas_rows.specs.Inequalities.{Inequality, inequality_at}
use Rattle.farkas_rows.specs.Refutes.{nothing}
use Rattle.farkas_rows.specs.Sides.{factor_of}
use Rattle.presolve_map.specs.Columns.{is_open, removed_part}

-- ---- sums over items

-- the sum of each item's multiplier times what `value` gives for its number
abbrev pub total : (ℕ → ℚ) → List FracUse → ℚ
total value [] = whole (pos 0)
total value (item ∷ items) = item.times *ℚ value item.index +ℚ total value items

-- the inequality of a number of a node; 0 is at most 0 where there is none
abbrev pub named : WholeRows → List Slice → Option Inequality → ℕ → Inequality
named rows path end number = unwrap_or (inequality_at rows path end number) nothing

-- its factor in a column
abbrev pub factor_in : WholeRows → List Slice → Option Inequality → ℕ → ℕ → ℚ
factor_in rows path end column number = whole (factor_of column (named rows path end number))

-- its limit
abbrev pub limit_in : WholeRows → List Slice → Option Inequality → ℕ → ℚ
limit_in rows path end number = whole (named rows path end number).limit

-- its limit without what the removed columns contribute
abbrev pub reduced_limit_in : WholeRows → List Slice → Option Inequality → ℕ → ℚ
reduced_limit_in rows path end number = let i = named rows path end number in whole (i.limit -ℤ removed_part rows.box i.factors)

-- the factor of the cost in a column
abbrev pub cost_in : WholeRows → ℕ → ℚ
cost_in rows column = whole (slice_index_or rows.cost column (pos 0))

-- ---- the items of a line

abbrev pub numbers_of : List FracUse → List ℕ
numbers_of items = map (λ (item : FracUse). item.index) items

-- the numbers of the bounds of a column
abbrev pub upper_bound : WholeRows → ℕ → ℕ
upper_bound rows column = 2 * length rows.rows + 2 * column

abbrev pub lower_bound : WholeRows → ℕ → ℕ
lower_bound rows column = 2 * length rows.rows + 2 * column + 1

-- the column is removed: its bounds are equal
abbrev pub IsRemoved : WholeRows → ℕ → Type 0
IsRemoved rows column = is_open (bounds_at rows column) ≡ false

-- The number is none of a removed column; where it is that of a row's side, the side is there.
pub record IsWorkNumber (rows : WholeRows) (number : ℕ) : Type 0 where
  pub there : number < 2 * length rows.rows → IsSome (inequality_at rows [] None number)
  pub kept : (column : ℕ) → column < length rows.box → IsRemoved rows column → (number ≢ upper_bound rows column) × (number ≢ lower_bound rows column)

-- what the cut, so many times, and the items of rows come to in a column
abbrev pub column_sum : WholeRows → ℚ → List FracUse → ℕ → ℚ
column_sum rows cut items column = cut *ℚ cost_in rows column +ℚ total (factor_in rows [] None column) items

-- the bound of a column that takes this sum to 0, as often as it does; none where it is 0
abbrev pub bound_of : WholeRows → ℕ → ℚ → Option FracUse
bound_of rows column sum =
    if int_lt sum.num (pos 0) then Some (record { index = upper_bound rows column; times = neg_ℚ sum })
    else if int_lt (pos 0) sum.num then Some (record { index = lower_bound rows column; times = sum }) else None

-- that of a removed column
abbrev pub balance : WholeRows → ℚ → List FracUse → ℕ → List FracUse
balance rows cut items column = if is_open (bounds_at rows column) then [] else option_to_list (bound_of rows column (column_sum rows cut items column))

-- those of the removed columns below one
abbrev pub balances : WholeRows → ℚ → List FracUse → ℕ → List FracUse
balances rows cut items zero = []
balances rows cut items (suc column) = balances rows cut items column ++ balance rows cut items column

-- the item stands at some place among those that were there
abbrev pub IsPutIn : FracUse → List FracUse → List FracUse → Type 0
IsPutIn item old new = (place : ℕ) × (place ≤ length old) × (new ≡ insert old place item)

-- so does this item, where there is one
abbrev pub IsWith : Option FracUse → List FracUse → List FracUse → Type 0
IsWith None old new = new ≡ old
IsWith (Some item) old new = IsPutIn item old new

-- the items, with the bounds that take the sums of removed columns to 0, in the order of their numbers
pub record IsLiftedLine (rows : WholeRows) (cut : ℚ) (items lifted : List FracUse) : Type 0 where
  pub same : IsPermutation (items ++ balances rows cut items (length rows.box)) lifted
  pub rising : IsStrictlyIncreasing (numbers_of lifted)

-- ---- their range

-- a multiple of an item is added in range: where its factor is 0 there is nothing to add
abbrev pub ItemStays : ℚ → ℚ → ℚ → Type 0
ItemStays sum times factor = factor.num ≢ pos 0 → ProductInRange times factor × SumInRange sum (times *ℚ factor)

-- from a sum on, each product and each sum is in range
abbrev pub SumStays : WholeRows → ℕ → ℚ → List FracUse → Type 0
SumStays rows column sum [] = ⊤
SumStays rows column sum (item ∷ items) = ItemStays sum item.times (factor_in rows [] None column item.index) × SumStays rows column (sum +ℚ item.times *ℚ factor_in rows [] None column item.index) items

-- in each removed column: the cut first, and then the items in order
abbrev pub ColumnStays : WholeRows → ℚ → List FracUse → ℕ → Type 0
ColumnStays rows cut items column = ProductInRange cut (cost_in rows column) × SumStays rows column (cut *ℚ cost_in rows column) items

abbrev pub LineStays : WholeRows → ℚ → List FracUse → Type 0
LineStays rows cut items = (column : ℕ) → column < length rows.box → IsRemoved rows column → ColumnStays rows cut items column

-- ---- what they come to

-- the form is 0 in each removed column
abbrev pub IsOverKept : WholeRows → List ℤ → Type 0
IsOverKept rows form = (column : ℕ) → column < length rows.box → IsRemoved rows column → slice_index_or form column (pos 0) ≡ pos 0

-- so is each form of a path, and that of its end
pub record IsNodeOverKept (rows : WholeRows) (path : List Slice) (end : Option Inequality) : Type 0 where
  pub slices : All (λ slice. IsOverKept rows slice.form) path
  pub last : IfSome end (λ inequality. IsOverKept rows inequality.factors)

-- At a node the left sides of the lifted items, with the cut, come to 0 in each removed column, and to what those of the items
-- come to in each other one; the limits come to what those of the items come to over the kept columns, the cut's too.
pub record ComesToSame (rows : WholeRows) (path : List Slice) (end : Option Inequality) (cut : ℚ) (items lifted : List FracUse) : Type 0 where
  pub removed : (column : ℕ) → column < length rows.box → IsRemoved rows column → cut *ℚ cost_in rows column +ℚ total (factor_in rows path end column) lifted ≡ whole (pos 0)
  pub kept : (column : ℕ) → column < length rows.box → is_open (bounds_at rows column) ≡ true → total (factor_in rows path end column) lifted ≡ total (factor_in rows path end column) items
  pub limit : total (limit_in rows path end) lifted ≡ total (reduced_limit_in rows path end) items -ℚ cut *ℚ whole (removed_part rows.box rows.cost)
