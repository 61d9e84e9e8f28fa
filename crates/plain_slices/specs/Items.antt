-- What the items of a line come to, by the inequality that each number names.
use Rattle.std.specs.Prelude.{◌≡◌, ℕ, suc, zero, ◌*◌, ◌^◌, ◌≤◌, ℤ, pos, neg_ℤ, ◌+ℤ◌, ◌-ℤ◌, ◌*ℤ◌, ◌≤ℤ◌, ◌<ℤ◌, int_lt, List, [], ◌∷◌, length, drop, map, All, Option, None, Some, IsSome, unwrap_or, if◌then◌else◌, slice_index_or}
use Rattle.std.specs.List.{insert}
use Rattle.std.specs.List.Sorted.{IsStrictlyIncreasing}
use Rattle.exact_math.specs.Ring.{integers}
use Rattle.exact_vectors.specs.Vectors.{dot}
use Rattle.exact_vectors.specs.Matrices.{combination}
use Rattle.whole_rows.specs.declared.bounds.Bounds.{Bounds}
use Rattle.whole_rows.specs.declared.ends.End.TheVariants.{Least}
use Rattle.whole_rows.specs.WholeRows.{WholeRows, span}
use Rattle.whole_rows.specs.Ends.{sum_at}
use Rattle.farkas_rows.specs.declared.line.Use.{Use}
use Rattle.farkas_rows.specs.declared.path.Slice.{Slice}
use Rattle.farkas_rows.specs.Inequalities.{Inequality, inequality_at}
use Rattle.farkas_rows.specs.Refutes.{nothing, inequality_weight}
use Rattle.plain_slices.specs.declared.node.Source.{Source}

-- the numbers and the multipliers of the items
abbrev pub numbers_of : List Use → List ℕ
numbers_of items = map (λ (item : Use). item.index) items

abbrev pub times_of : List Use → List ℤ
times_of items = map (λ (item : Use). item.times) items

-- the items' left sides with their multipliers, column by column
abbrev pub left_of : (ℕ → Inequality) → ℕ → List Use → List ℤ
left_of named columns items = combination integers columns (times_of items) (map (λ (item : Use). (named item.index).factors) items)

-- their limits
abbrev pub limit_of : (ℕ → Inequality) → List Use → ℤ
limit_of named items = dot integers (times_of items) (map (λ (item : Use). (named item.index).limit) items)

-- their weights
abbrev pub weight_of : (ℕ → Inequality) → List Use → ℤ
weight_of named items = dot integers (times_of items) (map (λ (item : Use). pos (inequality_weight (named item.index))) items)

-- the first `count` numbers of a list lessened by those of another
abbrev pub less : ℕ → List ℤ → List ℤ → List ℤ
less zero numbers others = numbers
less (suc count) [] others = []
less (suc count) (a ∷ numbers) [] = a ∷ numbers
less (suc count) (a ∷ numbers) (b ∷ others) = (a -ℤ b) ∷ less count numbers others

-- the item stands at some place among those that were there
abbrev pub IsPutIn : Use → List Use → List Use → Type 0
IsPutIn item old new = (place : ℕ) × (place ≤ length old) × (new ≡ insert old place item)

-- the bound at which a product with this factor is least, as often as the factor says
abbrev pub bound_item : Source → ℤ → Use
bound_item source factor = if int_lt factor (pos 0) then record { index = source.above; times = neg_ℤ factor } else record { index = source.below; times = factor }

-- the inequality of a number of a node's path
abbrev pub named_by : WholeRows → List Slice → Option Inequality → ℕ → Inequality
named_by rows path end number = unwrap_or (inequality_at rows path end number) nothing

-- rising numbers, each of an inequality that is there, with multipliers from 1 to 2 to the power 126
pub record IsGathered (rows : WholeRows) (path : List Slice) (end : Option Inequality) (items : List Use) : Type 0 where
  pub rising : IsStrictlyIncreasing (numbers_of items)
  pub there : All (λ (item : Use). IsSome (inequality_at rows path end item.index)) items
  pub in_range : All (λ (item : Use). (pos 1 ≤ℤ item.times) × (item.times ≤ℤ pos (2 ^ 126))) items

-- from a column on, no item's inequality has a factor of the sign opposite to that of the form
abbrev pub IsApartFrom : (ℕ → Inequality) → ℕ → List ℤ → List Use → Type 0
IsApartFrom named column form items = All (λ (item : Use). (k : ℕ) → column ≤ k → pos 0 ≤ℤ (slice_index_or (named item.index).factors k (pos 0) *ℤ slice_index_or form k (pos 0))) items

-- The items `new` are the items `old` and what takes the first `count` factors of the form away: their left sides are less by
-- these factors, their limits by the least that the products with them come to, and their weights have not risen by more than
-- twice what the products come to at most.
pub record IsBalanced (rows : WholeRows) (path : List Slice) (bounds : List Bounds) (form : List ℤ) (count : ℕ) (old new : List Use) : Type 0 where
  pub gathered : IsGathered rows path None new
  pub left : left_of (named_by rows path None) (length rows.box) new ≡ less count (left_of (named_by rows path None) (length rows.box) old) form
  pub limit : limit_of (named_by rows path None) new +ℤ sum_at Least form bounds ≡ limit_of (named_by rows path None) old +ℤ sum_at Least (drop count form) (drop count bounds)
  pub weight : (weight_of (named_by rows path None) new +ℤ pos (2 * span (drop count form) (drop count bounds))) ≤ℤ (weight_of (named_by rows path None) old +ℤ pos (2 * span form bounds))

-- the inequality of this number has the form as its left side, no values within the bounds meet it, and its weight is not large
pub record IsUnmet (rows : WholeRows) (path : List Slice) (bounds : List Bounds) (number : ℕ) (form : List ℤ) (limit : ℤ) : Type 0 where
  pub names : inequality_at rows path None number ≡ Some (record { factors = form; limit = limit })
  pub beyond : limit <ℤ sum_at Least form bounds
  pub light : inequality_weight (record { factors = form; limit = limit }) ≤ 2 ^ 100
