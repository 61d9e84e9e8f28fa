-- The two sides of a row or a slice, each as an inequality by which a sum is at most a limit.
use Rattle.std.specs.Prelude.{◌≡◌, ℕ, ◌+◌, ◌^◌, ◌≤◌, ℤ, ◌<ℤ◌, neg_ℤ, List, Option, Some, None}
use Rattle.std.specs.Option.{IsSomeAnd}
use Rattle.exact_math.specs.Ring.{integers}
use Rattle.exact_vectors.specs.Vectors.{negate}
use Rattle.whole_rows.specs.declared.bounds.Bounds.{Bounds}
use Rattle.whole_rows.specs.declared.ends.End.TheVariants.{Least}
use Rattle.whole_rows.specs.WholeRows.{WholeRows}
use Rattle.whole_rows.specs.Ends.{sum_at}
use Rattle.farkas_rows.specs.declared.path.Slice.{Slice}
use Rattle.farkas_rows.specs.Inequalities.{Inequality, inequality_at}
use Rattle.farkas_rows.specs.Refutes.{inequality_weight}
use Rattle.plain_slices.specs.declared.side.Side.{Side}
use Rattle.plain_slices.specs.declared.side.Side.TheVariants.{Upper, Lower}

-- a number, turned on the lower side
abbrev pub side_factor : Side → ℤ → ℤ
side_factor Upper factor = factor
side_factor Lower factor = neg_ℤ factor

-- the factors, turned on the lower side
abbrev pub side_form : Side → List ℤ → List ℤ
side_form Upper form = form
side_form Lower form = negate integers form

-- the form is at most the value on the upper side, and at least the value on the lower side
abbrev pub side_inequality : Side → List ℤ → ℤ → Inequality
side_inequality side form value = record { factors = side_form side form; limit = side_factor side value }

-- the value of this side
abbrev pub side_value : Side → Option ℤ → Option ℤ → Option ℤ
side_value Upper low high = high
side_value Lower low high = low

-- its number, where the upper side has this one
abbrev pub side_number : Side → ℕ → ℕ
side_number Upper number = number
side_number Lower number = number + 1

-- the side is there, and no sum within the bounds meets its inequality
abbrev pub IsOutOfReach : Side → List ℤ → Option ℤ → Option ℤ → List Bounds → Type 0
IsOutOfReach side form low high bounds = IsSomeAnd (side_value side low high) (λ value. side_factor side value <ℤ sum_at Least (side_form side form) bounds)

-- The sides of a form are inequalities of a node's path, from this number on, of no large weight.
pub record HasSides (rows : WholeRows) (path : List Slice) (number : ℕ) (form : List ℤ) (low high : Option ℤ) : Type 0 where
  pub names : (side : Side) (value : ℤ) → side_value side low high ≡ Some value → inequality_at rows path None (side_number side number) ≡ Some (side_inequality side form value)
  pub light : (side : Side) (value : ℤ) → side_value side low high ≡ Some value → inequality_weight (side_inequality side form value) ≤ 2 ^ 100
