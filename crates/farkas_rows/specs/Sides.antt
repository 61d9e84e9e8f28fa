-- The inequality that a side of a node stands for.
use Rattle.std.specs.Prelude.{◌≡◌, ℕ, ◌^◌, ◌<◌, ◌≤◌, ℤ, pos, ◌+ℤ◌, ◌-ℤ◌, ◌*ℤ◌, neg_ℤ, List, length, map, slice_index_or, unsigned_abs, Bool, true, false, Option, option_map}
use Rattle.exact_math.specs.Ring.{integers}
use Rattle.exact_vectors.specs.Vectors.{dot}
use Rattle.whole_rows.specs.WholeRows.{WholeRow}
use Rattle.farkas_rows.specs.declared.side.Factors.{Factors}
use Rattle.farkas_rows.specs.declared.side.Factors.TheVariants.{Dense, Unit as OfColumn}
use Rattle.farkas_rows.specs.declared.side.Bound.{Bound}
use Rattle.farkas_rows.specs.declared.side.Bound.TheVariants.{AtMost, Below, AtLeast}
use Rattle.farkas_rows.specs.declared.side.Side.{Side}
use Rattle.farkas_rows.specs.Inequalities.{Inequality, at_most, at_least, unit}

-- the form, by its factors
abbrev pub form_in : ℕ → Factors → List ℤ
form_in columns (Dense form) = form.now
form_in columns (OfColumn column) = unit columns column

-- the limit of the inequality
abbrev pub limit_of : Bound → ℤ
limit_of (AtMost side) = side
limit_of (Below side) = side -ℤ pos 1
limit_of (AtLeast side) = neg_ℤ side

-- a multiplier of the inequality, as one of its form
abbrev pub times_form : Bound → ℤ → ℤ
times_form (AtMost side) times = times
times_form (Below side) times = times
times_form (AtLeast side) times = neg_ℤ times

-- a form with a bound
abbrev pub bounded : List ℤ → Bound → Inequality
bounded form (AtMost side) = at_most form side
bounded form (Below side) = at_most form (side -ℤ pos 1)
bounded form (AtLeast side) = at_least form side

-- the inequality
abbrev pub inequality_in : ℕ → Side → Inequality
inequality_in columns side = bounded (form_in columns side.factors) side.bound

-- the form has a factor for each column, or is one of the columns
abbrev pub IsFormIn : ℕ → Factors → Type 0
IsFormIn columns (Dense form) = length form.now ≡ columns
IsFormIn columns (OfColumn column) = column < columns

abbrev pub IsSideIn : ℕ → Side → Type 0
IsSideIn columns side = IsFormIn columns side.factors

-- one of two sides of a form: the lower one, or the upper one
abbrev pub side_of_form : List ℤ → ℤ → ℤ → Bool → Inequality
side_of_form form low high true = at_least form low
side_of_form form low high false = at_most form high

-- the lower or the upper side of a row
abbrev pub side_of_row : WholeRow → Bool → Option Inequality
side_of_row row true = option_map (at_least row.factors) row.low
side_of_row row false = option_map (at_most row.factors) row.high

-- the factor of one column
abbrev pub factor_of : ℕ → Inequality → ℤ
factor_of column inequality = slice_index_or inequality.factors column (pos 0)

-- the numbers on the way to sums with a multiple of the inequality added: none is above 2 to the power 126 in size
pub record CanAdd (total : List ℤ) (times : ℤ) (inequality : Inequality) : Type 0 where
  pub products : (j : ℕ) → j < length total → unsigned_abs (times *ℤ factor_of j inequality) ≤ 2 ^ 126
  pub sums : (j : ℕ) → j < length total → unsigned_abs (slice_index_or total j (pos 0) +ℤ times *ℤ factor_of j inequality) ≤ 2 ^ 126
  pub limit : unsigned_abs inequality.limit ≤ 2 ^ 126
  pub product : unsigned_abs (times *ℤ inequality.limit) ≤ 2 ^ 126

-- the left sides come to these sums with these multipliers, and the limits to this limit
pub record ComesTo (columns : ℕ) (times : List ℤ) (inequalities : List Inequality) (total : List ℤ) (bound : ℤ) : Type 0 where
  pub long : length total ≡ columns
  pub sums : (j : ℕ) → j < columns → slice_index_or total j (pos 0) ≡ dot integers times (map (factor_of j) inequalities)
  pub limit : bound ≡ dot integers times (map (λ (inequality : Inequality). inequality.limit) inequalities)
