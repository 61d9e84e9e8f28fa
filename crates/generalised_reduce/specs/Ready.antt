-- What generalised reduction asks of a system and of the rows at hand, and what its tests say.
use Rattle.std.specs.Prelude.{◌≡◌, ◌≢◌, ℕ, suc, ◌+◌, ◌*◌, ◌^◌, ◌<◌, ◌≤◌, ℤ, pos, ◌≤ℤ◌, List, [], length, get_or, take}
use Rattle.std.specs.List.{All}
use Rattle.exact_math.specs.Rational.{ℚ, whole, ◌≤ℚ◌, ◌<ℚ◌}
use Rattle.frac128.specs.Range.{IsNarrow}
use Rattle.spaces.specs.Multiples.{with_multiple}
use Rattle.spaces.specs.Tables.{Table}
use Rattle.norm_gauge.specs.Gauges.{IsGauge}
use Rattle.norm_gauge.specs.Widths.{AreNarrow, HasBound, IsAtMost, IsInhabited, IsWidth, Polytope, polytope_of}
use Rattle.norm_gauge.specs.declared.gauge.Gauge.{Gauge}
use Rattle.unimodular_pair.specs.Pairs.{AreInverse, Matrices}
use Rattle.generalised_reduce.specs.Moves.{IsCombination}
use Rattle.generalised_reduce.specs.Reduced.{forms_of, form_at, raised}

-- The system has a rational point and is bounded, and widths on it can be asked for under fewer rows than it has coordinates.
pub record IsReady (rows : Table ℤ) (limits : List ℤ) : Type 0 where
  pub some : 0 < rows.width
  pub few : rows.width ≤ 256
  pub as_many_limits : length limits ≡ rows.rows
  pub size : (i : ℕ) → i < rows.width → ((rows.rows + rows.rows) + (i + i) + 1) * (rows.width + rows.width + 1) ≤ 2 ^ 31
  pub narrow_rows : All IsNarrow rows.items
  pub narrow_limits : All IsNarrow limits
  pub bounded : HasBound (polytope_of rows limits)
  pub inhabited : IsInhabited (polytope_of rows limits)

-- the two matrices have as many rows as there are coordinates and are each other's inverse, and no entry of u is above 2^127 - 1 in size
pub record FitsSystem (n : ℕ) (m : Matrices) : Type 0 where
  pub inverse : AreInverse n m
  pub narrow : AreNarrow m.u

-- ---- the multiples of a row

-- What is known of a multiple of row k that is kept: the gauge of the next row with it added, whose items are narrow, and that it is none or better than none.
pub record IsKept (p : Polytope) (m : Matrices) (k : ℕ) (width : ℚ) (factor : ℤ) (gauge : Gauge) : Type 0 where
  pub is_gauge : IsGauge p (take k (forms_of m)) (raised (forms_of m) k (whole factor)) gauge
  pub narrow : All IsNarrow (with_multiple factor (get_or m.u k []) (get_or m.u (suc k) []))
  pub at_most : gauge.value ≤ℚ width
  pub better : factor ≢ pos 0 → gauge.value <ℚ width

-- the value is at most each bound of the width at this multiple
abbrev pub Covers : Polytope → List (List ℚ) → ℕ → ℚ → ℤ → Type 0
Covers p rows k value factor = (bound : ℚ) → IsAtMost p (take k rows) (raised rows k (whole factor)) bound → value ≤ℚ bound

-- the multiple, of those from `low` to `high`, at which the next row is least wide; none where no other is better
pub record IsLeastMultiple (p : Polytope) (m : Matrices) (k : ℕ) (low high factor : ℤ) (gauge : Gauge) : Type 0 where
  pub width : ℚ
  pub is_width : IsWidth p (take k (forms_of m)) (form_at (forms_of m) (suc k)) width
  pub kept : IsKept p m k width factor gauge
  pub least : (j : ℤ) → low ≤ℤ j → j ≤ℤ high → Covers p (forms_of m) k gauge.value j

-- the multiple, of all, at which the next row is least wide; it is added where it is one
pub record IsBestMultiple (p : Polytope) (m : Matrices) (k : ℕ) (factor : ℤ) (gauge : Gauge) : Type 0 where
  pub is_gauge : IsGauge p (take k (forms_of m)) (raised (forms_of m) k (whole factor)) gauge
  pub narrow : All IsNarrow (with_multiple factor (get_or m.u k []) (get_or m.u (suc k) []))
  pub least : (j : ℤ) → Covers p (forms_of m) k gauge.value j
  pub legal : factor ≢ pos 0 → IsCombination p (forms_of m) k factor

-- no multiple of row k makes the next row less wide
pub record IsLeastWide (p : Polytope) (rows : List (List ℚ)) (k : ℕ) (gauge : Gauge) : Type 0 where
  pub is_gauge : IsGauge p (take k rows) (form_at rows (suc k)) gauge
  pub least : (j : ℤ) → Covers p rows k gauge.value j
