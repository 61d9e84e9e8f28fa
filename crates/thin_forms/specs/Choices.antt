-- What is known of the form that is chosen so far.
use Rattle.std.specs.Prelude.{◌≡◌, ◌≢◌, ℕ, ◌-◌, ◌^◌, ◌<◌, ℤ, pos, List, [], length, All}
use Rattle.exact_math.specs.Rational.{ℚ, whole, ◌*ℚ◌, ◌≤ℚ◌}
use Rattle.exact_math.specs.Ring.{integers}
use Rattle.exact_vectors.specs.Vectors.{zeros}
use Rattle.form_widths.specs.Directions.{IsFreeColumn}
use Rattle.form_widths.specs.Widths.{IsPrimitive}
use Rattle.frac128.specs.Range.{IsNarrow}
use Rattle.lp_dict.specs.Systems.{wholes}
use Rattle.norm_gauge.specs.Gauges.{IsGauge}
use Rattle.norm_gauge.specs.Widths.{IsAtMost, Polytope}
use Rattle.norm_gauge.specs.declared.gauge.Gauge.{Gauge}
use Rattle.thin_forms.specs.Candidates.{IsCandidate}

-- the number is at most `factor` times each bound on the form's width
abbrev pub IsBelowBounds : Polytope → ℕ → ℚ → List ℤ → Type 0
IsBelowBounds p factor value form = (bound : ℚ) → IsAtMost p [] (wholes form) bound → value ≤ℚ (whole (pos factor) *ℚ bound)

-- The form is a candidate with its gauge. Its width is at most 4^(r-1) times that of each whole form other than 0, r being the number of coordinates, and at
-- most that of each free column, made primitive, among the first `count`.
pub record IsChosen (p : Polytope) (lines : List (List ℤ)) (count : ℕ) (form : List ℤ) (gauge : Gauge) : Type 0 where
  pub candidate : IsCandidate p lines form
  pub coordinates : length form ≡ p.coordinates
  pub primitive : IsPrimitive form
  pub narrow : All IsNarrow form
  pub is_gauge : IsGauge p [] (wholes form) gauge
  pub thin : (other : List ℤ) → length other ≡ p.coordinates → other ≢ zeros integers p.coordinates → IsBelowBounds p (4 ^ (p.coordinates - 1)) gauge.value other
  pub columns : (column : ℕ) (other : List ℤ) → column < count → IsFreeColumn lines column other → IsBelowBounds p 1 gauge.value other
