-- How wide a form is on a region: how far apart its values at two points of the region can be (H. W. Lenstra, "Integer programming with a fixed number
-- of variables", 1983). A region is a predicate on rational points, and a form has whole factors. That a width is reached at some points is not asked.
use Rattle.std.specs.Prelude.{◌≡◌, ℕ, ℤ, pos, nat_abs, List, All}
use Rattle.std.specs.Int.{◌∣◌}
use Rattle.exact_math.specs.Rational.{ℚ, whole, ◌-ℚ◌, ◌*ℚ◌, ◌≤ℚ◌}
use Rattle.node_point.specs.RationalPoints.{form_value}

-- any two points of the region differ by at most the bound in the form
abbrev pub IsBoundOn : (List ℚ → Type 0) → List ℤ → ℚ → Type 0
IsBoundOn region form bound = (y z : List ℚ) → region y → region z → (form_value form y -ℚ form_value form z) ≤ℚ bound

-- The form is at most `factor` times as wide as the other one: each bound on the other, times the factor, is a bound on the form.
abbrev pub IsNoWiderThan : ℕ → (List ℚ → Type 0) → List ℤ → List ℤ → Type 0
IsNoWiderThan factor region form other = (bound : ℚ) → IsBoundOn region other bound → IsBoundOn region form (whole (pos factor) *ℚ bound)

-- some factor is not 0
abbrev pub IsNonzero : List ℤ → Type 0
IsNonzero form = ¬ (All (λ factor. factor ≡ pos 0) form)

-- the factors have no common divisor but 1
abbrev pub IsPrimitive : List ℤ → Type 0
IsPrimitive form = (d : ℕ) → All (λ factor. d ∣ nat_abs factor) form → d ≡ 1
