-- Directions depend on the points of a region alone.
use Rattle.std.specs.Prelude.{◌-◌, ◌^◌, ℕ, ℤ, List}
use Rattle.exact_math.specs.Rational.{ℚ}
use Rattle.form_widths.specs.Directions.{IsDirection}
use Rattle.form_widths.specs.Widths.{IsBoundOn, IsNoWiderThan}

-- a bound on a region is one on each part of it
pub bound_on_part : (region part : List ℚ → Type 0) (form : List ℤ) (bound : ℚ) → ((x : List ℚ) → part x → region x) → IsBoundOn region form bound → IsBoundOn part form bound
bound_on_part region part form bound inside h y z in_y in_z = h y z (inside y in_y) (inside z in_z)

-- Regions that have the same points have the same directions.
pub direction_of_same_points : (region other : List ℚ → Type 0) (r : ℕ) (lines : List (List ℤ)) (form : List ℤ) → ((x : List ℚ) → region x → other x) → ((x : List ℚ) → other x → region x) → IsDirection region r lines form → IsDirection other r lines form
direction_of_same_points region other r lines form there back direction = record {
  some = direction.some;
  point = direction.point;
  has_point = there direction.point direction.has_point;
  coordinates = direction.coordinates;
  primitive = direction.primitive;
  thin = λ wider long nonzero. carried (4 ^ (r - 1)) wider (direction.thin wider long nonzero);
  columns = λ column wider free. carried 1 wider (direction.columns column wider free);
}
  where
    carried : (factor : ℕ) (wider : List ℤ) → IsNoWiderThan factor region form wider → IsNoWiderThan factor other form wider
    carried factor wider h bound within = bound_on_part region other form _ back (h bound (bound_on_part other region wider bound there within))
