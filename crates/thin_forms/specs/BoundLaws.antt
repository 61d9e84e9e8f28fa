-- A bound on the width of a form on a polytope under no rows is one on the polytope as a region.
use Rattle.std.proofs.Common.{ℤ, List, [], refl}
use Rattle.exact_math.specs.Rational.{ℚ}
use Rattle.form_widths.specs.Widths.{IsBoundOn}
use Rattle.lp_dict.specs.Systems.{wholes}
use Rattle.norm_gauge.specs.Widths.{Has, IsAtMost, Polytope}

pub bound_on_region : (p : Polytope) (form : List ℤ) (bound : ℚ) → IsAtMost p [] (wholes form) bound → IsBoundOn (Has p) form bound
bound_on_region p form bound h y z in_y in_z = h y z (record { first = in_y; second = in_z; agree = refl })

-- and the other way round
pub bound_on_polytope : (p : Polytope) (form : List ℤ) (bound : ℚ) → IsBoundOn (Has p) form bound → IsAtMost p [] (wholes form) bound
bound_on_polytope p form bound h y z pair = h y z pair.first pair.second
