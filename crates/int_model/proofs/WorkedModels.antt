-- Worked values: models with fractions, and their integer rows. (What is large is worked in the tests.)
use Rattle.std.proofs.Common.{◌≡◌, [], ◌∷◌, pos, negsuc, refl}
use Rattle.std.specs.Prelude.{Some, None}
use Rattle.exact_math.specs.Gcd.{gcd, gcd_within, lcm}
use Rattle.exact_math.specs.Rational.{whole, frac, ratio, inv_ℚ, ◌+ℚ◌, ◌*ℚ◌}
use Rattle.int_model.specs.declared.model.Model.{Model}
use Rattle.int_model.specs.Points.{value_at}
use Rattle.int_model.specs.IntegerRows.{integer_rows, cost}
use Rattle.int_model.specs.Large.{objective_weight}
use Rattle.whole_rows.specs.WholeRows.{cut_value}

-- x/2 >= 5/4, x between 0 and 7/2
half_above : Model
half_above = record {
  columns = record { name = []; lo = whole (pos 0); hi = frac (pos 7) 2 } ∷ [];
  rows = record { name = []; lo = Some (frac (pos 5) 4); hi = None; items = record { column = 0; factor = frac (pos 1) 2 } ∷ [] } ∷ [];
  objective = [];
  constant = whole (pos 0);
}

-- is x >= 3, x between 0 and 3
rows_of_half_above : integer_rows half_above ≡ record {
  whole = record {
    box = record { low = pos 0; high = pos 3 } ∷ [];
    rows = record { factors = pos 1 ∷ []; low = Some (pos 3); high = None } ∷ [];
    cost = pos 0 ∷ [];
  };
  step = whole (pos 1);
  constant = whole (pos 0);
}
unfolding half_above frac whole inv_ℚ ratio ◌+ℚ◌ ◌*ℚ◌ lcm gcd gcd_within
rows_of_half_above = refl

-- the least of x/2 + 3y/2 - 1/4, x and y between 0 and 10
priced : Model
priced = record {
  columns = record { name = []; lo = whole (pos 0); hi = whole (pos 10) } ∷ record { name = []; lo = whole (pos 0); hi = whole (pos 10) } ∷ [];
  rows = [];
  objective = record { column = 0; factor = frac (pos 1) 2 } ∷ record { column = 1; factor = frac (pos 3) 2 } ∷ [];
  constant = frac (negsuc 0) 4;
}

-- is that of x + 3y
cost_of_priced : cost priced ≡ pos 1 ∷ pos 3 ∷ []
unfolding priced frac whole ◌+ℚ◌ ◌*ℚ◌ lcm gcd gcd_within
cost_of_priced = refl

-- at (1, 2) the value is 13/4, and the cut value 7
value_of_priced : value_at priced (pos 1 ∷ pos 2 ∷ []) ≡ frac (pos 13) 4
unfolding priced frac whole ◌+ℚ◌ ◌*ℚ◌ lcm gcd gcd_within
value_of_priced = refl

cut_value_of_priced : cut_value (integer_rows priced).whole (pos 1 ∷ pos 2 ∷ []) ≡ pos 7
unfolding priced frac whole ◌+ℚ◌ ◌*ℚ◌ lcm gcd gcd_within
cut_value_of_priced = refl

-- 4 times the numbers: 1, and 2 * 10 + 6 * 10
weight_of_priced : objective_weight priced ≡ 81
unfolding priced frac whole ◌+ℚ◌ ◌*ℚ◌ lcm gcd gcd_within
weight_of_priced = refl
