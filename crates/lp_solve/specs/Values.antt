-- Values of variables by a list of them.
use Rattle.std.specs.Prelude.{ℕ, List, [], ◌∷◌, ◌==◌, if◌then◌else◌, map, get_or, length}
use Rattle.exact_math.specs.Rational.{ℚ}
use Rattle.exact_math.specs.RationalRing.{rationals}
use Rattle.exact_vectors.specs.Vectors.{negate}
use Rattle.exact_vectors.specs.Matrices.{column}
use Rattle.lp_dict.specs.Dictionaries.{Dictionary, none, one, numbers_from}

-- the value that stands beside the variable `v`, and 0 where the list has not that variable
abbrev pub value_of : List ℕ → List ℚ → ℕ → ℚ
value_of [] values v = none
value_of (k ∷ variables) [] v = none
value_of (k ∷ variables) (q ∷ values) v = if k == v then q else value_of variables values v

-- the constants of a dictionary, row by row
abbrev pub constants : Dictionary → List ℚ
constants d = column rationals d.rows (length d.outside)

-- the coordinates of the point at which the variables outside are 0
abbrev pub vertex : Dictionary → List ℚ
vertex d = map (value_of d.basic (constants d)) (numbers_from 0 (length d.outside))

-- the form's entries in the columns of the slacks, 0 for a slack that is basic
abbrev pub form_multipliers : Dictionary → List ℚ
form_multipliers d = map (value_of d.outside (get_or d.rows (length d.basic) [])) (numbers_from (length d.outside) (length d.basic))

-- 1 for the slack of row `i`, and minus that row's entries in the columns of the other slacks
abbrev pub row_multipliers : Dictionary → ℕ → List ℚ
row_multipliers d i = map (value_of (get_or d.basic i 0 ∷ d.outside) (one ∷ negate rationals (get_or d.rows i []))) (numbers_from (length d.outside) (length d.basic))
