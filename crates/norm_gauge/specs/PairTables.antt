-- The pair system in whole numbers.
use Rattle.std.specs.Prelude.{◌+◌, ℕ, ℤ, pos, negsuc, List, ◌++◌, take, flat_map}
use Rattle.exact_math.specs.Ring.{integers}
use Rattle.exact_vectors.specs.Vectors.{scale, zeros}
use Rattle.spaces.specs.Tables.{Table, rows_in}

-- a row on the first point and on the second, with a sign for each
abbrev pub pair_row : ℤ → ℤ → List ℤ → List ℤ
pair_row first second row = scale integers first row ++ scale integers second row

-- the two rows of a difference
abbrev pub difference_rows : List ℤ → List ℤ
difference_rows row = pair_row (pos 1) (negsuc 0) row ++ pair_row (negsuc 0) (pos 1) row

-- the rows of the pair system of `rows` and the first `i` rows of `basis`, one after another
abbrev pub pair_items : List (List ℤ) → List (List ℤ) → List ℤ
pair_items rows fixed = flat_map (pair_row (pos 1) (pos 0)) rows ++ (flat_map (pair_row (pos 0) (pos 1)) rows ++ flat_map difference_rows fixed)

abbrev pub pair_table : Table ℤ → Table ℤ → ℕ → Table ℤ
pair_table t basis i = record { rows = (t.rows + t.rows) + (i + i); width = t.width + t.width; items = pair_items (rows_in t) (take i (rows_in basis)) }

-- their right sides
abbrev pub pair_sides : List ℤ → ℕ → List ℤ
pair_sides limits i = limits ++ (limits ++ zeros integers (i + i))
