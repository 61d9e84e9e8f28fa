-- Substitutions x = x0 + K y of whole vectors, with the way back y = V (x - x0).
use Rattle.std.specs.Prelude.{◌≡◌, ℕ, ◌*◌, ◌≤◌, ℤ, List, length, refl}
use Rattle.std.specs.Coded.{Coded, code_by, coded×, coded_ℤ}
use Rattle.exact_math.specs.Ring.{integers}
use Rattle.exact_vectors.specs.Vectors.{add, negate}
use Rattle.exact_vectors.specs.Matrices.{times_vector}
use Rattle.spaces.specs.Maps.{AffineMap, affine_code, image}
use Rattle.spaces.specs.Tables.{Table, rows_in, table_code}

-- the map from y to x0 + K y, whose base is x0 and whose lines are those of K, and the rows of V
pub record Substitution : Type 0 where
  pub to_work : AffineMap
  pub back : Table ℤ

-- it is stored as the two
abbrev pub substitution_code : Coded Substitution
substitution_code = code_by (AffineMap × Table ℤ) (coded× affine_code (table_code coded_ℤ)) (λ s. (s.to_work, s.back)) (λ p. record { to_work = p.0; back = p.1 }) (λ _. refl)

-- how many coordinates y has
abbrev pub dimension_of : Substitution → ℕ
dimension_of s = s.to_work.lines.width

-- how many coordinates x has
abbrev pub columns_of : Substitution → ℕ
columns_of s = s.to_work.lines.rows

-- x0 + K y
abbrev pub point_of : Substitution → List ℤ → List ℤ
point_of s y = image s.to_work y

-- V (x - x0)
abbrev pub coordinates_of : Substitution → List ℤ → List ℤ
coordinates_of s x = times_vector integers (rows_in s.back) (add integers x (negate integers s.to_work.base))

-- x0 has an item and K a line for each coordinate of x, V has a row for each coordinate of y, and neither has more than 256
pub record IsShaped (s : Substitution) : Type 0 where
  pub base : length s.to_work.base ≡ s.to_work.lines.rows
  pub height : s.back.rows ≡ s.to_work.lines.width
  pub width : s.back.width ≡ s.to_work.lines.rows
  pub size_lines : length s.to_work.lines.items ≡ s.to_work.lines.rows * s.to_work.lines.width
  pub size_back : length s.back.items ≡ s.back.rows * s.back.width
  pub narrow : s.to_work.lines.rows ≤ 256
  pub few : s.to_work.lines.width ≤ 256

-- it has that shape, and V K y is y for each y
pub record IsSubstitution (s : Substitution) : Type 0 where
  pub shaped : IsShaped s
  pub inverse : (y : List ℤ) → length y ≡ dimension_of s → times_vector integers (rows_in s.back) (times_vector integers (rows_in s.to_work.lines) y) ≡ y
