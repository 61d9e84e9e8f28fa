-- Affine maps between spaces, and when their values fit `i128`.
use Rattle.std.specs.Prelude.{◌≡◌, ℕ, ◌<◌, ◌*◌, ℤ, pos, List, length, get_or, refl}
use Rattle.std.specs.Coded.{Coded, code_by, coded×, coded_list, coded_ℤ}
use Rattle.exact_math.specs.Ring.{integers}
use Rattle.exact_vectors.specs.Range.{StaysInRange}
use Rattle.exact_vectors.specs.Vectors.{dot, add}
use Rattle.exact_vectors.specs.Matrices.{column, combination, times_matrix, times_vector}
use Rattle.spaces.specs.Tables.{Table, row_at, rows_in, table_code}

-- the map from v to base + lines v; there is a line for each item of the base
pub record AffineMap : Type 0 where
  pub base : List ℤ
  pub lines : Table ℤ

-- a map is stored as the two
abbrev pub affine_code : Coded AffineMap
affine_code = code_by (List ℤ × Table ℤ) (coded× (coded_list coded_ℤ) (table_code coded_ℤ)) (λ m. (m.base, m.lines)) (λ p. record { base = p.0; lines = p.1 }) (λ _. refl)

-- the image of `v`
abbrev pub image : AffineMap → List ℤ → List ℤ
image map v = add integers map.base (times_vector integers (rows_in map.lines) v)

-- its items stay in range: the sum of each, in index order, begins with the base's item
abbrev pub ImageStays : AffineMap → List ℤ → Type 0
ImageStays map v = (i : ℕ) → i < length map.base → StaysInRange (get_or map.base i (pos 0)) (row_at map.lines i) v

-- the items of a row vector times a matrix stay in range
abbrev pub ProductStays : List ℤ → Table ℤ → Type 0
ProductStays factors t = (j : ℕ) → j < t.width → StaysInRange (pos 0) factors (column integers (rows_in t) j)

-- first `first` and then `next`: next.base + next.lines (first.base + first.lines v), as one map
pub record IsComposed (first next map : AffineMap) : Type 0 where
  pub base : map.base ≡ image next first.base
  pub lines : rows_in map.lines ≡ times_matrix integers first.lines.width (rows_in next.lines) (rows_in first.lines)
  pub height : map.lines.rows ≡ next.lines.rows
  pub width : map.lines.width ≡ first.lines.width
  pub size : length map.lines.items ≡ map.lines.rows * map.lines.width

-- its numbers stay in range
abbrev pub CompositionStays : AffineMap → AffineMap → Type 0
CompositionStays first next = ImageStays next first.base × ((i : ℕ) → i < next.lines.rows → ProductStays (row_at next.lines i) first.lines)

-- the form at the image of v is `pulled_form` at v plus `pulled_constant`
abbrev pub pulled_form : AffineMap → List ℤ → List ℤ
pulled_form map form = combination integers map.lines.width form (rows_in map.lines)

abbrev pub pulled_constant : AffineMap → List ℤ → ℤ
pulled_constant map form = dot integers form map.base

-- their numbers stay in range
abbrev pub PullBackStays : AffineMap → List ℤ → Type 0
PullBackStays map form = StaysInRange (pos 0) form map.base × ProductStays form map.lines
