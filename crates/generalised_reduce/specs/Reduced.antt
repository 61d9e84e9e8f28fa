-- Bases of forms that are reduced for a polytope (Lovász and Scarf, The generalized basis reduction algorithm, Mathematics of Operations Research 17, 1992, with epsilon 1/4).
use Rattle.std.specs.Prelude.{◌≡◌, ◌≢◌, ℕ, suc, ◌<◌, ℤ, pos, List, [], length, get_or, take}
use Rattle.exact_math.specs.Rational.{ℚ, whole, ◌≤ℚ◌, ◌*ℚ◌}
use Rattle.exact_math.specs.RationalRing.{rationals}
use Rattle.exact_math.specs.Ring.{integers}
use Rattle.exact_vectors.specs.Vectors.{add, scale, zeros}
use Rattle.lp_dict.specs.Systems.{wholes, whole_rows}
use Rattle.unimodular_pair.specs.Pairs.{Matrices}
use Rattle.norm_gauge.specs.Widths.{Polytope, IsAtMost, IsWidth}

-- the rows of u as forms
abbrev pub forms_of : Matrices → List (List ℚ)
forms_of m = whole_rows m.u

-- row i
abbrev pub form_at : List (List ℚ) → ℕ → List ℚ
form_at rows i = get_or rows i []

-- the row after row i, with a multiple of row i added
abbrev pub raised : List (List ℚ) → ℕ → ℚ → List ℚ
raised rows i k = add rationals (form_at rows (suc i)) (scale rationals k (form_at rows i))

-- The neighbours i and i + 1, with widths under the rows before row i: no whole multiple of row i added to the next makes it less wide, and its width is at
-- least 3/4 of that of row i.
pub record IsReducedAt (p : Polytope) (rows : List (List ℚ)) (i : ℕ) : Type 0 where
  pub width_before : ℚ
  pub is_before : IsWidth p (take i rows) (form_at rows i) width_before
  pub width : ℚ
  pub is_width : IsWidth p (take i rows) (form_at rows (suc i)) width
  pub least : (k : ℤ) (bound : ℚ) → IsAtMost p (take i rows) (raised rows i (whole k)) bound → width ≤ℚ bound
  pub ratio : (whole (pos 3) *ℚ width_before) ≤ℚ (whole (pos 4) *ℚ width)

-- each two neighbours are
abbrev pub IsLovaszScarfReduced : Polytope → List (List ℚ) → Type 0
IsLovaszScarfReduced p rows = (i : ℕ) → suc i < length rows → IsReducedAt p rows i

-- the form is at most `factor` times as wide as each whole form other than 0
abbrev pub IsWithinFactor : Polytope → ℕ → List ℚ → Type 0
IsWithinFactor p factor form = (other : List ℤ) (bound : ℚ) → length other ≡ p.coordinates → other ≢ zeros integers p.coordinates → IsAtMost p [] (wholes other) bound → IsAtMost p [] form (whole (pos factor) *ℚ bound)
