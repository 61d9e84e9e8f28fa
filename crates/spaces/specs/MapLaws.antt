-- The laws of affine maps.
use Rattle.std.proofs.Common.{◌≡◌, ℤ, ◌+ℤ◌, List, [], ◌∷◌, length, refl, sym, ap, ap₂, ◌∙◌}
use Rattle.exact_math.specs.Ring.{integers}
use Rattle.exact_math.specs.IntegerLaws.{add_assoc, add_comm}
use Rattle.exact_vectors.specs.Vectors.{dot, add}
use Rattle.exact_vectors.specs.Matrices.{HasWidth, times_vector}
use Rattle.exact_vectors.specs.DotLaws as Dot
use Rattle.exact_vectors.specs.MatrixLaws as Matrix
use Rattle.spaces.specs.Maps.{AffineMap, image, pulled_form, pulled_constant, IsComposed}
use Rattle.spaces.specs.Tables.{rows_in}
use Rattle.spaces.specs.TableLaws as Tables

-- sums of vectors are bracketed anew
add_again : (u v w : List ℤ) → add integers (add integers u v) w ≡ add integers u (add integers v w)
add_again [] v w = refl
add_again (a ∷ u) [] w = refl
add_again (a ∷ u) (b ∷ v) [] = refl
add_again (a ∷ u) (b ∷ v) (c ∷ w) = ap₂ (λ (z : ℤ) (l : List ℤ). z ∷ l) (add_assoc a b c) (add_again u v w)

-- how many items an image has
pub length-image : (map : AffineMap) (v : List ℤ) → length map.base ≡ map.lines.rows → length (image map v) ≡ map.lines.rows
length-image map v e = Matrix.length-add integers map.lines.rows map.base (times_vector integers (rows_in map.lines) v) e (Matrix.length-times_vector integers (rows_in map.lines) v ∙ Tables.length-rows_in map.lines)

-- the composed map has the image of the image
pub composed_image : (first next map : AffineMap) (v : List ℤ) → length first.base ≡ first.lines.rows → HasWidth first.lines.width (rows_in first.lines) → IsComposed first next map → image map v ≡ image next (image first v)
composed_image first next map v e wide composed =
    let moved : List ℤ = times_vector integers (rows_in first.lines) v in
    let same : length first.base ≡ length moved = e ∙ sym (Matrix.length-times_vector integers (rows_in first.lines) v ∙ Tables.length-rows_in first.lines) in
    ap₂ (add integers) composed.base (ap (λ rows. times_vector integers rows v) composed.lines ∙ Matrix.times_matrix_vector integers first.lines.width (rows_in next.lines) (rows_in first.lines) v wide)
    ∙ add_again next.base (times_vector integers (rows_in next.lines) first.base) (times_vector integers (rows_in next.lines) moved)
    ∙ ap (add integers next.base) (sym (Matrix.times_vector-add integers (rows_in next.lines) first.base moved same))

-- the form at the image is the pulled form at the vector, and the constant
pub pulled_value : (map : AffineMap) (form v : List ℤ) → length map.base ≡ map.lines.rows → HasWidth map.lines.width (rows_in map.lines) → dot integers form (image map v) ≡ dot integers (pulled_form map form) v +ℤ pulled_constant map form
pulled_value map form v e wide =
    let moved : List ℤ = times_vector integers (rows_in map.lines) v in
    let same : length map.base ≡ length moved = e ∙ sym (Matrix.length-times_vector integers (rows_in map.lines) v ∙ Tables.length-rows_in map.lines) in
    Dot.dot-add_right integers form map.base moved same
    ∙ ap (λ z. dot integers form map.base +ℤ z) (Matrix.dot_times_vector integers map.lines.width form (rows_in map.lines) v wide)
    ∙ add_comm (dot integers form map.base) (dot integers (pulled_form map form) v)
