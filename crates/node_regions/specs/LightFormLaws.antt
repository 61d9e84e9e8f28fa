-- Forms on the coordinates over the work columns and back, and the values of light forms.
use Rattle.std.proofs.Common.{◌≡◌, ℕ, ◌+◌, ◌*◌, ◌<◌, ◌≤◌, List, [], ◌∷◌, length, get_or, ℤ, pos, neg_ℤ, nat_abs, ◌+ℤ◌, ◌*ℤ◌, ◌≤ℤ◌, refl, sym, ap, subst, ◌∙◌, arith}
use Rattle.std.proofs.Math.Nat.{mul-le-mul_left}
use Rattle.std.proofs.lemmas.List.{ext_get_or}
use Rattle.exact_math.specs.IntegerOrder.{abs_add_le, abs_bounds, abs_mul}
use Rattle.exact_math.specs.IntegerRing.{linear}
use Rattle.exact_math.specs.Ring.{integers}
use Rattle.exact_math.specs.Rational.{ℚ, whole, ◌≤ℚ◌}
use Rattle.exact_math.specs.RationalOrder.{le_trans, whole_le}
use Rattle.exact_vectors.specs.Vectors.{dot}
use Rattle.exact_vectors.specs.Matrices.{HasWidth, combination, times_vector}
use Rattle.exact_vectors.specs.DotLaws as Dot
use Rattle.exact_vectors.specs.MatrixLaws as Matrix
use Rattle.whole_rows.specs.declared.bounds.Bounds.{Bounds}
use Rattle.whole_rows.specs.declared.ends.End.{End}
use Rattle.whole_rows.specs.declared.ends.End.TheVariants.{Least, Greatest}
use Rattle.whole_rows.specs.Ends.{sum_at, value_at}
use Rattle.whole_rows.specs.EndLaws.{abs-value_at}
use Rattle.whole_rows.specs.WholeRows.{reach, span}
use Rattle.farkas_rows.specs.Inequalities.{unit}
use Rattle.farkas_rows.specs.NodeLaws.{dot-unit, length-unit}
use Rattle.node_point.specs.RationalPoints.{form_value}
use Rattle.spaces.specs.Maps.{pulled_form}
use Rattle.spaces.specs.TableLaws.{HasWidth-rows_in}
use Rattle.spaces.specs.Tables.{rows_in}
use Rattle.reformulate.specs.Substitutions.{IsSubstitution, Substitution, columns_of, dimension_of}
use Rattle.node_regions.specs.PlacedPointLaws.{greatest_sum_over, least_sum_over}
use Rattle.node_regions.specs.PlacedPoints.{IsInBox}

-- a form is known by its values at unit vectors
same_values : (n : ℕ) (f g : List ℤ) → length f ≡ n → length g ≡ n → ((y : List ℤ) → length y ≡ n → dot integers f y ≡ dot integers g y) → f ≡ g
same_values n f g e h same =
    ext_get_or (pos 0) f g (e ∙ sym h) (λ j lt.
    let below : j < n = omega (arith, e, lt) in
    sym (Dot.dot_comm integers f (unit n j) ∙ dot-unit n j f e below) ∙ same (unit n j) (length-unit n j) ∙ Dot.dot_comm integers g (unit n j) ∙ dot-unit n j g h below)

-- d V K is d
pub pulled-back : (frame : Substitution) (form : List ℤ) → IsSubstitution frame → length form ≡ dimension_of frame → pulled_form frame.to_work (combination integers (columns_of frame) form (rows_in frame.back)) ≡ form
pulled-back frame form is long =
    let wide : HasWidth (dimension_of frame) (rows_in frame.to_work.lines) = HasWidth-rows_in frame.to_work.lines is.shaped.size_lines in
    let back_wide : HasWidth (columns_of frame) (rows_in frame.back) = subst (λ (n : ℕ). HasWidth n (rows_in frame.back)) is.shaped.width (HasWidth-rows_in frame.back is.shaped.size_back) in
    let back : List ℤ = combination integers (columns_of frame) form (rows_in frame.back) in
    same_values (dimension_of frame) (pulled_form frame.to_work (combination integers (columns_of frame) form (rows_in frame.back))) form
    (Matrix.length-combination integers (dimension_of frame) (combination integers (columns_of frame) form (rows_in frame.back)) (rows_in frame.to_work.lines) wide) long
    (λ y size.
    sym (Matrix.dot_times_vector integers (dimension_of frame) (combination integers (columns_of frame) form (rows_in frame.back)) (rows_in frame.to_work.lines) y wide)
    ∙ sym (Matrix.dot_times_vector integers (columns_of frame) form (rows_in frame.back) (times_vector integers (rows_in frame.to_work.lines) y) back_wide)
    ∙ ap (dot integers form) (is.inverse y size))

-- either end of a sum over the box is at most the span in size
sum_within : (end : End) (factors : List ℤ) (box : List Bounds) → nat_abs (sum_at end factors box) ≤ span factors box
sum_within end [] box = omega arith
sum_within end (a ∷ factors) [] = omega arith
sum_within end (a ∷ factors) (b ∷ box) =
    omega (arith, abs_mul a (value_at end a b), abs_add_le (a *ℤ value_at end a b) (sum_at end factors box), sum_within end factors box, mul-le-mul_left (nat_abs a) (abs-value_at end a b))

-- so is a form's value at rational points of the box
pub value_least : (form : List ℤ) (box : List Bounds) (x : List ℚ) → IsInBox box x → whole (neg_ℤ (pos (span form box))) ≤ℚ form_value form x
value_least form box x h =
    le_trans (whole (neg_ℤ (pos (span form box)))) (whole (sum_at Least form box)) (form_value form x)
    (whole_le (neg_ℤ (pos (span form box))) (sum_at Least form box) (omega (linear, (abs_bounds (sum_at Least form box)).1, sum_within Least form box))) (least_sum_over form box x h)

pub value_greatest : (form : List ℤ) (box : List Bounds) (x : List ℚ) → IsInBox box x → form_value form x ≤ℚ whole (pos (span form box))
value_greatest form box x h =
    le_trans (form_value form x) (whole (sum_at Greatest form box)) (whole (pos (span form box))) (greatest_sum_over form box x h)
    (whole_le (sum_at Greatest form box) (pos (span form box)) (omega (linear, (abs_bounds (sum_at Greatest form box)).0, sum_within Greatest form box)))
