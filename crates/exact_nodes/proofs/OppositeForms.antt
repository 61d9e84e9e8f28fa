-- Forms with the other sign.
use Rattle.std.proofs.Common.{◌≡◌, ℕ, zero, suc, List, [], ◌∷◌, length, map, get_or, ℤ, pos, neg_ℤ, refl, sym, ap, ap₂, ◌∙◌}
use Rattle.exact_math.specs.IntegerLaws as Z
use Rattle.exact_math.specs.Ring.{integers}
use Rattle.exact_math.specs.RingLaws as Laws
use Rattle.exact_math.specs.Rational.{ℚ, whole, neg_ℚ}
use Rattle.exact_math.specs.RationalRing.{rationals}
use Rattle.exact_vectors.specs.Vectors.{add, dot, negate, scale, zeros}
use Rattle.exact_vectors.specs.Matrices.{combination}
use Rattle.exact_vectors.specs.DotLaws as Dot
use Rattle.whole_rows.specs.declared.bounds.Bounds.{Bounds}
use Rattle.whole_rows.specs.WholeRows.{WholeRows}
use Rattle.node_point.specs.RationalPoints.{form_value}
use Rattle.spaces.specs.Tables.{rows_in}
use Rattle.reformulate.specs.Substitutions.{Substitution, columns_of}
use Rattle.presolve_map.specs.ReducedRows.{ReducedRows}
use Rattle.farkas_lift.specs.NodeEqualities.{work_form}
use Rattle.farkas_lift.proofs.JoinedLaws.{joined-map, joined-same}
use Rattle.farkas_lift.proofs.NodeValues.{negate-at}
use Rattle.node_regions.specs.NodeFrames.{IsKeptForm}
use Rattle.exact_nodes.specs.NodeExcuses.{IsModelForm, back_form}

-- ---- combinations

negate-zeros : (n : ℕ) → zeros integers n ≡ negate integers (zeros integers n)
negate-zeros zero = refl
negate-zeros (suc n) = ap (λ (l : List ℤ). pos 0 ∷ l) (negate-zeros n)

negate-add : (v w : List ℤ) → add integers (negate integers v) (negate integers w) ≡ negate integers (add integers v w)
negate-add [] w = refl
negate-add (a ∷ v) [] = refl
negate-add (a ∷ v) (b ∷ w) = ap₂ (λ (z : ℤ) (l : List ℤ). z ∷ l) (sym (Z.neg_add a b)) (negate-add v w)

scale-negate : (k : ℤ) (v : List ℤ) → scale integers (neg_ℤ k) v ≡ negate integers (scale integers k v)
scale-negate k [] = refl
scale-negate k (a ∷ v) = ap₂ (λ (z : ℤ) (l : List ℤ). z ∷ l) (Z.neg_mul k a) (scale-negate k v)

combination-negate : (n : ℕ) (y : List ℤ) (rows : List (List ℤ)) → combination integers n (negate integers y) rows ≡ negate integers (combination integers n y rows)
combination-negate n [] rows = negate-zeros n
combination-negate n (k ∷ y) [] = negate-zeros n
combination-negate n (k ∷ y) (row ∷ rows) = ap₂ (add integers) (scale-negate k row) (combination-negate n y rows) ∙ negate-add (scale integers k row) (combination integers n y rows)

-- ---- values

wholes-negate : (form : List ℤ) → map whole (negate integers form) ≡ negate rationals (map whole form)
wholes-negate [] = refl
wholes-negate (a ∷ form) = ap₂ (λ (q : ℚ) (l : List ℚ). q ∷ l) (Laws.literal_neg rationals a) (wholes-negate form)

pub form_value-negate : (form : List ℤ) (y : List ℚ) → form_value (negate integers form) y ≡ neg_ℚ (form_value form y)
form_value-negate form y = ap (λ (l : List ℚ). dot rationals l y) (wholes-negate form) ∙ Dot.dot-negate_left rationals (map whole form) y

-- ---- over the work columns and over all columns

work_form-negate : (work : ReducedRows) (form : List ℤ) → work_form work (negate integers form) ≡ negate integers (work_form work form)
work_form-negate work form =
    joined-same (λ j. get_or (negate integers form) (get_or work.column_numbers j 0) (pos 0) ∷ []) (λ j. map neg_ℤ (get_or form (get_or work.column_numbers j 0) (pos 0) ∷ [])) (length work.rows.box)
    (λ j h. ap (λ (z : ℤ). z ∷ []) (negate-at form (get_or work.column_numbers j 0)))
    ∙ sym (joined-map neg_ℤ (λ j. get_or form (get_or work.column_numbers j 0) (pos 0) ∷ []) (length work.rows.box))

kept-negate : (box : List Bounds) (form : List ℤ) → IsKeptForm box form → IsKeptForm box (negate integers form)
kept-negate [] [] h = h
kept-negate [] (a ∷ form) h = h
kept-negate (b ∷ box) [] h = h
kept-negate (b ∷ box) (a ∷ form) h = ((λ closed. ap neg_ℤ (h.0 closed)), kept-negate box form h.1)

-- the form with the other sign has the values of that with the other sign over all columns
pub opposite_form : (rows : WholeRows) (work : ReducedRows) (frame : Substitution) (form model_form : List ℤ) → IsModelForm rows work frame form model_form → IsModelForm rows work frame (negate integers form) (negate integers model_form)
opposite_form rows work frame form model_form is = record {
  kept = kept-negate rows.box model_form is.kept;
  same = work_form-negate work model_form ∙ ap (negate integers) is.same ∙ sym (combination-negate (columns_of frame) form (rows_in frame.back));
}

-- and the constant with the other sign
pub opposite_constant : (frame : Substitution) (form base : List ℤ) → dot integers (back_form frame (negate integers form)) base ≡ neg_ℤ (dot integers (back_form frame form) base)
opposite_constant frame form base = ap (λ (f : List ℤ). dot integers f base) (combination-negate (columns_of frame) form (rows_in frame.back)) ∙ Dot.dot-negate_left integers (back_form frame form) base
