-- The answers of a linear program.
use Rattle.std.proofs.Common.{◌≡◌, ℕ, ◌+◌, ◌*◌, ◌^◌, ◌<◌, ◌≤◌, ℤ, List, [], ◌∷◌, length, get_or, sym, ap, subst, ◌∙◌, arith}
use Rattle.std.specs.Prelude.{◌↔◌}
use Rattle.std.proofs.lemmas.List.{length-map}
use Rattle.exact_math.specs.Rational.{ℚ, whole}
use Rattle.exact_math.specs.RationalRing.{rationals}
use Rattle.exact_vectors.specs.Matrices.{HasWidth, rows_of}
use Rattle.exact_vectors.specs.FlatMatrixLaws.{HasWidth-rows_of, length-rows_of}
use Rattle.exact_vectors.specs.MatrixLaws as Matrix
use Rattle.spaces.specs.Tables.{Table}
use Rattle.lp_dict.specs.Dictionaries.{Dictionary, first_dictionary}
use Rattle.lp_dict.specs.Sizes.{MeetsCondition}
use Rattle.lp_dict.specs.Systems.{IsPoint, left_sides, whole_rows, wholes}
use Rattle.lp_solve.specs.Certificates.{IsBounded}
use Rattle.lp_solve.specs.Outcomes.{SolvedIs, SaysEmpty}
use Rattle.lp_solve.specs.Rule.{AreLegal, after, form_at}
use Rattle.lp_solve.specs.Steps.{IsStuck, IsEnd}
use Rattle.lp_solve.specs.Values.{vertex, form_multipliers, row_multipliers}
use Rattle.lp_solve.specs.declared.answer.Solved.{Solved}
use Rattle.lp_solve.specs.declared.answer.Solved.TheVariants.{Least, Empty}
use Rattle.lp_solve.proofs.CertificateLaws.{shown_least, shown_empty}
use Rattle.lp_solve.proofs.EndLaws.{empty_shown}
use Rattle.lp_solve.proofs.LeastLaws.{least_shown}
use Rattle.lp_solve.proofs.ReachedLaws.{IsReached, first_reached, legal_reached}

-- rows of whole numbers keep their width
whole_width : (n : ℕ) (rows : List (List ℤ)) → HasWidth n rows → HasWidth n (whole_rows rows)
whole_width n [] w = tt
whole_width n (row ∷ rows) w = (length-map row whole ∙ w.0, whole_width n rows w.1)

module _ (t : Table ℤ) (limits form : List ℤ) (condition : MeetsCondition t limits form) (size : length t.items ≡ t.rows * t.width) where
  -- the rows have as many factors as the form
  width_ok : HasWidth (length (wholes form)) (left_sides t)
  width_ok =
      let enough : t.rows * t.width ≤ length t.items = omega (arith, size) in
      subst (λ n. HasWidth n (left_sides t)) (sym (length-map form whole ∙ condition.as_many_factors)) (whole_width t.width (rows_of t.width t.rows t.items) (HasWidth-rows_of t.width t.rows t.items enough))

  -- how many rows there are
  pub rows_ok : length (left_sides t) ≡ t.rows
  rows_ok = length-map (rows_of t.width t.rows t.items) wholes ∙ length-rows_of t.width t.rows t.items

  -- there are as many limits
  many_ok : length (wholes limits) ≡ length (left_sides t)
  many_ok = length-map limits whole ∙ condition.as_many_limits ∙ sym rows_ok

  -- the first dictionary
  pub first : IsReached (left_sides t) (wholes limits) (wholes form) (first_dictionary (left_sides t) (wholes limits) (wholes form))
  first = first_reached (left_sides t) (wholes limits) (wholes form) width_ok many_ok

  -- a dictionary that legal pivots reach
  pub reached : (pivots : List (ℕ × ℕ)) (d : Dictionary) → AreLegal (first_dictionary (left_sides t) (wholes limits) (wholes form)) pivots → d ≡ after (first_dictionary (left_sides t) (wholes limits) (wholes form)) pivots → IsReached (left_sides t) (wholes limits) (wholes form) d
  reached pivots d legal is = subst (IsReached (left_sides t) (wholes limits) (wholes form)) (sym is) (legal_reached (left_sides t) (wholes limits) (wholes form) width_ok many_ok _ pivots first legal)

  -- the same from a dictionary that is the first
  pub reached_from : (start d : Dictionary) (pivots : List (ℕ × ℕ)) → start ≡ first_dictionary (left_sides t) (wholes limits) (wholes form) → AreLegal start pivots → d ≡ after start pivots → IsReached (left_sides t) (wholes limits) (wholes form) d
  reached_from start d pivots e legal is = reached pivots d (subst (λ z. AreLegal z pivots) e legal) (is ∙ ap (λ z. after z pivots) e)

  -- the numbers of rows and columns are small
  pub small_ok : t.rows + t.width < 2 ^ 32
  small_ok = omega (arith, condition.size)

  module _ (d : Dictionary) (r : IsReached (left_sides t) (wholes limits) (wholes form) d) where
    pub basic_count : t.rows ≡ length d.basic
    basic_count = sym (r.as_many_rows ∙ rows_ok)

    pub outside_count : t.width ≡ length d.outside
    outside_count = sym (r.as_many_columns ∙ length-map form whole ∙ condition.as_many_factors)

    pub row_width : (i : ℕ) → i ≤ length d.basic → length (get_or d.rows i []) ≡ length d.outside + 1
    row_width i h = let there : i < length d.rows = omega (arith, r.shape.height) in Matrix.HasWidth-at rationals (length d.outside + 1) d.rows i [] r.shape.width there

    -- there is no point
    pub solved_empty : (i : ℕ) → IsStuck d i → SolvedIs (left_sides t) (wholes limits) (wholes form) (Empty (row_multipliers d i))
    solved_empty i stuck =
        let shown = empty_shown (left_sides t) (wholes limits) (wholes form) width_ok many_ok d r i stuck in
        (shown, λ y p. shown_empty (length (wholes form)) (left_sides t) (wholes limits) (row_multipliers d i) width_ok shown y p)

    -- the vertex is least
    pub solved_least : IsBounded (length form) (left_sides t) (wholes limits) → IsEnd d → SolvedIs (left_sides t) (wholes limits) (wholes form) (Least (vertex d) (form_at d (length d.outside)) (form_multipliers d))
    solved_least bounded e =
        let same : length (wholes form) ≡ length form = length-map form whole in
        let shown = least_shown (left_sides t) (wholes limits) (wholes form) width_ok many_ok (subst (λ n. IsBounded n (left_sides t) (wholes limits)) (sym same) bounded) d r e.none_free e.none_below e in
        (shown, λ y p. shown_least (length (wholes form)) (left_sides t) (wholes limits) (wholes form) (vertex d) (form_at d (length d.outside)) (form_multipliers d) width_ok shown y p)

  -- an answer says that there is no point exactly where there is none
  pub says_empty : (answer : Solved) → SolvedIs (left_sides t) (wholes limits) (wholes form) answer → SaysEmpty answer ↔ ((y : List ℚ) → ¬ (IsPoint (length form) (left_sides t) (wholes limits) y))
  says_empty (Least point value multipliers) s = ((λ b. absurd b), (λ no_points. no_points point (subst (λ n. IsPoint n (left_sides t) (wholes limits) point) (length-map form whole) s.0.meets)))
  says_empty (Empty multipliers) s = ((λ u y p. s.1 y (subst (λ n. IsPoint n (left_sides t) (wholes limits) y) (sym (length-map form whole)) p)), (λ h. tt))
