-- The last dictionary shows its answer.
use Rattle.std.proofs.Common.{◌≡◌, ◌≢◌, ℕ, zero, suc, ◌+◌, ◌<◌, ◌≤◌, inl, inr, ℤ, pos, negsuc, neg_ℤ, ◌≤ℤ◌, ◌<ℤ◌, List, [], ◌∷◌, ◌++◌, length, map, get_or, refl, sym, ap, ap₂, subst, ◌∙◌, arith, All}
use Rattle.std.proofs.lemmas.Int.{ints}
use Rattle.std.proofs.lemmas.List.{length-map, get_or-map, get_or_append_left}
use Rattle.exact_math.specs.Rational.{ℚ, whole, neg_ℚ, ◌+ℚ◌, ◌*ℚ◌, ◌≤ℚ◌, ◌<ℚ◌}
use Rattle.exact_math.specs.RationalLaws.{zero_from_num}
use Rattle.exact_math.specs.RationalOrder as Order
use Rattle.exact_math.specs.IntegerOrder.{le_or_lt}
use Rattle.exact_math.specs.IntegerRing.{expand, linear}
use Rattle.exact_math.specs.RationalRing.{rationals}
use Rattle.exact_math.specs.RingSolver.{ring, reads}
use Rattle.exact_math.specs.RingLaws as Laws
use Rattle.exact_vectors.specs.Vectors.{dot, negate, zeros}
use Rattle.exact_vectors.specs.Matrices.{HasWidth}
use Rattle.exact_vectors.specs.DotLaws as Dot
use Rattle.exact_vectors.specs.MatrixLaws as Matrix
use Rattle.lp_dict.specs.Dictionaries.{Dictionary, none, one, Solves, entry_at, numbers_from}
use Rattle.lp_dict.specs.Systems.{slacks}
use Rattle.lp_solve.specs.Certificates.{ShowsEmpty}
use Rattle.lp_solve.specs.Rule.{IsNegative, IsPositive, NoneFree, constant_at}
use Rattle.lp_solve.specs.Steps.{IsStuck}
use Rattle.lp_solve.specs.Values.{value_of, row_multipliers}
use Rattle.lp_solve.proofs.CertificateLaws.{certificate}
use Rattle.lp_solve.proofs.ExchangeLaws.{exchange}
use Rattle.lp_solve.proofs.ReachedLaws.{IsReached, row_distinct, basic_bound, outside_bound}
use Rattle.lp_solve.proofs.SolutionLaws.{row_split}
use Rattle.lp_solve.proofs.StartLaws.{values_at, slacks_at, point_solves, numbers-at, length-numbers}
use Rattle.lp_solve.proofs.ValueLaws.{value_of-cases}

-- ---- signs

-- below 0, from the numerator
pub negative_lt : (q : ℚ) → IsNegative q → q <ℚ none
unfolding whole
negative_lt q h = record { lt = simp expand (omega (linear, h)) }

-- not below 0
pub not_negative : (q : ℚ) → ¬ (IsNegative q) → none ≤ℚ q
not_negative q h = Order.nonneg_from_num q (at_least q.num h)
  where
    at_least : (z : ℤ) → ¬ (z <ℤ pos 0) → pos 0 ≤ℤ z
    at_least z h = elim (le_or_lt (pos 0) z) [ inl le ↦ le | inr lt ↦ absurd (h lt) ]

-- not above 0
pub not_positive : (q : ℚ) → ¬ (IsPositive q) → none ≤ℚ neg_ℚ q
unfolding neg_ℚ
not_positive q h = Order.nonneg_from_num (neg_ℚ q) (at_most q.num h)
  where
    at_most : (z : ℤ) → ¬ (pos 0 <ℤ z) → pos 0 ≤ℤ neg_ℤ z
    at_most z h = elim (le_or_lt z (pos 0)) [ inl le ↦ omega (arith, ints) | inr lt ↦ absurd (h lt) ]

-- 0, where it is not other than 0
pub not_other : (q : ℚ) → ¬ (q.num ≢ pos 0) → q ≡ none
not_other q h = zero_from_num q (equal q.num h)
  where
    equal : (z : ℤ) → ¬ (z ≢ pos 0) → z ≡ pos 0
    equal (pos zero) h = refl
    equal (pos (suc n)) h = absurd (h (λ e. absurd (omega (arith, ints, e))))
    equal (negsuc n) h = absurd (h (λ e. absurd (omega (arith, ints, e))))

-- 0 is at most 1
pub one_nonneg : none ≤ℚ one
one_nonneg = Order.whole_le (pos 0) (pos 1) (omega (arith, ints))

-- a sum whose two parts cancel
cancel : (a b c : ℚ) → a ≡ b +ℚ c → one *ℚ a +ℚ neg_ℚ b ≡ c
cancel a b c e = ap (λ z. one *ℚ z +ℚ neg_ℚ b) e ∙ ring rationals (b ∷ c ∷ []) {x = one *ℚ (b +ℚ c) +ℚ neg_ℚ b} {y = c} (search reads depth 30) (search reads depth 30) refl

-- minus zeros
negate_zeros : (n : ℕ) → negate rationals (zeros rationals n) ≡ zeros rationals n
negate_zeros zero = refl
negate_zeros (suc n) = ap₂ (λ (a : ℚ) (l : List ℚ). a ∷ l) (Laws.neg_zero rationals) (negate_zeros n)

module _ (rows : List (List ℚ)) (limits form : List ℚ) (width : HasWidth (length form) rows) (many : length limits ≡ length rows) (d : Dictionary) (r : IsReached rows limits form d) where
  -- the equation of one row at the values of a solution
  pub row_equation : (x : ℕ → ℚ) (z : ℚ) (i : ℕ) → Solves d x z → i < length d.rows → dot rationals (get_or d.rows i []) (map x d.outside) +ℚ entry_at d i (length d.outside) ≡ get_or (map x d.basic ++ z ∷ []) i none
  row_equation x z i s h =
      let long : length (get_or d.rows i []) ≡ length (map x d.outside) + 1 = Matrix.HasWidth-at rationals (length d.outside + 1) d.rows i [] r.shape.width h ∙ ap (λ n. n + 1) (sym (length-map d.outside x)) in
      ap (λ j. dot rationals (get_or d.rows i []) (map x d.outside) +ℚ get_or (get_or d.rows i []) j none) (sym (length-map d.outside x))
      ∙ sym (row_split (get_or d.rows i []) (map x d.outside) long)
      ∙ sym (Matrix.times_vector-at rationals d.rows (map x d.outside ++ one ∷ []) i none [] h)
      ∙ ap (λ l. get_or l i none) s

  -- a coordinate outside has the entry 0 in a slack's row
  pub free_entry : NoneFree d → (i j : ℕ) → i < length d.basic → j < length d.outside → length d.outside ≤ get_or d.basic i 0 → get_or d.outside j 0 < length d.outside → entry_at d i j ≡ none
  free_entry free i j h k slack coordinate = not_other (entry_at d i j) (λ other. free j k (record { coordinate = coordinate; row = i; row_there = h; has_entry = record { slack = slack; entry = other } }))

  -- ---- no point

  module _ (i : ℕ) (stuck : IsStuck d i) where
    row : List ℚ
    row = get_or d.rows i []

    there : i < length d.rows
    there = omega (arith, r.shape.height, stuck.first.inside)

    long : length row ≡ length d.outside + 1
    unfolding row
    long = Matrix.HasWidth-at rationals (length d.outside + 1) d.rows i [] r.shape.width there

    -- an item of the negated row
    negated : (j : ℕ) → j < length d.outside → get_or (negate rationals row) j none ≡ neg_ℚ (entry_at d i j)
    unfolding row
    negated j h = let inside : j < length row = omega (arith, long) in get_or-map neg_ℚ row j none none inside

    -- the multipliers give the constant at each point
    gives_constant : (y : List ℚ) → length y ≡ length form → dot rationals (row_multipliers d i) (slacks rows limits y) ≡ constant_at d i
    unfolding row
    gives_constant y e =
        let x : ℕ → ℚ = values_at rows limits form width many y in
        let solved : Solves d x (dot rationals form y) = (r.same x (dot rationals form y)).1 (point_solves rows limits form width many y e) in
        let basic : get_or (map x d.basic ++ dot rationals form y ∷ []) i none ≡ x (get_or d.basic i 0) = (let inside : i < length (map x d.basic) = simp length-map stuck.first.inside in get_or_append_left (map x d.basic) (dot rationals form y ∷ []) none i inside) ∙ get_or-map x d.basic i 0 none stuck.first.inside in
        let equation : x (get_or d.basic i 0) ≡ dot rationals row (map x d.outside) +ℚ constant_at d i = sym (row_equation x (dot rationals form y) i solved there ∙ basic) in
        let many_items : length (get_or d.basic i 0 ∷ d.outside) ≤ length (one ∷ negate rationals row) = omega (arith, long, length-map row neg_ℚ) in
        ap (dot rationals (row_multipliers d i)) (sym (slacks_at rows limits form width many y e) ∙ ap₂ (λ a b. map x (numbers_from a b)) (sym r.as_many_columns) (sym r.as_many_rows))
        ∙ exchange x (get_or d.basic i 0 ∷ d.outside) (one ∷ negate rationals row) (length d.outside) (length d.basic) (row_distinct rows limits form d r i stuck.first.inside) many_items within before
        ∙ ap (λ z. one *ℚ x (get_or d.basic i 0) +ℚ z) (Dot.dot-negate_left rationals row (map x d.outside))
        ∙ cancel (x (get_or d.basic i 0)) (dot rationals row (map x d.outside)) (constant_at d i) equation
      where
        within : (k : ℕ) → k < length (get_or d.basic i 0 ∷ d.outside) → get_or (get_or d.basic i 0 ∷ d.outside) k 0 < length d.outside + length d.basic
        within zero lt = omega (arith, basic_bound rows limits form d r i stuck.first.inside, r.as_many_columns, r.as_many_rows)
        within (suc k) lt = omega (arith, outside_bound rows limits form d r k (omega arith), r.as_many_columns, r.as_many_rows)

        before : (k : ℕ) → k < length (get_or d.basic i 0 ∷ d.outside) → get_or (get_or d.basic i 0 ∷ d.outside) k 0 < length d.outside → get_or (one ∷ negate rationals row) k none ≡ none
        before zero lt low = absurd (omega (arith, stuck.first.holds.slack))
        before (suc k) lt low =
            let inside : k < length d.outside = omega arith in
            negated k inside ∙ ap neg_ℚ (free_entry stuck.none_free i k stuck.first.inside inside stuck.first.holds.slack low) ∙ Laws.neg_zero rationals

    -- they are not negative
    row_not_negative : All (λ q. none ≤ℚ q) (row_multipliers d i)
    unfolding row
    row_not_negative k e lt =
        let numbers : List ℕ = numbers_from (length d.outside) (length d.basic) in
        let place : k < length numbers = omega (arith, length-map numbers (value_of (get_or d.basic i 0 ∷ d.outside) (one ∷ negate rationals row))) in
        let inside : k < length d.basic = omega (arith, length-numbers (length d.outside) (length d.basic)) in
        subst (λ q. none ≤ℚ q) (sym (get_or-map (value_of (get_or d.basic i 0 ∷ d.outside) (one ∷ negate rationals (get_or d.rows i []))) numbers k 0 e place ∙ ap (value_of (get_or d.basic i 0 ∷ d.outside) (one ∷ negate rationals (get_or d.rows i []))) (numbers-at (length d.outside) (length d.basic) k inside)))
        (item (length d.outside + k) (omega arith))
      where
        value : (v : ℕ) → length d.outside ≤ v → (j : ℕ) → j < length (get_or d.basic i 0 ∷ d.outside) → get_or (get_or d.basic i 0 ∷ d.outside) j 0 ≡ v → none ≤ℚ get_or (one ∷ negate rationals (get_or d.rows i [])) j none
        value v slack zero lt f = one_nonneg
        value v slack (suc j) lt f =
            let inside : j < length d.outside = omega arith in
            let is : get_or (negate rationals (get_or d.rows i [])) j none ≡ neg_ℚ (entry_at d i j) = negated j inside in
            subst (λ q. none ≤ℚ q) (sym is) (not_positive (entry_at d i j) (λ p. stuck.none_raises j inside (record { slack = omega (arith, f); positive = p })))

        item : (v : ℕ) → length d.outside ≤ v → none ≤ℚ value_of (get_or d.basic i 0 ∷ d.outside) (one ∷ negate rationals (get_or d.rows i [])) v
        item v slack = value_of-cases (λ q. none ≤ℚ q) (get_or d.basic i 0 ∷ d.outside) (one ∷ negate rationals (get_or d.rows i [])) v (Order.le_refl none) (value v slack)

    pub empty_shown : ShowsEmpty (length form) rows limits (row_multipliers d i)
    empty_shown =
        let both = certificate (length form) rows limits (zeros rationals (length form)) (row_multipliers d i) (neg_ℚ (constant_at d i)) width many (Matrix.length-zeros rationals (length form))
        (λ y e. Dot.dot-zeros_left rationals (length form) y ∙ sym (rationals.add_neg (constant_at d i)) ∙ ap (λ z. z +ℚ neg_ℚ (constant_at d i)) (sym (gives_constant y e))) in
        record {
          as_many = length-map (numbers_from (length d.outside) (length d.basic)) _ ∙ length-numbers (length d.outside) (length d.basic) ∙ r.as_many_rows;
          not_negative = row_not_negative;
          factors = both.0 ∙ negate_zeros (length form);
          limit = subst (λ q. q <ℚ none) (sym (both.1 ∙ Laws.neg_neg rationals (constant_at d i))) (negative_lt (constant_at d i) stuck.first.holds.negative);
        }
