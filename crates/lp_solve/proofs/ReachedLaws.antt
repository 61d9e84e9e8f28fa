-- The dictionaries that pivots reach: the same solutions, with the variables in another order.
use Rattle.std.proofs.Common.{◌≡◌, ◌≢◌, ℕ, zero, suc, ◌+◌, ◌-◌, ◌<◌, ◌≤◌, inl, inr, pos, List, [], ◌∷◌, ◌++◌, length, get_or, set, refl, sym, ap, ap₂, subst, ◌∙◌, arith, length-append, All, Bool, true, false}
use Rattle.std.specs.Prelude.{◌↔◌, ◌==◌, sum_by}
use Rattle.std.specs.List.Sorted.{IsPermutation}
use Rattle.std.proofs.lemmas.Bool.{eqb-true}
use Rattle.std.proofs.lemmas.Int.{ints}
use Rattle.std.proofs.lemmas.List.{length-set, set-append_left, set-append_right, get_or_append_left, get_or-append_right}
use Rattle.std.proofs.lemmas.List.Edits.{swap_is}
use Rattle.std.proofs.lemmas.List.Elements.{All-append}
use Rattle.std.proofs.lemmas.List.Sums.{sum_by-cons}
use Rattle.std.proofs.lemmas.List.Sorted.{IsPermutation-refl, IsPermutation-trans, IsPermutation-swap, All-permutation, sum_by-IsPermutation}
use Rattle.exact_math.specs.Rational.{ℚ}
use Rattle.exact_vectors.specs.Matrices.{HasWidth}
use Rattle.lp_dict.specs.Dictionaries.{Dictionary, Solves, entry_at, numbers_from, first_dictionary}
use Rattle.lp_dict.specs.PivotLaws.{IsDictionary, pivot_keeps_solutions, IsDictionary-pivoted}
use Rattle.lp_dict.specs.Pivots.{pivoted}
use Rattle.lp_solve.specs.Rule.{IsNext, after, AreLegal}
use Rattle.lp_solve.proofs.ExchangeLaws.{tick, occurrences, IsDistinct, occurs}
use Rattle.lp_solve.proofs.StartLaws.{length-numbers, first_is_dictionary}
use Rattle.lp_solve.proofs.ValueLaws.{unequal, lt_or_le}

-- a dictionary of the system and the form
pub record IsReached (rows : List (List ℚ)) (limits form : List ℚ) (d : Dictionary) : Type 0 where
  pub shape : IsDictionary d
  pub as_many_rows : length d.basic ≡ length rows
  pub as_many_columns : length d.outside ≡ length form
  pub permuted : IsPermutation (numbers_from (length form) (length rows) ++ numbers_from 0 (length form)) (d.basic ++ d.outside)
  pub same : (x : ℕ → ℚ) (z : ℚ) → Solves d x z ↔ Solves (first_dictionary rows limits form) x z

-- a pivot that can be made
pub record CanPivot (d : Dictionary) (p q : ℕ) : Type 0 where
  pub row_there : p < length d.basic
  pub column_there : q < length d.outside
  pub entry : (entry_at d p q).num ≢ pos 0

-- a pivot of the rule can be made
pub next_can : (d : Dictionary) (p q : ℕ) → IsNext d p q → CanPivot d p q
next_can d p q (inl n) = record { row_there = n.row.inside; column_there = n.column.inside; entry = n.row.holds.entry }
next_can d p q (inr (inl n)) = record { row_there = n.row.inside; column_there = n.column.inside; entry = λ z. absurd (omega (arith, ints, z, n.column.holds.positive)) }
next_can d p q (inr (inr n)) = record { row_there = n.row.inside; column_there = n.column.inside; entry = λ z. absurd (omega (arith, ints, z, n.row.holds.limits.negative)) }

module _ (rows : List (List ℚ)) (limits form : List ℚ) (width : HasWidth (length form) rows) (many : length limits ≡ length rows) where
  -- the first dictionary is one
  pub first_reached : IsReached rows limits form (first_dictionary rows limits form)
  first_reached = record {
    shape = first_is_dictionary rows limits form width many;
    as_many_rows = length-numbers (length form) (length rows);
    as_many_columns = length-numbers 0 (length form);
    permuted = IsPermutation-refl _;
    same = λ x z. ((λ s. s), (λ s. s));
  }

  -- a pivot leads to one
  pub pivot_reached : (d : Dictionary) (p q : ℕ) → IsReached rows limits form d → CanPivot d p q → IsReached rows limits form (pivoted d p q)
  pivot_reached d p q r can = record {
    shape = IsDictionary-pivoted d r.shape p q can.row_there can.column_there can.entry;
    as_many_rows = length-set d.basic p (get_or d.outside q 0) ∙ r.as_many_rows;
    as_many_columns = length-set d.outside q (get_or d.basic p 0) ∙ r.as_many_columns;
    permuted = IsPermutation-trans _ (d.basic ++ d.outside) _ r.permuted (exchanged d.basic d.outside p q can.row_there can.column_there);
    same = λ x z. let kept = pivot_keeps_solutions d r.shape p q can.row_there can.column_there can.entry x z in ((λ s. (r.same x z).0 (kept.1 s)), (λ s. kept.0 ((r.same x z).1 s)));
  }
    where
      exchanged : (basic outside : List ℕ) (p q : ℕ) → p < length basic → q < length outside → IsPermutation (basic ++ outside) (set basic p (get_or outside q 0) ++ set outside q (get_or basic p 0))
      exchanged basic outside p q h k =
          let all : List ℕ = basic ++ outside in
          let m : ℕ = length basic in
          let size : length all ≡ m + length outside = length-append basic outside in
          let at_q : get_or all (m + q) 0 ≡ get_or outside q 0 = let back : m + q - m ≡ q = omega arith in get_or-append_right basic outside m (m + q) 0 refl (omega arith) ∙ ap (λ i. get_or outside i 0) back in
          let at_p : get_or all p 0 ≡ get_or basic p 0 = get_or_append_left basic outside 0 p h in
          let new : set basic p (get_or outside q 0) ++ set outside q (get_or basic p 0) ≡ set (set all p (get_or all (m + q) 0)) (m + q) (get_or all p 0)
          = sym (ap₂ (λ a b. set (set all p a) (m + q) b) at_q at_p
          ∙ ap (λ l. set l (m + q) (get_or basic p 0)) (set-append_left basic outside p (get_or outside q 0) h)
          ∙ set-append_right (set basic p (get_or outside q 0)) outside m (m + q) (get_or basic p 0) (length-set basic p (get_or outside q 0)) (omega arith)
          ∙ (let back : m + q - m ≡ q = omega arith in ap (λ i. set basic p (get_or outside q 0) ++ set outside i (get_or basic p 0)) back)) in
          IsPermutation-swap all _ p (m + q) (omega arith) (omega arith) (new ∙ swap_is all p (m + q) 0 (omega arith) (omega arith))

  -- so do legal pivots
  pub legal_reached : (d : Dictionary) (pivots : List (ℕ × ℕ)) → IsReached rows limits form d → AreLegal d pivots → IsReached rows limits form (after d pivots)
  legal_reached d [] r legal = r
  legal_reached d (p ∷ pivots) r legal = legal_reached (pivoted d p.0 p.1) pivots (pivot_reached d p.0 p.1 r (next_can d p.0 p.1 legal.0)) legal.1

-- one pivot more
pub after_more : (d : Dictionary) (pivots : List (ℕ × ℕ)) (p : ℕ × ℕ) → after d (pivots ++ p ∷ []) ≡ pivoted (after d pivots) p.0 p.1
after_more d [] p = refl
after_more d (a ∷ pivots) p = after_more (pivoted d a.0 a.1) pivots p

-- it is legal too
pub legal_more : (d : Dictionary) (pivots : List (ℕ × ℕ)) (p : ℕ × ℕ) → AreLegal d pivots → IsNext (after d pivots) p.0 p.1 → AreLegal d (pivots ++ p ∷ [])
legal_more d [] p legal next = (next, tt)
legal_more d (a ∷ pivots) p legal next = (legal.0, legal_more (pivoted d a.0 a.1) pivots p legal.1 next)

-- ---- no variable stands twice

-- occurrences in joined lists
occurrences-append : (v : ℕ) (a b : List ℕ) → occurrences v (a ++ b) ≡ occurrences v a + occurrences v b
occurrences-append v [] b = omega arith
occurrences-append v (k ∷ a) b = let rest : occurrences v (a ++ b) ≡ occurrences v a + occurrences v b = occurrences-append v a b in omega arith

-- occurrences as a sum
occurrences-sum : (v : ℕ) (ks : List ℕ) → occurrences v ks ≡ sum_by (λ k. tick (k == v)) ks
occurrences-sum v [] = refl
occurrences-sum v (k ∷ ks) = ap (λ n. tick (k == v) + n) (occurrences-sum v ks) ∙ sym (sum_by-cons (λ k. tick (k == v)) k ks)

-- a variable before the numbers
numbers_low : (v first count : ℕ) → v < first → occurrences v (numbers_from first count) ≡ 0
numbers_low v first zero h = refl
numbers_low v first (suc count) h =
    let apart : tick (first == v) ≡ 0 = ap tick (unequal first v (omega arith)) in
    let rest : occurrences v (numbers_from (suc first) count) ≡ 0 = numbers_low v (suc first) count (omega arith) in
    omega arith

-- behind them
numbers_high : (v first count : ℕ) → first + count ≤ v → occurrences v (numbers_from first count) ≡ 0
numbers_high v first zero h = refl
numbers_high v first (suc count) h =
    let apart : tick (first == v) ≡ 0 = ap tick (unequal first v (omega arith)) in
    let rest : occurrences v (numbers_from (suc first) count) ≡ 0 = numbers_high v (suc first) count (omega arith) in
    omega arith

-- at most once in any case
numbers_once : (v first count : ℕ) → occurrences v (numbers_from first count) ≤ 1
numbers_once v first zero = omega arith
numbers_once v first (suc count) = go (first == v) refl (numbers_once v (suc first) count)
  where
    go : (b : Bool) → (first == v) ≡ b → occurrences v (numbers_from (suc first) count) ≤ 1 → tick (first == v) + occurrences v (numbers_from (suc first) count) ≤ 1
    go true e rest =
        let same : first ≡ v = eqb-true first v e in
        let low : occurrences v (numbers_from (suc first) count) ≡ 0 = numbers_low v (suc first) count (omega arith) in
        let once : tick (first == v) ≡ 1 = ap tick e in
        omega arith
    go false e rest = let apart : tick (first == v) ≡ 0 = ap tick e in omega arith

-- the variables of the first dictionary
first_distinct : (n m : ℕ) → IsDistinct (numbers_from n m ++ numbers_from 0 n)
first_distinct n m v =
    let joined : occurrences v (numbers_from n m ++ numbers_from 0 n) ≡ occurrences v (numbers_from n m) + occurrences v (numbers_from 0 n) = occurrences-append v (numbers_from n m) (numbers_from 0 n) in
    elim (lt_or_le v n) [
      | inl h ↦
          let low : occurrences v (numbers_from n m) ≡ 0 = numbers_low v n m h in
          let once : occurrences v (numbers_from 0 n) ≤ 1 = numbers_once v 0 n in
          omega arith
      | inr h ↦
          let high : occurrences v (numbers_from 0 n) ≡ 0 = numbers_high v 0 n (omega arith) in
          let once : occurrences v (numbers_from n m) ≤ 1 = numbers_once v n m in
          omega arith
    ]

module _ (rows : List (List ℚ)) (limits form : List ℚ) (d : Dictionary) (r : IsReached rows limits form d) where
  -- the variables of a reached one
  pub reached_distinct : IsDistinct (d.basic ++ d.outside)
  reached_distinct v =
      let same : occurrences v (d.basic ++ d.outside) ≡ occurrences v (numbers_from (length form) (length rows) ++ numbers_from 0 (length form))
      = occurrences-sum v _ ∙ sum_by-IsPermutation (λ k. tick (k == v)) _ _ r.permuted ∙ sym (occurrences-sum v _) in
      subst (λ k. k ≤ 1) (sym same) (first_distinct (length form) (length rows) v)

  -- each variable is a coordinate or a slack
  pub reached_bounded : All (λ v. v < length form + length rows) (d.basic ++ d.outside)
  reached_bounded =
      All-permutation (λ v. v < length form + length rows) (numbers_from (length form) (length rows) ++ numbers_from 0 (length form)) (d.basic ++ d.outside) r.permuted
      (All-append (λ v. v < length form + length rows) _ _ (below (length form) (length rows) (length form + length rows) (omega arith)) (below 0 (length form) (length form + length rows) (omega arith)))
    where
      below : (first count most : ℕ) → first + count ≤ most → All (λ v. v < most) (numbers_from first count)
      below first zero most h k e lt = absurd (omega arith)
      below first (suc count) most h zero e lt = omega arith
      below first (suc count) most h (suc k) e lt = below (suc first) count most (omega arith) k e (omega arith)

  -- the variables outside
  pub outside_distinct : IsDistinct d.outside
  outside_distinct v = let all : occurrences v (d.basic ++ d.outside) ≤ 1 = reached_distinct v in let joined : occurrences v (d.basic ++ d.outside) ≡ occurrences v d.basic + occurrences v d.outside = occurrences-append v d.basic d.outside in omega arith

  -- with one basic variable
  pub row_distinct : (p : ℕ) → p < length d.basic → IsDistinct (get_or d.basic p 0 ∷ d.outside)
  row_distinct p h v =
      let all : occurrences v (d.basic ++ d.outside) ≤ 1 = reached_distinct v in
      let joined : occurrences v (d.basic ++ d.outside) ≡ occurrences v d.basic + occurrences v d.outside = occurrences-append v d.basic d.outside in
      go (get_or d.basic p 0 == v) refl all joined
    where
      go : (b : Bool) → (get_or d.basic p 0 == v) ≡ b → occurrences v (d.basic ++ d.outside) ≤ 1 → occurrences v (d.basic ++ d.outside) ≡ occurrences v d.basic + occurrences v d.outside → tick (get_or d.basic p 0 == v) + occurrences v d.outside ≤ 1
      go true e all joined = let some : 0 < occurrences v d.basic = occurs d.basic p v h (eqb-true (get_or d.basic p 0) v e) in let once : tick (get_or d.basic p 0 == v) ≡ 1 = ap tick e in omega arith
      go false e all joined = let apart : tick (get_or d.basic p 0 == v) ≡ 0 = ap tick e in omega arith

  -- a variable's bound
  pub basic_bound : (i : ℕ) → i < length d.basic → get_or d.basic i 0 < length form + length rows
  basic_bound i h = let joined : length (d.basic ++ d.outside) ≡ length d.basic + length d.outside = length-append d.basic d.outside in subst (λ v. v < length form + length rows) (get_or_append_left d.basic d.outside 0 i h) (reached_bounded i 0 (omega arith))

  pub outside_bound : (j : ℕ) → j < length d.outside → get_or d.outside j 0 < length form + length rows
  outside_bound j h =
      let joined : length (d.basic ++ d.outside) ≡ length d.basic + length d.outside = length-append d.basic d.outside in
      let back : length d.basic + j - length d.basic ≡ j = omega arith in
      subst (λ v. v < length form + length rows) (get_or-append_right d.basic d.outside (length d.basic) (length d.basic + j) 0 refl (omega arith) ∙ ap (λ i. get_or d.outside i 0) back) (reached_bounded (length d.basic + j) 0 (omega arith))
