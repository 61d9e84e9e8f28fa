-- The least whole line of multipliers that refute a node refutes it.
use Rattle.std.proofs.Common.{◌≡◌, ℕ, zero, suc, ◌^◌, ◌<◌, List, [], ◌∷◌, length, get_or, map, ℤ, pos, neg_ℤ, ◌*ℤ◌, ◌≤ℤ◌, ◌<ℤ◌, refl, sym, ap, ap₂, ◌∙◌, subst, arith}
use Rattle.std.specs.Prelude.{Option, Some, None, IsSome, IfSome, All, option_map, unwrap_or}
use Rattle.std.specs.List.{AllZip}
use Rattle.std.specs.Ordering.{int_eq}
use Rattle.std.proofs.lemmas.Bool.{cond_both}
use Rattle.std.specs.List.Sorted.{IsStrictlyIncreasing}
use Rattle.exact_math.specs.Ring.{integers}
use Rattle.exact_math.specs.RingLaws as Laws
use Rattle.exact_math.specs.IntegerRing.{linear}
use Rattle.exact_math.specs.Rational.{ℚ, whole, neg_ℚ, ◌+ℚ◌, ◌*ℚ◌, ◌<ℚ◌}
use Rattle.exact_math.specs.RationalRing.{rationals, whole_add, whole_mul}
use Rattle.exact_math.specs.RationalOrder.{pos_from_num, num_pos}
use Rattle.exact_math.specs.RingSolver.{ring, reads}
use Rattle.exact_vectors.specs.Vectors.{dot, zeros}
use Rattle.exact_vectors.specs.MatrixLaws as Matrices
use Rattle.whole_rows.specs.WholeRows.{WholeRows, IsWithinLimits}
use Rattle.row_lifting.specs.Lifting.{none}
use Rattle.farkas_rows.specs.declared.fracs.CutFrac.{CutFrac}
use Rattle.farkas_rows.specs.declared.fracs.FracUse.{FracUse}
use Rattle.farkas_rows.specs.declared.line.CutUse.{CutUse}
use Rattle.farkas_rows.specs.declared.line.Line.{Line}
use Rattle.farkas_rows.specs.declared.line.Use.{Use}
use Rattle.farkas_rows.specs.declared.path.Slice.{Slice}
use Rattle.farkas_rows.specs.Inequalities.{Inequality, inequality_at, cut_inequality}
use Rattle.farkas_rows.specs.LeastLine.{IsLeastLine, fractions}
use Rattle.farkas_rows.specs.NodeLaws.{used-dense}
use Rattle.farkas_rows.specs.Refutes.{HasForms, IsDense, Refutes, line_of, line_weight, multipliers, nothing, used}
use Rattle.farkas_rows.specs.Sides.{factor_of, ComesTo}
use Rattle.farkas_rows.proofs.LeastLemmas.{whole_num}
use Rattle.farkas_rows.proofs.LeastLineLemmas.{multiple_positive, least_positive, least_there}
use Rattle.farkas_rows.proofs.LineLemmas.{ComesToNegative-of, length-multipliers, multipliers_within}
use Rattle.presolve_map.specs.LiftedLines.{total, named, numbers_of}
use Rattle.proof_tree.specs.Moves.{ClosesUnder}
use Rattle.node_lines.specs.Combinations.{cut_share, IsRefutation}
use Rattle.node_lines.specs.NodeLines.{cut_part}

-- ---- what a line's inequalities come to is a multiple

module _ (model : WholeRows) (path : List Slice) (end : Option Inequality) (part : Inequality → ℤ) where
  -- what the inequality of a number has
  abbrev value : ℕ → ℚ
  value number = whole (part (named model path end number))

  -- the inequalities of items
  abbrev of_uses : List Use → List Inequality
  of_uses uses = map (λ (item : Use). unwrap_or (inequality_at model path end item.index) nothing) uses

  first_of_product : (f a b c : ℚ) → (f *ℚ a) *ℚ b +ℚ f *ℚ c ≡ f *ℚ (a *ℚ b +ℚ c)
  first_of_product f a b c = ring rationals (f ∷ a ∷ b ∷ c ∷ []) (search reads depth 30) (search reads depth 30) refl

  items-share : (factor : ℚ) (items : List FracUse) (uses : List Use) → map (λ (item : Use). item.index) uses ≡ numbers_of items
      → AllZip (λ part number. whole number ≡ factor *ℚ part) (map (λ (item : FracUse). item.times) items) (map (λ (item : Use). item.times) uses)
      → whole (dot integers (map (λ (item : Use). item.times) uses) (map part (of_uses uses))) ≡ factor *ℚ total value items
  items-share factor [] [] e h = sym (Laws.mul_zero rationals factor)
  items-share factor [] (u ∷ uses) e h = absurd h
  items-share factor (i ∷ items) [] e h = absurd h
  items-share factor (i ∷ items) (u ∷ uses) e h =
      let same : u.index ≡ i.index = cc in
      let rest : map (λ (item : Use). item.index) uses ≡ numbers_of items = cc in
      whole_add (u.times *ℤ part (named model path end u.index)) (dot integers (map (λ (item : Use). item.times) uses) (map part (of_uses uses)))
      ∙ ap₂ (λ a b. a +ℚ b) (whole_mul u.times (part (named model path end u.index)) ∙ ap₂ (λ a b. a *ℚ b) h.0 (ap value same)) (items-share factor items uses rest h.1)
      ∙ first_of_product factor i.times (value i.index) (total value items)

  pub line-share : (factor : ℚ) (cut : Option CutFrac) (items : List FracUse) (used_cut : Option CutUse) (uses : List Use) → option_map (λ (cut : CutUse). cut.value) used_cut ≡ option_map (λ (cut : CutFrac). cut.value) cut → map (λ (item : Use). item.index) uses ≡ numbers_of items
      → AllZip (λ part number. whole number ≡ factor *ℚ part) (fractions cut items) (multipliers (line_of used_cut uses))
      → whole (dot integers (multipliers (line_of used_cut uses)) (map part (used model path end (line_of used_cut uses)))) ≡ factor *ℚ (cut_share model part cut +ℚ total value items)
  line-share factor None items None uses c e h = items-share factor items uses e h ∙ ap (λ z. factor *ℚ z) (sym (Laws.zero_add rationals (total value items)))
  line-share factor None items (Some used_cut) uses c e h = absurd (cc)
  line-share factor (Some cut) items None uses c e h = absurd (cc)
  line-share factor (Some cut) items (Some used_cut) uses c e h =
      let same : used_cut.value ≡ cut.value = cc in
      whole_add (used_cut.times *ℤ part (cut_inequality model used_cut.value)) (dot integers (map (λ (item : Use). item.times) uses) (map part (of_uses uses)))
      ∙ ap₂ (λ a b. a +ℚ b) (whole_mul used_cut.times (part (cut_inequality model used_cut.value)) ∙ ap₂ (λ a b. a *ℚ b) h.0 (ap (λ v. whole (part (cut_inequality model v))) same)) (items-share factor items uses e h.1)
      ∙ first_of_product factor cut.times (whole (part (cut_inequality model cut.value))) (total value items)

-- ---- signs

-- a whole number that is a multiple of 0
whole_zero : (factor q : ℚ) (z : ℤ) → whole z ≡ factor *ℚ q → q ≡ none → z ≡ pos 0
whole_zero factor q z e none_is = sym (whole_num z).0 ∙ ap (λ (r : ℚ). r.num) (e ∙ ap (λ r. factor *ℚ r) none_is ∙ Laws.mul_zero rationals factor) ∙ (whole_num (pos 0)).0

turned_positive : (q : ℚ) → q <ℚ whole (pos 0) → whole (pos 0) <ℚ neg_ℚ q
unfolding neg_ℚ whole
turned_positive q h = pos_from_num (neg_ℚ q) (omega (linear, h.lt))

turned_product : (f q : ℚ) → neg_ℚ (f *ℚ q) ≡ f *ℚ neg_ℚ q
turned_product f q = ring rationals (f ∷ q ∷ []) (search reads depth 30) (search reads depth 30) refl

-- a positive multiple of a negative number is negative
whole_negative : (factor q : ℚ) (z : ℤ) → whole (pos 0) <ℚ factor → whole z ≡ factor *ℚ q → q <ℚ none → z <ℤ pos 0
whole_negative factor q z above e below =
    let turned : whole (neg_ℤ z) ≡ factor *ℚ neg_ℚ q = Laws.literal_neg rationals z ∙ ap neg_ℚ e ∙ turned_product factor q in
    let one : pos 1 ≤ℤ neg_ℤ z = multiple_positive factor (neg_ℚ q) (neg_ℤ z) above (turned_positive q below) turned in
    omega (linear, one)

not_below : (q : ℚ) → q ≡ none → q <ℚ none → ⊥
unfolding neg_ℚ whole
not_below q e h = absurd (omega (linear, num_pos (neg_ℚ q) (turned_positive q h), ap (λ (r : ℚ). (neg_ℚ r).num) e))

-- something is combined
pub some-combined : (model : WholeRows) (path : List Slice) (end : Option Inequality) (cut : Option CutFrac) (items : List FracUse) → IsRefutation model path end cut items → fractions cut items ≡ [] → ⊥
some-combined model path end None [] refuted e = not_below (none +ℚ none) (rationals.add_zero none) refuted.negative
some-combined model path end None (item ∷ items) refuted e = cc
some-combined model path end (Some cut) items refuted e = cc

-- ---- the line

-- The line with the least whole multipliers that are a multiple of multipliers which show that the node is empty refutes it, where it is not too heavy.
refutes-of : (model : WholeRows) (path : List Slice) (end : Option Inequality) (cut : Option CutFrac) (items : List FracUse) (line : Line) → IsWithinLimits model → HasForms (length model.box) path → IfSome end (IsDense (length model.box)) → IsRefutation model path end cut items → IsLeastLine cut items line → line_weight model path end line ≤ℤ pos (2 ^ 126) → Refutes model path end line
refutes-of model path end cut items line limits forms dense_end refuted least light =
    let n : ℕ = length model.box in
    let times : List ℤ = multipliers line in
    let inequalities : List Inequality = used model path end line in
    let factor : ℚ = least.least.multiple.0 in
    let above : whole (pos 0) <ℚ least.least.multiple.0 = least.least.multiple.1.0 in
    let shares = λ (part : Inequality → ℤ). line-share model path end part least.least.multiple.0 cut items line.cut line.items least.same_cut least.same_numbers least.least.multiple.1.1 in
    let there : All (λ (item : Use). IsSome (inequality_at model path end item.index)) line.items = least_there (λ (number : ℕ). IsSome (inequality_at model path end number)) items line.items least.same_numbers refuted.there in
    let one : All (λ number. pos 1 ≤ℤ number) (multipliers line) = least_positive cut items line refuted.positive least in
    let small : All (λ number. number ≤ℤ pos (2 ^ 126)) (multipliers line) = multipliers_within (multipliers line) (used model path end line) (pos (2 ^ 126)) (length-multipliers model path end line) one light in
    let limit : ℤ = dot integers (multipliers line) (map (λ (inequality : Inequality). inequality.limit) (used model path end line)) in
    let sums : ComesTo (length model.box) (multipliers line) (used model path end line) (zeros integers (length model.box)) (dot integers (multipliers line) (map (λ (inequality : Inequality). inequality.limit) (used model path end line))) = record {
      long = Matrices.length-zeros integers n;
      sums = λ j lt. Matrices.zeros-at integers n j ∙ sym (whole_zero factor _ (dot integers (multipliers line) (map (factor_of j) (used model path end line))) (shares (factor_of j)) (refuted.vanishes j lt));
      limit = refl;
    } in
    record {
      rising = subst IsStrictlyIncreasing (sym least.same_numbers) refuted.rising;
      there = there;
      in_range = λ k d lt. (one k d lt, small k d lt);
      light = light;
      combination = ComesToNegative-of n (multipliers line) (used model path end line) (zeros integers n) limit (used-dense model path end line limits forms dense_end there) sums (all_zero n) (whole_negative factor _ limit above (shares (λ (inequality : Inequality). inequality.limit)) refuted.negative);
    }
  where
    all_zero : (n : ℕ) → All (λ number. number ≡ pos 0) (zeros integers n)
    all_zero n = λ k d lt. zero-of n k d (omega (arith, Matrices.length-zeros integers n))
      where
        zero-of : (n k : ℕ) (d : ℤ) → k < n → get_or (zeros integers n) k d ≡ pos 0
        zero-of zero k d h = absurd (omega arith)
        zero-of (suc n) zero d h = refl
        zero-of (suc n) (suc k) d h = zero-of n k d (omega arith)

-- a cut in it has the value of the combination's
cut-of : (P : ℤ → Type 0) (cut : Option CutFrac) (used_cut : Option CutUse) → option_map (λ (cut : CutUse). cut.value) used_cut ≡ option_map (λ (cut : CutFrac). cut.value) cut → IfSome cut (λ (cut : CutFrac). P cut.value) → IfSome used_cut (λ (cut : CutUse). P cut.value)
cut-of P None None e h = tt
cut-of P None (Some used_cut) e h = absurd (cc)
cut-of P (Some cut) None e h = tt
cut-of P (Some cut) (Some used_cut) e h = let same : used_cut.value ≡ cut.value = cc in subst P (sym same) h

-- in the search under a best value
pub closes-of : (model : WholeRows) (path : List Slice) (end : Option Inequality) (best : Option ℤ) (times : ℚ) (items : List FracUse) (line : Line) → IsWithinLimits model → HasForms (length model.box) path → IfSome end (IsDense (length model.box)) → IsRefutation model path end (cut_part best times) items → IsLeastLine (cut_part best times) items line
    → line_weight model path end line ≤ℤ pos (2 ^ 126) → ClosesUnder model best path end line
closes-of model path end best times items line limits forms dense_end refuted least light = record {
  refutes = refutes-of model path end (cut_part best times) items line limits forms dense_end refuted least light;
  cut = cut-of (λ value. best ≡ Some value) (cut_part best times) line.cut least.same_cut (of_best best times);
}
  where
    of_best : (best : Option ℤ) (times : ℚ) → IfSome (cut_part best times) (λ (cut : CutFrac). best ≡ Some cut.value)
    of_best None times = tt
    of_best (Some value) times = cond_both (int_eq times.num (pos 0)) None (Some (record { value = value; times = times })) (λ (o : Option CutFrac). IfSome o (λ (cut : CutFrac). Some value ≡ Some cut.value)) (λ e. tt) (λ e. refl)
