-- The two sides of a row that cross refute the root.
use Rattle.std.proofs.Common.{◌≡◌, ℕ, zero, suc, ◌+◌, ◌*◌, ◌^◌, ◌<◌, ◌≤◌, List, [], ◌∷◌, length, get_or, ℤ, pos, neg_ℤ, ◌+ℤ◌, ◌*ℤ◌, ◌≤ℤ◌, ◌<ℤ◌, nat_abs, refl, sym, ap, ap₂, subst, subst₂, ◌∙◌, arith}
use Rattle.std.specs.Prelude.{Option, Some, None, option_map, IsSome, unwrap_or, sum_by}
use Rattle.std.proofs.lemmas.List.Elements.{All-cons, All-nil, All-get_or}
use Rattle.std.proofs.lemmas.List.Sums.{sum_by-cons}
use Rattle.exact_math.specs.GcdLaws.{nat_abs-neg_ℤ}
use Rattle.exact_math.specs.Ring.{integers}
use Rattle.exact_math.specs.IntegerRing.{linear}
use Rattle.exact_vectors.specs.Vectors.{add, scale, negate, zeros, dot}
use Rattle.whole_rows.specs.declared.bounds.Bounds.{Bounds}
use Rattle.whole_rows.specs.WholeRows.{WholeRow, WholeRows, row_at, span, size_of_side, weight, IsWithinLimits}
use Rattle.whole_rows.specs.WeightLaws.{factor_le_term, weight-row_at}
use Rattle.farkas_rows.specs.declared.line.Use.{Use}
use Rattle.farkas_rows.specs.Inequalities.{Inequality, at_most, at_least, inequality_at}
use Rattle.farkas_rows.specs.NumberLaws.{number-row_upper, number-row_lower}
use Rattle.presolve_map.specs.Roots.{HaveCrossed, HasCrossingSides, IsRootLine}
use Rattle.farkas_rows.specs.Refutes.{nothing, weights, inequality_weight, line_of, ComesToNegative, Refutes}

-- ---- what they come to

-- a form and the form turned cancel
cancel : (n : ℕ) (form : List ℤ) → length form ≡ n → add integers (scale integers (pos 1) form) (add integers (scale integers (pos 1) (negate integers form)) (zeros integers n)) ≡ zeros integers n
cancel zero [] e = refl
cancel zero (a ∷ form) e = absurd (omega arith)
cancel (suc n) [] e = absurd (omega arith)
cancel (suc n) (a ∷ form) e = ap₂ {A = ℤ} {B = List ℤ} {C = List ℤ} (λ x t. x ∷ t) (omega linear) (cancel n form (omega arith))

-- the sizes of the factors sum to the span at most
sizes_le : (form : List ℤ) (box : List Bounds) → length form ≡ length box → sum_by nat_abs form ≤ span form box
sizes_le [] box e = omega arith
sizes_le (a ∷ form) [] e = absurd (omega arith)
sizes_le (a ∷ form) (b ∷ box) e = omega (arith, sum_by-cons nat_abs a form, factor_le_term a b, sizes_le form box (omega arith))

-- turned factors have the same sizes
sizes-negate : (form : List ℤ) → sum_by nat_abs (negate integers form) ≡ sum_by nat_abs form
sizes-negate [] = refl
sizes-negate (a ∷ form) =
    let here : nat_abs (neg_ℤ a) ≡ nat_abs a = nat_abs-neg_ℤ a in
    sum_by-cons nat_abs (neg_ℤ a) (negate integers form) ∙ ap₂ {A = ℕ} {B = ℕ} {C = ℕ} (λ x t. x + t) here (sizes-negate form) ∙ sym (sum_by-cons nat_abs a form)

-- the line of a row's two sides, once each
abbrev pub line_of_sides : ℕ → List Use
line_of_sides i = record { index = 2 * i; times = pos 1 } ∷ record { index = 2 * i + 1; times = pos 1 } ∷ []

crossing-combination : (n : ℕ) (form : List ℤ) (low high : ℤ) → length form ≡ n → high <ℤ low → ComesToNegative n (pos 1 ∷ pos 1 ∷ []) (at_most form high ∷ at_least form low ∷ [])
crossing-combination n form low high e crosses = record { vanishes = cancel n form e; negative = omega linear }

light-pair : (u v : Inequality) → inequality_weight u ≤ 2 ^ 97 → inequality_weight v ≤ 2 ^ 97 → dot integers (pos 1 ∷ pos 1 ∷ []) (weights (u ∷ v ∷ [])) ≤ℤ pos (2 ^ 126)
light-pair u v h k = sum_light (inequality_weight u) (inequality_weight v) h k
  where
    sum_light : (m n : ℕ) → m ≤ 2 ^ 97 → n ≤ 2 ^ 97 → (pos 1 *ℤ pos m +ℤ (pos 1 *ℤ pos n +ℤ pos 0)) ≤ℤ pos (2 ^ 126)
    sum_light m n h k = omega linear

-- The line of the sides of a row whose upper side is below its lower side refutes the root.
pub refutes-crossing : (rows : WholeRows) (i : ℕ) (low high : ℤ) → IsWithinLimits rows → i < length rows.rows → (row_at rows i).low ≡ Some low → (row_at rows i).high ≡ Some high → high <ℤ low → Refutes rows [] None (line_of None (line_of_sides i))
refutes-crossing rows i low high limits h is_low is_high crosses =
    let row : WholeRow = row_at rows i in
    let d : WholeRow = record { factors = []; low = None; high = None } in
    let dense : length row.factors ≡ length rows.box = All-get_or (λ (r : WholeRow). length r.factors ≡ length rows.box) rows.rows i d h limits.dense in
    let light : weight rows.box row ≤ 2 ^ 96 = weight-row_at rows i limits h in
    let upper : inequality_at rows [] None (2 * i) ≡ Some (at_most row.factors high) = number-row_upper rows [] None i h ∙ ap (option_map (at_most row.factors)) is_high in
    let lower : inequality_at rows [] None (2 * i + 1) ≡ Some (at_least row.factors low) = number-row_lower rows [] None i h ∙ ap (option_map (at_least row.factors)) is_low in
    let first = ap (λ (o : Option Inequality). unwrap_or o nothing) upper in
    let second = ap (λ (o : Option Inequality). unwrap_or o nothing) lower in
    let P : Use → Type 0 = λ (item : Use). IsSome (inequality_at rows [] None item.index) in
    let one : Use = record { index = 2 * i; times = pos 1 } in
    let two : Use = record { index = 2 * i + 1; times = pos 1 } in
    let M : ℤ → Type 0 = λ (times : ℤ). (pos 1 ≤ℤ times) × (times ≤ℤ pos (2 ^ 126)) in
    record {
      rising = λ k lt. rising k lt;
      there = All-cons P one (two ∷ []) (subst IsSome (sym upper) refl) (All-cons P two [] (subst IsSome (sym lower) refl) (All-nil P));
      in_range = All-cons M (pos 1) (pos 1 ∷ []) (omega linear, omega linear) (All-cons M (pos 1) [] (omega linear, omega linear) (All-nil M));
      light = subst₂ (λ (u v : Inequality). dot integers (pos 1 ∷ pos 1 ∷ []) (weights (u ∷ v ∷ [])) ≤ℤ pos (2 ^ 126)) (sym first) (sym second) (light-pair (at_most row.factors high) (at_least row.factors low) (weighs row.factors low high row.low row.high dense is_low is_high light).0 (weighs row.factors low high row.low row.high dense is_low is_high light).1);
      combination = subst₂ (λ (u v : Inequality). ComesToNegative (length rows.box) (pos 1 ∷ pos 1 ∷ []) (u ∷ v ∷ [])) (sym first) (sym second) (crossing-combination (length rows.box) row.factors low high dense crosses);
    }
  where
    rising : (k : ℕ) → k + 1 < 2 → get_or (2 * i ∷ (2 * i + 1) ∷ []) k 0 < get_or (2 * i ∷ (2 * i + 1) ∷ []) (k + 1) 0
    rising zero lt = omega arith
    rising (suc k) lt = absurd (omega arith)

    weighs : (form : List ℤ) (l g : ℤ) (lower upper : Option ℤ) → length form ≡ length rows.box → lower ≡ Some l → upper ≡ Some g → span form rows.box + size_of_side lower + size_of_side upper ≤ 2 ^ 96 → (inequality_weight (at_most form g) ≤ 2 ^ 97) × (inequality_weight (at_least form l) ≤ 2 ^ 97)
    weighs form l g lower upper dense is_l is_g light =
        let low_size : size_of_side lower ≡ nat_abs l = ap size_of_side is_l in
        let high_size : size_of_side upper ≡ nat_abs g = ap size_of_side is_g in
        let turned : nat_abs (neg_ℤ l) ≡ nat_abs l = nat_abs-neg_ℤ l in
        (omega (arith, sizes_le form rows.box dense), omega (arith, sizes_le form rows.box dense, sizes-negate form))

-- So does that of each row whose sides cross.
pub crossing-line : (rows : WholeRows) (i : ℕ) → IsWithinLimits rows → i < length rows.rows → HasCrossingSides (row_at rows i) → IsRootLine rows (line_of None (line_of_sides i))
crossing-line rows i limits h crosses = by_sides (row_at rows i).low (row_at rows i).high refl refl crosses
  where
    by_sides : (low high : Option ℤ) → (row_at rows i).low ≡ low → (row_at rows i).high ≡ high → HaveCrossed low high → IsRootLine rows (line_of None (line_of_sides i))
    by_sides None high is_low is_high c = absurd c
    by_sides (Some low) None is_low is_high c = absurd c
    by_sides (Some low) (Some high) is_low is_high c = record { no_cut = refl; refutes = refutes-crossing rows i low high limits h is_low is_high c }
