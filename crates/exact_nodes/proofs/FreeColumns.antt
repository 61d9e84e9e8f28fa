-- A frame of some coordinates has a free column, and a direction is no wider than the widest column.
use Rattle.std.proofs.Common.{◌≡◌, ◌≢◌, ◌⊎◌, inl, inr, ⊎_elim, ℕ, zero, suc, ◌<◌, ◌≤◌, Bool, true, false, List, [], ◌∷◌, length, get_or, map, max, ℤ, pos, negsuc, nat_abs, int_div, ◌-ℤ◌, ◌*ℤ◌, ◌≤ℤ◌, refl, sym, ap, ap₂, subst, ◌∙◌, arith}
use Rattle.std.specs.Prelude.{All}
use Rattle.std.specs.Int.{◌∣◌}
use Rattle.std.proofs.lemmas.Bool.{cases_eq}
use Rattle.std.proofs.lemmas.List.{length-replicate}
use Rattle.std.proofs.lemmas.List.Elements.{All-cons, All-head, All-nil, All-tail}
use Rattle.exact_math.specs.IntegerRing.{linear}
use Rattle.exact_math.specs.Ring.{integers}
use Rattle.exact_math.specs.Rational.{ℚ, whole, ◌+ℚ◌, ◌-ℚ◌, ◌*ℚ◌, ◌≤ℚ◌, ◌<ℚ◌}
use Rattle.exact_math.specs.RationalOrder.{le_of_lt, le_or_lt, le_trans, whole_le}
use Rattle.exact_math.specs.RationalRing.{rationals}
use Rattle.exact_math.specs.RingSolver.{ring, reads}
use Rattle.exact_vectors.specs.Vectors.{dot, scale, zeros}
use Rattle.exact_vectors.specs.Matrices.{times_vector}
use Rattle.whole_rows.specs.declared.bounds.Bounds.{Bounds}
use Rattle.farkas_rows.specs.Inequalities.{unit}
use Rattle.farkas_rows.specs.NodeLaws.{length-unit}
use Rattle.node_point.specs.RationalPoints.{form_value}
use Rattle.form_widths.specs.Directions.{IsDirection, IsFreeColumn}
use Rattle.form_widths.specs.FormLaws.{form_value-scale}
use Rattle.form_widths.specs.Inequalities.{point_over}
use Rattle.form_widths.specs.PulledLaws.{whole_sub}
use Rattle.form_widths.specs.RationalOrderLaws.{le-multiple, le_by_two}
use Rattle.form_widths.specs.Widths.{IsBoundOn}
use Rattle.proof_tree.specs.Moves.{nonnegative_part, widest}
use Rattle.unimodular_pair.specs.Gathering.{common_divisor}
use Rattle.spaces.specs.Tables.{rows_in}
use Rattle.thin_forms.specs.Parts.{IsPrimitivePart}
use Rattle.thin_forms.proofs.PartSteps.{divisor_divides, divisor_greatest, none_but_zeros, part_is_free, quotient_exact}
use Rattle.reformulate.specs.Substitutions.{IsSubstitution, Substitution, dimension_of}
use Rattle.presolve_map.specs.Selections.{select}
use Rattle.node_regions.specs.PlacedPoints.{IsInBox}

-- ---- primitive parts

-- the factors over their greatest common divisor
quotients : (d : ℕ) → List ℤ → List ℤ
quotients d form = map (λ z. int_div z (pos d)) form

quotients-scaled : (d : ℕ) (form : List ℤ) → All (λ factor. d ∣ nat_abs factor) form → form ≡ scale integers (pos d) (quotients d form)
unfolding quotients
quotients-scaled d [] h = refl
quotients-scaled d (a ∷ form) h =
    ap₂ (λ (z : ℤ) (l : List ℤ). z ∷ l) (sym (quotient_exact a d (All-head (λ (factor : ℤ). d ∣ nat_abs factor) a form h)))
    (quotients-scaled d form (All-tail (λ (factor : ℤ). d ∣ nat_abs factor) a form h))

primitive_part_of : (form : List ℤ) → common_divisor form ≢ 0 → IsPrimitivePart form (quotients (common_divisor form) form)
primitive_part_of form some = record {
  divisor = common_divisor form;
  positive = above (common_divisor form) some;
  multiple = quotients-scaled (common_divisor form) form (divisor_divides form);
  greatest = divisor_greatest form;
}
  where
    above : (n : ℕ) → n ≢ 0 → 0 < n
    above n h = omega (arith, h)

-- ---- free columns

-- one of the lines is that of a free column
pub record HasFreeColumn (lines : List (List ℤ)) : Type 0 where
  pub column : ℕ
  pub form : List ℤ
  pub free : IsFreeColumn lines column form

-- all factors are 0
abbrev IsNone : List ℤ → Type 0
IsNone line = All (λ factor. factor ≡ pos 0) line

later : (line : List ℤ) (lines : List (List ℤ)) → HasFreeColumn lines → HasFreeColumn (line ∷ lines)
later line lines h = record {
  column = suc h.column;
  form = h.form;
  free = record { there = omega (arith, h.free.there); divisor = h.free.divisor; positive = h.free.positive; line = h.free.line; primitive = h.free.primitive };
}

free_or_none : (lines : List (List ℤ)) → HasFreeColumn lines ⊎ All IsNone lines
free_or_none [] = inr (All-nil IsNone)
free_or_none (line ∷ lines) = by_rest (free_or_none lines) (cases_eq (common_divisor line) 0)
  where
    by_rest : HasFreeColumn lines ⊎ All IsNone lines → (common_divisor line ≡ 0) ⊎ (common_divisor line ≢ 0) → HasFreeColumn (line ∷ lines) ⊎ All IsNone (line ∷ lines)
    by_rest (inl free) e = inl (later line lines free)
    by_rest (inr none) (inl e) = inr (All-cons IsNone line lines (none_but_zeros line e) none)
    by_rest (inr none) (inr some) = inl (record {
      column = 0;
      form = quotients (common_divisor line) line;
      free = part_is_free (line ∷ lines) 0 (quotients (common_divisor line) line) (omega arith) (primitive_part_of line some);
    })

dot_none : (line y : List ℤ) → IsNone line → dot integers line y ≡ pos 0
dot_none [] y h = refl
dot_none (a ∷ line) [] h = refl
dot_none (a ∷ line) (x ∷ y) h =
    let none : a ≡ pos 0 = All-head (λ (factor : ℤ). factor ≡ pos 0) a line h in
    let product : a *ℤ x ≡ pos 0 = ap (λ (z : ℤ). z *ℤ x) none ∙ omega linear in
    omega (linear, product, dot_none line y (All-tail (λ (factor : ℤ). factor ≡ pos 0) a line h))

times_none : (lines : List (List ℤ)) (y z : List ℤ) → All IsNone lines → times_vector integers lines y ≡ times_vector integers lines z
times_none [] y z h = refl
times_none (line ∷ lines) y z h =
    ap₂ (λ (v : ℤ) (l : List ℤ). v ∷ l) (dot_none line y (All-head IsNone line lines h) ∙ sym (dot_none line z (All-head IsNone line lines h))) (times_none lines y z (All-tail IsNone line lines h))

unit_is_not_zeros : (n : ℕ) → unit (suc n) 0 ≡ zeros integers (suc n) → ⊥
unit_is_not_zeros n e = let one : pos 1 ≡ pos 0 = ap (λ (l : List ℤ). get_or l 0 (pos 0)) e in absurd (omega (linear, one))

-- V K y is y: a frame with coordinates has a line that is not all 0.
pub frame_has_free_column : (s : Substitution) → IsSubstitution s → 0 < dimension_of s → HasFreeColumn (rows_in s.to_work.lines)
frame_has_free_column s is some = by_cases (free_or_none (rows_in s.to_work.lines))
  where
    none_left : (n : ℕ) → n ≡ dimension_of s → 0 < n → All IsNone (rows_in s.to_work.lines) → ⊥
    none_left zero e h none = absurd (omega (arith, h))
    none_left (suc n) e h none =
        unit_is_not_zeros n
        (sym (is.inverse (unit (suc n) 0) (length-unit (suc n) 0 ∙ e)) ∙ ap (times_vector integers (rows_in s.back)) (times_none (rows_in s.to_work.lines) (unit (suc n) 0) (zeros integers (suc n)) none)
        ∙ is.inverse (zeros integers (suc n)) (length-replicate (suc n) (pos 0) ∙ e))

    by_cases : HasFreeColumn (rows_in s.to_work.lines) ⊎ All IsNone (rows_in s.to_work.lines) → HasFreeColumn (rows_in s.to_work.lines)
    by_cases (inl free) = free
    by_cases (inr none) = absurd (none_left (dimension_of s) refl some none)

-- ---- widths in the box

within_part : (z : ℤ) → z ≤ℤ pos (nonnegative_part z)
within_part (pos n) = omega linear
within_part (negsuc n) = omega linear

-- two points of the box differ in a column by at most its width
pub line_within : (box : List Bounds) (base : List ℤ) (lines : List (List ℤ)) (y z : List ℚ) (j : ℕ) → j < length lines → length base ≡ length lines → IsInBox box (point_over base lines y) → IsInBox box (point_over base lines z)
    → (form_value (get_or lines j []) y -ℚ form_value (get_or lines j []) z) ≤ℚ whole (pos (widest box))
line_within box base [] y z j lt long in_y in_z = absurd (omega (arith, lt))
line_within box [] (line ∷ lines) y z j lt long in_y in_z = absurd (omega (arith, long))
line_within [] (b ∷ base) (line ∷ lines) y z j lt long in_y in_z = absurd in_y
line_within (c ∷ box) (b ∷ base) (line ∷ lines) y z zero lt long in_y in_z =
    le_trans (form_value line y -ℚ form_value line z) (whole (c.high -ℤ c.low)) (whole (pos (widest (c ∷ box))))
    (subst (λ (t : ℚ). (form_value line y -ℚ form_value line z) ≤ℚ t) (sym (whole_sub c.high c.low))
    (le_by_two (form_value line y -ℚ form_value line z) (whole c.high -ℚ whole c.low) (whole b +ℚ form_value line y) (whole c.high) (whole c.low) (whole b +ℚ form_value line z) in_y.0.1 in_z.0.0
    (apart (whole b) (form_value line y) (form_value line z) (whole c.high) (whole c.low))))
    (whole_le (c.high -ℤ c.low) (pos (widest (c ∷ box))) (wider (c.high -ℤ c.low) (nonnegative_part (c.high -ℤ c.low)) (widest box) (within_part (c.high -ℤ c.low))))
  where
    apart : (b v u h l : ℚ) → (h -ℚ l) -ℚ (v -ℚ u) ≡ (h -ℚ (b +ℚ v)) +ℚ ((b +ℚ u) -ℚ l)
    apart b v u h l = ring rationals (b ∷ v ∷ u ∷ h ∷ l ∷ []) (search reads depth 30) (search reads depth 30) refl

    wider : (d : ℤ) (n w : ℕ) → d ≤ℤ pos n → d ≤ℤ pos (max n w)
    wider d n w h = let more : n ≤ max n w = omega arith in omega (linear, h, more)
line_within (c ∷ box) (b ∷ base) (line ∷ lines) y z (suc j) lt long in_y in_z =
    le_trans (form_value (get_or lines j []) y -ℚ form_value (get_or lines j []) z) (whole (pos (widest box))) (whole (pos (widest (c ∷ box))))
    (line_within box base lines y z j (omega (arith, lt)) (omega (arith, long)) in_y.1 in_z.1)
    (whole_le (pos (widest box)) (pos (widest (c ∷ box))) (wider (nonnegative_part (c.high -ℤ c.low)) (widest box)))
  where
    wider : (n w : ℕ) → pos w ≤ℤ pos (max n w)
    wider n w = let more : w ≤ max n w = omega arith in omega (linear, more)

-- some of the columns are no wider than all
pub widest_select : (flags : List Bool) (box : List Bounds) → widest (select flags box) ≤ widest box
widest_select [] box = omega arith
widest_select (flag ∷ flags) [] = omega arith
widest_select (true ∷ flags) (b ∷ box) = omega (arith, widest_select flags box)
widest_select (false ∷ flags) (b ∷ box) = omega (arith, widest_select flags box)

-- ---- directions

-- what is at most a bound some times over is at most the bound
part_of_bound : (t : ℚ) (d w : ℕ) → 0 < d → (whole (pos d) *ℚ t) ≤ℚ whole (pos w) → t ≤ℚ whole (pos w)
part_of_bound t d w some h = ⊎_elim below above (le_or_lt t (whole (pos 0)))
  where
    below : t ≤ℚ whole (pos 0) → t ≤ℚ whole (pos w)
    below k = le_trans t (whole (pos 0)) (whole (pos w)) k (whole_le (pos 0) (pos w) (omega linear))

    turned : (t d : ℚ) → t *ℚ d ≡ d *ℚ t
    turned t d = ring rationals (t ∷ d ∷ []) (search reads depth 30) (search reads depth 30) refl

    above : whole (pos 0) <ℚ t → t ≤ℚ whole (pos w)
    above k = le_trans t (t *ℚ whole (pos d)) (whole (pos w)) (le-multiple t d (le_of_lt (whole (pos 0)) t k) (omega (arith, some))) (subst (λ (q : ℚ). q ≤ℚ whole (pos w)) (sym (turned t (whole (pos d)))) h)

-- A direction is no wider than a bound on all columns.
pub direction_within : (region : List ℚ → Type 0) (r : ℕ) (lines : List (List ℤ)) (form : List ℤ) (w : ℕ) → IsDirection region r lines form → HasFreeColumn lines → ((j : ℕ) → j < length lines → IsBoundOn region (get_or lines j []) (whole (pos w)))
    → IsBoundOn region form (whole (pos w))
direction_within region r lines form w direction some bounds =
    subst (IsBoundOn region form) (once (whole (pos w))) (direction.columns some.column some.form some.free (whole (pos w)) part)
  where
    once : (q : ℚ) → whole (pos 1) *ℚ q ≡ q
    once q = ring rationals (q ∷ []) (search reads depth 30) (search reads depth 30) refl

    out : (d v u : ℚ) → d *ℚ v -ℚ d *ℚ u ≡ d *ℚ (v -ℚ u)
    out d v u = ring rationals (d ∷ v ∷ u ∷ []) (search reads depth 30) (search reads depth 30) refl

    part : IsBoundOn region some.form (whole (pos w))
    part y z in_y in_z =
        let d = some.free.divisor in
        part_of_bound (form_value some.form y -ℚ form_value some.form z) some.free.divisor w some.free.positive
        (subst (λ (t : ℚ). t ≤ℚ whole (pos w)) (ap₂ (λ (v u : ℚ). v -ℚ u) (form_value-scale (pos d) some.form y) (form_value-scale (pos d) some.form z) ∙ out (whole (pos d)) (form_value some.form y) (form_value some.form z))
        (subst (λ (line : List ℤ). (form_value line y -ℚ form_value line z) ≤ℚ whole (pos w)) some.free.line (bounds some.column some.free.there y z in_y in_z)))
