-- How a slice narrows the box of a node.
use Rattle.std.proofs.Common.{◌≡◌, ◌≢◌, ◌⊎◌, ◌↔◌, inl, inr, ℕ, zero, suc, ◌+◌, ◌*◌, ◌^◌, ◌<◌, ◌≤◌, Bool, true, false, cond, List, [], ◌∷◌, ◌++◌, length, get_or, set, take, map, ℤ, nat_abs, pos, neg_ℤ, ◌≤ℤ◌, refl, sym, ap, ap₂, ◌∙◌, subst, zero-add, arith, ⊎_elim, rules}
use Rattle.std.specs.Prelude.{Option, Some, None, All, int_lt}
use Rattle.std.specs.List.{range_with_len}
use Rattle.std.proofs.lemmas.List.FromFn.{length-map-range_with_len, get_or-map-range_with_len}
use Rattle.std.proofs.lemmas.List.{get_or-set_same, get_or-set_other, get_or_append_left, get_or_push, length_push, length-set, take_more}
use Rattle.std.proofs.lemmas.List.Elements.{All-append, All-cons, All-nil, All-pop}
use Rattle.std.proofs.lemmas.List.Quantifiers.{Any-push}
use Rattle.std.proofs.lemmas.Bool.{cond_both, cases_lt, false≢true}
use Rattle.std.proofs.lemmas.Slice.Zip.{AllZip-long}
use Rattle.exact_math.specs.Ring.{integers}
use Rattle.exact_math.specs.IntegerRing.{linear}
use Rattle.exact_vectors.specs.Vectors.{dot, negate}
use Rattle.exact_vectors.specs.DotLaws.{dot-negate_left}
use Rattle.whole_rows.specs.declared.bounds.Bounds.{Bounds}
use Rattle.whole_rows.specs.WholeRows.{WholeRows, LiesIn, bounds_at, reach, IsWithinLimits}
use Rattle.farkas_rows.specs.declared.path.Slice.{Slice}
use Rattle.farkas_rows.specs.Inequalities.{Inequality, at_most, at_least, unit, inequality_at}
use Rattle.farkas_rows.specs.NodeLaws.{dot-unit}
use Rattle.farkas_rows.specs.Refutes.{HasForms}
use Rattle.proof_tree.specs.Trees.{IsOfSize}
use Rattle.plain_slices.specs.declared.node.Source.{Source}
use Rattle.plain_slices.specs.Shut.{IsColumn, IsFixedBy, LiesInNarrowed}
use Rattle.plain_slices.specs.Nodes.{signed_unit, narrowed_at, source_at, box_source, bounds_fixed, source_fixed, IsTight, IsNarrowed}
use Rattle.farkas_rows.specs.NumberLaws.{number-bound_upper, number-bound_lower, number-slice_upper, number-slice_lower}
use Rattle.plain_slices.proofs.UnitLaws.{column-signed, column-unique}

-- ---- the values of one column

-- the values between the bounds that are left are those between the bounds before that are the value
between_fixed : (b : Bounds) (value y : ℤ) → (((bounds_fixed b value).low ≤ℤ y) × (y ≤ℤ (bounds_fixed b value).high)) ↔ (((b.low ≤ℤ y) × (y ≤ℤ b.high)) × (y ≡ value))
between_fixed b value y = cond_both (int_lt b.low value) value b.low (λ low. ((low ≤ℤ y) × (y ≤ℤ (bounds_fixed b value).high)) ↔ (((b.low ≤ℤ y) × (y ≤ℤ b.high)) × (y ≡ value)))
    (λ e. cond_both (int_lt value b.high) value b.high (λ high. ((value ≤ℤ y) × (y ≤ℤ high)) ↔ (((b.low ≤ℤ y) × (y ≤ℤ b.high)) × (y ≡ value)))
    (λ f. ((λ h. ((omega (linear, h.0), omega (linear, h.1)), omega (linear, h.0, h.1))), (λ h. (omega (linear, h.1), omega (linear, h.1)))))
    (λ f. ((λ h. ((omega (linear, h.0), omega (linear, h.1)), omega (linear, h.0, h.1))), (λ h. (omega (linear, h.1), omega (linear, h.0.1, h.1))))))
    (λ e. cond_both (int_lt value b.high) value b.high (λ high. ((b.low ≤ℤ y) × (y ≤ℤ high)) ↔ (((b.low ≤ℤ y) × (y ≤ℤ b.high)) × (y ≡ value)))
    (λ f. ((λ h. ((omega (linear, h.0), omega (linear, h.1)), omega (linear, h.0, h.1))), (λ h. (omega (linear, h.0.0), omega (linear, h.1)))))
    (λ f. ((λ h. ((omega (linear, h.0), omega (linear, h.1)), omega (linear, h.0, h.1))), (λ h. (omega (linear, h.0.0), omega (linear, h.0.1))))))

-- the column of the value is fixed in a box that is left
LiesIn-fixed : (bounds : List Bounds) (x : List ℤ) (column : ℕ) (value : ℤ) → column < length bounds → LiesIn (set bounds column (bounds_fixed (narrowed_at bounds column) value)) x ↔ (LiesIn bounds x × (get_or x column (pos 0) ≡ value))
LiesIn-fixed [] x column value h = absurd (omega arith)
LiesIn-fixed (b ∷ bounds) [] zero value h = ((λ lies. absurd lies), (λ both. absurd both.0))
LiesIn-fixed (b ∷ bounds) [] (suc column) value h = ((λ lies. absurd lies), (λ both. absurd both.0))
LiesIn-fixed (b ∷ bounds) (v ∷ x) zero value h = let e = between_fixed b value v in ((λ lies. let r = e.0 lies.0 in ((r.0, lies.1), r.1)), (λ both. (e.1 (both.0.0, both.1), both.0.1)))
LiesIn-fixed (b ∷ bounds) (v ∷ x) (suc column) value h = let e = LiesIn-fixed bounds x column value (omega arith) in ((λ lies. let r = e.0 lies.1 in ((lies.0, r.0), r.1)), (λ both. (both.0.0, e.1 (both.0.1, both.1))))

same_or_not : (a b : ℕ) → (a ≡ b) ⊎ (a ≢ b)
same_or_not a b = ⊎_elim (λ (h : a < b). inr (λ e. omega arith)) (λ (h : b ≤ a). ⊎_elim (λ (k : b < a). inr (λ e. omega arith)) (λ (k : a ≤ b). inl (omega arith)) (cases_lt b a)) (cases_lt a b)

-- ---- one slice more

abbrev on : (rows : WholeRows) (x : List ℤ) → Slice → Type 0
on rows x slice = (column : ℕ) → column < length rows.box → IsColumn (length rows.box) column slice.form → dot integers slice.form x ≡ slice.beta

-- the value of a column's form
dot-signed : (negative : Bool) (n column : ℕ) (x : List ℤ) → length x ≡ n → column < n → dot integers (signed_unit negative n column) x ≡ cond negative (neg_ℤ (get_or x column (pos 0))) (get_or x column (pos 0))
dot-signed true n column x e h = dot-negate_left integers (unit n column) x ∙ ap neg_ℤ (dot-unit n column x e h)
dot-signed false n column x e h = dot-unit n column x e h

-- the values that are left with a slice more
narrowed-push : (rows : WholeRows) (done : List Slice) (slice : Slice) (x : List ℤ) → LiesInNarrowed rows (done ++ slice ∷ []) x ↔ (LiesInNarrowed rows done x × on rows x slice)
narrowed-push rows done slice x = (
  (λ lies. let parts = All-pop (on rows x) (done ++ slice ∷ []) done (Some slice) refl lies.on_slices in (record { in_box = lies.in_box; on_slices = parts.0 }, parts.1)),
  (λ both. record { in_box = both.0.in_box; on_slices = All-append (on rows x) done (slice ∷ []) both.0.on_slices (All-cons (on rows x) slice [] both.1 (All-nil (on rows x))) }),
)

-- the columns that are fixed with a slice more
fixed-push : (n : ℕ) (done : List Slice) (slice : Slice) (column : ℕ) → IsFixedBy n (done ++ slice ∷ []) column → IsFixedBy n done column ⊎ IsColumn n column slice.form
fixed-push n done slice column fixed =
    let k = fixed.0 in
    let found = fixed.1 in
    let within : k < length done + 1 = rw (← length_push done slice) fixed.2 in
    ⊎_elim
    (λ (before : k < length done). inl (k, found, before, sym (get_or_append_left done (slice ∷ []) found k before) ∙ fixed.3, fixed.4))
    (λ (last : length done ≤ k). let is : slice ≡ found = sym (get_or_push done slice found k (omega arith)) ∙ fixed.3 in inr (subst (λ (slice : Slice). IsColumn n column slice.form) (sym is) fixed.4))
    (cases_lt k (length done))

fixed-more : (n : ℕ) (done : List Slice) (slice : Slice) (column : ℕ) → IsFixedBy n done column → IsFixedBy n (done ++ slice ∷ []) column
fixed-more n done slice column fixed = (fixed.0, fixed.1, omega (arith, length_push done slice, fixed.2), get_or_append_left done (slice ∷ []) fixed.1 fixed.0 fixed.2 ∙ fixed.3, fixed.4)

-- a slice that fixes no column leaves the box
pub IsNarrowed-pass : (rows : WholeRows) (path done : List Slice) (slice : Slice) (bounds : List Bounds) (sources : List Source) → IsNarrowed rows path done bounds sources → ((column : ℕ) → column < length rows.box → IsColumn (length rows.box) column slice.form → ⊥) → IsNarrowed rows path (done ++ slice ∷ []) bounds sources
IsNarrowed-pass rows path done slice bounds sources narrowed none = record {
  dense = narrowed.dense;
  sourced = narrowed.sourced;
  points = λ x. (
    (λ lies. (narrowed-push rows done slice x).1 ((narrowed.points x).0 lies, (λ column h is. absurd (none column h is)))),
    (λ lies. (narrowed.points x).1 ((narrowed-push rows done slice x).0 lies).0),
  );
  tight = λ column h. let t = narrowed.tight column h in record {
    above = t.above;
    below = t.below;
    within_low = t.within_low;
    within_high = t.within_high;
    small_low = t.small_low;
    small_high = t.small_high;
    fixed = ((λ is. fixed-more (length rows.box) done slice column (t.fixed.0 is)), (λ is. ⊎_elim (λ (before : IsFixedBy (length rows.box) done column). t.fixed.1 before) (λ (here : IsColumn (length rows.box) column slice.form). absurd (none column h here)) (fixed-push (length rows.box) done slice column is)));
    one_value = t.one_value;
    as_box = t.as_box;
  };
}

-- the bounds of the column that a slice fixes
tight-fixed : (rows : WholeRows) (path done : List Slice) (slice : Slice) (column : ℕ) (b : Bounds) (s : Source) (value : ℤ) (above below : ℕ) → IsTight rows path done column b s → IsColumn (length rows.box) column slice.form → IsOfSize (2 ^ 98) value → inequality_at rows path None above ≡ Some (at_most (unit (length rows.box) column) value) → inequality_at rows path None below ≡ Some (at_least (unit (length rows.box) column) value) → IsTight rows path (done ++ slice ∷ []) column (bounds_fixed b value) (source_fixed b s value above below)
tight-fixed rows path done slice column b s value above below t is small names_above names_below = record {
  above = elim (int_lt value b.high) as (λ v. inequality_at rows path None (cond v above s.above) ≡ Some (at_most (unit (length rows.box) column) (cond v value b.high))) [ true ↦ names_above | false ↦ t.above ];
  below = elim (int_lt b.low value) as (λ v. inequality_at rows path None (cond v below s.below) ≡ Some (at_least (unit (length rows.box) column) (cond v value b.low))) [ true ↦ names_below | false ↦ t.below ];
  within_low = cond_both (int_lt b.low value) value b.low (λ v. (bounds_at rows column).low ≤ℤ v) (λ e. omega (linear, t.within_low)) (λ e. t.within_low);
  within_high = cond_both (int_lt value b.high) value b.high (λ v. v ≤ℤ (bounds_at rows column).high) (λ e. omega (linear, t.within_high)) (λ e. t.within_high);
  small_low = cond_both (int_lt b.low value) value b.low (IsOfSize (2 ^ 98)) (λ e. small) (λ e. t.small_low);
  small_high = cond_both (int_lt value b.high) value b.high (IsOfSize (2 ^ 98)) (λ e. small) (λ e. t.small_high);
  fixed = ((λ _. Any-push (λ (slice : Slice). IsColumn (length rows.box) column slice.form) done slice is), (λ _. search rules));
  one_value = λ _. cond_both (int_lt b.low value) value b.low (λ low. (bounds_fixed b value).high ≤ℤ low)
      (λ e. cond_both (int_lt value b.high) value b.high (λ high. high ≤ℤ value) (λ f. omega linear) (λ f. omega linear))
      (λ e. cond_both (int_lt value b.high) value b.high (λ high. high ≤ℤ b.low) (λ f. omega linear) (λ f. omega linear));
  as_box = λ e. absurd (false≢true (sym e));
}

-- the bounds of the others
tight-kept : (rows : WholeRows) (path done : List Slice) (slice : Slice) (column other : ℕ) (b : Bounds) (s : Source) → IsTight rows path done other b s → column < length rows.box → IsColumn (length rows.box) column slice.form → other ≢ column → IsTight rows path (done ++ slice ∷ []) other b s
tight-kept rows path done slice column other b s t h is differ = record {
  above = t.above;
  below = t.below;
  within_low = t.within_low;
  within_high = t.within_high;
  small_low = t.small_low;
  small_high = t.small_high;
  fixed = ((λ f. fixed-more (length rows.box) done slice other (t.fixed.0 f)), (λ f. ⊎_elim (λ (before : IsFixedBy (length rows.box) done other). t.fixed.1 before) (λ (here : IsColumn (length rows.box) other slice.form). absurd (column-unique (length rows.box) column other slice.form h is here differ)) (fixed-push (length rows.box) done slice other f)));
  one_value = t.one_value;
  as_box = t.as_box;
}

-- the value of the slice's form says what the column's value is
value_from : (negative : Bool) (v beta value : ℤ) → value ≡ cond negative (neg_ℤ beta) beta → cond negative (neg_ℤ v) v ≡ beta → v ≡ value
value_from true v beta value e h = omega linear
value_from false v beta value e h = omega linear

form_from : (negative : Bool) (v beta value : ℤ) → value ≡ cond negative (neg_ℤ beta) beta → v ≡ value → cond negative (neg_ℤ v) v ≡ beta
form_from true v beta value e h = omega linear
form_from false v beta value e h = omega linear

-- A slice that fixes a column narrows its bounds to the value.
pub IsNarrowed-fixed : (rows : WholeRows) (path done : List Slice) (slice : Slice) (negative : Bool) (column : ℕ) (bounds : List Bounds) (sources : List Source) (value : ℤ) (above below : ℕ) → IsNarrowed rows path done bounds sources → column < length rows.box → slice.form ≡ signed_unit negative (length rows.box) column → value ≡ cond negative (neg_ℤ slice.beta) slice.beta → IsOfSize (2 ^ 98) value → inequality_at rows path None above ≡ Some (at_most (unit (length rows.box) column) value) → inequality_at rows path None below ≡ Some (at_least (unit (length rows.box) column) value) → IsNarrowed rows path (done ++ slice ∷ []) (set bounds column (bounds_fixed (narrowed_at bounds column) value)) (set sources column (source_fixed (narrowed_at bounds column) (source_at sources column) value above below))
IsNarrowed-fixed rows path done slice negative column bounds sources value above below narrowed h form is_value small names_above names_below =
    let n = length rows.box in
    let here : column < length bounds = omega (arith, narrowed.dense) in
    let here_too : column < length sources = omega (arith, narrowed.sourced) in
    let is : IsColumn n column slice.form = subst (IsColumn n column) (sym form) (column-signed negative n column) in
    record {
      dense = length-set bounds column _ ∙ narrowed.dense;
      sourced = length-set sources column _ ∙ narrowed.sourced;
      points = λ x. (
        (λ lies.
            let both = (LiesIn-fixed bounds x column value here).0 lies in
            let before = (narrowed.points x).0 both.0 in
            let wide : length x ≡ n = AllZip-long _ _ _ before.in_box in
            (narrowed-push rows done slice x).1 (before, (λ _ _ _. ap (λ f. dot integers f x) form ∙ dot-signed negative n column x wide h ∙ form_from negative (get_or x column (pos 0)) slice.beta value is_value both.1))),
        (λ lies.
            let both = (narrowed-push rows done slice x).0 lies in
            let wide : length x ≡ n = AllZip-long _ _ _ both.0.in_box in
            (LiesIn-fixed bounds x column value here).1 ((narrowed.points x).1 both.0, value_from negative (get_or x column (pos 0)) slice.beta value is_value (sym (dot-signed negative n column x wide h) ∙ ap (λ f. dot integers f x) (sym form) ∙ both.1 column h is))),
      );
      tight = λ other lt. ⊎_elim
          (λ (same : other ≡ column). rw (same, get_or-set_same, get_or-set_same) (tight-fixed rows path done slice column (narrowed_at bounds column) (source_at sources column) value above below (narrowed.tight column h) is small names_above names_below))
          (λ (differ : other ≢ column). rw (get_or-set_other, get_or-set_other) (tight-kept rows path done slice column other (narrowed_at bounds other) (source_at sources other) (narrowed.tight other lt) h is differ))
          (same_or_not other column);
    }

-- ---- the slices in order

-- the slices up to the next one
take-slice : (path : List Slice) (e : ℕ) (slice : Slice) → e < length path → slice ≡ get_or path e slice → take (e + 1) path ≡ take e path ++ slice ∷ []
take-slice path e slice h is = take_more path e slice h ∙ ap (λ (s : Slice). take e path ++ s ∷ []) (sym is)

-- the next slice fixes no column
pub narrow-pass : (rows : WholeRows) (path : List Slice) (e : ℕ) (slice : Slice) (bounds : List Bounds) (sources : List Source) → e < length path → slice ≡ get_or path e slice → HasForms (length rows.box) path → IsNarrowed rows path (take e path) bounds sources → ((column : ℕ) → column < length slice.form → IsColumn (length slice.form) column slice.form → ⊥) → IsNarrowed rows path (take (e + 1) path) bounds sources
narrow-pass rows path e slice bounds sources h is forms narrowed none =
    let wide : length slice.form ≡ length rows.box = ap (λ (s : Slice). length s.form) is ∙ forms e slice h in
    rw (take-slice path e slice h is) (IsNarrowed-pass rows path (take e path) slice bounds sources narrowed (subst (λ (n : ℕ). (column : ℕ) → column < n → IsColumn n column slice.form → ⊥) wide none))

-- the numbers of its two sides
numbers_upper : (rows : WholeRows) (path : List Slice) (e number : ℕ) (slice : Slice) → e < length path → slice ≡ get_or path e slice → number ≡ 2 * (length rows.rows + length rows.box + e) → inequality_at rows path None number ≡ Some (at_most slice.form slice.beta)
numbers_upper rows path e number slice h is n =
    let same : number ≡ 2 * length rows.rows + 2 * length rows.box + 2 * e = omega arith in
    ap (inequality_at rows path None) same ∙ number-slice_upper rows path None e slice h ∙ ap (λ (s : Slice). Some (at_most s.form s.beta)) (sym is)

numbers_lower : (rows : WholeRows) (path : List Slice) (e number : ℕ) (slice : Slice) → e < length path → slice ≡ get_or path e slice → number ≡ 2 * (length rows.rows + length rows.box + e) + 1 → inequality_at rows path None number ≡ Some (at_least slice.form slice.beta)
numbers_lower rows path e number slice h is n =
    let same : number ≡ 2 * length rows.rows + 2 * length rows.box + 2 * e + 1 = omega arith in
    ap (inequality_at rows path None) same ∙ number-slice_lower rows path None e slice h ∙ ap (λ (s : Slice). Some (at_least s.form s.beta)) (sym is)

negated_twice : (form : List ℤ) → negate integers (negate integers form) ≡ form
negated_twice [] = refl
negated_twice (a ∷ form) = ap₂ {A = ℤ} {B = List ℤ} {C = List ℤ} (λ x t. x ∷ t) (omega linear) (negated_twice form)

-- minus a form that is at most a value is the form at least minus the value
turned_upper : (form : List ℤ) (beta value : ℤ) → value ≡ neg_ℤ beta → at_most (negate integers form) beta ≡ at_least form value
turned_upper form beta value e = ap (λ (v : ℤ). at_most (negate integers form) v) (omega linear)

turned_lower : (form : List ℤ) (beta value : ℤ) → value ≡ neg_ℤ beta → at_least (negate integers form) beta ≡ at_most form value
turned_lower form beta value e = ap₂ {A = List ℤ} {B = ℤ} {C = Inequality} at_most (negated_twice form) (sym e)

small_negated : (beta value : ℤ) → value ≡ neg_ℤ beta → IsOfSize (2 ^ 98) beta → IsOfSize (2 ^ 98) value
small_negated beta value e h = (omega (linear, h.0, h.1), omega (linear, h.0, h.1))

-- the next slice's form is a column's value
pub narrow-fix : (rows : WholeRows) (path : List Slice) (e : ℕ) (slice : Slice) (column : ℕ) (bounds new_bounds : List Bounds) (sources new_sources : List Source) (value : ℤ) (above below : ℕ) → e < length path → slice ≡ get_or path e slice → HasForms (length rows.box) path → All (λ (slice : Slice). IsOfSize (2 ^ 98) slice.beta) path → IsNarrowed rows path (take e path) bounds sources → (column < length slice.form) × (slice.form ≡ signed_unit false (length slice.form) column) → value ≡ slice.beta → above ≡ 2 * (length rows.rows + length rows.box + e) → below ≡ 2 * (length rows.rows + length rows.box + e) + 1 → new_bounds ≡ set bounds column (bounds_fixed (narrowed_at bounds column) value) → new_sources ≡ set sources column (source_fixed (narrowed_at bounds column) (source_at sources column) value above below) → IsNarrowed rows path (take (e + 1) path) new_bounds new_sources
narrow-fix rows path e slice column bounds new_bounds sources new_sources value above below h is forms values narrowed some is_value is_above is_below is_bounds is_sources =
    let n = length rows.box in
    let wide : length slice.form ≡ n = ap (λ (s : Slice). length s.form) is ∙ forms e slice h in
    let form : slice.form ≡ unit n column = some.1 ∙ ap (λ (k : ℕ). unit k column) wide in
    let small : IsOfSize (2 ^ 98) slice.beta = subst (λ (s : Slice). IsOfSize (2 ^ 98) s.beta) (sym is) (values e slice h) in
    rw (take-slice path e slice h is, is_bounds, is_sources) (IsNarrowed-fixed rows path (take e path) slice false column bounds sources value above below narrowed (omega arith) form is_value (subst (IsOfSize (2 ^ 98)) (sym is_value) small)
    (numbers_upper rows path e above slice h is is_above ∙ ap₂ {A = List ℤ} {B = ℤ} {C = Option Inequality} (λ f v. Some (at_most f v)) form (sym is_value))
    (numbers_lower rows path e below slice h is is_below ∙ ap₂ {A = List ℤ} {B = ℤ} {C = Option Inequality} (λ f v. Some (at_least f v)) form (sym is_value)))

-- the next slice's form is minus a column's value
pub narrow-fix_negative : (rows : WholeRows) (path : List Slice) (e : ℕ) (slice : Slice) (column : ℕ) (bounds new_bounds : List Bounds) (sources new_sources : List Source) (value : ℤ) (above below : ℕ) → e < length path → slice ≡ get_or path e slice → HasForms (length rows.box) path → All (λ (slice : Slice). IsOfSize (2 ^ 98) slice.beta) path → IsNarrowed rows path (take e path) bounds sources → (column < length slice.form) × (slice.form ≡ signed_unit true (length slice.form) column) → value ≡ neg_ℤ slice.beta → above ≡ 2 * (length rows.rows + length rows.box + e) + 1 → below ≡ 2 * (length rows.rows + length rows.box + e) → new_bounds ≡ set bounds column (bounds_fixed (narrowed_at bounds column) value) → new_sources ≡ set sources column (source_fixed (narrowed_at bounds column) (source_at sources column) value above below) → IsNarrowed rows path (take (e + 1) path) new_bounds new_sources
narrow-fix_negative rows path e slice column bounds new_bounds sources new_sources value above below h is forms values narrowed some is_value is_above is_below is_bounds is_sources =
    let n = length rows.box in
    let wide : length slice.form ≡ n = ap (λ (s : Slice). length s.form) is ∙ forms e slice h in
    let form : slice.form ≡ negate integers (unit n column) = some.1 ∙ ap (λ (k : ℕ). negate integers (unit k column)) wide in
    let small : IsOfSize (2 ^ 98) slice.beta = subst (λ (s : Slice). IsOfSize (2 ^ 98) s.beta) (sym is) (values e slice h) in
    rw (take-slice path e slice h is, is_bounds, is_sources) (IsNarrowed-fixed rows path (take e path) slice true column bounds sources value above below narrowed (omega arith) form is_value (small_negated slice.beta value is_value small)
    (numbers_lower rows path e above slice h is is_above ∙ ap (λ (f : List ℤ). Some (at_least f slice.beta)) form ∙ ap Some (turned_lower (unit n column) slice.beta value is_value))
    (numbers_upper rows path e below slice h is is_below ∙ ap (λ (f : List ℤ). Some (at_most f slice.beta)) form ∙ ap Some (turned_upper (unit n column) slice.beta value is_value)))

-- ---- the box of the root

reach-bounds : (b : Bounds) → reach b ≤ 2 ^ 96 → IsOfSize (2 ^ 98) b.low × IsOfSize (2 ^ 98) b.high
reach-bounds b h =
    let low : nat_abs b.low ≤ 2 ^ 96 = omega arith in
    let high : nat_abs b.high ≤ 2 ^ 96 = omega arith in
    ((omega linear, omega linear), (omega linear, omega linear))

-- without slices it is the box itself
pub IsNarrowed-box : (rows : WholeRows) (path : List Slice) (bounds : List Bounds) (sources : List Source) → IsWithinLimits rows → bounds ≡ rows.box → sources ≡ map (box_source (length rows.rows)) (range_with_len 0 (length rows.box)) → IsNarrowed rows path [] bounds sources
IsNarrowed-box rows path bounds sources limits is_bounds is_sources = rw (is_bounds, is_sources) (record {
  dense = refl;
  sourced = length-map-range_with_len (box_source (length rows.rows)) 0 (length rows.box);
  points = λ x. ((λ lies. record { in_box = lies; on_slices = All-nil (on rows x) }), (λ lies. lies.in_box));
  tight = λ column h.
      let here : source_at (map (box_source (length rows.rows)) (range_with_len 0 (length rows.box))) column ≡ box_source (length rows.rows) column = get_or-map-range_with_len (box_source (length rows.rows)) 0 (length rows.box) column column (record { above = 0; below = 0; is_fixed = false }) h (zero-add column) in
      let small = reach-bounds (bounds_at rows column) (limits.light.reaches column (record { low = pos 0; high = pos 0 }) h) in
      rw here (record {
        above = number-bound_upper rows path None column h;
        below = number-bound_lower rows path None column h;
        within_low = omega linear;
        within_high = omega linear;
        small_low = small.0;
        small_high = small.1;
        fixed = ((λ is. search rules), (λ (fixed : IsFixedBy (length rows.box) [] column). absurd (omega (arith, fixed.2))));
        one_value = λ is. search rules;
        as_box = λ e. refl;
      });
})
