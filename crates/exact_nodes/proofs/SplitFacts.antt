-- The split of a node along a direction, from the ends of its form.
use Rattle.std.proofs.Common.{◌≡◌, ℕ, zero, suc, ◌<◌, ◌≤◌, ◌^◌, Bool, true, false, List, [], ◌∷◌, length, get_or, ℤ, pos, neg_ℤ, ◌+ℤ◌, ◌-ℤ◌, ◌*ℤ◌, ◌≤ℤ◌, refl, sym, ap, ap₂, subst, ◌∙◌, arith, FitsSigned, of_z, to_z}
use Rattle.std.specs.Prelude.{All, Option, Some}
use Rattle.std.proofs.lemmas.Int.{ints, to_z-of_z}
use Rattle.std.proofs.lemmas.List.Elements.{All-cons, All-head, All-nil, All-tail}
use Rattle.std.proofs.lemmas.Slice.Zip.{AllZip-long}
use Rattle.exact_math.specs.IntegerRing.{linear}
use Rattle.exact_math.specs.Ring.{integers}
use Rattle.exact_math.specs.Rational.{ℚ, whole, ceil, ◌≤ℚ◌}
use Rattle.exact_math.specs.RationalOrder.{le_trans, whole_le}
use Rattle.exact_vectors.specs.Vectors.{add, dot, scale, zeros}
use Rattle.exact_vectors.specs.Matrices.{combination}
use Rattle.whole_rows.specs.declared.bounds.Bounds.{Bounds}
use Rattle.whole_rows.specs.WholeRows.{WholeRows, IsWithinLimits, span}
use Rattle.farkas_rows.specs.declared.path.Slice.{Slice}
use Rattle.farkas_rows.specs.Inequalities.{above, below}
use Rattle.node_point.specs.RationalPoints.{form_value, IsRationalPoint}
use Rattle.form_widths.specs.Directions.{IsDirection}
use Rattle.form_widths.specs.Inequalities.{HasMatches}
use Rattle.form_widths.specs.PrimitiveLaws.{primitive_nonzero}
use Rattle.form_widths.specs.Slices.{AreSlices}
use Rattle.form_widths.specs.Widths.{IsBoundOn}
use Rattle.proof_tree.specs.Moves.{ClosesUnder, SplitsUnder, widest}
use Rattle.proof_tree.specs.Trees.{IsSplitForm}
use Rattle.proof_tree.specs.declared.tree.Cut.{Cut}
use Rattle.spaces.specs.Maps.{pulled_form}
use Rattle.spaces.specs.Tables.{rows_in}
use Rattle.reformulate.specs.Substitutions.{IsSubstitution, Substitution, dimension_of}
use Rattle.presolve_map.specs.Columns.{open_flags}
use Rattle.presolve_map.specs.ReducedRows.{ReducedRows}
use Rattle.presolve_map.specs.Selections.{select}
use Rattle.farkas_lift.specs.NodeEqualities.{work_form}
use Rattle.node_regions.specs.CoordinateLaws.{coordinates_match, lines-many, points_match, region-reduced}
use Rattle.node_regions.specs.EndLaws.{slices_from_ends}
use Rattle.node_regions.specs.KeptFormLaws.{work_form-kept}
use Rattle.node_regions.specs.LightFormLaws.{pulled-back, value_greatest, value_least}
use Rattle.node_regions.specs.NodeFrames.{IsKeptForm}
use Rattle.node_regions.specs.NodeRegions.{IsInNode, node_polytope}
use Rattle.exact_nodes.specs.ExactMoves.{IsNodeOf}
use Rattle.exact_nodes.specs.NodeExcuses.{IsChosenDirection, IsModelForm, back_form}
use Rattle.exact_nodes.specs.Regions.{IsFirstValue, IsLastValue}
use Rattle.exact_nodes.specs.ThinMoves.{IsThinAlong}
use Rattle.exact_nodes.proofs.FreeColumns.{direction_within, frame_has_free_column, line_within, widest_select}
use Rattle.exact_nodes.proofs.NodeFacts.{node_reached, node_reduced}
use Rattle.exact_nodes.proofs.WholeEnds.{first_above, first_by_last, last_below, last_by_first}
use mir.Syntax.{w128}

-- ---- forms that are all 0

abbrev IsNone : List ℤ → Type 0
IsNone form = All (λ factor. factor ≡ pos 0) form

select_none : (flags : List Bool) (form : List ℤ) → IsNone form → IsNone (select flags form)
select_none [] form h = All-nil (λ (factor : ℤ). factor ≡ pos 0)
select_none (flag ∷ flags) [] h = All-nil (λ (factor : ℤ). factor ≡ pos 0)
select_none (true ∷ flags) (a ∷ form) h =
    All-cons (λ (factor : ℤ). factor ≡ pos 0) a (select flags form) (All-head (λ (factor : ℤ). factor ≡ pos 0) a form h) (select_none flags form (All-tail (λ (factor : ℤ). factor ≡ pos 0) a form h))
select_none (false ∷ flags) (a ∷ form) h = select_none flags form (All-tail (λ (factor : ℤ). factor ≡ pos 0) a form h)

zeros_none : (n : ℕ) → IsNone (zeros integers n)
zeros_none zero = All-nil (λ (factor : ℤ). factor ≡ pos 0)
zeros_none (suc n) = All-cons (λ (factor : ℤ). factor ≡ pos 0) (pos 0) (zeros integers n) refl (zeros_none n)

scale_none : (form : List ℤ) → IsNone (scale integers (pos 0) form)
scale_none [] = All-nil (λ (factor : ℤ). factor ≡ pos 0)
scale_none (a ∷ form) = All-cons (λ (factor : ℤ). factor ≡ pos 0) (pos 0 *ℤ a) (scale integers (pos 0) form) (omega linear) (scale_none form)

add_none : (v w : List ℤ) → IsNone v → IsNone w → IsNone (add integers v w)
add_none [] w h k = All-nil (λ (factor : ℤ). factor ≡ pos 0)
add_none (a ∷ v) [] h k = All-nil (λ (factor : ℤ). factor ≡ pos 0)
add_none (a ∷ v) (b ∷ w) h k =
    let first : a ≡ pos 0 = All-head (λ (factor : ℤ). factor ≡ pos 0) a v h in
    let second : b ≡ pos 0 = All-head (λ (factor : ℤ). factor ≡ pos 0) b w k in
    All-cons (λ (factor : ℤ). factor ≡ pos 0) (a +ℤ b) (add integers v w) (omega (linear, first, second)) (add_none v w (All-tail (λ (factor : ℤ). factor ≡ pos 0) a v h) (All-tail (λ (factor : ℤ). factor ≡ pos 0) b w k))

combination_none : (n : ℕ) (form : List ℤ) (lines : List (List ℤ)) → IsNone form → IsNone (combination integers n form lines)
combination_none n [] lines h = zeros_none n
combination_none n (a ∷ form) [] h = zeros_none n
combination_none n (a ∷ form) (line ∷ lines) h =
    add_none (scale integers a line) (combination integers n form lines)
    (subst (λ (k : ℤ). IsNone (scale integers k line)) (sym (All-head (λ (factor : ℤ). factor ≡ pos 0) a form h)) (scale_none line))
    (combination_none n form lines (All-tail (λ (factor : ℤ). factor ≡ pos 0) a form h))

-- ---- the numbers of a split

-- The first and the last value are small, and the first one is at most one more than the last one.
pub record AreEnds (lo last : ℤ) : Type 0 where
  pub near : lo ≤ℤ (last +ℤ pos 1)
  pub low : neg_ℤ (pos (2 ^ 96)) ≤ℤ lo
  pub high : last ≤ℤ pos (2 ^ 96)

-- a number as it is stored
abbrev pub stored : ℤ → ℤ
stored z = to_z w128 (of_z w128 z)

module _ (lo last : ℤ) (ends : AreEnds lo last) where
  first_fits : FitsSigned w128 lo
  first_fits = omega (arith, ints, ends.near, ends.low, ends.high)

  last_fits : FitsSigned w128 last
  last_fits = omega (arith, ints, ends.near, ends.low, ends.high)

  difference_fits : FitsSigned w128 (last -ℤ lo)
  difference_fits = omega (arith, ints, ends.near, ends.low, ends.high)

  count_fits : FitsSigned w128 ((last -ℤ lo) +ℤ pos 1)
  count_fits = omega (arith, ints, ends.near, ends.low, ends.high)

  first_is : stored lo ≡ lo
  first_is = to_z-of_z w128 lo first_fits

  difference_is : stored last -ℤ stored lo ≡ last -ℤ lo
  difference_is = ap₂ ◌-ℤ◌ (to_z-of_z w128 last last_fits) first_is

  sum_is : stored (stored last -ℤ stored lo) +ℤ pos 1 ≡ (last -ℤ lo) +ℤ pos 1
  sum_is = ap (λ (z : ℤ). stored z +ℤ pos 1) difference_is ∙ ap (λ (z : ℤ). z +ℤ pos 1) (to_z-of_z w128 (last -ℤ lo) difference_fits)

  count_is : stored (stored (stored last -ℤ stored lo) +ℤ pos 1) ≡ (last -ℤ lo) +ℤ pos 1
  count_is = ap stored sum_is ∙ to_z-of_z w128 ((last -ℤ lo) +ℤ pos 1) count_fits

-- ---- the split

module _ (rows : WholeRows) (work : ReducedRows) (frame : Substitution) (path : List Slice) (node : IsNodeOf rows work frame path) (cut : Option ℤ) (limits : IsWithinLimits rows) (substitution : IsSubstitution frame) (form model_form : List ℤ) (chosen : IsChosenDirection (node_polytope frame work cut) (rows_in frame.to_work.lines) form) (is : IsModelForm rows work frame form model_form) where
  same_form : pulled_form frame.to_work (work_form work model_form) ≡ form
  same_form = ap (pulled_form frame.to_work) is.same ∙ pulled-back frame form substitution chosen.0.coordinates

  model_long : length model_form ≡ length rows.box
  model_long = AllZip-long _ _ _ is.kept

  -- the form over all columns is not all 0
  model_some : IsNone model_form → ⊥
  model_some none =
      primitive_nonzero form chosen.0.primitive
      (subst IsNone same_form
      (combination_none (dimension_of frame) (work_form work model_form) (rows_in frame.to_work.lines)
      (subst IsNone (sym (work_form-kept rows work model_form (node_reduced rows work frame path node) model_long)) (select_none (open_flags rows.box) model_form none))))

  -- the form's values in the region are those of the form over all columns at points of the node, a constant less
  forth : (constant : ℤ) → constant ≡ dot integers (back_form frame form) frame.to_work.base → HasMatches (IsInNode frame work cut) form (IsRationalPoint rows path cut) model_form constant
  forth constant c =
      let reached = node_reached rows work frame path node in
      subst (λ (f : List ℤ). HasMatches (IsInNode frame work cut) f (IsRationalPoint rows path cut) model_form constant) same_form
      (subst (HasMatches (IsInNode frame work cut) (pulled_form frame.to_work (work_form work model_form)) (IsRationalPoint rows path cut) model_form) (ap (λ (f : List ℤ). dot integers f frame.to_work.base) is.same ∙ sym c)
      (coordinates_match rows work frame path cut limits (node_reduced rows work frame path node) node.forms node.of_node.kept substitution.shaped reached.columns reached.frame model_form model_long is.kept))

  back : (constant : ℤ) → constant ≡ dot integers (back_form frame form) frame.to_work.base → HasMatches (IsRationalPoint rows path cut) model_form (IsInNode frame work cut) form (neg_ℤ constant)
  back constant c =
      let reached = node_reached rows work frame path node in
      subst (λ (f : List ℤ). HasMatches (IsRationalPoint rows path cut) model_form (IsInNode frame work cut) f (neg_ℤ constant)) same_form
      (subst (λ (k : ℤ). HasMatches (IsRationalPoint rows path cut) model_form (IsInNode frame work cut) (pulled_form frame.to_work (work_form work model_form)) (neg_ℤ k)) (ap (λ (f : List ℤ). dot integers f frame.to_work.base) is.same ∙ sym c)
      (points_match rows work frame path cut limits (node_reduced rows work frame path node) node.forms node.of_node.kept substitution.shaped reached.columns reached.frame model_form model_long is.kept))

  -- no column is wider in the region than the widest one of the model
  column_within : (j : ℕ) → j < length (rows_in frame.to_work.lines) → IsBoundOn (IsInNode frame work cut) (get_or (rows_in frame.to_work.lines) j []) (whole (pos (widest rows.box)))
  column_within j lt y z in_y in_z =
      let reduced = node_reduced rows work frame path node in
      let reached = node_reached rows work frame path node in
      let fewer : widest work.rows.box ≤ widest rows.box = subst (λ (box : List Bounds). widest box ≤ widest rows.box) (sym reduced.box) (widest_select (open_flags rows.box) rows.box) in
      let box_y = (region-reduced rows work frame path cut limits reduced node.forms node.of_node.kept substitution.shaped reached.columns reached.frame y in_y).in_box in
      let box_z = (region-reduced rows work frame path cut limits reduced node.forms node.of_node.kept substitution.shaped reached.columns reached.frame z in_z).in_box in
      le_trans _ (whole (pos (widest work.rows.box))) (whole (pos (widest rows.box)))
      (line_within work.rows.box frame.to_work.base (rows_in frame.to_work.lines) y z j lt (lines-many rows work frame path cut limits reduced node.forms node.of_node.kept substitution.shaped reached.columns reached.frame) box_y box_z)
      (whole_le (pos (widest work.rows.box)) (pos (widest rows.box)) (omega (linear, fewer)))

  -- nor is the direction
  form_within : IsBoundOn (IsInNode frame work cut) form (whole (pos (widest rows.box)))
  form_within = direction_within (IsInNode frame work cut) (dimension_of frame) (rows_in frame.to_work.lines) form (widest rows.box) chosen.0 (frame_has_free_column frame substitution chosen.0.some) column_within

  module _ (constant lo last : ℤ) (same_constant : constant ≡ dot integers (back_form frame form) frame.to_work.base) (light : span model_form rows.box ≤ 2 ^ 96) (first : IsFirstValue (node_polytope frame work cut) form constant lo) (final : IsLastValue (node_polytope frame work cut) form constant last) where
    -- the first value is at most one more than the last one
    first_near : lo ≤ℤ (last +ℤ pos 1)
    first_near =
        let near = first_by_last (form_value form first.point) (form_value form final.point) (first.least final.point final.there) in
        omega (linear, near, first.value, final.value)

    -- both are small
    first_small : neg_ℤ (pos (2 ^ 96)) ≤ℤ lo
    first_small =
        let x = forth constant same_constant first.point first.there in
        let low = value_least model_form rows.box x.0 x.1.0.in_box in
        let above_low = first_above (form_value form first.point) constant (neg_ℤ (pos (span model_form rows.box))) (subst (λ (q : ℚ). whole (neg_ℤ (pos (span model_form rows.box))) ≤ℚ q) x.1.1 low) in
        omega (linear, above_low, first.value, light)

    last_small : last ≤ℤ pos (2 ^ 96)
    last_small =
        let x = forth constant same_constant final.point final.there in
        let high = value_greatest model_form rows.box x.0 x.1.0.in_box in
        let below_high = last_below (form_value form final.point) constant (pos (span model_form rows.box)) (subst (λ (q : ℚ). q ≤ℚ whole (pos (span model_form rows.box))) x.1.1 high) in
        omega (linear, below_high, final.value, light)

    ends : AreEnds lo last
    ends = record { near = first_near; low = first_small; high = last_small }

    -- no number on the way to the count leaves its range
    pub difference_in_range : FitsSigned w128 (stored last -ℤ stored lo)
    difference_in_range = subst (FitsSigned w128) (sym (difference_is lo last ends)) (difference_fits lo last ends)

    pub sum_in_range : FitsSigned w128 (stored (stored last -ℤ stored lo) +ℤ pos 1)
    sum_in_range = subst (FitsSigned w128) (sym (sum_is lo last ends)) (count_fits lo last ends)

    -- there are no more values than the widest column has
    last_near : last ≤ℤ (lo +ℤ pos (widest rows.box))
    last_near =
        let near = last_by_first (form_value form first.point) (form_value form final.point) (pos (widest rows.box)) (form_within final.point first.point final.there first.there) in
        omega (linear, near, first.value, final.value)

    slices_are : AreSlices (IsRationalPoint rows path cut) model_form lo ((last -ℤ lo) +ℤ pos 1)
    slices_are =
        subst (λ (l : ℤ). AreSlices (IsRationalPoint rows path cut) model_form l ((last -ℤ l) +ℤ pos 1)) (sym first.value)
        (subst (λ (t : ℤ). AreSlices (IsRationalPoint rows path cut) model_form (ceil (form_value form first.point) +ℤ constant) ((t -ℤ (ceil (form_value form first.point) +ℤ constant)) +ℤ pos 1)) (sym final.value)
        (slices_from_ends (IsRationalPoint rows path cut) (IsInNode frame work cut) model_form form constant first.point final.point (forth constant same_constant) (back constant same_constant) first.there final.there first.least final.greatest))

    thin_by : (c : Cut) → c.form ≡ model_form → c.lo ≡ lo → c.count ≡ (last -ℤ lo) +ℤ pos 1 → IsThinAlong rows path cut c
    thin_by c f l n = record {
      frame = frame;
      of_node = node.of_node;
      kept = subst (λ (g : List ℤ). IsKeptForm rows.box g) (sym f) is.kept;
      direction = subst (λ (w : ReducedRows). IsDirection (IsInNode frame w cut) (dimension_of frame) (rows_in frame.to_work.lines) (pulled_form frame.to_work (work_form w c.form))) (sym node.same_work)
          (subst (IsDirection (IsInNode frame work cut) (dimension_of frame) (rows_in frame.to_work.lines)) (sym same_form ∙ ap (λ (g : List ℤ). pulled_form frame.to_work (work_form work g)) (sym f)) chosen.0);
      slices = subst (λ (g : List ℤ). AreSlices (IsRationalPoint rows path cut) g c.lo c.count) (sym f)
          (subst (λ (z : ℤ). AreSlices (IsRationalPoint rows path cut) model_form z c.count) (sym l) (subst (AreSlices (IsRationalPoint rows path cut) model_form lo) (sym n) slices_are));
    }

    -- The values from the first to the last one are the slices of a split along the direction.
    pub split_is_thin : (c : Cut) → c.form ≡ model_form → c.lo ≡ stored lo → c.count ≡ stored (stored (stored last -ℤ stored lo) +ℤ pos 1) → IsThinAlong rows path cut c
    split_is_thin c f l n = thin_by c f (l ∙ first_is lo last ends) (n ∙ count_is lo last ends)

    closed_by : (c : Cut) → c.form ≡ model_form → c.lo ≡ lo → c.count ≡ (last -ℤ lo) +ℤ pos 1 → ClosesUnder rows cut path (Some (below model_form lo)) c.below → ClosesUnder rows cut path (Some (above model_form (last +ℤ pos 1))) c.above → SplitsUnder rows cut path c
    closed_by c f l n lower upper = record {
      form = subst (IsSplitForm rows) (sym f) (record { dense = model_long; some = model_some; light = light });
      lo = (omega (linear, l, first_small), omega (linear, l, first_near, last_small));
      count = (omega (linear, n, first_near), omega (linear, n, first_small, last_small));
      narrow = omega (linear, n, last_near);
      below = subst (λ (g : List ℤ). ClosesUnder rows cut path (Some (below g c.lo)) c.below) (sym f) (subst (λ (z : ℤ). ClosesUnder rows cut path (Some (below model_form z)) c.below) (sym l) lower);
      above = subst (λ (g : List ℤ). ClosesUnder rows cut path (Some (above g (c.lo +ℤ c.count))) c.above) (sym f) (subst (λ (z : ℤ). ClosesUnder rows cut path (Some (above model_form z)) c.above) (next c.lo c.count l n) upper);
    }
      where
        next : (first many : ℤ) → first ≡ lo → many ≡ (last -ℤ lo) +ℤ pos 1 → last +ℤ pos 1 ≡ first +ℤ many
        next first many l n = omega (linear, l, n)

    -- Its ends are closed.
    pub split_is_closed : (c : Cut) → c.form ≡ model_form → c.lo ≡ stored lo → c.count ≡ stored (stored (stored last -ℤ stored lo) +ℤ pos 1) → ClosesUnder rows cut path (Some (below model_form lo)) c.below → ClosesUnder rows cut path (Some (above model_form (last +ℤ pos 1))) c.above → SplitsUnder rows cut path c
    split_is_closed c f l n lower upper = closed_by c f (l ∙ first_is lo last ends) (n ∙ count_is lo last ends) lower upper
