-- The factors and limits of the model's inequalities are those of the node's over the work columns.
use Rattle.std.proofs.Common.{◌≡◌, ℕ, ◌+◌, ◌*◌, ◌<◌, ℤ, pos, neg_ℤ, ◌-ℤ◌, List, length, get_or, refl, sym, ap, ap₂, subst, ◌∙◌, arith, All}
use Rattle.std.specs.Prelude.{Option, Some, IsSome, unwrap_or, option_map}
use Rattle.exact_math.specs.IntegerRing.{linear}
use Rattle.exact_math.specs.Ring.{integers}
use Rattle.exact_math.specs.Rational.{ℚ, whole, neg_ℚ}
use Rattle.exact_math.specs.RationalRing.{rationals}
use Rattle.exact_math.specs.RingLaws as Laws
use Rattle.exact_vectors.specs.Vectors.{negate}
use Rattle.whole_rows.specs.declared.bounds.Bounds.{Bounds}
use Rattle.whole_rows.specs.WholeRows.{WholeRow, WholeRows, row_at, bounds_at, IsWithinLimits}
use Rattle.farkas_rows.specs.declared.path.Slice.{Slice}
use Rattle.farkas_rows.specs.Inequalities.{Inequality, at_most, at_least, unit}
use Rattle.farkas_rows.specs.NumberLaws.{number-row_upper, number-row_lower, number-bound_upper, number-bound_lower, number-slice_upper, number-slice_lower}
use Rattle.farkas_rows.specs.Refutes.{nothing}
use Rattle.farkas_rows.specs.Sides.{factor_of}
use Rattle.presolve_map.specs.Columns.{open_flags, removed_part}
use Rattle.presolve_map.specs.LiftedLines.{named, factor_in, reduced_limit_in, IsOverKept}
use Rattle.presolve_map.specs.ReducedRows.{ReducedRows, needed_flags, moved_side, reduced_row, IsReduced}
use Rattle.farkas_lift.specs.NodeSides.{side_form}
use Rattle.farkas_lift.specs.NodeSides.{inequality_of}
use Rattle.farkas_lift.proofs.JoinedLaws.{joined-at, place}
use Rattle.farkas_lift.proofs.NodeTotals.{no_slice, Agrees}
use Rattle.farkas_lift.proofs.NodeValues as Node

whole_turned : (a : ℤ) → whole (neg_ℤ a) ≡ neg_ℚ (whole a)
whole_turned a = Laws.literal_neg rationals a

-- a side that both sides have is there
is_some_of : (o : Option ℤ) (side : ℤ) → o ≡ Some side → IsSome o
is_some_of o side e = rw e refl

module _ (model : WholeRows) (rows : ReducedRows) (path : List Slice) (end : Option Inequality) (limits : IsWithinLimits model) (reduced : IsReduced model rows) where
  -- the model's row of a work row
  p : ℕ → ℕ
  p i = place (needed_flags model.box model.rows) i

  c : ℕ → ℕ
  c j = place (open_flags model.box) j

  upper-named : (i : ℕ) (h : ℤ) → i < length model.rows → (row_at model i).high ≡ Some h → named model path end (2 * i) ≡ at_most (row_at model i).factors h
  upper-named i h lt e = ap (λ (o : Option Inequality). unwrap_or o nothing) (number-row_upper model path end i lt ∙ ap (option_map (at_most (row_at model i).factors)) e)

  lower-named : (i : ℕ) (l : ℤ) → i < length model.rows → (row_at model i).low ≡ Some l → named model path end (2 * i + 1) ≡ at_least (row_at model i).factors l
  lower-named i l lt e = ap (λ (o : Option Inequality). unwrap_or o nothing) (number-row_lower model path end i lt ∙ ap (option_map (at_least (row_at model i).factors)) e)

  bound_upper-named : (j : ℕ) → j < length model.box → named model path end (2 * (length model.rows + j)) ≡ at_most (unit (length model.box) j) (bounds_at model j).high
  bound_upper-named j lt = let e : 2 * (length model.rows + j) ≡ 2 * length model.rows + 2 * j = omega arith in rw e (ap (λ (o : Option Inequality). unwrap_or o nothing) (number-bound_upper model path end j lt))

  bound_lower-named : (j : ℕ) → j < length model.box → named model path end (2 * (length model.rows + j) + 1) ≡ at_least (unit (length model.box) j) (bounds_at model j).low
  bound_lower-named j lt = let e : 2 * (length model.rows + j) + 1 ≡ 2 * length model.rows + 2 * j + 1 = omega arith in rw e (ap (λ (o : Option Inequality). unwrap_or o nothing) (number-bound_lower model path end j lt))

  slice_upper-named : (e : ℕ) → e < length path → named model path end (2 * (length model.rows + length model.box + e)) ≡ at_most (get_or path e no_slice).form (get_or path e no_slice).beta
  slice_upper-named e lt = let same : 2 * (length model.rows + length model.box + e) ≡ 2 * length model.rows + 2 * length model.box + 2 * e = omega arith in rw same (ap (λ (o : Option Inequality). unwrap_or o nothing) (number-slice_upper model path end e no_slice lt))

  slice_lower-named : (e : ℕ) → e < length path → named model path end (2 * (length model.rows + length model.box + e) + 1) ≡ at_least (get_or path e no_slice).form (get_or path e no_slice).beta
  slice_lower-named e lt = let same : 2 * (length model.rows + length model.box + e) + 1 ≡ 2 * length model.rows + 2 * length model.box + 2 * e + 1 = omega arith in rw same (ap (λ (o : Option Inequality). unwrap_or o nothing) (number-slice_lower model path end e no_slice lt))

  module _ (i : ℕ) (h : i < length rows.rows.rows) where
    row-is : row_at rows.rows i ≡ reduced_row model.box (row_at model (place (needed_flags model.box model.rows) i))
    row-is = Node.row-is model rows limits reduced i h

    high_there : IsSome (row_at rows.rows i).high → (v : ℤ) × ((row_at model (place (needed_flags model.box model.rows) i)).high ≡ Some v)
    high_there is = Node.present (row_at model (place (needed_flags model.box model.rows) i)).high (removed_part model.box (row_at model (place (needed_flags model.box model.rows) i)).factors) (subst (λ (row : WholeRow). IsSome row.high) row-is is)

    low_there : IsSome (row_at rows.rows i).low → (v : ℤ) × ((row_at model (place (needed_flags model.box model.rows) i)).low ≡ Some v)
    low_there is = Node.present (row_at model (place (needed_flags model.box model.rows) i)).low (removed_part model.box (row_at model (place (needed_flags model.box model.rows) i)).factors) (subst (λ (row : WholeRow). IsSome row.low) row-is is)

  -- ---- the factors in a work column

  module _ (k : ℕ) (hk : k < length rows.rows.box) where
    upper-factor : (i : ℕ) → i < length rows.rows.rows → IsSome (row_at rows.rows i).high → factor_in model path end (get_or rows.column_numbers k 0) (2 * get_or rows.row_numbers i 0) ≡ whole (get_or (row_at rows.rows i).factors k (pos 0))
    upper-factor i h is =
        let found = high_there i h is in
        ap₂ (λ x y. factor_in model path end x (2 * y)) (Node.column-number model rows limits reduced k hk) (Node.row-number model rows limits reduced i h)
        ∙ ap (λ (x : Inequality). whole (factor_of (place (open_flags model.box) k) x)) (upper-named (place (needed_flags model.box model.rows) i) found.0 (Node.row-below model rows limits reduced i h) found.1)
        ∙ ap whole (sym (Node.kept-at model rows limits reduced k hk (row_at model (place (needed_flags model.box model.rows) i)).factors (Node.row-dense model rows limits reduced i h)))
        ∙ ap (λ (row : WholeRow). whole (get_or row.factors k (pos 0))) (sym (row-is i h))

    lower-factor : (i : ℕ) → i < length rows.rows.rows → IsSome (row_at rows.rows i).low → factor_in model path end (get_or rows.column_numbers k 0) (2 * get_or rows.row_numbers i 0 + 1) ≡ whole (neg_ℤ (get_or (row_at rows.rows i).factors k (pos 0)))
    lower-factor i h is =
        let found = low_there i h is in
        ap₂ (λ x y. factor_in model path end x (2 * y + 1)) (Node.column-number model rows limits reduced k hk) (Node.row-number model rows limits reduced i h)
        ∙ ap (λ (x : Inequality). whole (factor_of (place (open_flags model.box) k) x)) (lower-named (place (needed_flags model.box model.rows) i) found.0 (Node.row-below model rows limits reduced i h) found.1)
        ∙ ap whole (Node.negate-at (row_at model (place (needed_flags model.box model.rows) i)).factors (place (open_flags model.box) k) ∙ ap neg_ℤ (sym (Node.kept-at model rows limits reduced k hk (row_at model (place (needed_flags model.box model.rows) i)).factors (Node.row-dense model rows limits reduced i h))))
        ∙ ap (λ (row : WholeRow). whole (neg_ℤ (get_or row.factors k (pos 0)))) (sym (row-is i h))

    unit-same : (j : ℕ) → j < length rows.rows.box → get_or (unit (length model.box) (place (open_flags model.box) j)) (place (open_flags model.box) k) (pos 0) ≡ get_or (unit (length rows.rows.box) j) k (pos 0)
    unit-same j h =
        Node.same_or_not k j
        (λ same. ap (λ (x : ℕ). get_or (unit (length model.box) (place (open_flags model.box) j)) (place (open_flags model.box) x) (pos 0)) same ∙ Node.unit-here (length model.box) (place (open_flags model.box) j) (Node.column-below model rows limits reduced j h) ∙ sym (Node.unit-here (length rows.rows.box) j h) ∙ ap (λ (x : ℕ). get_or (unit (length rows.rows.box) j) x (pos 0)) (sym same))
        (λ other. Node.unit-other (length model.box) (place (open_flags model.box) j) (place (open_flags model.box) k) (Node.column-apart model rows limits reduced j k h hk other) ∙ sym (Node.unit-other (length rows.rows.box) j k other))

    pub factors-agree : Agrees model rows path (factor_in model path end (get_or rows.column_numbers k 0)) (λ side. whole (get_or (side_form rows side) k (pos 0))) (λ equality. whole (get_or equality.form k (pos 0)))
    factors-agree = record {
      upper = λ i h is. upper-factor i h is;
      lower = λ i h is. lower-factor i h is ∙ ap whole (sym (Node.negate-at (row_at rows.rows i).factors k));
      column_upper = λ j h.
          ap₂ (λ x y. factor_in model path end x (2 * (length model.rows + y))) (Node.column-number model rows limits reduced k hk) (Node.column-number model rows limits reduced j h)
          ∙ ap (λ (x : Inequality). whole (factor_of (place (open_flags model.box) k) x)) (bound_upper-named (place (open_flags model.box) j) (Node.column-below model rows limits reduced j h))
          ∙ ap whole (unit-same j h);
      column_lower = λ j h.
          ap₂ (λ x y. factor_in model path end x (2 * (length model.rows + y) + 1)) (Node.column-number model rows limits reduced k hk) (Node.column-number model rows limits reduced j h)
          ∙ ap (λ (x : Inequality). whole (factor_of (place (open_flags model.box) k) x)) (bound_lower-named (place (open_flags model.box) j) (Node.column-below model rows limits reduced j h))
          ∙ ap whole (Node.negate-at (unit (length model.box) (place (open_flags model.box) j)) (place (open_flags model.box) k) ∙ ap neg_ℤ (unit-same j h) ∙ sym (Node.negate-at (unit (length rows.rows.box) j) k));
      row = λ i side h e. upper-factor i h (is_some_of (row_at rows.rows i).high side (Node.both_sides (row_at rows.rows i).low (row_at rows.rows i).high side e).1);
      row_turned = λ i side h e.
          let both = Node.both_sides (row_at rows.rows i).low (row_at rows.rows i).high side e in
          lower-factor i h (is_some_of (row_at rows.rows i).low side both.0) ∙ whole_turned (get_or (row_at rows.rows i).factors k (pos 0)) ∙ ap neg_ℚ (sym (upper-factor i h (is_some_of (row_at rows.rows i).high side both.1)));
      slice = λ e lt.
          ap (λ (x : Inequality). whole (factor_of (get_or rows.column_numbers k 0) x)) (slice_upper-named e lt)
          ∙ ap whole (sym (joined-at (λ j. get_or (get_or path e no_slice).form (get_or rows.column_numbers j 0) (pos 0)) (length rows.rows.box) k (pos 0) hk));
      slice_turned = λ e lt.
          ap (λ (x : Inequality). whole (factor_of (get_or rows.column_numbers k 0) x)) (slice_lower-named e lt)
          ∙ ap whole (Node.negate-at (get_or path e no_slice).form (get_or rows.column_numbers k 0))
          ∙ whole_turned (get_or (get_or path e no_slice).form (get_or rows.column_numbers k 0) (pos 0))
          ∙ ap neg_ℚ (sym (ap (λ (x : Inequality). whole (factor_of (get_or rows.column_numbers k 0) x)) (slice_upper-named e lt)));
    }

  -- ---- the limits, without what the removed columns contribute

  module _ (value : ℤ) (kept-forms : All (λ (slice : Slice). IsOverKept model slice.form) path) where
    less : Inequality → ℚ
    less x = whole (x.limit -ℤ removed_part model.box x.factors)

    nothing_less : (a b : ℤ) → b ≡ pos 0 → a -ℤ b ≡ a
    nothing_less a b e = omega (linear, e)

    turned_less : (a b d : ℤ) → d ≡ neg_ℤ b → neg_ℤ a -ℤ d ≡ neg_ℤ (a -ℤ b)
    turned_less a b d e = omega (linear, e)

    upper-limit : (i : ℕ) → i < length rows.rows.rows → IsSome (row_at rows.rows i).high → reduced_limit_in model path end (2 * get_or rows.row_numbers i 0) ≡ whole (unwrap_or (row_at rows.rows i).high (pos 0))
    upper-limit i h is =
        let found = high_there i h is in
        ap (λ y. reduced_limit_in model path end (2 * y)) (Node.row-number model rows limits reduced i h)
        ∙ ap (λ (x : Inequality). whole (x.limit -ℤ removed_part model.box x.factors)) (upper-named (place (needed_flags model.box model.rows) i) found.0 (Node.row-below model rows limits reduced i h) found.1)
        ∙ sym (ap (λ (row : WholeRow). whole (unwrap_or row.high (pos 0))) (row-is i h) ∙ ap (λ (o : Option ℤ). whole (unwrap_or (moved_side (removed_part model.box (row_at model (place (needed_flags model.box model.rows) i)).factors) o) (pos 0))) found.1)

    lower-limit : (i : ℕ) → i < length rows.rows.rows → IsSome (row_at rows.rows i).low → reduced_limit_in model path end (2 * get_or rows.row_numbers i 0 + 1) ≡ whole (neg_ℤ (unwrap_or (row_at rows.rows i).low (pos 0)))
    lower-limit i h is =
        let found = low_there i h is in
        let f : List ℤ = (row_at model (place (needed_flags model.box model.rows) i)).factors in
        ap (λ y. reduced_limit_in model path end (2 * y + 1)) (Node.row-number model rows limits reduced i h)
        ∙ ap (λ (x : Inequality). whole (x.limit -ℤ removed_part model.box x.factors)) (lower-named (place (needed_flags model.box model.rows) i) found.0 (Node.row-below model rows limits reduced i h) found.1)
        ∙ ap whole (turned_less found.0 (removed_part model.box f) (removed_part model.box (negate integers f)) (Node.negated_part model.box f))
        ∙ sym (ap (λ (row : WholeRow). whole (neg_ℤ (unwrap_or row.low (pos 0)))) (row-is i h) ∙ ap (λ (o : Option ℤ). whole (neg_ℤ (unwrap_or (moved_side (removed_part model.box (row_at model (place (needed_flags model.box model.rows) i)).factors) o) (pos 0)))) found.1)

    of_unit : (j : ℕ) → j < length rows.rows.box → removed_part model.box (unit (length model.box) (place (open_flags model.box) j)) ≡ pos 0
    of_unit j h = Node.unit_part model.box (place (open_flags model.box) j) (Node.column-below model rows limits reduced j h) (Node.column-open model rows limits reduced j h)

    neg_zero : (b : ℤ) → b ≡ pos 0 → neg_ℤ b ≡ pos 0
    neg_zero b e = omega (linear, e)

    of_slice : (e : ℕ) → e < length path → removed_part model.box (get_or path e no_slice).form ≡ pos 0
    of_slice e lt = Node.no_part model.box (get_or path e no_slice).form (kept-forms e no_slice lt)

    pub limits-agree : Agrees model rows path (reduced_limit_in model path end) (λ side. whole (inequality_of rows value side).limit) (λ equality. whole equality.side)
    limits-agree = record {
      upper = λ i h is. upper-limit i h is;
      lower = λ i h is. lower-limit i h is;
      column_upper = λ j h.
          ap (λ y. reduced_limit_in model path end (2 * (length model.rows + y))) (Node.column-number model rows limits reduced j h)
          ∙ ap (λ (x : Inequality). whole (x.limit -ℤ removed_part model.box x.factors)) (bound_upper-named (place (open_flags model.box) j) (Node.column-below model rows limits reduced j h))
          ∙ ap whole (nothing_less (bounds_at model (place (open_flags model.box) j)).high _ (of_unit j h))
          ∙ ap (λ (b : Bounds). whole b.high) (sym (Node.bounds-is model rows limits reduced j h));
      column_lower = λ j h.
          ap (λ y. reduced_limit_in model path end (2 * (length model.rows + y) + 1)) (Node.column-number model rows limits reduced j h)
          ∙ ap (λ (x : Inequality). whole (x.limit -ℤ removed_part model.box x.factors)) (bound_lower-named (place (open_flags model.box) j) (Node.column-below model rows limits reduced j h))
          ∙ ap whole (nothing_less (neg_ℤ (bounds_at model (place (open_flags model.box) j)).low) _ (Node.negated_part model.box (unit (length model.box) (place (open_flags model.box) j)) ∙ neg_zero _ (of_unit j h)))
          ∙ ap (λ (b : Bounds). whole (neg_ℤ b.low)) (sym (Node.bounds-is model rows limits reduced j h));
      row = λ i side h e.
          let both = Node.both_sides (row_at rows.rows i).low (row_at rows.rows i).high side e in
          upper-limit i h (is_some_of (row_at rows.rows i).high side both.1) ∙ ap (λ (o : Option ℤ). whole (unwrap_or o (pos 0))) both.1;
      row_turned = λ i side h e.
          let both = Node.both_sides (row_at rows.rows i).low (row_at rows.rows i).high side e in
          lower-limit i h (is_some_of (row_at rows.rows i).low side both.0)
          ∙ ap (λ (o : Option ℤ). whole (neg_ℤ (unwrap_or o (pos 0)))) both.0
          ∙ whole_turned side
          ∙ ap neg_ℚ (sym (upper-limit i h (is_some_of (row_at rows.rows i).high side both.1) ∙ ap (λ (o : Option ℤ). whole (unwrap_or o (pos 0))) both.1));
      slice = λ e lt.
          ap (λ (x : Inequality). whole (x.limit -ℤ removed_part model.box x.factors)) (slice_upper-named e lt) ∙ ap whole (nothing_less (get_or path e no_slice).beta _ (of_slice e lt));
      slice_turned = λ e lt.
          ap (λ (x : Inequality). whole (x.limit -ℤ removed_part model.box x.factors)) (slice_lower-named e lt)
          ∙ ap whole (nothing_less (neg_ℤ (get_or path e no_slice).beta) _ (Node.negated_part model.box (get_or path e no_slice).form ∙ neg_zero _ (of_slice e lt)))
          ∙ whole_turned (get_or path e no_slice).beta
          ∙ ap neg_ℚ (sym (ap (λ (x : Inequality). whole (x.limit -ℤ removed_part model.box x.factors)) (slice_upper-named e lt) ∙ ap whole (nothing_less (get_or path e no_slice).beta _ (of_slice e lt))));
    }
