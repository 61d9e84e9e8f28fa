-- The sides of a node, by what is found of their forms.
use Rattle.std.proofs.Common.{◌≡◌, ⊎_elim, inl, inr, ℕ, ◌+◌, ◌<◌, ◌≤◌, true, List, [], ◌∷◌, length, get_or, ℤ, pos, neg_ℤ, nat_abs, ◌-ℤ◌, ◌≤ℤ◌, refl, ap, sym, subst, ◌∙◌, arith}
use Rattle.std.specs.Prelude.{◌⊎◌, Option, Some, None, IfSome, is_some, unwrap_or, All}
use Rattle.std.proofs.lemmas.List.Elements.{All-nil, All-cons, All-append, All-get_or, All-from_get_or}
use Rattle.exact_math.specs.GcdLaws.{nat_abs-neg_ℤ}
use Rattle.exact_math.specs.Ring.{integers}
use Rattle.exact_math.specs.Rational.{ℚ}
use Rattle.exact_vectors.specs.Vectors.{negate}
use Rattle.exact_vectors.specs.Matrices.{HasWidth, column}
use Rattle.exact_vectors.specs.DotLaws as Dot
use Rattle.exact_vectors.specs.MatrixLaws as Matrix
use Rattle.whole_rows.specs.WholeRows.{row_at, bounds_at}
use Rattle.farkas_rows.specs.Inequalities.{at_least, at_most, unit}
use Rattle.spaces.specs.Maps.{AffineMap, pulled_form}
use Rattle.spaces.specs.TableLaws.{length-rows_in, rows_in-at}
use Rattle.spaces.specs.Tables.{rows_in}
use Rattle.spaces.specs.Tables as tables
use Rattle.presolve_map.specs.ReducedRows.{ReducedRows}
use Rattle.farkas_lift.specs.NodeEqualities.{common_side}
use Rattle.farkas_lift.specs.NodeSides.{column_sides, cut_side, row_sides, side_with, sides_unless}
use Rattle.farkas_lift.specs.NodeSystem.{cut_of}
use Rattle.farkas_lift.specs.declared.side.NodeSide.TheVariants.{RowAtMost, RowAtLeast, ColumnAtMost, ColumnAtLeast, Cut}
use Rattle.shown_widths.specs.Steps.{BothLeave, IsLightAlong, IsWideEnough, LeavesRoomAlong, SideLeaves}
use Rattle.shown_widths.specs.declared.room.Width.{Width}
use Rattle.shown_widths.proofs.ColumnLaws.{combination-unit}

-- the form with the other sign is as light
light-negate : (reach : ℤ) (t : AffineMap) (form : List ℤ) → HasWidth t.lines.width (rows_in t.lines) → IsLightAlong reach t form → IsLightAlong reach t (negate integers form)
light-negate reach t form width light =
    (light.0, All-from_get_or (λ (factor : ℤ). nat_abs factor ≤ nat_abs reach) (pulled_form t (negate integers form)) (pos 0) (λ k lt. subst (λ (z : ℤ). nat_abs z ≤ nat_abs reach) (sym (turned k)) (subst (λ (n : ℕ). n ≤ nat_abs reach) (sym (nat_abs-neg_ℤ (get_or (pulled_form t form) k (pos 0)))) (here k lt))))
  where
    turned : (k : ℕ) → get_or (pulled_form t (negate integers form)) k (pos 0) ≡ neg_ℤ (get_or (pulled_form t form) k (pos 0))
    turned k =
        Matrix.combination-at integers t.lines.width (negate integers form) (rows_in t.lines) k width
        ∙ Dot.dot-negate_left integers form (column integers (rows_in t.lines) k)
        ∙ ap neg_ℤ (sym (Matrix.combination-at integers t.lines.width form (rows_in t.lines) k width))

    here : (k : ℕ) → k < length (pulled_form t (negate integers form)) → nat_abs (get_or (pulled_form t form) k (pos 0)) ≤ nat_abs reach
    here k lt = All-get_or (λ (factor : ℤ). nat_abs factor ≤ nat_abs reach) (pulled_form t form) k (pos 0) (subst (λ (m : ℕ). k < m) (Matrix.length-combination integers t.lines.width (negate integers form) (rows_in t.lines) width ∙ sym (Matrix.length-combination integers t.lines.width form (rows_in t.lines) width)) lt) light.1

module _ (width : Width) (reach : ℤ) (t : AffineMap) (points : List (List ℚ)) (form : List ℤ) (low high : Option ℤ) (wide : HasWidth t.lines.width (rows_in t.lines)) (light : IsLightAlong reach t form) (both : BothLeave width reach points form low high) where
  leaves_most : (v : ℤ) → high ≡ Some v → LeavesRoomAlong width t points (at_most form v)
  leaves_most v e = record {
    reach = reach;
    light = light;
    wide = ⊎_elim {C = (reach ≡ pos 0) ⊎ IsWideEnough width reach points (at_most form v)} (λ none. inl none) (λ h. inr (subst (λ (o : Option ℤ). IfSome o (λ side. IsWideEnough width reach points (at_most form side))) e h.1)) both;
  }

  leaves_least : (v : ℤ) → low ≡ Some v → LeavesRoomAlong width t points (at_least form v)
  leaves_least v e = record {
    reach = reach;
    light = light-negate reach t form wide light;
    wide = ⊎_elim {C = (reach ≡ pos 0) ⊎ IsWideEnough width reach points (at_least form v)} (λ none. inl none) (λ h. inr (subst (λ (o : Option ℤ). IfSome o (λ side. IsWideEnough width reach points (at_least form side))) e h.0)) both;
  }

module _ (width : Width) (reach : ℤ) (t : AffineMap) (points : List (List ℚ)) (work : ReducedRows) (value : ℤ) (wide : HasWidth t.lines.width (rows_in t.lines)) where
  -- the sides of a row
  pub sides_of_row : (i : ℕ) → IsLightAlong reach t (row_at work.rows i).factors → BothLeave width reach points (row_at work.rows i).factors (row_at work.rows i).low (row_at work.rows i).high → All (SideLeaves width t points work value) (row_sides work i)
  sides_of_row i light both = by_side (common_side (row_at work.rows i).low (row_at work.rows i).high)
    where
      upper : (o : Option ℤ) → (row_at work.rows i).high ≡ o → All (SideLeaves width t points work value) (side_with (RowAtMost i) o)
      upper None e = All-nil (SideLeaves width t points work value)
      upper (Some v) e = All-cons (SideLeaves width t points work value) (RowAtMost i) [] (subst (λ (o : Option ℤ). LeavesRoomAlong width t points (at_most (row_at work.rows i).factors (unwrap_or o (pos 0)))) (sym e) (leaves_most width reach t points (row_at work.rows i).factors (row_at work.rows i).low (row_at work.rows i).high wide light both v e)) (All-nil (SideLeaves width t points work value))

      lower : (o : Option ℤ) → (row_at work.rows i).low ≡ o → All (SideLeaves width t points work value) (side_with (RowAtLeast i) o)
      lower None e = All-nil (SideLeaves width t points work value)
      lower (Some v) e = All-cons (SideLeaves width t points work value) (RowAtLeast i) [] (subst (λ (o : Option ℤ). LeavesRoomAlong width t points (at_least (row_at work.rows i).factors (unwrap_or o (pos 0)))) (sym e) (leaves_least width reach t points (row_at work.rows i).factors (row_at work.rows i).low (row_at work.rows i).high wide light both v e)) (All-nil (SideLeaves width t points work value))

      by_side : (o : Option ℤ) → All (SideLeaves width t points work value) (sides_unless o (row_at work.rows i) i)
      by_side None = All-append (SideLeaves width t points work value) (side_with (RowAtMost i) (row_at work.rows i).high) (side_with (RowAtLeast i) (row_at work.rows i).low) (upper (row_at work.rows i).high refl) (lower (row_at work.rows i).low refl)
      by_side (Some side) = All-nil (SideLeaves width t points work value)

  -- a row with equal sides has none
  pub no_sides : (i : ℕ) → is_some (common_side (row_at work.rows i).low (row_at work.rows i).high) ≡ true → All (SideLeaves width t points work value) (row_sides work i)
  no_sides i e = by_side (common_side (row_at work.rows i).low (row_at work.rows i).high) e
    where
      by_side : (o : Option ℤ) → is_some o ≡ true → All (SideLeaves width t points work value) (sides_unless o (row_at work.rows i) i)
      by_side None e = absurd (cc)
      by_side (Some side) e = All-nil (SideLeaves width t points work value)

  -- the bounds of a column
  pub sides_of_column : (j : ℕ) → j < length work.rows.box → t.lines.rows ≡ length work.rows.box → (pos 0 ≤ℤ reach) × All (λ factor. nat_abs factor ≤ nat_abs reach) (tables.row_at t.lines j) → BothLeave width reach points (unit (length work.rows.box) j) (Some (bounds_at work.rows j).low) (Some (bounds_at work.rows j).high) → All (SideLeaves width t points work value) (column_sides j)
  sides_of_column j lt count light both =
      let inside : j < t.lines.rows = subst (λ (m : ℕ). j < m) (sym count) lt in
      let line : pulled_form t (unit (length work.rows.box) j) ≡ tables.row_at t.lines j = combination-unit t.lines.width (rows_in t.lines) (length work.rows.box) j wide (length-rows_in t.lines ∙ count) lt ∙ rows_in-at t.lines j inside in
      let along : IsLightAlong reach t (unit (length work.rows.box) j) = (light.0, subst (λ (l : List ℤ). All (λ factor. nat_abs factor ≤ nat_abs reach) l) (sym line) light.1) in
      All-cons (SideLeaves width t points work value) (ColumnAtMost j) (ColumnAtLeast j ∷ []) (leaves_most width reach t points (unit (length work.rows.box) j) (Some (bounds_at work.rows j).low) (Some (bounds_at work.rows j).high) wide along both (bounds_at work.rows j).high refl)
      (All-cons (SideLeaves width t points work value) (ColumnAtLeast j) [] (leaves_least width reach t points (unit (length work.rows.box) j) (Some (bounds_at work.rows j).low) (Some (bounds_at work.rows j).high) wide along both (bounds_at work.rows j).low refl) (All-nil (SideLeaves width t points work value)))

-- the cut
pub side_of_cut : (width : Width) (reach : ℤ) (t : AffineMap) (points : List (List ℚ)) (work : ReducedRows) (v limit : ℤ) (cut : Option ℤ) → HasWidth t.lines.width (rows_in t.lines) → cut ≡ Some v → limit ≡ (v -ℤ pos 1) -ℤ work.cost_constant → IsLightAlong reach t work.rows.cost → BothLeave width reach points work.rows.cost None (Some limit) → All (SideLeaves width t points work (cut_of cut)) (cut_side (is_some cut))
side_of_cut width reach t points work v limit cut wide e is light both =
    subst (λ (o : Option ℤ). All (SideLeaves width t points work (cut_of o)) (cut_side (is_some o))) (sym e)
    (All-cons (SideLeaves width t points work v) Cut [] (subst (λ (l : ℤ). LeavesRoomAlong width t points (at_most work.rows.cost l)) is (leaves_most width reach t points work.rows.cost None (Some limit) wide light both limit refl)) (All-nil (SideLeaves width t points work v)))

-- no cut
pub no_cut : (width : Width) (t : AffineMap) (points : List (List ℚ)) (work : ReducedRows) (cut : Option ℤ) → cut ≡ None → All (SideLeaves width t points work (cut_of cut)) (cut_side (is_some cut))
no_cut width t points work cut e = subst (λ (o : Option ℤ). All (SideLeaves width t points work (cut_of o)) (cut_side (is_some o))) (sym e) (All-nil (SideLeaves width t points work (pos 0)))

-- what holds of each below a number holds of each below the next
pub upto_next : (Q : ℕ → Type 0) (i : ℕ) → ((k : ℕ) → k < i → Q k) → Q i → (k : ℕ) → k < i + 1 → Q k
upto_next Q i h q k lt = same_or_less k i (λ e. subst Q (sym e) q) (λ less. h k less) lt
  where
    same_or_less : {R : Type 0} (i j : ℕ) → (i ≡ j → R) → (i < j → R) → i < j + 1 → R
    same_or_less i j f g h = grind arith
