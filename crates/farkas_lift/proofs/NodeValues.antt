-- The inequalities of a node over its work columns are those of the model with the numbers of its places.
use Rattle.std.proofs.Common.{◌≡◌, ◌≢◌, ℕ, zero, suc, ◌<◌, Bool, true, false, ℤ, pos, neg_ℤ, ◌+ℤ◌, ◌*ℤ◌, List, [], ◌∷◌, length, get_or, refl, sym, ap, ap₂, ◌∙◌, arith}
use Rattle.std.specs.Prelude.{Option, Some, None, IsSome}
use Rattle.std.specs.Ordering.{int_eq}
use Rattle.std.proofs.lemmas.Bool.{cond_both}
use Rattle.std.proofs.lemmas.Bool.Decides.{Decides-int_eq}
use Rattle.std.proofs.lemmas.List.{length-map, get_or-map, get_or-set_same, get_or-set_other}
use Rattle.exact_math.specs.Ring.{integers}
use Rattle.exact_math.specs.RingLaws as Laws
use Rattle.exact_vectors.specs.Vectors.{negate, zeros}
use Rattle.exact_vectors.specs.DotLaws as Dot
use Rattle.exact_vectors.specs.MatrixLaws as Matrix
use Rattle.whole_rows.specs.declared.bounds.Bounds.{Bounds}
use Rattle.whole_rows.specs.WholeRows.{WholeRow, WholeRows, row_at, bounds_at, IsWithinLimits}
use Rattle.farkas_rows.specs.Inequalities.{unit}
use Rattle.presolve_map.specs.Columns.{is_open, open_flags, kept, removed_values, removed_part}
use Rattle.presolve_map.specs.ReducedRows.{ReducedRows, needed_flags, moved_side, reduced_row, IsReduced}
use Rattle.presolve_map.specs.Selections.{select, positions}
use Rattle.farkas_lift.specs.NodeEqualities.{common_side}
use Rattle.farkas_lift.proofs.JoinedLaws.{place, positions-at, place_below, place_rises, place_set, select-at, select-length}

-- whether two numbers are the same
pub same_or_not : {P : Type 0} (i j : ℕ) → (i ≡ j → P) → (i ≢ j → P) → P
same_or_not i j f g = grind arith

pub negate-at : (v : List ℤ) (j : ℕ) → get_or (negate integers v) j (pos 0) ≡ neg_ℤ (get_or v j (pos 0))
negate-at [] j = refl
negate-at (a ∷ v) zero = refl
negate-at (a ∷ v) (suc j) = negate-at v j

pub unit-here : (n j : ℕ) → j < n → get_or (unit n j) j (pos 0) ≡ pos 1
unit-here n j h = get_or-set_same (zeros integers n) j (pos 1) (pos 0) (omega (arith, Matrix.length-zeros integers n))

pub unit-other : (n j k : ℕ) → k ≢ j → get_or (unit n j) k (pos 0) ≡ pos 0
unit-other n j k ne = get_or-set_other (zeros integers n) j k (pos 1) (pos 0) ne ∙ Matrix.zeros-at integers n k

-- both sides of an equality
pub both_sides : (low high : Option ℤ) (side : ℤ) → common_side low high ≡ Some side → (low ≡ Some side) × (high ≡ Some side)
both_sides None high side e = absurd (cc)
both_sides (Some l) None side e = absurd (cc)
both_sides (Some l) (Some h) side e =
    cond_both (int_eq l h) (Some l) None (λ (o : Option ℤ). o ≡ Some side → (Some l ≡ Some side) × (Some h ≡ Some side))
    (λ same. λ is. (is, ap Some (sym ((Decides-int_eq l h).0 same)) ∙ is)) (λ other. λ is. absurd (cc)) e

-- a side that is there without a part was there with it
pub present : (o : Option ℤ) (part : ℤ) → IsSome (moved_side part o) → (h : ℤ) × (o ≡ Some h)
present None part is = absurd (cc)
present (Some h) part is = (h, refl)

-- a form that is 0 where columns are removed has no part there
pub no_part : (box : List Bounds) (form : List ℤ) → ((column : ℕ) → column < length box → is_open (get_or box column (record { low = pos 0; high = pos 0 })) ≡ false → get_or form column (pos 0) ≡ pos 0) → removed_part box form ≡ pos 0
no_part [] form h = Dot.dot-nil_right integers form
no_part (b ∷ box) [] h = refl
no_part (b ∷ box) (a ∷ form) h =
    ap₂ (λ x y. x +ℤ y)
    (cond_both (is_open b) (pos 0) b.low (λ v. a *ℤ v ≡ pos 0) (λ e. Laws.mul_zero integers a) (λ e. ap (λ x. x *ℤ b.low) (h 0 (omega arith) e) ∙ Laws.zero_mul integers b.low))
    (no_part box form (λ column lt removed. h (suc column) (omega arith) removed))

-- the part of one column
pub unit_part : (box : List Bounds) (j : ℕ) → j < length box → is_open (get_or box j (record { low = pos 0; high = pos 0 })) ≡ true → removed_part box (unit (length box) j) ≡ pos 0
unit_part box j h opens =
    no_part box (unit (length box) j) (λ column lt removed. unit-other (length box) j column (λ same. cc (opens, removed, ap (λ (i : ℕ). is_open (get_or box i (record { low = pos 0; high = pos 0 }))) same)))

pub negated_part : (box : List Bounds) (form : List ℤ) → removed_part box (negate integers form) ≡ neg_ℤ (removed_part box form)
negated_part box form = Dot.dot-negate_left integers form (removed_values box)

module _ (model : WholeRows) (rows : ReducedRows) (limits : IsWithinLimits model) (reduced : IsReduced model rows) where
  flags : List Bool
  flags = needed_flags model.box model.rows

  opens : List Bool
  opens = open_flags model.box

  length-flags : length (needed_flags model.box model.rows) ≡ length model.rows
  length-flags = length-map model.rows _

  length-opens : length (open_flags model.box) ≡ length model.box
  length-opens = length-map model.box is_open

  pub rows_count : length rows.rows.rows ≡ length (positions 0 (needed_flags model.box model.rows))
  rows_count = ap length reduced.rows ∙ length-map (select (needed_flags model.box model.rows) model.rows) (reduced_row model.box) ∙ select-length 0 (needed_flags model.box model.rows) model.rows length-flags

  pub columns_count : length rows.rows.box ≡ length (positions 0 (open_flags model.box))
  columns_count = ap length reduced.box ∙ select-length 0 (open_flags model.box) model.box length-opens

  module _ (i : ℕ) (h : i < length rows.rows.rows) where
    inside_rows : i < length (positions 0 (needed_flags model.box model.rows))
    inside_rows = omega (arith, rows_count)

    pub row-number : get_or rows.row_numbers i 0 ≡ place (needed_flags model.box model.rows) i
    row-number = ap (λ l. get_or l i 0) reduced.row_numbers ∙ positions-at 0 (needed_flags model.box model.rows) i inside_rows ∙ omega arith

    pub row-below : place (needed_flags model.box model.rows) i < length model.rows
    row-below = omega (arith, place_below 0 (needed_flags model.box model.rows) i inside_rows, length-flags)

    pub row-is : row_at rows.rows i ≡ reduced_row model.box (row_at model (place (needed_flags model.box model.rows) i))
    row-is =
        let d : WholeRow = record { factors = []; low = None; high = None } in
        let lt : i < length (select (needed_flags model.box model.rows) model.rows) = omega (arith, inside_rows, select-length 0 (needed_flags model.box model.rows) model.rows length-flags) in
        ap (λ l. get_or l i d) reduced.rows
        ∙ get_or-map (reduced_row model.box) (select (needed_flags model.box model.rows) model.rows) i d d lt
        ∙ ap (reduced_row model.box) (select-at 0 (needed_flags model.box model.rows) model.rows i d length-flags inside_rows)

    pub row-dense : length (row_at model (place (needed_flags model.box model.rows) i)).factors ≡ length model.box
    row-dense = limits.dense (place (needed_flags model.box model.rows) i) (record { factors = []; low = None; high = None }) row-below

  module _ (j : ℕ) (h : j < length rows.rows.box) where
    inside_columns : j < length (positions 0 (open_flags model.box))
    inside_columns = omega (arith, columns_count)

    pub column-number : get_or rows.column_numbers j 0 ≡ place (open_flags model.box) j
    column-number = ap (λ l. get_or l j 0) reduced.column_numbers ∙ positions-at 0 (open_flags model.box) j inside_columns ∙ omega arith

    pub column-below : place (open_flags model.box) j < length model.box
    column-below = omega (arith, place_below 0 (open_flags model.box) j inside_columns, length-opens)

    pub column-open : is_open (bounds_at model (place (open_flags model.box) j)) ≡ true
    column-open =
        sym (get_or-map is_open model.box (place (open_flags model.box) j) (record { low = pos 0; high = pos 0 }) true column-below) ∙ place_set 0 (open_flags model.box) j true inside_columns

    pub bounds-is : bounds_at rows.rows j ≡ bounds_at model (place (open_flags model.box) j)
    bounds-is = ap (λ l. get_or l j (record { low = pos 0; high = pos 0 })) reduced.box ∙ select-at 0 (open_flags model.box) model.box j (record { low = pos 0; high = pos 0 }) length-opens inside_columns

    pub kept-at : (form : List ℤ) → length form ≡ length model.box → get_or (kept model.box form) j (pos 0) ≡ get_or form (place (open_flags model.box) j) (pos 0)
    kept-at form e = select-at 0 (open_flags model.box) form j (pos 0) (length-opens ∙ sym e) inside_columns

  -- the columns keep their order
  pub column-apart : (j k : ℕ) → j < length rows.rows.box → k < length rows.rows.box → k ≢ j → place (open_flags model.box) k ≢ place (open_flags model.box) j
  column-apart j k h l ne = λ same. absurd (either j k ne
      (λ lt. omega (arith, same, place_rises 0 (open_flags model.box) j k lt (omega (arith, columns_count))))
      (λ lt. omega (arith, same, place_rises 0 (open_flags model.box) k j lt (omega (arith, columns_count)))))
    where
      either : {P : Type 0} (j k : ℕ) → k ≢ j → (j < k → P) → (k < j → P) → P
      either j k ne f g = grind arith
