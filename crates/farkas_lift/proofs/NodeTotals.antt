-- What the items at a node's places come to, by the inequalities over the work columns.
use Rattle.std.proofs.Common.{◌≡◌, ℕ, zero, suc, ◌+◌, ◌*◌, ◌<◌, ◌≤◌, false, ℤ, pos, List, [], ◌∷◌, ◌++◌, length, get_or, map, refl, sym, ap, ap₂, ◌∙◌, arith, All}
use Rattle.std.specs.Prelude.{Option, Some, None, IsSome}
use Rattle.std.proofs.lemmas.List.{length-map, map-append, append-nil}
use Rattle.std.proofs.lemmas.List.Elements.{All-nil, All-cons, All-append}
use Rattle.exact_math.specs.Rational.{ℚ, neg_ℚ, ◌+ℚ◌}
use Rattle.exact_math.specs.RationalRing.{rationals}
use Rattle.exact_vectors.specs.Vectors.{dot}
use Rattle.whole_rows.specs.WholeRows.{WholeRow, WholeRows, row_at}
use Rattle.farkas_rows.specs.declared.path.Slice.{Slice}
use Rattle.presolve_map.specs.LiftedLines.{total}
use Rattle.presolve_map.specs.ReducedRows.{ReducedRows}
use Rattle.reformulate.specs.declared.equality.Equality.{Equality as WorkEquality}
use Rattle.farkas_lift.specs.Joined.{joined}
use Rattle.farkas_lift.specs.NodeEqualities.{common_side, equality_with, row_equality, work_slice, node_equalities}
use Rattle.farkas_lift.specs.NodeLifting.{place_with, places_unless, row_places, column_places, slice_place, node_places, uses_of}
use Rattle.farkas_lift.specs.NodeSides.{side_with, sides_unless, row_sides, column_sides, node_sides}
use Rattle.farkas_lift.specs.declared.side.NodeSide.{NodeSide}
use Rattle.farkas_lift.specs.declared.side.NodeSide.TheVariants.{RowAtMost, RowAtLeast, ColumnAtMost, ColumnAtLeast}
use Rattle.farkas_lift.specs.declared.place.Place.{Place}
use Rattle.farkas_lift.specs.declared.place.Place.TheVariants.{Side, Equality}
use Rattle.farkas_lift.proofs.JoinedLaws.{joined-All, joined-map, joined-same, joined-list}
use Rattle.farkas_lift.proofs.UseLaws.{sides_in, equalities_in, sides_in-append, equalities_in-append, sides_in-joined, equalities_in-joined, IsTurned, uses-total}

abbrev pub no_slice : Slice
no_slice = record { form = []; beta = pos 0 }

-- The numbers of the model have the values of the inequalities and equalities over the work columns.
pub record Agrees (model : WholeRows) (rows : ReducedRows) (path : List Slice) (value : ℕ → ℚ) (of_side : NodeSide → ℚ) (of_equality : WorkEquality → ℚ) : Type 0 where
  pub upper : (i : ℕ) → i < length rows.rows.rows → IsSome (row_at rows.rows i).high → value (2 * get_or rows.row_numbers i 0) ≡ of_side (RowAtMost i)
  pub lower : (i : ℕ) → i < length rows.rows.rows → IsSome (row_at rows.rows i).low → value (2 * get_or rows.row_numbers i 0 + 1) ≡ of_side (RowAtLeast i)
  pub column_upper : (j : ℕ) → j < length rows.rows.box → value (2 * (length model.rows + get_or rows.column_numbers j 0)) ≡ of_side (ColumnAtMost j)
  pub column_lower : (j : ℕ) → j < length rows.rows.box → value (2 * (length model.rows + get_or rows.column_numbers j 0) + 1) ≡ of_side (ColumnAtLeast j)
  pub row : (i : ℕ) (side : ℤ) → i < length rows.rows.rows → common_side (row_at rows.rows i).low (row_at rows.rows i).high ≡ Some side → value (2 * get_or rows.row_numbers i 0) ≡ of_equality (record { form = (row_at rows.rows i).factors; side = side })
  pub row_turned : (i : ℕ) (side : ℤ) → i < length rows.rows.rows → common_side (row_at rows.rows i).low (row_at rows.rows i).high ≡ Some side → value (2 * get_or rows.row_numbers i 0 + 1) ≡ neg_ℚ (value (2 * get_or rows.row_numbers i 0))
  pub slice : (e : ℕ) → e < length path → value (2 * (length model.rows + length model.box + e)) ≡ of_equality (work_slice rows (get_or path e no_slice))
  pub slice_turned : (e : ℕ) → e < length path → value (2 * (length model.rows + length model.box + e) + 1) ≡ neg_ℚ (value (2 * (length model.rows + length model.box + e)))

-- ---- a row, by whether its sides are equal

sides_with : (value : ℕ → ℚ) (of_side : NodeSide → ℚ) (number : ℕ) (side : NodeSide) (o : Option ℤ) → (IsSome o → value number ≡ of_side side) → map value (sides_in (place_with (Side number) o)) ≡ map of_side (side_with side o)
sides_with value of_side number side None h = refl
sides_with value of_side number side (Some v) h = ap (λ (q : ℚ). q ∷ []) (h refl)

equalities_with : (number : ℕ) (o : Option ℤ) → equalities_in (place_with (Side number) o) ≡ []
equalities_with number None = refl
equalities_with number (Some v) = refl

row_sides-agree : (value : ℕ → ℚ) (of_side : NodeSide → ℚ) (o : Option ℤ) (row : WholeRow) (number i : ℕ) → (IsSome row.high → value (2 * number) ≡ of_side (RowAtMost i)) → (IsSome row.low → value (2 * number + 1) ≡ of_side (RowAtLeast i))
    → map value (sides_in (places_unless o row number)) ≡ map of_side (sides_unless o row i)
row_sides-agree value of_side None row number i h l =
    ap (map value) (sides_in-append (place_with (Side (2 * number)) row.high) (place_with (Side (2 * number + 1)) row.low))
    ∙ map-append value (sides_in (place_with (Side (2 * number)) row.high)) (sides_in (place_with (Side (2 * number + 1)) row.low))
    ∙ ap₂ (λ a b. a ++ b) (sides_with value of_side (2 * number) (RowAtMost i) row.high h) (sides_with value of_side (2 * number + 1) (RowAtLeast i) row.low l)
    ∙ sym (map-append of_side (side_with (RowAtMost i) row.high) (side_with (RowAtLeast i) row.low))
row_sides-agree value of_side (Some side) row number i h l = refl

row_equality-agrees : (value : ℕ → ℚ) (of_equality : WorkEquality → ℚ) (o : Option ℤ) (row : WholeRow) (number : ℕ) → ((side : ℤ) → o ≡ Some side → value (2 * number) ≡ of_equality (record { form = row.factors; side = side }))
    → map value (equalities_in (places_unless o row number)) ≡ map of_equality (equality_with row.factors o)
row_equality-agrees value of_equality None row number h =
    ap (map value) (equalities_in-append (place_with (Side (2 * number)) row.high) (place_with (Side (2 * number + 1)) row.low) ∙ ap₂ (λ a b. a ++ b) (equalities_with (2 * number) row.high) (equalities_with (2 * number + 1) row.low))
row_equality-agrees value of_equality (Some side) row number h = ap (λ (q : ℚ). q ∷ []) (h side refl)

with-each : (P : Place → Type 0) (number : ℕ) (o : Option ℤ) → (IsSome o → P (Side number)) → All P (place_with (Side number) o)
with-each P number None h = All-nil P
with-each P number (Some v) h = All-cons P (Side number) [] (h refl) (All-nil P)

pub row_places-each : (P : Place → Type 0) (o : Option ℤ) (row : WholeRow) (number : ℕ) → (IsSome row.high → P (Side (2 * number))) → (IsSome row.low → P (Side (2 * number + 1))) → ((side : ℤ) → o ≡ Some side → P (Equality (2 * number))) → All P (places_unless o row number)
row_places-each P None row number h l e = All-append P (place_with (Side (2 * number)) row.high) (place_with (Side (2 * number + 1)) row.low) (with-each P (2 * number) row.high h) (with-each P (2 * number + 1) row.low l)
row_places-each P (Some side) row number h l e = All-cons P (Equality (2 * number)) [] (e side refl) (All-nil P)

-- what holds of the places of each row, column and slice
pub places-each : (P : Place → Type 0) (model : WholeRows) (rows : ReducedRows) (slices : ℕ)
    → ((i : ℕ) → i < length rows.rows.rows → (IsSome (row_at rows.rows i).high → P (Side (2 * get_or rows.row_numbers i 0))) × (IsSome (row_at rows.rows i).low → P (Side (2 * get_or rows.row_numbers i 0 + 1))) × ((side : ℤ) → common_side (row_at rows.rows i).low (row_at rows.rows i).high ≡ Some side → P (Equality (2 * get_or rows.row_numbers i 0))))
    → ((j : ℕ) → j < length rows.rows.box → P (Side (2 * (length model.rows + get_or rows.column_numbers j 0))) × P (Side (2 * (length model.rows + get_or rows.column_numbers j 0) + 1)))
    → ((e : ℕ) → e < slices → P (Equality (2 * (length model.rows + length model.box + e))))
    → All P (node_places model rows slices)
places-each P model rows slices of_rows of_columns of_slices =
    All-append P (joined (row_places rows) (length rows.rows.rows)) (joined (column_places model rows) (length rows.rows.box) ++ joined (slice_place model) slices)
    (joined-All P (row_places rows) (length rows.rows.rows) (λ i lt. let f = of_rows i lt in row_places-each P (common_side (row_at rows.rows i).low (row_at rows.rows i).high) (row_at rows.rows i) (get_or rows.row_numbers i 0) f.0 f.1 f.2))
    (All-append P (joined (column_places model rows) (length rows.rows.box)) (joined (slice_place model) slices)
    (joined-All P (column_places model rows) (length rows.rows.box) (λ j lt. let f = of_columns j lt in let number : ℕ = 2 * (length model.rows + get_or rows.column_numbers j 0) in All-cons P (Side number) (Side (number + 1) ∷ []) f.0 (All-cons P (Side (number + 1)) [] f.1 (All-nil P))))
    (joined-All P (slice_place model) slices (λ e lt. All-cons P (Equality (2 * (length model.rows + length model.box + e))) [] (of_slices e lt) (All-nil P))))

module _ (model : WholeRows) (rows : ReducedRows) (path : List Slice) (value : ℕ → ℚ) (of_side : NodeSide → ℚ) (of_equality : WorkEquality → ℚ) (agrees : Agrees model rows path value of_side of_equality) where
  m : ℕ
  m = length rows.rows.rows

  n : ℕ
  n = length rows.rows.box

  no_sides : (count : ℕ) → joined (λ (e : ℕ). sides_in (slice_place model e)) count ≡ []
  no_sides zero = refl
  no_sides (suc count) = append-nil _ ∙ no_sides count

  no_equalities : (count : ℕ) → joined (λ (j : ℕ). equalities_in (column_places model rows j)) count ≡ []
  no_equalities zero = refl
  no_equalities (suc count) = append-nil _ ∙ no_equalities count

  sides_of_places : sides_in (node_places model rows (length path)) ≡ joined (λ i. sides_in (row_places rows i)) (length rows.rows.rows) ++ joined (λ j. sides_in (column_places model rows j)) (length rows.rows.box)
  sides_of_places =
      sides_in-append (joined (row_places rows) (length rows.rows.rows)) (joined (column_places model rows) (length rows.rows.box) ++ joined (slice_place model) (length path))
      ∙ ap₂ (λ a b. a ++ b) (sides_in-joined (row_places rows) (length rows.rows.rows))
      (sides_in-append (joined (column_places model rows) (length rows.rows.box)) (joined (slice_place model) (length path))
      ∙ ap₂ (λ a b. a ++ b) (sides_in-joined (column_places model rows) (length rows.rows.box)) (sides_in-joined (slice_place model) (length path) ∙ no_sides (length path))
      ∙ append-nil _)

  equalities_of_places : equalities_in (node_places model rows (length path)) ≡ joined (λ i. equalities_in (row_places rows i)) (length rows.rows.rows) ++ joined (λ e. equalities_in (slice_place model e)) (length path)
  equalities_of_places =
      equalities_in-append (joined (row_places rows) (length rows.rows.rows)) (joined (column_places model rows) (length rows.rows.box) ++ joined (slice_place model) (length path))
      ∙ ap₂ (λ a b. a ++ b) (equalities_in-joined (row_places rows) (length rows.rows.rows))
      (equalities_in-append (joined (column_places model rows) (length rows.rows.box)) (joined (slice_place model) (length path))
      ∙ ap₂ (λ a b. a ++ b) (equalities_in-joined (column_places model rows) (length rows.rows.box) ∙ no_equalities (length rows.rows.box)) (equalities_in-joined (slice_place model) (length path)))

  pub sides-agree : map value (sides_in (node_places model rows (length path))) ≡ map of_side (node_sides rows false)
  sides-agree =
      ap (map value) sides_of_places
      ∙ map-append value (joined (λ i. sides_in (row_places rows i)) (length rows.rows.rows)) (joined (λ j. sides_in (column_places model rows j)) (length rows.rows.box))
      ∙ ap₂ (λ a b. a ++ b)
      (joined-map value (λ i. sides_in (row_places rows i)) (length rows.rows.rows)
      ∙ joined-same (λ i. map value (sides_in (row_places rows i))) (λ i. map of_side (row_sides rows i)) (length rows.rows.rows)
      (λ i lt. row_sides-agree value of_side (common_side (row_at rows.rows i).low (row_at rows.rows i).high) (row_at rows.rows i) (get_or rows.row_numbers i 0) i (agrees.upper i lt) (agrees.lower i lt))
      ∙ sym (joined-map of_side (row_sides rows) (length rows.rows.rows)))
      (joined-map value (λ j. sides_in (column_places model rows j)) (length rows.rows.box)
      ∙ joined-same (λ j. map value (sides_in (column_places model rows j))) (λ j. map of_side (column_sides j)) (length rows.rows.box)
      (λ j lt. ap₂ (λ (a b : ℚ). a ∷ b ∷ []) (agrees.column_upper j lt) (agrees.column_lower j lt))
      ∙ sym (joined-map of_side column_sides (length rows.rows.box)))
      ∙ sym (map-append of_side (joined (row_sides rows) (length rows.rows.rows)) (joined column_sides (length rows.rows.box)))
      ∙ ap (λ l. map of_side (joined (row_sides rows) (length rows.rows.rows) ++ l)) (sym (append-nil (joined column_sides (length rows.rows.box))))

  pub equalities-agree : map value (equalities_in (node_places model rows (length path))) ≡ map of_equality (node_equalities rows path)
  equalities-agree =
      ap (map value) equalities_of_places
      ∙ map-append value (joined (λ i. equalities_in (row_places rows i)) (length rows.rows.rows)) (joined (λ e. equalities_in (slice_place model e)) (length path))
      ∙ ap₂ (λ a b. a ++ b)
      (joined-map value (λ i. equalities_in (row_places rows i)) (length rows.rows.rows)
      ∙ joined-same (λ i. map value (equalities_in (row_places rows i))) (λ i. map of_equality (row_equality (row_at rows.rows i))) (length rows.rows.rows)
      (λ i lt. row_equality-agrees value of_equality (common_side (row_at rows.rows i).low (row_at rows.rows i).high) (row_at rows.rows i) (get_or rows.row_numbers i 0) (λ side e. agrees.row i side lt e))
      ∙ sym (joined-map of_equality (λ i. row_equality (row_at rows.rows i)) (length rows.rows.rows)))
      (joined-map value (λ e. equalities_in (slice_place model e)) (length path)
      ∙ joined-same (λ e. map value (equalities_in (slice_place model e))) (λ e. of_equality (work_slice rows (get_or path e no_slice)) ∷ []) (length path) (λ e lt. ap (λ (q : ℚ). q ∷ []) (agrees.slice e lt))
      ∙ joined-list (λ slice. of_equality (work_slice rows slice)) path no_slice
      ∙ twice path)
      ∙ sym (map-append of_equality (joined (λ i. row_equality (row_at rows.rows i)) (length rows.rows.rows)) (map (work_slice rows) path))
    where
      twice : (slices : List Slice) → map (λ slice. of_equality (work_slice rows slice)) slices ≡ map of_equality (map (work_slice rows) slices)
      twice [] = refl
      twice (slice ∷ slices) = ap (λ (l : List ℚ). of_equality (work_slice rows slice) ∷ l) (twice slices)

  turned-each : All (IsTurned value) (node_places model rows (length path))
  turned-each = places-each (IsTurned value) model rows (length path) (λ i lt. ((λ _. tt), (λ _. tt), (λ side e. agrees.row_turned i side lt e))) (λ j lt. (tt, tt)) (λ e lt. agrees.slice_turned e lt)

  -- the items come to what the sides and the equalities come to
  pub node-total : (weights times : List ℚ) → length (node_sides rows false) ≤ length weights → length (node_equalities rows path) ≤ length times
      → total value (uses_of (node_places model rows (length path)) weights times) ≡ dot rationals weights (map of_side (node_sides rows false)) +ℚ dot rationals times (map of_equality (node_equalities rows path))
  node-total weights times h k =
      let places : List Place = node_places model rows (length path) in
      let sides : length (sides_in (node_places model rows (length path))) ≡ length (node_sides rows false) = sym (length-map (sides_in (node_places model rows (length path))) value) ∙ ap length sides-agree ∙ length-map (node_sides rows false) of_side in
      let equalities : length (equalities_in (node_places model rows (length path))) ≡ length (node_equalities rows path) = sym (length-map (equalities_in (node_places model rows (length path))) value) ∙ ap length equalities-agree ∙ length-map (node_equalities rows path) of_equality in
      uses-total value (node_places model rows (length path)) weights times (omega arith) (omega arith) turned-each
      ∙ ap₂ (λ a b. dot rationals weights a +ℚ dot rationals times b) sides-agree equalities-agree
