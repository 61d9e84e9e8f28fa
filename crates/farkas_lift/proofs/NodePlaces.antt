-- The places of a node, and the inequalities that are none of its equalities.
use Rattle.std.proofs.Common.{◌≡◌, ◌≢◌, ℕ, zero, suc, ◌+◌, ◌*◌, ◌<◌, ◌≤◌, ◌^◌, ℤ, pos, List, [], ◌∷◌, ◌++◌, length, get_or, refl, sym, ap, subst, ◌∙◌, arith, All}
use Rattle.std.specs.Prelude.{Option, Some, None, IsSome, option_map, ⊤}
use Rattle.std.specs.List.Sorted.{IsStrictlyIncreasing}
use Rattle.exact_math.specs.Rational.{ℚ, whole, ◌≤ℚ◌, ◌<ℚ◌}
use Rattle.whole_rows.specs.WholeRows.{WholeRow, WholeRows, row_at, bounds_at, IsWithinLimits}
use Rattle.farkas_rows.specs.declared.fracs.FracUse.{FracUse}
use Rattle.farkas_rows.specs.Inequalities.{Inequality, at_most, at_least, inequality_at}
use Rattle.farkas_rows.specs.NumberLaws.{number-row_upper, number-row_lower}
use Rattle.presolve_map.specs.Columns.{is_open, open_flags, removed_part}
use Rattle.presolve_map.specs.LiftedLines.{numbers_of, IsRemoved, IsWorkNumber}
use Rattle.presolve_map.specs.ReducedRows.{ReducedRows, needed_flags, IsReduced}
use Rattle.farkas_lift.specs.Joined.{joined}
use Rattle.farkas_lift.specs.NodeEqualities.{common_side}
use Rattle.farkas_lift.specs.NodeLifting.{place_with, places_unless, row_places, column_places, slice_place, node_places, uses_of}
use Rattle.farkas_lift.specs.NodeLifting.{HasRoom}
use Rattle.farkas_lift.specs.declared.place.Place.{Place}
use Rattle.farkas_lift.specs.declared.place.Place.TheVariants.{Side, Equality}
use Rattle.farkas_lift.proofs.JoinedLaws.{place, place_rises}
use Rattle.farkas_lift.proofs.NodeTotals.{places-each}
use Rattle.farkas_lift.proofs.NodeValues as Node
use Rattle.farkas_lift.proofs.UseLaws.{Within, Within-append, Within-joined, AtPlace, uses-each, uses-rise, rising}

-- ---- the numbers of the places

Within-higher : (low high more : ℕ) (places : List Place) → high ≤ more → Within low high places → Within low more places
Within-higher low high more [] h w = omega arith
Within-higher low high more (Side number ∷ places) h w = (w.0, Within-higher (number + 1) high more places h w.1)
Within-higher low high more (Equality number ∷ places) h w = (w.0, Within-higher (number + 2) high more places h w.1)

two-within : (high low : Option ℤ) (number from : ℕ) → from ≤ 2 * number → Within from (2 * number + 2) (place_with (Side (2 * number)) high ++ place_with (Side (2 * number + 1)) low)
two-within None None number from h = omega arith
two-within None (Some l) number from h = (omega arith, omega arith)
two-within (Some u) None number from h = (h, omega arith)
two-within (Some u) (Some l) number from h = (h, (omega arith, omega arith))

unless-within : (o : Option ℤ) (row : WholeRow) (number from : ℕ) → from ≤ 2 * number → Within from (2 * number + 2) (places_unless o row number)
unless-within None row number from h = two-within row.high row.low number from h
unless-within (Some side) row number from h = (h, omega arith)

module _ (model : WholeRows) (rows : ReducedRows) (limits : IsWithinLimits model) (reduced : IsReduced model rows) where
  -- where the places of rows, and of columns, end before one
  before_row : ℕ → ℕ
  before_row zero = 0
  before_row (suc i) = 2 * get_or rows.row_numbers i 0 + 2

  before_column : ℕ → ℕ
  before_column zero = 2 * length model.rows
  before_column (suc j) = 2 * (length model.rows + get_or rows.column_numbers j 0) + 2

  rows_le : (i : ℕ) → i < length rows.rows.rows → before_row i ≤ 2 * get_or rows.row_numbers i 0
  unfolding before_row
  rows_le zero h = omega arith
  rows_le (suc i) h =
      omega (arith, Node.row-number model rows limits reduced i (omega arith), Node.row-number model rows limits reduced (suc i) h, place_rises 0 (needed_flags model.box model.rows) i (suc i) (omega arith) (omega (arith, Node.rows_count model rows limits reduced)))

  rows_end : (i : ℕ) → i ≤ length rows.rows.rows → before_row i ≤ 2 * length model.rows
  unfolding before_row
  rows_end zero h = omega arith
  rows_end (suc i) h = omega (arith, Node.row-number model rows limits reduced i (omega arith), Node.row-below model rows limits reduced i (omega arith))

  columns_le : (j : ℕ) → j < length rows.rows.box → before_column j ≤ 2 * (length model.rows + get_or rows.column_numbers j 0)
  unfolding before_column
  columns_le zero h = omega arith
  columns_le (suc j) h =
      omega (arith, Node.column-number model rows limits reduced j (omega arith), Node.column-number model rows limits reduced (suc j) h, place_rises 0 (open_flags model.box) j (suc j) (omega arith) (omega (arith, Node.columns_count model rows limits reduced)))

  columns_end : (j : ℕ) → j ≤ length rows.rows.box → before_column j ≤ 2 * (length model.rows + length model.box)
  unfolding before_column
  columns_end zero h = omega arith
  columns_end (suc j) h = omega (arith, Node.column-number model rows limits reduced j (omega arith), Node.column-below model rows limits reduced j (omega arith))

  rows-within : Within 0 (2 * length model.rows) (joined (row_places rows) (length rows.rows.rows))
  unfolding before_row
  rows-within =
      Within-higher 0 (before_row (length rows.rows.rows)) (2 * length model.rows) (joined (row_places rows) (length rows.rows.rows)) (rows_end (length rows.rows.rows) (omega arith))
      (Within-joined before_row (row_places rows) (length rows.rows.rows) (λ i lt. unless-within (common_side (row_at rows.rows i).low (row_at rows.rows i).high) (row_at rows.rows i) (get_or rows.row_numbers i 0) (before_row i) (rows_le i lt)))

  columns-within : Within (2 * length model.rows) (2 * (length model.rows + length model.box)) (joined (column_places model rows) (length rows.rows.box))
  unfolding before_column
  columns-within =
      Within-higher (2 * length model.rows) (before_column (length rows.rows.box)) (2 * (length model.rows + length model.box)) (joined (column_places model rows) (length rows.rows.box)) (columns_end (length rows.rows.box) (omega arith))
      (Within-joined before_column (column_places model rows) (length rows.rows.box) (λ j lt. (columns_le j lt, (omega arith, omega arith))))

  start_of : (e : ℕ) → 2 * (length model.rows + length model.box) ≡ e → 2 * (length model.rows + length model.box + 0) ≡ e
  start_of e h = omega arith

  slices-within : (slices : ℕ) → Within (2 * (length model.rows + length model.box)) (2 * (length model.rows + length model.box + slices)) (joined (slice_place model) slices)
  slices-within slices =
      subst (λ (low : ℕ). Within low (2 * (length model.rows + length model.box + slices)) (joined (slice_place model) slices)) (start_of _ refl)
      (Within-joined (λ (e : ℕ). 2 * (length model.rows + length model.box + e)) (slice_place model) slices (λ e lt. (omega arith, omega arith)))

  pub places-within : (slices : ℕ) → Within 0 (2 * (length model.rows + length model.box + slices)) (node_places model rows slices)
  places-within slices =
      Within-append 0 (2 * length model.rows) (2 * (length model.rows + length model.box + slices)) (joined (row_places rows) (length rows.rows.rows)) (joined (column_places model rows) (length rows.rows.box) ++ joined (slice_place model) slices) rows-within
      (Within-append (2 * length model.rows) (2 * (length model.rows + length model.box)) (2 * (length model.rows + length model.box + slices)) (joined (column_places model rows) (length rows.rows.box)) (joined (slice_place model) slices) columns-within (slices-within slices))

  pub numbers-rise : (slices : ℕ) (weights times : List ℚ) → IsStrictlyIncreasing (numbers_of (uses_of (node_places model rows slices) weights times))
  numbers-rise slices weights times = rising 0 (numbers_of (uses_of (node_places model rows slices) weights times)) (uses-rise 0 _ (node_places model rows slices) weights times (places-within slices))

  pub places-room : (slices : ℕ) → slices ≤ 2 ^ 16 → All HasRoom (node_places model rows slices)
  places-room slices short =
      places-each HasRoom model rows slices
      (λ i lt. ((λ _. tt), (λ _. tt), (λ side e. omega (arith, Node.row-number model rows limits reduced i lt, Node.row-below model rows limits reduced i lt, limits.few_rows))))
      (λ j lt. (tt, tt))
      (λ e lt. omega (arith, limits.few_rows, limits.few_columns))

  -- ---- they are numbers of the model that have no removed column's bound

  some_map : (o : Option ℤ) (f : ℤ → Inequality) (v : ℤ) → o ≡ Some v → IsSome (option_map f o)
  some_map o f v e = rw e refl

  upper-work : (i : ℕ) → i < length rows.rows.rows → IsSome (row_at rows.rows i).high → IsWorkNumber model (2 * get_or rows.row_numbers i 0)
  upper-work i h is =
      let p : ℕ = place (needed_flags model.box model.rows) i in
      let found = Node.present (row_at model (place (needed_flags model.box model.rows) i)).high (removed_part model.box (row_at model (place (needed_flags model.box model.rows) i)).factors) (subst (λ (row : WholeRow). IsSome row.high) (Node.row-is model rows limits reduced i h) is) in
      let number = Node.row-number model rows limits reduced i h in
      let below = Node.row-below model rows limits reduced i h in
      record {
        there = λ lt. subst (λ (n : ℕ). IsSome (inequality_at model [] None (2 * n))) (sym number) (subst IsSome (sym (number-row_upper model [] None p below)) (some_map (row_at model p).high (at_most (row_at model p).factors) found.0 found.1));
        kept = λ column lt removed. (omega arith, omega arith);
      }

  lower-work : (i : ℕ) → i < length rows.rows.rows → IsSome (row_at rows.rows i).low → IsWorkNumber model (2 * get_or rows.row_numbers i 0 + 1)
  lower-work i h is =
      let p : ℕ = place (needed_flags model.box model.rows) i in
      let found = Node.present (row_at model (place (needed_flags model.box model.rows) i)).low (removed_part model.box (row_at model (place (needed_flags model.box model.rows) i)).factors) (subst (λ (row : WholeRow). IsSome row.low) (Node.row-is model rows limits reduced i h) is) in
      let number = Node.row-number model rows limits reduced i h in
      let below = Node.row-below model rows limits reduced i h in
      record {
        there = λ lt. subst (λ (n : ℕ). IsSome (inequality_at model [] None (2 * n + 1))) (sym number) (subst IsSome (sym (number-row_lower model [] None p below)) (some_map (row_at model p).low (at_least (row_at model p).factors) found.0 found.1));
        kept = λ column lt removed. (omega arith, omega arith);
      }

  other_column : (j column : ℕ) → j < length rows.rows.box → IsRemoved model column → get_or rows.column_numbers j 0 ≢ column
  other_column j column h removed = λ same. cc (removed, Node.column-open model rows limits reduced j h, ap (λ (k : ℕ). is_open (bounds_at model k)) (sym (Node.column-number model rows limits reduced j h) ∙ same))

  column-work : (j : ℕ) → j < length rows.rows.box → IsWorkNumber model (2 * (length model.rows + get_or rows.column_numbers j 0)) × IsWorkNumber model (2 * (length model.rows + get_or rows.column_numbers j 0) + 1)
  column-work j h = (
    record {
      there = λ lt. absurd (omega arith);
      kept = λ column lt removed. let ne = other_column j column h removed in (omega (arith, ne), omega (arith, ne));
    },
    record {
      there = λ lt. absurd (omega arith);
      kept = λ column lt removed. let ne = other_column j column h removed in (omega (arith, ne), omega (arith, ne));
    },
  )

  slice-work : (e : ℕ) → IsWorkNumber model (2 * (length model.rows + length model.box + e)) × IsWorkNumber model (2 * (length model.rows + length model.box + e) + 1)
  slice-work e = (
    record { there = λ lt. absurd (omega arith); kept = λ column lt removed. (omega arith, omega arith) },
    record { there = λ lt. absurd (omega arith); kept = λ column lt removed. (omega arith, omega arith) },
  )

  is_some_of : (o : Option ℤ) (side : ℤ) → o ≡ Some side → IsSome o
  is_some_of o side e = rw e refl

  pub numbers-work : (slices : ℕ) (weights times : List ℚ) → All (λ w. whole (pos 0) ≤ℚ w) weights → All (λ (item : FracUse). IsWorkNumber model item.index) (uses_of (node_places model rows slices) weights times)
  numbers-work slices weights times h =
      uses-each (λ (item : FracUse). IsWorkNumber model item.index) (IsWorkNumber model) (λ number t work positive. work) (node_places model rows slices) weights times
      (places-each (AtPlace (λ (item : FracUse). IsWorkNumber model item.index) (IsWorkNumber model) (λ number t work positive. work)) model rows slices
      (λ i lt. (upper-work i lt, lower-work i lt, (λ side e. let both = Node.both_sides (row_at rows.rows i).low (row_at rows.rows i).high side e in (upper-work i lt (is_some_of (row_at rows.rows i).high side both.1), lower-work i lt (is_some_of (row_at rows.rows i).low side both.0)))))
      (λ j lt. column-work j lt)
      (λ e lt. slice-work e))
      h

  pub times-positive : (slices : ℕ) (weights times : List ℚ) → All (λ w. whole (pos 0) ≤ℚ w) weights → All (λ (item : FracUse). whole (pos 0) <ℚ item.times) (uses_of (node_places model rows slices) weights times)
  times-positive slices weights times h =
      uses-each (λ (item : FracUse). whole (pos 0) <ℚ item.times) (λ number. ⊤) (λ number t there positive. positive) (node_places model rows slices) weights times
      (places-each (AtPlace (λ (item : FracUse). whole (pos 0) <ℚ item.times) (λ number. ⊤) (λ number t there positive. positive)) model rows slices (λ i lt. ((λ _. tt), (λ _. tt), (λ side e. (tt, tt)))) (λ j lt. (tt, tt)) (λ e lt. (tt, tt)))
      h
