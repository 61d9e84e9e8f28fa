-- Rows that stand one after another in one list: how many there are, and which stands where.
use Rattle.std.proofs.Common.{◌≡◌, ℕ, zero, suc, ◌+◌, ◌*◌, ◌<◌, ◌≤◌, ◌^◌, List, [], ◌∷◌, ◌++◌, length, map, take, drop, get_or, ℤ, pos, None, refl, ap, ap₂, sym, subst, ◌∙◌, arith}
use Rattle.std.specs.Prelude.{replicate}
use Rattle.std.specs.List.{All}
use Rattle.std.proofs.lemmas.List.{drop-drop, get_or-map, length-replicate, nil_from_length, take_all, take-append-le, drop-append-le, length-drop, length-append, map-append}
use Rattle.std.proofs.lemmas.List.Elements.{All-nil, All-push}
use Rattle.whole_rows.specs.declared.bounds.Bounds.{Bounds}
use Rattle.whole_rows.specs.declared.sides.Sides.{Sides}
use Rattle.whole_rows.specs.WholeRows.{WholeRow, WholeRows, row_at, reach, span, weight, IsWithinLimits, with_row}
use Rattle.whole_rows.specs.FlatRows.{rows_of, whole_rows, IsFlat}

pub length-rows_of : (n : ℕ) (factors : List ℤ) (sides : List Sides) → length (rows_of n factors sides) ≡ length sides
length-rows_of n factors [] = refl
length-rows_of n factors (side ∷ sides) = ap suc (length-rows_of n (drop n factors) sides)

-- row number i has the factors from i times n on
pub get_or-rows_of : (n : ℕ) (factors : List ℤ) (sides : List Sides) (i : ℕ) (d : WholeRow) (e : Sides) → i < length sides → get_or (rows_of n factors sides) i d ≡ record { factors = take n (drop (i * n) factors); low = (get_or sides i e).low; high = (get_or sides i e).high }
get_or-rows_of n factors [] i d e h = absurd (omega arith)
get_or-rows_of n factors (side ∷ sides) zero d e h = let z : zero * n ≡ 0 = omega arith in rw z refl
get_or-rows_of n factors (side ∷ sides) (suc i) d e h =
    let step : n + i * n ≡ suc i * n = omega arith in
    get_or-rows_of n (drop n factors) sides i d e (omega arith) ∙ rw (drop-drop (i * n) n factors, step) refl

-- a view of flat rows, by its number of rows
pub rows-whole_rows : (box : List Bounds) (factors : List ℤ) (sides : List Sides) (cost : List ℤ) (rows : WholeRows) → whole_rows box factors sides cost ≡ rows → length sides ≡ length rows.rows
rows-whole_rows box factors sides cost rows is = sym (length-rows_of (length box) factors sides) ∙ ap (λ (w : WholeRows). length w.rows) is

-- a view of flat rows, by the row at a place
pub row-whole_rows : (box : List Bounds) (factors : List ℤ) (sides : List Sides) (cost : List ℤ) (rows : WholeRows) (i : ℕ) (e : Sides) → whole_rows box factors sides cost ≡ rows → i < length sides → row_at rows i ≡ record { factors = take (length box) (drop (i * length box) factors); low = (get_or sides i e).low; high = (get_or sides i e).high }
row-whole_rows box factors sides cost rows i e is h = rw (← is) (get_or-rows_of (length box) factors sides i _ e h)

-- the weight at a place is that of the row there
pub weight-whole_rows : (box : List Bounds) (factors : List ℤ) (sides : List Sides) (cost : List ℤ) (rows : WholeRows) (i : ℕ) (e : Sides) → whole_rows box factors sides cost ≡ rows → map (λ (side : Sides). side.weight) sides ≡ map (weight box) (rows_of (length box) factors sides) → i < length sides → (get_or sides i e).weight ≡ weight rows.box (row_at rows i)
weight-whole_rows box factors sides cost rows i e is weights h =
    let d : WholeRow = record { factors = []; low = None; high = None } in
    let own : get_or (map (λ (side : Sides). side.weight) sides) i 0 ≡ (get_or sides i e).weight = get_or-map (λ (side : Sides). side.weight) sides i e 0 h in
    let other : get_or (map (weight box) (rows_of (length box) factors sides)) i 0 ≡ weight box (get_or (rows_of (length box) factors sides) i d) = get_or-map (weight box) (rows_of (length box) factors sides) i d 0 (omega (arith, length-rows_of (length box) factors sides)) in
    subst (λ (w : WholeRows). (get_or sides i e).weight ≡ weight w.box (row_at w i)) is (sym own ∙ ap (λ l. get_or l i 0) weights ∙ other)

-- zeros span nothing
span-zeros : (n : ℕ) (box : List Bounds) → span (replicate n (pos 0)) box ≡ 0
span-zeros zero box = refl
span-zeros (suc n) [] = refl
span-zeros (suc n) (bounds ∷ box) = omega (arith, span-zeros n box)

-- no rows over a light box
pub IsFlat-none : (box : List Bounds) → length box ≤ 256 → All (λ bounds. reach bounds ≤ 2 ^ 96) box → IsFlat box [] [] (replicate (length box) (pos 0))
IsFlat-none box few light = record {
  filled = omega arith;
  weights = refl;
  limits = record {
    few_columns = few;
    few_rows = omega arith;
    dense = All-nil (λ (row : WholeRow). length row.factors ≡ length box);
    light = record {
      reaches = light;
      weights = All-nil (λ (row : WholeRow). weight box row ≤ 2 ^ 96);
    };
    priced = length-replicate (length box) (pos 0);
    light_cost = omega (arith, span-zeros (length box) box);
  };
}

-- one row more at the end of flat rows
pub rows_of-push : (n : ℕ) (factors more : List ℤ) (sides : List Sides) (side : Sides) → length factors ≡ length sides * n → length more ≡ n → rows_of n (factors ++ more) (sides ++ side ∷ []) ≡ rows_of n factors sides ++ record { factors = more; low = side.low; high = side.high } ∷ []
rows_of-push n factors more [] side filled long =
    let none : factors ≡ [] = nil_from_length factors (omega (arith, filled)) in
    let own : take n more ≡ more = take_all n more (omega arith) in
    rw none (rw own refl)
rows_of-push n factors more (first ∷ sides) side filled long =
    let row : WholeRow = record { factors = take n factors; low = first.low; high = first.high } in
    let enough : n ≤ length factors = omega (arith, filled) in
    let front : take n (factors ++ more) ≡ take n factors = take-append-le n factors more enough in
    let rest : drop n (factors ++ more) ≡ drop n factors ++ more = drop-append-le n factors more enough in
    rw (front, rest) (ap (λ rows. row ∷ rows) (rows_of-push n (drop n factors) more sides side (omega (arith, filled, length-drop n factors)) long))

pub whole_rows-push : (box : List Bounds) (factors more : List ℤ) (sides : List Sides) (side : Sides) (cost : List ℤ) → length factors ≡ length sides * length box → length more ≡ length box → whole_rows box (factors ++ more) (sides ++ side ∷ []) cost ≡ with_row (whole_rows box factors sides cost) (record { factors = more; low = side.low; high = side.high })
whole_rows-push box factors more sides side cost filled long =
    let made : List WholeRow → WholeRows = λ rows. record { box = box; rows = rows; cost = cost } in
    ap made (rows_of-push (length box) factors more sides side filled long)

-- light rows with one more light row are within the limits
IsWithinLimits-with_row : (rows : WholeRows) (row : WholeRow) → IsWithinLimits rows → length row.factors ≡ length rows.box → length rows.rows < 256 → weight rows.box row ≤ 2 ^ 96 → IsWithinLimits (with_row rows row)
IsWithinLimits-with_row rows row limits long room light = record {
  few_columns = limits.few_columns;
  few_rows = omega (arith, length-append rows.rows (row ∷ []), room);
  dense = All-push (λ (row : WholeRow). length row.factors ≡ length rows.box) rows.rows row limits.dense long;
  light = record {
    reaches = limits.light.reaches;
    weights = All-push (λ (row : WholeRow). weight rows.box row ≤ 2 ^ 96) rows.rows row limits.light.weights light;
  };
  priced = limits.priced;
  light_cost = limits.light_cost;
}

pub IsFlat-push : (box : List Bounds) (factors more : List ℤ) (sides : List Sides) (side : Sides) (cost : List ℤ) → IsFlat box factors sides cost → length more ≡ length box → length (rows_of (length box) factors sides) < 256 → side.weight ≡ weight box (record { factors = more; low = side.low; high = side.high }) → side.weight ≤ 2 ^ 96 → IsFlat box (factors ++ more) (sides ++ side ∷ []) cost
IsFlat-push box factors more sides side cost flat long room is light =
    let row : WholeRow = record { factors = more; low = side.low; high = side.high } in
    let weights : List WholeRow → List ℕ = map (weight box) in
    record {
      filled = omega (arith, length-append factors more, ap (λ n. n * length box) (length-append sides (side ∷ [])), flat.filled, long);
      weights = map-append (λ (side : Sides). side.weight) sides (side ∷ []) ∙ ap₂ (λ l w. l ++ w ∷ []) flat.weights is ∙ sym (ap weights (rows_of-push (length box) factors more sides side flat.filled long) ∙ map-append (weight box) (rows_of (length box) factors sides) (row ∷ []));
      limits = subst IsWithinLimits (sym (whole_rows-push box factors more sides side cost flat.filled long)) (IsWithinLimits-with_row (whole_rows box factors sides cost) row flat.limits long room (subst (λ w. w ≤ 2 ^ 96) is light));
    }
