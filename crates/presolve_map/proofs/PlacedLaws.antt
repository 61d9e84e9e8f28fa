-- The lines of the columns as they are placed one after another.
use Rattle.std.proofs.Common.{◌≡◌, ◌≢◌, ℕ, suc, ◌+◌, ◌-◌, ◌*◌, ◌<◌, ◌≤◌, Bool, true, false, List, [], ◌∷◌, ◌++◌, length, take, drop, get_or, set, ℤ, pos, refl, ap, sym, subst, ◌∙◌, add-one, zero-add, append_assoc, drop-cons, arith}
use Rattle.std.proofs.Math.Nat.{mul-le-mul_right}
use Rattle.std.proofs.Math.Seq.{take-suc, take-suc-set}
use Rattle.std.proofs.lemmas.List.{take-replicate, drop-replicate, length-replicate, get_or-set_other, take_all, append-nil, drop_all}
use Rattle.exact_math.specs.Ring.{integers}
use Rattle.exact_vectors.specs.Vectors.{zeros}
use Rattle.farkas_rows.specs.Inequalities.{unit}
use Rattle.farkas_rows.specs.NodeLaws.{length-unit}
use Rattle.spaces.specs.Tables.{Table, filled, row_at, rows_in, with_row}
use Rattle.spaces.specs.TableLaws as Tables
use Rattle.presolve_map.specs.Selections.{positions}
use Rattle.presolve_map.specs.Columns.{column_lines}
use Rattle.presolve_map.specs.Placed.{IsPlaced}
use Rattle.presolve_map.proofs.SelectLaws.{positions-set, positions-unset}
use Rattle.presolve_map.proofs.PointLaws.{count-any}

-- the first `count` lines are those of the columns, and `place` of these are kept
pub record IsPlacedTo (flags : List Bool) (count place : ℕ) (table : Table ℤ) : Type 0 where
  pub rows : table.rows ≡ length flags
  pub width : table.width ≡ length (positions 0 flags)
  pub size : length table.items ≡ table.rows * table.width
  pub done : take count (rows_in table) ++ column_lines (length (positions 0 flags)) place (drop count flags) ≡ column_lines (length (positions 0 flags)) 0 flags
  pub rest : (k : ℕ) → count ≤ k → k < length flags → get_or (rows_in table) k [] ≡ zeros integers (length (positions 0 flags))
  pub left : place + length (positions 0 (drop count flags)) ≡ length (positions 0 flags)

-- none is placed
pub placed-none : (flags : List Bool) (table : Table ℤ) → table ≡ filled (length flags) (length (positions 0 flags)) (pos 0) → IsPlacedTo flags 0 0 table
placed-none flags table is = subst (IsPlacedTo flags 0 0) (sym is) start
  where
    start : IsPlacedTo flags 0 0 (filled (length flags) (length (positions 0 flags)) (pos 0))
    start = record {
      rows = refl;
      width = refl;
      size = length-replicate (length flags * length (positions 0 flags)) (pos 0);
      done = refl;
      rest = λ k low h.
          let reaches : suc k * length (positions 0 flags) ≤ length flags * length (positions 0 flags) = mul-le-mul_right (length (positions 0 flags)) h in
          let room : length (positions 0 flags) ≤ length flags * length (positions 0 flags) - k * length (positions 0 flags) = omega arith in
          Tables.rows_in-at (filled (length flags) (length (positions 0 flags)) (pos 0)) k h
          ∙ ap (take (length (positions 0 flags))) (drop-replicate (k * length (positions 0 flags)) (length flags * length (positions 0 flags)) (pos 0))
          ∙ take-replicate (length (positions 0 flags)) (length flags * length (positions 0 flags) - k * length (positions 0 flags)) (pos 0) room;
      left = zero-add (length (positions 0 flags));
    }

lines-set : (width place : ℕ) (flags : List Bool) (i : ℕ) → i < length flags → get_or flags i false ≡ true → column_lines width place (drop i flags) ≡ unit width place ∷ column_lines width (place + 1) (drop (i + 1) flags)
lines-set width place flags i h e = rw (add-one place, add-one i, drop-cons flags i false, e) refl

lines-unset : (width place : ℕ) (flags : List Bool) (i : ℕ) → i < length flags → get_or flags i false ≡ false → column_lines width place (drop i flags) ≡ zeros integers width ∷ column_lines width place (drop (i + 1) flags)
lines-unset width place flags i h e = rw (add-one i, drop-cons flags i false, e) refl

-- where the next line is written there is room
pub place_below : (flags : List Bool) (i place : ℕ) (table : Table ℤ) → IsPlacedTo flags i place table → i < length flags → get_or flags i false ≡ true → place < length (positions 0 flags)
place_below flags i place table t h e = omega (arith, t.left, ap length (positions-set flags i 0 false h e))

-- one line more, of a column that is kept
pub placed-set : (flags : List Bool) (i place : ℕ) (table : Table ℤ) → IsPlacedTo flags i place table → i < length flags → get_or flags i false ≡ true → IsPlacedTo flags (i + 1) (place + 1) (with_row table i (set (row_at table i) place (pos 1)))
placed-set flags i place table t h e =
    let w : ℕ = length (positions 0 flags) in
    let within : i < table.rows = omega (arith, t.rows) in
    let row : List ℤ = set (row_at table i) place (pos 1) in
    let old : row_at table i ≡ zeros integers w = sym (Tables.rows_in-at table i within) ∙ t.rest i (omega arith) h in
    let is_unit : row ≡ unit w place = ap (λ (r : List ℤ). set r place (pos 1)) old in
    let wide : length row ≡ table.width = ap length is_unit ∙ length-unit w place ∙ sym t.width in
    let written : rows_in (with_row table i row) ≡ set (rows_in table) i row = Tables.rows_in-with_row table i row t.size within wide in
    let long : i < length (rows_in table) = omega (arith, Tables.length-rows_in table) in
    record {
      rows = t.rows;
      width = t.width;
      size = Tables.length-with_row table i row t.size within wide;
      done = ap (λ (l : List (List ℤ)). take (i + 1) l ++ column_lines w (place + 1) (drop (i + 1) flags)) written
          ∙ ap (λ (l : List (List ℤ)). l ++ column_lines w (place + 1) (drop (i + 1) flags)) (ap (λ (n : ℕ). take n (set (rows_in table) i row)) (add-one i) ∙ take-suc-set (rows_in table) i row long)
          ∙ append_assoc (take i (rows_in table)) (row ∷ []) (column_lines w (place + 1) (drop (i + 1) flags))
          ∙ ap (λ (r : List ℤ). take i (rows_in table) ++ r ∷ column_lines w (place + 1) (drop (i + 1) flags)) is_unit
          ∙ ap (λ (l : List (List ℤ)). take i (rows_in table) ++ l) (sym (lines-set w place flags i h e))
          ∙ t.done;
      rest = λ k low lt.
          let other : k ≢ i = omega arith in
          ap (λ (l : List (List ℤ)). get_or l k []) written ∙ get_or-set_other (rows_in table) i k row [] other ∙ t.rest k (omega arith) lt;
      left = omega (arith, t.left, ap length (positions-set flags i 0 false h e), count-any (drop (i + 1) flags) (0 + 1) 0);
    }

-- the same, where the line is known by an equation
pub placed-written : (flags : List Bool) (i place : ℕ) (table : Table ℤ) (row : List ℤ) → row ≡ row_at table i → IsPlacedTo flags i place table → i < length flags → get_or flags i false ≡ true → IsPlacedTo flags (i + 1) (place + 1) (with_row table i (set row place (pos 1)))
placed-written flags i place table row is t h e = subst (λ (r : List ℤ). IsPlacedTo flags (i + 1) (place + 1) (with_row table i (set r place (pos 1)))) (sym is) (placed-set flags i place table t h e)

-- one line more, of a column that is removed
pub placed-unset : (flags : List Bool) (i place : ℕ) (table : Table ℤ) → IsPlacedTo flags i place table → i < length flags → get_or flags i false ≡ false → IsPlacedTo flags (i + 1) place table
placed-unset flags i place table t h e =
    let w : ℕ = length (positions 0 flags) in
    let long : i < length (rows_in table) = omega (arith, t.rows, Tables.length-rows_in table) in
    record {
      rows = t.rows;
      width = t.width;
      size = t.size;
      done = ap (λ (l : List (List ℤ)). l ++ column_lines w place (drop (i + 1) flags)) (ap (λ (n : ℕ). take n (rows_in table)) (add-one i) ∙ take-suc (rows_in table) i [] long)
          ∙ append_assoc (take i (rows_in table)) (get_or (rows_in table) i [] ∷ []) (column_lines w place (drop (i + 1) flags))
          ∙ ap (λ (r : List ℤ). take i (rows_in table) ++ r ∷ column_lines w place (drop (i + 1) flags)) (t.rest i (omega arith) h)
          ∙ ap (λ (l : List (List ℤ)). take i (rows_in table) ++ l) (sym (lines-unset w place flags i h e))
          ∙ t.done;
      rest = λ k low lt. t.rest k (omega arith) lt;
      left = omega (arith, t.left, ap length (positions-unset flags i 0 false h e), count-any (drop (i + 1) flags) (0 + 1) 0);
    }

-- all are placed
pub placed-all : (flags : List Bool) (i place : ℕ) (table : Table ℤ) → IsPlacedTo flags i place table → length flags ≤ i → IsPlaced flags table
placed-all flags i place table t h = record {
  rows = t.rows;
  width = t.width;
  lines = sym (take_all i (rows_in table) (omega (arith, t.rows, Tables.length-rows_in table))) ∙ sym (append-nil (take i (rows_in table))) ∙ ap (λ (l : List (List ℤ)). take i (rows_in table) ++ l) (sym (none flags i h)) ∙ t.done;
}
  where
    none : (flags : List Bool) (i : ℕ) → length flags ≤ i → column_lines (length (positions 0 flags)) place (drop i flags) ≡ []
    none flags i h = ap (column_lines (length (positions 0 flags)) place) (drop_all i flags h)
