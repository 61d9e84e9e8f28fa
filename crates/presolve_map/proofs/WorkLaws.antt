-- Rows and their sides, which stand beside them.
use Rattle.std.proofs.Common.{◌≡◌, ℕ, zero, suc, ◌<◌, List, [], ◌∷◌, ◌++◌, length, map, get_or, ℤ, None, refl, ap, ap₂, sym, ◌∙◌, arith}
use Rattle.std.proofs.lemmas.List.{get_or-map, map-append}
use Rattle.whole_rows.specs.WholeRows.{WholeRow, WholeRows, row_at}
use Rattle.presolve_map.specs.declared.sides.WorkSides.{WorkSides}
use Rattle.presolve_map.specs.ReducedRows.{ReducedRows}
use Rattle.presolve_map.specs.WorkViews.{with_sides, each_with_sides, reduced_of, with_work_row}

-- as many rows as before
pub length-each : (rows : List WholeRow) (sides : List WorkSides) → length sides ≡ length rows → length (each_with_sides rows sides) ≡ length rows
length-each [] sides e = refl
length-each (row ∷ rows) [] e = absurd (omega arith)
length-each (row ∷ rows) (s ∷ sides) e = ap suc (length-each rows sides (omega arith))

-- the row at a place
each-at : (rows : List WholeRow) (sides : List WorkSides) (i : ℕ) (d : WholeRow) (e : WorkSides) → i < length rows → i < length sides → get_or (each_with_sides rows sides) i d ≡ with_sides (get_or rows i d) (get_or sides i e)
each-at [] sides i d e h k = absurd (omega arith)
each-at (row ∷ rows) [] i d e h k = absurd (omega arith)
each-at (row ∷ rows) (s ∷ sides) zero d e h k = refl
each-at (row ∷ rows) (s ∷ sides) (suc i) d e h k = each-at rows sides i d e (omega arith) (omega arith)

-- one row more
each-append : (rows : List WholeRow) (sides : List WorkSides) (row : WholeRow) (s : WorkSides) → length sides ≡ length rows → each_with_sides (rows ++ row ∷ []) (sides ++ s ∷ []) ≡ each_with_sides rows sides ++ with_sides row s ∷ []
each-append [] [] row s e = refl
each-append [] (t ∷ sides) row s e = absurd (omega arith)
each-append (r ∷ rows) [] row s e = absurd (omega arith)
each-append (r ∷ rows) (t ∷ sides) row s e = ap {B = List WholeRow} (λ rest. with_sides r t ∷ rest) (each-append rows sides row s (omega arith))

-- ---- of a view

pub count-view : (left : WholeRows) (sides : List WorkSides) (columns : List ℕ) (constant : ℤ) (work : ReducedRows) → reduced_of left sides columns constant ≡ work → length sides ≡ length left.rows → length left.rows ≡ length work.rows.rows
count-view left sides columns constant work is e = sym (length-each left.rows sides e) ∙ ap (λ (w : ReducedRows). length w.rows.rows) is

pub row-view : (left : WholeRows) (sides : List WorkSides) (columns : List ℕ) (constant : ℤ) (work : ReducedRows) (i : ℕ) (e : WorkSides) → reduced_of left sides columns constant ≡ work → i < length left.rows → i < length sides → row_at work.rows i ≡ with_sides (row_at left i) (get_or sides i e)
row-view left sides columns constant work i e is h k = ap (λ (w : ReducedRows). row_at w.rows i) (sym is) ∙ each-at left.rows sides i (record { factors = []; low = None; high = None }) e h k

pub number-view : (left : WholeRows) (sides : List WorkSides) (columns : List ℕ) (constant : ℤ) (work : ReducedRows) (i : ℕ) (e : WorkSides) → reduced_of left sides columns constant ≡ work → i < length sides → get_or work.row_numbers i 0 ≡ (get_or sides i e).number
number-view left sides columns constant work i e is k = ap (λ (w : ReducedRows). get_or w.row_numbers i 0) (sym is) ∙ get_or-map (λ (s : WorkSides). s.number) sides i e 0 k

pub push-view : (left : WholeRows) (sides : List WorkSides) (columns : List ℕ) (constant : ℤ) (factors : List ℤ) (s : WorkSides) → length sides ≡ length left.rows → reduced_of (record left { rows = left.rows ++ record { factors = factors; low = None; high = None } ∷ [] }) (sides ++ s ∷ []) columns constant ≡ with_work_row (reduced_of left sides columns constant) (record { factors = factors; low = s.low; high = s.high }) s.number
push-view left sides columns constant factors s e =
    let rows = each-append left.rows sides (record { factors = factors; low = None; high = None }) s e in
    let numbers : map (λ (t : WorkSides). t.number) (sides ++ s ∷ []) ≡ map (λ (t : WorkSides). t.number) sides ++ s.number ∷ [] = map-append (λ (t : WorkSides). t.number) sides (s ∷ []) in
    ap₂ (λ (r : List WholeRow) (n : List ℕ). record { rows = record left { rows = r }; row_numbers = n; column_numbers = columns; cost_constant = constant }) rows numbers
