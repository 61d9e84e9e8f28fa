-- The numbers of the pair system are as narrow as those of the system.
use Rattle.std.proofs.Common.{◌≡◌, ℕ, zero, suc, ◌+◌, ◌*◌, ◌^◌, ◌<◌, ◌≤◌, ℤ, pos, negsuc, nat_abs, ◌*ℤ◌, List, [], ◌∷◌, ◌++◌, length, get_or, take, drop, sym, ap, ap₂, subst, ◌∙◌, arith, rules, All, length-append}
use Rattle.std.specs.Prelude.{flat_map}
use Rattle.std.proofs.lemmas.List.Concat.{flat_map-cons}
use Rattle.std.proofs.lemmas.List.Elements.{All-append, All-map, All-nil, All-take, All-drop}
use Rattle.exact_math.specs.IntegerOrder.{abs_mul_le}
use Rattle.exact_math.specs.Ring.{integers}
use Rattle.exact_vectors.specs.Vectors.{scale, zeros}
use Rattle.exact_vectors.specs.Matrices.{rows_of}
use Rattle.exact_vectors.specs.MatrixLaws as Matrix
use Rattle.frac128.specs.Range.{IsNarrow}
use Rattle.spaces.specs.Tables.{Table, rows_in, row_at}
use Rattle.spaces.specs.TableLaws as Table
use Rattle.lp_dict.specs.Sizes.{MeetsCondition}
use Rattle.norm_gauge.specs.PairTables.{pair_row, difference_rows, pair_table, pair_sides}
use Rattle.norm_gauge.specs.Widths.{AreNarrow}
use Rattle.norm_gauge.specs.PairTableLaws.{length-pair_row}

-- numbers with the sign 1, 0 or -1
scale_narrow : (sign : ℤ) (row : List ℤ) → nat_abs sign ≤ 1 → All IsNarrow row → All IsNarrow (scale integers sign row)
scale_narrow sign row s h = All-map IsNarrow (λ z. sign *ℤ z) row (λ k d lt. signed (get_or row k d) (h k d lt))
  where
    signed : (z : ℤ) → IsNarrow z → IsNarrow (sign *ℤ z)
    signed z n = omega (arith, abs_mul_le sign z 1 (nat_abs z) s (omega arith))

pair_row_narrow : (first second : ℤ) (row : List ℤ) → nat_abs first ≤ 1 → nat_abs second ≤ 1 → All IsNarrow row → All IsNarrow (pair_row first second row)
pair_row_narrow first second row f s h = All-append IsNarrow (scale integers first row) (scale integers second row) (scale_narrow first row f h) (scale_narrow second row s h)

-- rows that are made of narrow rows, one after another
mapped_narrow : (f : List ℤ → List ℤ) → ((row : List ℤ) → All IsNarrow row → All IsNarrow (f row)) → (n m : ℕ) (flat : List ℤ) → All IsNarrow flat → All IsNarrow (flat_map f (rows_of n m flat))
mapped_narrow f narrow n zero flat h = All-nil IsNarrow
mapped_narrow f narrow n (suc m) flat h =
    rw flat_map-cons (All-append IsNarrow (f (take n flat)) (flat_map f (rows_of n m (drop n flat))) (narrow (take n flat) (All-take IsNarrow n flat h)) (mapped_narrow f narrow n m (drop n flat) (All-drop IsNarrow n flat h)))

-- the same of the first of some narrow rows
mapped_first_narrow : (f : List ℤ → List ℤ) → ((row : List ℤ) → All IsNarrow row → All IsNarrow (f row)) → (i : ℕ) (rows : List (List ℤ)) → AreNarrow rows → All IsNarrow (flat_map f (take i rows))
mapped_first_narrow f narrow zero rows h = All-nil IsNarrow
mapped_first_narrow f narrow (suc i) [] h = All-nil IsNarrow
mapped_first_narrow f narrow (suc i) (row ∷ rows) h =
    rw flat_map-cons (All-append IsNarrow (f row) (flat_map f (take i rows)) (narrow row (h 0 [] (omega arith))) (mapped_first_narrow f narrow i rows (λ k d lt. h (suc k) d (omega arith))))

zeros_narrow : (n : ℕ) → All IsNarrow (zeros integers n)
zeros_narrow zero = All-nil IsNarrow
zeros_narrow (suc n) = All-append IsNarrow (pos 0 ∷ []) (zeros integers n) (λ k d lt. first k d lt) (zeros_narrow n)
  where
    first : (k : ℕ) (d : ℤ) → k < 1 → IsNarrow (get_or (pos 0 ∷ []) k d)
    first zero d lt = search rules
    first (suc k) d lt = absurd (omega arith)

-- the form with the other sign meets the condition
pub opposite_condition : (t : Table ℤ) (limits form other : List ℤ) → MeetsCondition t limits form → other ≡ scale integers (negsuc 0) form → MeetsCondition t limits other
opposite_condition t limits form other condition is = record {
  as_many_limits = condition.as_many_limits;
  as_many_factors = ap length is ∙ Matrix.length-scale integers (negsuc 0) form ∙ condition.as_many_factors;
  size = condition.size;
  narrow_rows = condition.narrow_rows;
  narrow_limits = condition.narrow_limits;
  narrow_form = subst (All IsNarrow) (sym is) (scale_narrow (negsuc 0) form (omega arith) condition.narrow_form);
}

-- the pair system meets the condition with its form
pub pairs_condition : (t basis : Table ℤ) (limits form : List ℤ) (i : ℕ) → MeetsCondition t limits form → ((t.rows + t.rows) + (i + i) + 1) * (t.width + t.width + 1) ≤ 2 ^ 31 → AreNarrow (rows_in basis)
    → MeetsCondition (pair_table t basis i) (pair_sides limits i) (pair_row (negsuc 0) (pos 1) form)
pairs_condition t basis limits form i condition few narrow = record {
  as_many_limits = length-append limits (limits ++ zeros integers (i + i)) ∙ ap₂ (λ a b. a + b) condition.as_many_limits (length-append limits (zeros integers (i + i)) ∙ ap₂ (λ a b. a + b) condition.as_many_limits (Matrix.length-zeros integers (i + i))) ∙ together t.rows (i + i);
  as_many_factors = length-pair_row t.width (negsuc 0) (pos 1) form condition.as_many_factors;
  size = few;
  narrow_rows = All-append IsNarrow (flat_map (pair_row (pos 1) (pos 0)) (rows_in t)) (flat_map (pair_row (pos 0) (pos 1)) (rows_in t) ++ flat_map difference_rows (take i (rows_in basis)))
      (mapped_narrow (pair_row (pos 1) (pos 0)) (λ row h. pair_row_narrow (pos 1) (pos 0) row (omega arith) (omega arith) h) t.width t.rows t.items condition.narrow_rows)
      (All-append IsNarrow (flat_map (pair_row (pos 0) (pos 1)) (rows_in t)) (flat_map difference_rows (take i (rows_in basis))) (mapped_narrow (pair_row (pos 0) (pos 1)) (λ row h. pair_row_narrow (pos 0) (pos 1) row (omega arith) (omega arith) h) t.width t.rows t.items condition.narrow_rows)
      (mapped_first_narrow difference_rows differences_narrow i (rows_in basis) narrow));
  narrow_limits = All-append IsNarrow limits (limits ++ zeros integers (i + i)) condition.narrow_limits (All-append IsNarrow limits (zeros integers (i + i)) condition.narrow_limits (zeros_narrow (i + i)));
  narrow_form = pair_row_narrow (negsuc 0) (pos 1) form (omega arith) (omega arith) condition.narrow_form;
}
  where
    together : (m d : ℕ) → m + (m + d) ≡ (m + m) + d
    together m d = omega arith

    differences_narrow : (row : List ℤ) → All IsNarrow row → All IsNarrow (difference_rows row)
    differences_narrow row h =
        All-append IsNarrow (pair_row (pos 1) (negsuc 0) row) (pair_row (negsuc 0) (pos 1) row) (pair_row_narrow (pos 1) (negsuc 0) row (omega arith) (omega arith) h) (pair_row_narrow (negsuc 0) (pos 1) row (omega arith) (omega arith) h)

-- a row of narrow rows
pub row_narrow : (t : Table ℤ) (i : ℕ) (row : List ℤ) → AreNarrow (rows_in t) → i < t.rows → row ≡ row_at t i → All IsNarrow row
row_narrow t i row h lt is = subst (All IsNarrow) (Table.rows_in-at t i lt ∙ sym is) (h i [] (omega (arith, Table.length-rows_in t)))
