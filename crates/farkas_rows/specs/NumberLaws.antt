-- Which inequality has which number.
use Rattle.std.proofs.Common.{◌≡◌, ℕ, zero, suc, ◌+◌, ◌*◌, ◌<◌, List, [], ◌∷◌, ◌++◌, length, get_or, pos, refl, ap, ◌∙◌, arith}
use Rattle.std.specs.Prelude.{Option, Some, None, flat_map, option_map}
use Rattle.whole_rows.specs.declared.bounds.Bounds.{Bounds}
use Rattle.whole_rows.specs.WholeRows.{WholeRow, WholeRows, row_at, bounds_at}
use Rattle.farkas_rows.specs.declared.path.Slice.{Slice}
use Rattle.farkas_rows.specs.Inequalities.{Inequality, at_most, at_least, unit, column_bounds, inequality_at}

-- ---- lists of pairs

-- the first and the second of the pair of each
abbrev pairs : {X : Type 0} → (X → Option Inequality) → (X → Option Inequality) → List X → List (Option Inequality)
pairs first second xs = flat_map (λ x. first x ∷ second x ∷ []) xs

pairs-first : {X : Type 0} (first second : X → Option Inequality) (xs : List X) (rest : List (Option Inequality)) (d : X) (i k : ℕ) → i < length xs → k ≡ 2 * i → get_or (pairs first second xs ++ rest) k None ≡ first (get_or xs i d)
pairs-first first second [] rest d i k h e = absurd (omega arith)
pairs-first first second (x ∷ xs) rest d zero zero h e = refl
pairs-first first second (x ∷ xs) rest d zero (suc k) h e = absurd (omega arith)
pairs-first first second (x ∷ xs) rest d (suc i) zero h e = absurd (omega arith)
pairs-first first second (x ∷ xs) rest d (suc i) (suc zero) h e = absurd (omega arith)
pairs-first first second (x ∷ xs) rest d (suc i) (suc (suc k)) h e = pairs-first first second xs rest d i k (omega arith) (omega arith)

pairs-second : {X : Type 0} (first second : X → Option Inequality) (xs : List X) (rest : List (Option Inequality)) (d : X) (i k : ℕ) → i < length xs → k ≡ 2 * i + 1 → get_or (pairs first second xs ++ rest) k None ≡ second (get_or xs i d)
pairs-second first second [] rest d i k h e = absurd (omega arith)
pairs-second first second (x ∷ xs) rest d zero zero h e = absurd (omega arith)
pairs-second first second (x ∷ xs) rest d zero (suc zero) h e = refl
pairs-second first second (x ∷ xs) rest d zero (suc (suc k)) h e = absurd (omega arith)
pairs-second first second (x ∷ xs) rest d (suc i) zero h e = absurd (omega arith)
pairs-second first second (x ∷ xs) rest d (suc i) (suc zero) h e = absurd (omega arith)
pairs-second first second (x ∷ xs) rest d (suc i) (suc (suc k)) h e = pairs-second first second xs rest d i k (omega arith) (omega arith)

-- what comes after the pairs
pairs-past : {X : Type 0} (first second : X → Option Inequality) (xs : List X) (rest : List (Option Inequality)) (j k : ℕ) → k ≡ 2 * length xs + j → get_or (pairs first second xs ++ rest) k None ≡ get_or rest j None
pairs-past first second [] rest j k e = ap (λ n. get_or rest n None) (omega arith)
pairs-past first second (x ∷ xs) rest j zero e = absurd (omega arith)
pairs-past first second (x ∷ xs) rest j (suc zero) e = absurd (omega arith)
pairs-past first second (x ∷ xs) rest j (suc (suc k)) e = pairs-past first second xs rest j k (omega arith)

-- ---- the bounds of the columns

bounds-first : (columns column : ℕ) (box : List Bounds) (rest : List (Option Inequality)) (b : Bounds) (i k : ℕ) → i < length box → k ≡ 2 * i → get_or (column_bounds columns column box ++ rest) k None ≡ Some (at_most (unit columns (column + i)) (get_or box i b).high)
bounds-first columns column [] rest b i k h e = absurd (omega arith)
bounds-first columns column (bounds ∷ box) rest b zero zero h e = ap (λ (j : ℕ). Some (at_most (unit columns j) bounds.high)) (omega arith)
bounds-first columns column (bounds ∷ box) rest b zero (suc k) h e = absurd (omega arith)
bounds-first columns column (bounds ∷ box) rest b (suc i) zero h e = absurd (omega arith)
bounds-first columns column (bounds ∷ box) rest b (suc i) (suc zero) h e = absurd (omega arith)
bounds-first columns column (bounds ∷ box) rest b (suc i) (suc (suc k)) h e = bounds-first columns (suc column) box rest b i k (omega arith) (omega arith) ∙ ap (λ (j : ℕ). Some (at_most (unit columns j) (get_or box i b).high)) (omega arith)

bounds-second : (columns column : ℕ) (box : List Bounds) (rest : List (Option Inequality)) (b : Bounds) (i k : ℕ) → i < length box → k ≡ 2 * i + 1 → get_or (column_bounds columns column box ++ rest) k None ≡ Some (at_least (unit columns (column + i)) (get_or box i b).low)
bounds-second columns column [] rest b i k h e = absurd (omega arith)
bounds-second columns column (bounds ∷ box) rest b zero zero h e = absurd (omega arith)
bounds-second columns column (bounds ∷ box) rest b zero (suc zero) h e = ap (λ (j : ℕ). Some (at_least (unit columns j) bounds.low)) (omega arith)
bounds-second columns column (bounds ∷ box) rest b zero (suc (suc k)) h e = absurd (omega arith)
bounds-second columns column (bounds ∷ box) rest b (suc i) zero h e = absurd (omega arith)
bounds-second columns column (bounds ∷ box) rest b (suc i) (suc zero) h e = absurd (omega arith)
bounds-second columns column (bounds ∷ box) rest b (suc i) (suc (suc k)) h e = bounds-second columns (suc column) box rest b i k (omega arith) (omega arith) ∙ ap (λ (j : ℕ). Some (at_least (unit columns j) (get_or box i b).low)) (omega arith)

bounds-past : (columns column : ℕ) (box : List Bounds) (rest : List (Option Inequality)) (j k : ℕ) → k ≡ 2 * length box + j → get_or (column_bounds columns column box ++ rest) k None ≡ get_or rest j None
bounds-past columns column [] rest j k e = ap (λ n. get_or rest n None) (omega arith)
bounds-past columns column (bounds ∷ box) rest j zero e = absurd (omega arith)
bounds-past columns column (bounds ∷ box) rest j (suc zero) e = absurd (omega arith)
bounds-past columns column (bounds ∷ box) rest j (suc (suc k)) e = bounds-past columns (suc column) box rest j k (omega arith)

-- ---- a node's

module _ (rows : WholeRows) (path : List Slice) (end : Option Inequality) where
  -- the upper side of a row
  pub number-row_upper : (i : ℕ) → i < length rows.rows → inequality_at rows path end (2 * i) ≡ option_map (at_most (row_at rows i).factors) (row_at rows i).high
  number-row_upper i h = pairs-first (λ (row : WholeRow). option_map (at_most row.factors) row.high) (λ (row : WholeRow). option_map (at_least row.factors) row.low) rows.rows _ (record { factors = []; low = None; high = None }) i (2 * i) h refl

  -- its lower side
  pub number-row_lower : (i : ℕ) → i < length rows.rows → inequality_at rows path end (2 * i + 1) ≡ option_map (at_least (row_at rows i).factors) (row_at rows i).low
  number-row_lower i h = pairs-second (λ (row : WholeRow). option_map (at_most row.factors) row.high) (λ (row : WholeRow). option_map (at_least row.factors) row.low) rows.rows _ (record { factors = []; low = None; high = None }) i (2 * i + 1) h refl

  -- the upper bound of a column
  pub number-bound_upper : (j : ℕ) → j < length rows.box → inequality_at rows path end (2 * length rows.rows + 2 * j) ≡ Some (at_most (unit (length rows.box) j) (bounds_at rows j).high)
  number-bound_upper j h = pairs-past (λ (row : WholeRow). option_map (at_most row.factors) row.high) (λ (row : WholeRow). option_map (at_least row.factors) row.low) rows.rows _ (2 * j) (2 * length rows.rows + 2 * j) refl ∙ bounds-first (length rows.box) 0 rows.box _ (record { low = pos 0; high = pos 0 }) j (2 * j) h refl ∙ ap (λ (k : ℕ). Some (at_most (unit (length rows.box) k) (bounds_at rows j).high)) (omega arith)

  -- its lower bound
  pub number-bound_lower : (j : ℕ) → j < length rows.box → inequality_at rows path end (2 * length rows.rows + 2 * j + 1) ≡ Some (at_least (unit (length rows.box) j) (bounds_at rows j).low)
  number-bound_lower j h = pairs-past (λ (row : WholeRow). option_map (at_most row.factors) row.high) (λ (row : WholeRow). option_map (at_least row.factors) row.low) rows.rows _ (2 * j + 1) (2 * length rows.rows + 2 * j + 1) (omega arith) ∙ bounds-second (length rows.box) 0 rows.box _ (record { low = pos 0; high = pos 0 }) j (2 * j + 1) h refl ∙ ap (λ (k : ℕ). Some (at_least (unit (length rows.box) k) (bounds_at rows j).low)) (omega arith)

  -- a slice is at most its value
  pub number-slice_upper : (e : ℕ) (d : Slice) → e < length path → inequality_at rows path end (2 * length rows.rows + 2 * length rows.box + 2 * e) ≡ Some (at_most (get_or path e d).form (get_or path e d).beta)
  number-slice_upper e d h = pairs-past (λ (row : WholeRow). option_map (at_most row.factors) row.high) (λ (row : WholeRow). option_map (at_least row.factors) row.low) rows.rows _ (2 * length rows.box + 2 * e) (2 * length rows.rows + 2 * length rows.box + 2 * e) (omega arith) ∙ bounds-past (length rows.box) 0 rows.box _ (2 * e) (2 * length rows.box + 2 * e) refl ∙ pairs-first (λ (slice : Slice). Some (at_most slice.form slice.beta)) (λ (slice : Slice). Some (at_least slice.form slice.beta)) path _ d e (2 * e) h refl

  -- a slice is at least its value
  pub number-slice_lower : (e : ℕ) (d : Slice) → e < length path → inequality_at rows path end (2 * length rows.rows + 2 * length rows.box + 2 * e + 1) ≡ Some (at_least (get_or path e d).form (get_or path e d).beta)
  number-slice_lower e d h = pairs-past (λ (row : WholeRow). option_map (at_most row.factors) row.high) (λ (row : WholeRow). option_map (at_least row.factors) row.low) rows.rows _ (2 * length rows.box + 2 * e + 1) (2 * length rows.rows + 2 * length rows.box + 2 * e + 1) (omega arith) ∙ bounds-past (length rows.box) 0 rows.box _ (2 * e + 1) (2 * length rows.box + 2 * e + 1) (omega arith) ∙ pairs-second (λ (slice : Slice). Some (at_most slice.form slice.beta)) (λ (slice : Slice). Some (at_least slice.form slice.beta)) path _ d e (2 * e + 1) h refl

  -- the end of a split
  pub number-end : inequality_at rows path end (2 * length rows.rows + 2 * length rows.box + 2 * length path) ≡ end
  number-end = pairs-past (λ (row : WholeRow). option_map (at_most row.factors) row.high) (λ (row : WholeRow). option_map (at_least row.factors) row.low) rows.rows _ (2 * length rows.box + 2 * length path) (2 * length rows.rows + 2 * length rows.box + 2 * length path) (omega arith) ∙ bounds-past (length rows.box) 0 rows.box _ (2 * length path) (2 * length rows.box + 2 * length path) refl ∙ pairs-past (λ (slice : Slice). Some (at_most slice.form slice.beta)) (λ (slice : Slice). Some (at_least slice.form slice.beta)) path _ 0 (2 * length path) (omega arith)

  -- past it there is none
  pub number-past : (m : ℕ) → inequality_at rows path end (2 * length rows.rows + 2 * length rows.box + 2 * length path + suc m) ≡ None
  number-past m = pairs-past (λ (row : WholeRow). option_map (at_most row.factors) row.high) (λ (row : WholeRow). option_map (at_least row.factors) row.low) rows.rows _ (2 * length rows.box + 2 * length path + suc m) (2 * length rows.rows + 2 * length rows.box + 2 * length path + suc m) (omega arith) ∙ bounds-past (length rows.box) 0 rows.box _ (2 * length path + suc m) (2 * length rows.box + 2 * length path + suc m) (omega arith) ∙ pairs-past (λ (slice : Slice). Some (at_most slice.form slice.beta)) (λ (slice : Slice). Some (at_least slice.form slice.beta)) path _ (suc m) (2 * length path + suc m) refl
