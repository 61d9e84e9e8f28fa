-- Which inequality has which number.
use Rattle.std.proofs.Common.{◌≡◌, ℕ, zero, suc, ◌+◌, ◌-◌, ◌*◌, ◌/◌, ◌%◌, ◌<◌, ◌≤◌, Bool, true, false, eqb, List, [], ◌∷◌, ◌++◌, length, get_or, pos, refl, ap, ◌∙◌, ⊎_elim, arith}
use Rattle.std.proofs.lemmas.Bool.{cases_eq}
use Rattle.std.specs.Prelude.{Option, Some, None, flat_map}
use Rattle.whole_rows.specs.declared.bounds.Bounds.{Bounds}
use Rattle.whole_rows.specs.WholeRows.{WholeRows, row_at, bounds_at}
use Rattle.farkas_rows.specs.declared.path.Slice.{Slice}
use Rattle.farkas_rows.specs.Inequalities.{Inequality, unit, column_bounds, inequality_at}
use Rattle.farkas_rows.specs.Sides.{side_of_form, side_of_row}

-- the second of each two is the lower side
abbrev pub is_lower : ℕ → Bool
is_lower number = eqb (number % 2) 1

-- a number of two more
step : (number : ℕ) → (suc (suc number) / 2 ≡ suc (number / 2)) × (is_lower (suc (suc number)) ≡ is_lower number)
step number = (omega arith, ap (λ (n : ℕ). eqb n 1) (omega arith))

module _ {X : Type 0} (s : X → Bool → Option Inequality) where
  -- the two sides of each
  abbrev pairs : List X → List (Option Inequality)
  pairs xs = flat_map (λ x. s x false ∷ s x true ∷ []) xs

  -- within the pairs
  pairs-at : (xs : List X) (rest : List (Option Inequality)) (number : ℕ) (d : X) → number / 2 < length xs → get_or (pairs xs ++ rest) number None ≡ s (get_or xs (number / 2) d) (is_lower number)
  pairs-at [] rest number d h = absurd (omega arith)
  pairs-at (x ∷ xs) rest zero d h = refl
  pairs-at (x ∷ xs) rest (suc zero) d h = refl
  pairs-at (x ∷ xs) rest (suc (suc number)) d h =
      let two = step number in
      rw (two.0, two.1) (pairs-at xs rest number d (omega (arith, two.0)))

  -- past them
  pairs-past : (xs : List X) (rest : List (Option Inequality)) (number : ℕ) → length xs ≤ number / 2 → get_or (pairs xs ++ rest) number None ≡ get_or rest (number - 2 * length xs) None
  pairs-past [] rest number h = ap (λ n. get_or rest n None) (omega arith)
  pairs-past (x ∷ xs) rest zero h = absurd (omega arith)
  pairs-past (x ∷ xs) rest (suc zero) h = absurd (omega arith)
  pairs-past (x ∷ xs) rest (suc (suc number)) h =
      let two = step number in
      pairs-past xs rest number (omega (arith, two.0)) ∙ ap (λ n. get_or rest n None) (omega arith)

-- within the bounds of the columns
columns-at : (columns column : ℕ) (box : List Bounds) (rest : List (Option Inequality)) (number : ℕ) (d : Bounds) → number / 2 < length box → get_or (column_bounds columns column box ++ rest) number None ≡ Some (side_of_form (unit columns (column + number / 2)) (get_or box (number / 2) d).low (get_or box (number / 2) d).high (is_lower number))
columns-at columns column [] rest number d h = absurd (omega arith)
columns-at columns column (b ∷ box) rest zero d h = ap (λ (c : ℕ). Some (side_of_form (unit columns c) b.low b.high false)) (omega arith)
columns-at columns column (b ∷ box) rest (suc zero) d h = ap (λ (c : ℕ). Some (side_of_form (unit columns c) b.low b.high true)) (omega arith)
columns-at columns column (b ∷ box) rest (suc (suc number)) d h =
    let two = step number in
    let next : suc column + number / 2 ≡ column + suc (number / 2) = omega arith in
    rw (two.0, two.1, ← next) (columns-at columns (suc column) box rest number d (omega (arith, two.0)))

-- past them
columns-past : (columns column : ℕ) (box : List Bounds) (rest : List (Option Inequality)) (number : ℕ) → length box ≤ number / 2 → get_or (column_bounds columns column box ++ rest) number None ≡ get_or rest (number - 2 * length box) None
columns-past columns column [] rest number h = ap (λ n. get_or rest n None) (omega arith)
columns-past columns column (b ∷ box) rest zero h = absurd (omega arith)
columns-past columns column (b ∷ box) rest (suc zero) h = absurd (omega arith)
columns-past columns column (b ∷ box) rest (suc (suc number)) h =
    let two = step number in
    columns-past columns (suc column) box rest number (omega (arith, two.0)) ∙ ap (λ n. get_or rest n None) (omega arith)

-- the two sides of a slice
abbrev side_of_slice : Slice → Bool → Option Inequality
side_of_slice slice lower = Some (side_of_form slice.form slice.beta slice.beta lower)

-- a number less a multiple of two
less : (number k : ℕ) → k ≤ number / 2 → ((number - 2 * k) / 2 ≡ number / 2 - k) × (is_lower (number - 2 * k) ≡ is_lower number)
less number k h = (omega arith, ap (λ (n : ℕ). eqb n 1) (omega arith))

-- ---- the numbers of a node

-- a row's
pub at_row : (rows : WholeRows) (path : List Slice) (end : Option Inequality) (number : ℕ) → number / 2 < length rows.rows → inequality_at rows path end number ≡ side_of_row (row_at rows (number / 2)) (is_lower number)
at_row rows path end number h = pairs-at side_of_row rows.rows _ number _ h

-- a column's
pub at_column : (rows : WholeRows) (path : List Slice) (end : Option Inequality) (number k : ℕ) → length rows.rows ≤ number / 2 → k ≡ number / 2 - length rows.rows → k < length rows.box → inequality_at rows path end number ≡ Some (side_of_form (unit (length rows.box) k) (bounds_at rows k).low (bounds_at rows k).high (is_lower number))
at_column rows path end number k past e h =
    let two = less number (length rows.rows) past in
    let here : (number - 2 * length rows.rows) / 2 ≡ k = omega (arith, two.0) in
    pairs-past side_of_row rows.rows _ number past ∙ columns-at (length rows.box) 0 rows.box _ (number - 2 * length rows.rows) (record { low = pos 0; high = pos 0 }) (omega (arith, here)) ∙ rw (here, two.1) (ap (λ (c : ℕ). Some (side_of_form (unit (length rows.box) c) (bounds_at rows k).low (bounds_at rows k).high (is_lower number))) (omega arith))

-- a slice's
pub at_slice : (rows : WholeRows) (path : List Slice) (end : Option Inequality) (number k : ℕ) (d : Slice) → length rows.rows + length rows.box ≤ number / 2 → k ≡ number / 2 - length rows.rows - length rows.box → k < length path → inequality_at rows path end number ≡ Some (side_of_form (get_or path k d).form (get_or path k d).beta (get_or path k d).beta (is_lower number))
at_slice rows path end number k d past e h =
    let one = less number (length rows.rows) (omega arith) in
    let two = less (number - 2 * length rows.rows) (length rows.box) (omega (arith, one.0)) in
    let here : (number - 2 * length rows.rows - 2 * length rows.box) / 2 ≡ k = omega (arith, one.0, two.0) in
    pairs-past side_of_row rows.rows _ number (omega arith)
    ∙ columns-past (length rows.box) 0 rows.box _ (number - 2 * length rows.rows) (omega (arith, one.0))
    ∙ pairs-at side_of_slice path _ (number - 2 * length rows.rows - 2 * length rows.box) d (omega (arith, here))
    ∙ rw (here, two.1, one.1) refl

-- past the slices only the end is left
pub past_slices : (rows : WholeRows) (path : List Slice) (end : Option Inequality) (number : ℕ) → length rows.rows + length rows.box + length path ≤ number / 2 → inequality_at rows path end number ≡ get_or (end ∷ []) (number - 2 * (length rows.rows + length rows.box + length path)) None
past_slices rows path end number past =
    let one = less number (length rows.rows) (omega arith) in
    let two = less (number - 2 * length rows.rows) (length rows.box) (omega (arith, one.0)) in
    pairs-past side_of_row rows.rows _ number (omega arith)
    ∙ columns-past (length rows.box) 0 rows.box _ (number - 2 * length rows.rows) (omega (arith, one.0))
    ∙ pairs-past side_of_slice path (end ∷ []) (number - 2 * length rows.rows - 2 * length rows.box) (omega (arith, one.0, two.0))
    ∙ ap (λ n. get_or (end ∷ []) n None) (omega arith)

-- what stands in a list of one
only : (end : Option Inequality) (n : ℕ) → 0 < n → get_or (end ∷ []) n None ≡ None
only end zero h = absurd (omega arith)
only end (suc n) h = refl

-- the end's
pub at_end : (rows : WholeRows) (path : List Slice) (end : Option Inequality) (number : ℕ) → length rows.rows + length rows.box + length path ≡ number / 2 → (number % 2 ≡ 1 → ⊥) → inequality_at rows path end number ≡ end
at_end rows path end number e even =
    let first : number - 2 * (length rows.rows + length rows.box + length path) ≡ 0 = omega arith in
    past_slices rows path end number (omega arith) ∙ ap (λ n. get_or (end ∷ []) n None) first

-- no other number has one
pub at_none : (rows : WholeRows) (path : List Slice) (end : Option Inequality) (number : ℕ) → length rows.rows + length rows.box + length path ≤ number / 2 → (length rows.rows + length rows.box + length path ≡ number / 2 → number % 2 ≡ 1) → inequality_at rows path end number ≡ None
at_none rows path end number past odd =
    let after : 0 < number - 2 * (length rows.rows + length rows.box + length path) =
    ⊎_elim
    (λ (e : length rows.rows + length rows.box + length path ≡ number / 2). let one = odd e in omega arith)
    (λ (apart : length rows.rows + length rows.box + length path ≡ number / 2 → ⊥). omega arith)
    (cases_eq (length rows.rows + length rows.box + length path) (number / 2))
    in
    past_slices rows path end number past ∙ only end _ after
