-- The pair system in whole numbers is the pair system.
use Rattle.std.proofs.Common.{◌≡◌, ℕ, zero, suc, ◌+◌, ◌*◌, ◌≤◌, ℤ, pos, negsuc, neg_ℤ, ◌*ℤ◌, List, [], ◌∷◌, ◌++◌, length, map, take, refl, sym, ap, ap₂, subst, ◌∙◌, arith, append_assoc, length-append}
use Rattle.std.specs.Prelude.{flat_map}
use Rattle.std.proofs.lemmas.List.{length-map, map-append, length-take}
use Rattle.std.proofs.lemmas.List.Concat.{flat_map-cons}
use Rattle.exact_math.specs.IntegerRing.{linear}
use Rattle.exact_math.specs.Rational.{ℚ, whole, neg_ℚ}
use Rattle.exact_math.specs.RationalRing.{rationals}
use Rattle.exact_math.specs.Ring.{integers}
use Rattle.exact_math.specs.RingLaws as Laws
use Rattle.exact_vectors.specs.Vectors.{negate, scale, zeros}
use Rattle.exact_vectors.specs.Matrices.{HasWidth, rows_of}
use Rattle.exact_vectors.specs.MatrixLaws as Matrix
use Rattle.spaces.specs.Tables.{Table, rows_in}
use Rattle.spaces.specs.TableLaws as Table
use Rattle.lp_dict.specs.Dictionaries.{none}
use Rattle.lp_dict.specs.Systems.{wholes, whole_rows, left_sides}
use Rattle.norm_gauge.specs.PairSystems.{row_on_first, row_on_second, differences, no_differences, pair_rows, pair_limits, pair_system, pair_form}
use Rattle.norm_gauge.specs.PairTables.{pair_row, difference_rows, pair_table, pair_sides}
use Rattle.norm_gauge.specs.Widths.{Polytope, first_rows, polytope_of}

-- ---- a row with a sign, as rational numbers

wholes-one : (row : List ℤ) → wholes (scale integers (pos 1) row) ≡ wholes row
wholes-one [] = refl
wholes-one (a ∷ row) = ap₂ (λ (x : ℤ) (l : List ℚ). whole x ∷ l) one (wholes-one row)
  where
    one : pos 1 *ℤ a ≡ a
    one = omega linear

wholes-zero : (row : List ℤ) → wholes (scale integers (pos 0) row) ≡ zeros rationals (length row)
wholes-zero [] = refl
wholes-zero (a ∷ row) = ap₂ (λ (x : ℤ) (l : List ℚ). whole x ∷ l) none_is (wholes-zero row)
  where
    none_is : pos 0 *ℤ a ≡ pos 0
    none_is = omega linear

whole-negsuc : (a : ℤ) → whole (negsuc 0 *ℤ a) ≡ neg_ℚ (whole a)
whole-negsuc a = ap whole minus ∙ Laws.literal_neg rationals a
  where
    minus : negsuc 0 *ℤ a ≡ neg_ℤ a
    minus = omega linear

pub wholes-negated : (row : List ℤ) → wholes (scale integers (negsuc 0) row) ≡ negate rationals (wholes row)
wholes-negated [] = refl
wholes-negated (a ∷ row) = ap₂ (λ (x : ℚ) (l : List ℚ). x ∷ l) (whole-negsuc a) (wholes-negated row)

-- the four kinds of rows
first-row : (n : ℕ) (row : List ℤ) → length row ≡ n → wholes (pair_row (pos 1) (pos 0) row) ≡ row_on_first n (wholes row)
first-row n row h = map-append whole (scale integers (pos 1) row) (scale integers (pos 0) row) ∙ ap₂ (λ a b. a ++ b) (wholes-one row) (wholes-zero row ∙ ap (zeros rationals) h)

second-row : (n : ℕ) (row : List ℤ) → length row ≡ n → wholes (pair_row (pos 0) (pos 1) row) ≡ row_on_second n (wholes row)
second-row n row h = map-append whole (scale integers (pos 0) row) (scale integers (pos 1) row) ∙ ap₂ (λ a b. a ++ b) (wholes-zero row ∙ ap (zeros rationals) h) (wholes-one row)

difference-row : (row : List ℤ) → wholes (pair_row (pos 1) (negsuc 0) row) ≡ wholes row ++ negate rationals (wholes row)
difference-row row = map-append whole (scale integers (pos 1) row) (scale integers (negsuc 0) row) ∙ ap₂ (λ a b. a ++ b) (wholes-one row) (wholes-negated row)

-- the form of the pair system is a row of this kind
pub form-row : (row : List ℤ) → wholes (pair_row (negsuc 0) (pos 1) row) ≡ pair_form (wholes row)
form-row row = map-append whole (scale integers (negsuc 0) row) (scale integers (pos 1) row) ∙ ap₂ (λ a b. a ++ b) (wholes-negated row) (wholes-one row)

-- ---- rows one after another

pub length-pair_row : (n : ℕ) (first second : ℤ) (row : List ℤ) → length row ≡ n → length (pair_row first second row) ≡ n + n
length-pair_row n first second row h = length-append (scale integers first row) (scale integers second row) ∙ ap₂ (λ a b. a + b) (Matrix.length-scale integers first row ∙ h) (Matrix.length-scale integers second row ∙ h)

length-rows : (n : ℕ) (first second : ℤ) (rows : List (List ℤ)) → HasWidth n rows → length (flat_map (pair_row first second) rows) ≡ length rows * (n + n)
length-rows n first second [] w = omega arith
length-rows n first second (row ∷ rows) w =
    rw flat_map-cons (length-append (pair_row first second row) (flat_map (pair_row first second) rows) ∙ ap₂ (λ a b. a + b) (length-pair_row n first second row w.0) (length-rows n first second rows w.1) ∙ next (length rows) (n + n))
  where
    next : (m k : ℕ) → k + m * k ≡ suc m * k
    next m k = omega arith

length-differences : (n : ℕ) (fixed : List (List ℤ)) → HasWidth n fixed → length (flat_map difference_rows fixed) ≡ (length fixed + length fixed) * (n + n)
length-differences n [] w = omega arith
length-differences n (row ∷ fixed) w =
    rw flat_map-cons (length-append (difference_rows row) (flat_map difference_rows fixed)
    ∙ ap₂ (λ a b. a + b) (length-append (pair_row (pos 1) (negsuc 0) row) (pair_row (negsuc 0) (pos 1) row) ∙ ap₂ (λ a b. a + b) (length-pair_row n (pos 1) (negsuc 0) row w.0) (length-pair_row n (negsuc 0) (pos 1) row w.0)) (length-differences n fixed w.1)
    ∙ next (length fixed) (n + n))
  where
    next : (m k : ℕ) → (k + k) + (m + m) * k ≡ (suc m + suc m) * k
    next m k = omega arith

-- one list of such rows as rational rows
rows-read : (n : ℕ) (first second : ℤ) (f : List ℚ → List ℚ) (rows : List (List ℤ)) → HasWidth n rows → ((row : List ℤ) → length row ≡ n → wholes (pair_row first second row) ≡ f (wholes row))
    → whole_rows (rows_of (n + n) (length rows) (flat_map (pair_row first second) rows)) ≡ map f (whole_rows rows)
rows-read n first second f [] w is = refl
rows-read n first second f (row ∷ rows) w is =
    ap (λ (l : List ℤ). whole_rows (rows_of (n + n) (suc (length rows)) l)) (flat_map-cons (pair_row first second) row rows)
    ∙ ap whole_rows (Table.rows_of-cons (n + n) (length rows) (pair_row first second row) (flat_map (pair_row first second) rows) (length-pair_row n first second row w.0))
    ∙ ap₂ (λ (a : List ℚ) (l : List (List ℚ)). a ∷ l) (is row w.0) (rows-read n first second f rows w.1 is)

-- the same of the differences
differences-read : (n : ℕ) (fixed : List (List ℤ)) → HasWidth n fixed → whole_rows (rows_of (n + n) (length fixed + length fixed) (flat_map difference_rows fixed)) ≡ differences (whole_rows fixed)
differences-read n [] w = refl
differences-read n (row ∷ fixed) w =
    let count : suc (length fixed) + suc (length fixed) ≡ suc (suc (length fixed + length fixed)) = omega arith in
    let rest : List ℤ = flat_map difference_rows fixed in
    let joined : flat_map difference_rows (row ∷ fixed) ≡ pair_row (pos 1) (negsuc 0) row ++ (pair_row (negsuc 0) (pos 1) row ++ rest) = flat_map-cons difference_rows row fixed ∙ append_assoc (pair_row (pos 1) (negsuc 0) row) (pair_row (negsuc 0) (pos 1) row) rest in
    ap₂ (λ (k : ℕ) (l : List ℤ). whole_rows (rows_of (n + n) k l)) count joined
    ∙ ap whole_rows (Table.rows_of-cons (n + n) (suc (length fixed + length fixed)) (pair_row (pos 1) (negsuc 0) row) (pair_row (negsuc 0) (pos 1) row ++ rest) (length-pair_row n (pos 1) (negsuc 0) row w.0)
    ∙ ap (λ (l : List (List ℤ)). pair_row (pos 1) (negsuc 0) row ∷ l) (Table.rows_of-cons (n + n) (length fixed + length fixed) (pair_row (negsuc 0) (pos 1) row) rest (length-pair_row n (negsuc 0) (pos 1) row w.0)))
    ∙ ap₂ (λ (a : List ℚ) (l : List (List ℚ)). a ∷ l) (difference-row row) (ap₂ (λ (a : List ℚ) (l : List (List ℚ)). a ∷ l) (form-row row) (differences-read n fixed w.1))

-- ---- the first rows of a matrix

HasWidth-take : (n i : ℕ) (rows : List (List ℤ)) → HasWidth n rows → HasWidth n (take i rows)
HasWidth-take n zero rows w = tt
HasWidth-take n (suc i) [] w = tt
HasWidth-take n (suc i) (row ∷ rows) w = (w.0, HasWidth-take n i rows w.1)

take-whole_rows : (i : ℕ) (rows : List (List ℤ)) → whole_rows (take i rows) ≡ take i (whole_rows rows)
take-whole_rows zero rows = refl
take-whole_rows (suc i) [] = refl
take-whole_rows (suc i) (row ∷ rows) = ap (λ (l : List (List ℚ)). wholes row ∷ l) (take-whole_rows i rows)

no_differences-zeros : (fixed : List (List ℚ)) → no_differences fixed ≡ zeros rationals (length fixed + length fixed)
no_differences-zeros [] = refl
no_differences-zeros (row ∷ fixed) =
    let count : suc (suc (length fixed + length fixed)) ≡ suc (length fixed) + suc (length fixed) = omega arith in
    ap (λ (l : List ℚ). none ∷ (none ∷ l)) (no_differences-zeros fixed) ∙ ap (zeros rationals) count

wholes-zeros : (n : ℕ) → wholes (zeros integers n) ≡ zeros rationals n
wholes-zeros zero = refl
wholes-zeros (suc n) = ap (λ (l : List ℚ). none ∷ l) (wholes-zeros n)

whole_wide : (n : ℕ) (rows : List (List ℤ)) → HasWidth n rows → HasWidth n (whole_rows rows)
whole_wide n [] w = tt
whole_wide n (row ∷ rows) w = (length-map row whole ∙ w.0, whole_wide n rows w.1)

module _ (t basis : Table ℤ) (i : ℕ) (size : length t.items ≡ t.rows * t.width) (basis_size : length basis.items ≡ basis.rows * basis.width) (width : basis.width ≡ t.width) (within : i ≤ basis.rows) where
  wide : HasWidth t.width (rows_in t)
  wide = Table.HasWidth-rows_in t size

  -- the rows on which the points agree
  pub fixed_wide : HasWidth t.width (take i (rows_in basis))
  fixed_wide = HasWidth-take t.width i (rows_in basis) (subst (λ n. HasWidth n (rows_in basis)) width (Table.HasWidth-rows_in basis basis_size))

  fixed_count : length (take i (rows_in basis)) ≡ i
  fixed_count = simp length-take (omega (arith, Table.length-rows_in basis))

  count : length (rows_in t) ≡ t.rows
  count = Table.length-rows_in t

  -- how many items each part has
  first_size : length (flat_map (pair_row (pos 1) (pos 0)) (rows_in t)) ≡ t.rows * (t.width + t.width)
  first_size = length-rows t.width (pos 1) (pos 0) (rows_in t) wide ∙ ap (λ m. m * (t.width + t.width)) count

  second_size : length (flat_map (pair_row (pos 0) (pos 1)) (rows_in t)) ≡ t.rows * (t.width + t.width)
  second_size = length-rows t.width (pos 0) (pos 1) (rows_in t) wide ∙ ap (λ m. m * (t.width + t.width)) count

  last_size : length (flat_map difference_rows (take i (rows_in basis))) ≡ (i + i) * (t.width + t.width)
  last_size = length-differences t.width (take i (rows_in basis)) fixed_wide ∙ ap (λ m. (m + m) * (t.width + t.width)) fixed_count

  -- the pair system has as many items as rows times the width
  pub pairs_size : length (pair_table t basis i).items ≡ (pair_table t basis i).rows * (pair_table t basis i).width
  pairs_size =
      length-append (flat_map (pair_row (pos 1) (pos 0)) (rows_in t)) (flat_map (pair_row (pos 0) (pos 1)) (rows_in t) ++ flat_map difference_rows (take i (rows_in basis)))
      ∙ ap₂ (λ a b. a + b) first_size (length-append (flat_map (pair_row (pos 0) (pos 1)) (rows_in t)) (flat_map difference_rows (take i (rows_in basis))) ∙ ap₂ (λ a b. a + b) second_size last_size)
      ∙ together t.rows (i + i) (t.width + t.width)
    where
      together : (m d k : ℕ) → m * k + (m * k + d * k) ≡ ((m + m) + d) * k
      together m d k = omega arith

  -- its rows
  pub pairs_rows : left_sides (pair_table t basis i) ≡ pair_rows t.width (left_sides t) (first_rows basis i)
  pairs_rows =
      let n : ℕ = t.width + t.width in
      let a : List ℤ = flat_map (pair_row (pos 1) (pos 0)) (rows_in t) in
      let b : List ℤ = flat_map (pair_row (pos 0) (pos 1)) (rows_in t) in
      let d : List ℤ = flat_map difference_rows (take i (rows_in basis)) in
      let bracketed : (t.rows + t.rows) + (i + i) ≡ t.rows + (t.rows + (i + i)) = omega arith in
      let parts : rows_of n (t.rows + (t.rows + (i + i))) (a ++ (b ++ d)) ≡ rows_of n t.rows a ++ (rows_of n t.rows b ++ rows_of n (i + i) d) =
      Table.rows_of-append n t.rows (t.rows + (i + i)) a (b ++ d) first_size ∙ ap (λ l. rows_of n t.rows a ++ l) (Table.rows_of-append n t.rows (i + i) b d second_size) in
      let first : whole_rows (rows_of n t.rows a) ≡ map (row_on_first t.width) (left_sides t) =
      ap (λ m. whole_rows (rows_of n m a)) (sym count) ∙ rows-read t.width (pos 1) (pos 0) (row_on_first t.width) (rows_in t) wide (first-row t.width) in
      let second : whole_rows (rows_of n t.rows b) ≡ map (row_on_second t.width) (left_sides t) =
      ap (λ m. whole_rows (rows_of n m b)) (sym count) ∙ rows-read t.width (pos 0) (pos 1) (row_on_second t.width) (rows_in t) wide (second-row t.width) in
      let last : whole_rows (rows_of n (i + i) d) ≡ differences (first_rows basis i) =
      ap (λ m. whole_rows (rows_of n (m + m) d)) (sym fixed_count) ∙ differences-read t.width (take i (rows_in basis)) fixed_wide ∙ ap differences (take-whole_rows i (rows_in basis)) in
      ap (λ m. whole_rows (rows_of n m (a ++ (b ++ d)))) bracketed ∙ ap whole_rows parts ∙ map-append wholes (rows_of n t.rows a) (rows_of n t.rows b ++ rows_of n (i + i) d)
      ∙ ap₂ (λ x y. x ++ y) first (map-append wholes (rows_of n t.rows b) (rows_of n (i + i) d) ∙ ap₂ (λ x y. x ++ y) second last)

  -- its right sides
  pub pairs_limits : (limits : List ℤ) → wholes (pair_sides limits i) ≡ pair_limits (wholes limits) (first_rows basis i)
  pairs_limits limits =
      let many : length (first_rows basis i) ≡ i = ap length (sym (take-whole_rows i (rows_in basis))) ∙ length-map (take i (rows_in basis)) wholes ∙ fixed_count in
      let ends : wholes (zeros integers (i + i)) ≡ no_differences (first_rows basis i) = wholes-zeros (i + i) ∙ ap (λ m. zeros rationals (m + m)) (sym many) ∙ sym (no_differences-zeros (first_rows basis i)) in
      map-append whole limits (limits ++ zeros integers (i + i)) ∙ ap (λ l. wholes limits ++ l) (map-append whole limits (zeros integers (i + i)) ∙ ap (λ l. wholes limits ++ l) ends)

  -- it is the pair system
  pub pairs_polytope : (limits : List ℤ) → polytope_of (pair_table t basis i) (pair_sides limits i) ≡ pair_system (polytope_of t limits) (first_rows basis i)
  pairs_polytope limits = ap₂ {C = Polytope} (λ (rows : List (List ℚ)) (sides : List ℚ). record { coordinates = t.width + t.width; rows = rows; limits = sides }) pairs_rows (pairs_limits limits)

  -- the rows on which the points agree have as many factors as coordinates
  pub first_rows-wide : HasWidth t.width (first_rows basis i)
  first_rows-wide = subst (HasWidth t.width) (take-whole_rows i (rows_in basis)) (whole_wide t.width (take i (rows_in basis)) fixed_wide)

  -- how many they are
  pub first_rows-count : length (first_rows basis i) ≡ i
  first_rows-count = ap length (sym (take-whole_rows i (rows_in basis))) ∙ length-map (take i (rows_in basis)) wholes ∙ fixed_count

  -- the rows of the system have too
  pub left_sides-wide : HasWidth t.width (left_sides t)
  left_sides-wide = whole_wide t.width (rows_in t) wide
