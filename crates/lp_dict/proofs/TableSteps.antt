-- The rows of the first dictionary.
use Rattle.std.proofs.Common.{◌≡◌, ℕ, zero, suc, ◌+◌, ◌*◌, ◌<◌, ◌≤◌, ℤ, pos, List, [], ◌∷◌, ◌++◌, length, get_or, set, take, refl, sym, ap, ap₂, subst, ◌∙◌, arith}
use Rattle.std.proofs.lemmas.List.{length-map, length-set, take_more, take_more_set, take_all}
use Rattle.exact_math.specs.Rational.{ℚ, whole}
use Rattle.exact_vectors.specs.Matrices.{rows_of}
use Rattle.exact_vectors.specs.FlatMatrixLaws.{length-rows_of, rows_of-at}
use Rattle.spaces.specs.Tables.{Table, row_at, with_row}
use Rattle.lp_dict.specs.Dictionaries.{none, numbers_from, slack_row, slack_rows, first_dictionary}
use Rattle.lp_dict.specs.Systems.{wholes, whole_rows, left_sides}
use Rattle.lp_dict.specs.Shapes.{dictionary_of, HasShape}
use Rattle.lp_dict.proofs.FlatSteps.{rows_of-with_row, length-with_row}
use Rattle.lp_dict.proofs.FirstSteps.{length-numbers_from}

-- the row of one slack
slack_rows-at : (rows : List (List ℤ)) (limits : List ℤ) (i : ℕ) → i < length rows → i < length limits → get_or (slack_rows (whole_rows rows) (wholes limits)) i [] ≡ slack_row (wholes (get_or rows i [])) (whole (get_or limits i (pos 0)))
slack_rows-at [] limits i h k = absurd (omega arith)
slack_rows-at (row ∷ rows) [] i h k = absurd (omega arith)
slack_rows-at (row ∷ rows) (limit ∷ limits) zero h k = refl
slack_rows-at (row ∷ rows) (limit ∷ limits) (suc i) h k = slack_rows-at rows limits i (omega arith) (omega arith)

-- how many they are
pub length-slack_rows : (rows : List (List ℚ)) (limits : List ℚ) → length limits ≡ length rows → length (slack_rows rows limits) ≡ length rows
length-slack_rows [] limits e = refl
length-slack_rows (row ∷ rows) [] e = absurd (omega arith)
length-slack_rows (row ∷ rows) (limit ∷ limits) e = ap suc (length-slack_rows rows limits (omega arith))

-- a row more
pub slack_rows_more : (table : Table ℚ) (rows : Table ℤ) (limits : List ℤ) (i : ℕ) (row : List ℚ) (factors : List ℤ) (limit : ℤ) → table.rows ≡ rows.rows + 1 → table.width ≡ rows.width + 1 → length table.items ≡ table.rows * table.width
    → length limits ≡ rows.rows → i < rows.rows → factors ≡ row_at rows i → limit ≡ get_or limits i (pos 0) → row ≡ slack_row (wholes factors) (whole limit) → length row ≡ table.width
    → take i (rows_of table.width table.rows table.items) ≡ take i (slack_rows (left_sides rows) (wholes limits))
    → take (i + 1) (rows_of table.width table.rows (with_row table i row).items) ≡ take (i + 1) (slack_rows (left_sides rows) (wholes limits))
slack_rows_more table rows limits i row factors limit height width size many h f l r long done =
    let ints : List (List ℤ) = rows_of rows.width rows.rows rows.items in
    let count : length ints ≡ rows.rows = length-rows_of rows.width rows.rows rows.items in
    let counted : length (left_sides rows) ≡ rows.rows = length-map ints wholes ∙ count in
    let limits_counted : length (wholes limits) ≡ length (left_sides rows) = length-map limits whole ∙ many ∙ sym counted in
    let place : i < table.rows = omega arith in
    let inside : i < length (rows_of table.width table.rows table.items) = omega (arith, length-rows_of table.width table.rows table.items) in
    let other : i < length (slack_rows (left_sides rows) (wholes limits)) = omega (arith, length-slack_rows (left_sides rows) (wholes limits) limits_counted) in
    let there : i < length ints = omega arith in
    let there_too : i < length limits = omega arith in
    let same : row ≡ get_or (slack_rows (left_sides rows) (wholes limits)) i [] = r ∙ ap₂ (λ x y. slack_row (wholes x) (whole y)) (f ∙ sym (rows_of-at rows.width rows.rows rows.items i [] h)) l ∙ sym (slack_rows-at ints limits i there there_too) in
    ap (take (i + 1)) (rows_of-with_row table i row size place long)
    ∙ take_more_set (rows_of table.width table.rows table.items) i row inside
    ∙ ap₂ (λ x y. x ++ y ∷ []) done same
    ∙ sym (take_more (slack_rows (left_sides rows) (wholes limits)) i [] other)

-- all of them
pub slack_rows_all : (table : Table ℚ) (rows : Table ℤ) (limits : List ℤ) (i : ℕ) → length limits ≡ rows.rows → rows.rows ≤ i → i ≤ rows.rows
    → take i (rows_of table.width table.rows table.items) ≡ take i (slack_rows (left_sides rows) (wholes limits)) → take rows.rows (rows_of table.width table.rows table.items) ≡ slack_rows (left_sides rows) (wholes limits)
slack_rows_all table rows limits i many low high done =
    let end : i ≡ rows.rows = omega arith in
    let counted : length (left_sides rows) ≡ rows.rows = length-map (rows_of rows.width rows.rows rows.items) wholes ∙ length-rows_of rows.width rows.rows rows.items in
    let limits_counted : length (wholes limits) ≡ length (left_sides rows) = length-map limits whole ∙ many ∙ sym counted in
    let few : length (slack_rows (left_sides rows) (wholes limits)) ≤ rows.rows = omega (arith, length-slack_rows (left_sides rows) (wholes limits) limits_counted) in
    subst (λ k. take k (rows_of table.width table.rows table.items) ≡ take k (slack_rows (left_sides rows) (wholes limits))) end done ∙ take_all rows.rows (slack_rows (left_sides rows) (wholes limits)) few

-- the form's row last
pub first_rows : (table : Table ℚ) (count : ℕ) (row : List ℚ) (slacks : List (List ℚ)) → table.rows ≡ count + 1 → length table.items ≡ table.rows * table.width → length row ≡ table.width
    → take count (rows_of table.width table.rows table.items) ≡ slacks → rows_of table.width table.rows (with_row table count row).items ≡ slacks ++ row ∷ []
first_rows table count row slacks height size long done =
    let place : count < table.rows = omega arith in
    let inside : count < length (rows_of table.width table.rows table.items) = omega (arith, length-rows_of table.width table.rows table.items) in
    let few : length (set (rows_of table.width table.rows table.items) count row) ≤ count + 1 = omega (arith, length-set (rows_of table.width table.rows table.items) count row, length-rows_of table.width table.rows table.items) in
    rows_of-with_row table count row size place long ∙ sym (take_all (count + 1) _ few) ∙ take_more_set (rows_of table.width table.rows table.items) count row inside ∙ ap (λ l. l ++ row ∷ []) done

-- the first dictionary
pub first_is : (table : Table ℚ) (rows : Table ℤ) (limits form : List ℤ) (count width : ℕ) (basic outside : List ℕ) (row : List ℚ) → count ≡ rows.rows → width ≡ rows.width → length form ≡ rows.width → table.rows ≡ rows.rows + 1 → length table.items ≡ table.rows * table.width → length row ≡ table.width
    → take rows.rows (rows_of table.width table.rows table.items) ≡ slack_rows (left_sides rows) (wholes limits) → basic ≡ numbers_from width count → outside ≡ numbers_from 0 width → row ≡ wholes form ++ none ∷ []
    → dictionary_of basic outside (with_row table count row) ≡ first_dictionary (left_sides rows) (wholes limits) (wholes form)
first_is table rows limits form count width basic outside row c w f height size long done b o r =
    let counted : length (left_sides rows) ≡ rows.rows = length-map (rows_of rows.width rows.rows rows.items) wholes ∙ length-rows_of rows.width rows.rows rows.items in
    let many : length (wholes form) ≡ rows.width = length-map form whole ∙ f in
    let b' : basic ≡ numbers_from (length (wholes form)) (length (left_sides rows)) = b ∙ ap₂ numbers_from (w ∙ sym many) (c ∙ sym counted) in
    let o' : outside ≡ numbers_from 0 (length (wholes form)) = o ∙ ap (numbers_from 0) (w ∙ sym many) in
    let written : rows_of table.width table.rows (with_row table count row).items ≡ slack_rows (left_sides rows) (wholes limits) ++ (wholes form ++ none ∷ []) ∷ []
    = first_rows table count row (slack_rows (left_sides rows) (wholes limits)) (height ∙ ap (λ n. n + 1) (sym c)) size long (ap (λ k. take k (rows_of table.width table.rows table.items)) c ∙ done) ∙ ap (λ l. slack_rows (left_sides rows) (wholes limits) ++ l ∷ []) r in
    cc (b', o', written)

-- its shape
pub first_shape : (table : Table ℚ) (rows : Table ℤ) (count width : ℕ) (basic outside : List ℕ) (row : List ℚ) → count ≡ rows.rows → width ≡ rows.width → table.rows ≡ rows.rows + 1 → table.width ≡ rows.width + 1 → length table.items ≡ table.rows * table.width → length row ≡ table.width
    → basic ≡ numbers_from width count → outside ≡ numbers_from 0 width → HasShape basic outside (with_row table count row)
first_shape table rows count width basic outside row c w height wide size long b o = record {
  height = height ∙ ap (λ n. n + 1) (sym c ∙ sym (ap length b ∙ length-numbers_from width count));
  width = wide ∙ ap (λ n. n + 1) (sym w ∙ sym (ap length o ∙ length-numbers_from 0 width));
  size = (let place : count < table.rows = omega arith in length-with_row table count row size place long) ∙ size;
}
