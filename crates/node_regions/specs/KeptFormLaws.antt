-- Forms over all columns and over those that presolving keeps.
use Rattle.std.proofs.Common.{◌≡◌, ◌≢◌, ℕ, zero, suc, ◌+◌, ◌<◌, ◌≤◌, Bool, true, false, ℤ, pos, ◌+ℤ◌, ◌*ℤ◌, List, [], ◌∷◌, ◌++◌, length, get_or, map, take, refl, sym, ap, ap₂, ◌∙◌, arith}
use Rattle.std.proofs.Math.Seq.{take-suc}
use Rattle.std.proofs.lemmas.List.{ext_get_or, get_or-set_other, get_or-set_same, length-replicate, map-append, take_all}
use Rattle.exact_math.specs.Ring.{integers}
use Rattle.exact_math.specs.IntegerRing.{linear}
use Rattle.exact_vectors.specs.Vectors.{dot, zeros}
use Rattle.exact_vectors.specs.Matrices.{HasWidth, column, combination}
use Rattle.exact_vectors.specs.DotLaws as Dot
use Rattle.exact_vectors.specs.MatrixLaws as Matrix
use Rattle.whole_rows.specs.declared.bounds.Bounds.{Bounds}
use Rattle.whole_rows.specs.WholeRows.{WholeRows}
use Rattle.farkas_rows.specs.Inequalities.{unit}
use Rattle.farkas_rows.specs.NodeLaws.{length-unit}
use Rattle.spaces.specs.Maps.{AffineMap, pulled_form}
use Rattle.farkas_lift.specs.Joined.{joined}
use Rattle.farkas_lift.specs.NodeEqualities.{work_form}
use Rattle.presolve_map.specs.Selections.{select, positions}
use Rattle.presolve_map.specs.Columns.{column_lines, kept, kept_columns, open_flags, IsColumnMap}
use Rattle.presolve_map.specs.ReducedRows.{ReducedRows, IsReduced}
use Rattle.presolve_map.proofs.KeptLaws.{length-flags, length-kept}

unit-same : (n j : ℕ) → j < n → get_or (unit n j) j (pos 0) ≡ pos 1
unit-same n j h = get_or-set_same (zeros integers n) j (pos 1) (pos 0) (omega (arith, length-replicate n (pos 0)))

unit-other : (n k j : ℕ) → j ≢ k → get_or (unit n k) j (pos 0) ≡ pos 0
unit-other n k j ne = get_or-set_other (zeros integers n) k j (pos 1) (pos 0) ne ∙ Matrix.zeros-at integers n j

-- ---- the columns of the map's lines

-- before the first place there is nothing
before : (width place : ℕ) (flags : List Bool) (form : List ℤ) (j : ℕ) → j < place → dot integers form (column integers (column_lines width place flags) j) ≡ pos 0
before width place [] form j h = Dot.dot-nil_right integers form
before width place (true ∷ flags) [] j h = refl
before width place (false ∷ flags) [] j h = refl
before width place (true ∷ flags) (a ∷ form) j h = zero_item a (get_or (unit width place) j (pos 0)) (dot integers form (column integers (column_lines width (suc place) flags) j)) (unit-other width place j (λ e. absurd (omega arith))) (before width (suc place) flags form j (omega arith))
  where
    zero_item : (a u rest : ℤ) → u ≡ pos 0 → rest ≡ pos 0 → (a *ℤ u) +ℤ rest ≡ pos 0
    zero_item a u rest e f = ap₂ (λ x y. (a *ℤ x) +ℤ y) e f ∙ omega linear
before width place (false ∷ flags) (a ∷ form) j h = zero_item a (get_or (zeros integers width) j (pos 0)) (dot integers form (column integers (column_lines width place flags) j)) (Matrix.zeros-at integers width j) (before width place flags form j h)
  where
    zero_item : (a u rest : ℤ) → u ≡ pos 0 → rest ≡ pos 0 → (a *ℤ u) +ℤ rest ≡ pos 0
    zero_item a u rest e f = ap₂ (λ x y. (a *ℤ x) +ℤ y) e f ∙ omega linear

-- from there on stand the factors of the columns that are kept
from_place : (width place : ℕ) (flags : List Bool) (form : List ℤ) (i : ℕ) → length form ≡ length flags → place + i < width → dot integers form (column integers (column_lines width place flags) (place + i)) ≡ get_or (select flags form) i (pos 0)
from_place width place [] [] i e h = refl
from_place width place [] (a ∷ form) i e h = absurd (omega arith)
from_place width place (flag ∷ flags) [] i e h = absurd (omega arith)
from_place width place (true ∷ flags) (a ∷ form) zero e h =
    let here : place + 0 ≡ place = omega arith in
    one_item a (get_or (unit width place) (place + 0) (pos 0)) (dot integers form (column integers (column_lines width (suc place) flags) (place + 0))) (ap (λ k. get_or (unit width place) k (pos 0)) here ∙ unit-same width place (omega arith)) (before width (suc place) flags form (place + 0) (omega arith))
  where
    one_item : (a u rest : ℤ) → u ≡ pos 1 → rest ≡ pos 0 → (a *ℤ u) +ℤ rest ≡ a
    one_item a u rest e f = ap₂ (λ x y. (a *ℤ x) +ℤ y) e f ∙ omega linear
from_place width place (true ∷ flags) (a ∷ form) (suc i) e h =
    let next : place + suc i ≡ suc place + i = omega arith in
    rest_item a (get_or (unit width place) (place + suc i) (pos 0)) (dot integers form (column integers (column_lines width (suc place) flags) (place + suc i))) (get_or (select flags form) i (pos 0)) (unit-other width place (place + suc i) (λ e. absurd (omega arith)))
    (ap (λ k. dot integers form (column integers (column_lines width (suc place) flags) k)) next ∙ from_place width (suc place) flags form i (omega arith) (omega arith))
  where
    rest_item : (a u rest x : ℤ) → u ≡ pos 0 → rest ≡ x → (a *ℤ u) +ℤ rest ≡ x
    rest_item a u rest x e f = ap₂ (λ y z. (a *ℤ y) +ℤ z) e f ∙ omega linear
from_place width place (false ∷ flags) (a ∷ form) i e h =
    rest_item a (get_or (zeros integers width) (place + i) (pos 0)) (dot integers form (column integers (column_lines width place flags) (place + i))) (get_or (select flags form) i (pos 0)) (Matrix.zeros-at integers width (place + i))
    (from_place width place flags form i (omega arith) h)
  where
    rest_item : (a u rest x : ℤ) → u ≡ pos 0 → rest ≡ x → (a *ℤ u) +ℤ rest ≡ x
    rest_item a u rest x e f = ap₂ (λ y z. (a *ℤ y) +ℤ z) e f ∙ omega linear

width-lines : (width place : ℕ) (flags : List Bool) → HasWidth width (column_lines width place flags)
width-lines width place [] = tt
width-lines width place (true ∷ flags) = (length-unit width place, width-lines width (suc place) flags)
width-lines width place (false ∷ flags) = (Matrix.length-zeros integers width, width-lines width place flags)

-- ---- forms

-- a form pulled back along the map of presolving has the factors of the columns that are kept
pub pulled-kept : (box : List Bounds) (placing : AffineMap) (form : List ℤ) → IsColumnMap box placing → length form ≡ length box → pulled_form placing form ≡ kept box form
pulled-kept box placing form is long =
    let width = length (kept_columns box) in
    let lines : List (List ℤ) = column_lines width 0 (open_flags box) in
    let flags : length form ≡ length (open_flags box) = long ∙ sym (length-flags box) in
    ap₂ (λ (n : ℕ) (rows : List (List ℤ)). combination integers n form rows) is.width is.lines
    ∙ ext_get_or (pos 0) (combination integers width form lines) (kept box form)
    (Matrix.length-combination integers width form lines (width-lines width 0 (open_flags box)) ∙ sym (length-kept box form long))
    (λ j lt.
    let below : j < width = omega (arith, Matrix.length-combination integers width form lines (width-lines width 0 (open_flags box))) in
    let place : j ≡ 0 + j = omega arith in
    Matrix.combination-at integers width form lines j (width-lines width 0 (open_flags box))
    ∙ ap (λ k. dot integers form (column integers (column_lines (length (kept_columns box)) 0 (open_flags box)) k)) place
    ∙ from_place width 0 (open_flags box) form j flags (omega arith))

-- the factors at the numbers of the flags that are set
selected : (form xs : List ℤ) (first : ℕ) (flags : List Bool) → ((k : ℕ) → get_or form (first + k) (pos 0) ≡ get_or xs k (pos 0)) → length xs ≡ length flags → map (λ c. get_or form c (pos 0)) (positions first flags) ≡ select flags xs
selected form xs first [] same long = refl
selected form [] first (flag ∷ flags) same long = absurd (omega arith)
selected form (x ∷ xs) first (true ∷ flags) same long =
    let here : first + 0 ≡ first = omega arith in
    ap₂ {A = ℤ} {B = List ℤ} {C = List ℤ} (λ z l. z ∷ l) (ap (λ k. get_or form k (pos 0)) (sym here) ∙ same 0) (selected form xs (suc first) flags (next same) (omega arith))
  where
    next : ((k : ℕ) → get_or form (first + k) (pos 0) ≡ get_or (x ∷ xs) k (pos 0)) → (k : ℕ) → get_or form (suc first + k) (pos 0) ≡ get_or xs k (pos 0)
    next same k = let there : suc first + k ≡ first + suc k = omega arith in ap (λ i. get_or form i (pos 0)) there ∙ same (suc k)
selected form (x ∷ xs) first (false ∷ flags) same long = selected form xs (suc first) flags (next same) (omega arith)
  where
    next : ((k : ℕ) → get_or form (first + k) (pos 0) ≡ get_or (x ∷ xs) k (pos 0)) → (k : ℕ) → get_or form (suc first + k) (pos 0) ≡ get_or xs k (pos 0)
    next same k = let there : suc first + k ≡ first + suc k = omega arith in ap (λ i. get_or form i (pos 0)) there ∙ same (suc k)

kept-columns : (box : List Bounds) (form : List ℤ) → length form ≡ length box → map (λ c. get_or form c (pos 0)) (kept_columns box) ≡ kept box form
kept-columns box form long = selected form form 0 (open_flags box) (λ k. ap (λ i. get_or form i (pos 0)) (omega arith)) (long ∙ sym (length-flags box))

-- the factors at numbers, one after another
joined-factors : (form : List ℤ) (numbers : List ℕ) (n : ℕ) → n ≤ length numbers → joined (λ j. get_or form (get_or numbers j 0) (pos 0) ∷ []) n ≡ map (λ c. get_or form c (pos 0)) (take n numbers)
joined-factors form numbers zero h = refl
joined-factors form numbers (suc n) h =
    ap (λ (l : List ℤ). l ++ get_or form (get_or numbers n 0) (pos 0) ∷ []) (joined-factors form numbers n (omega arith))
    ∙ sym (map-append (λ c. get_or form c (pos 0)) (take n numbers) (get_or numbers n 0 ∷ []))
    ∙ ap (map (λ c. get_or form c (pos 0))) (sym (take-suc numbers n 0 (omega arith)))

-- a form on the work columns has the factors of the columns that are kept
pub work_form-kept : (model : WholeRows) (work : ReducedRows) (form : List ℤ) → IsReduced model work → length form ≡ length model.box → work_form work form ≡ kept model.box form
work_form-kept model work form presolved long =
    let many : length work.rows.box ≡ length work.column_numbers = ap (λ (l : List Bounds). length l) presolved.box ∙ length-kept model.box model.box refl ∙ ap (λ (l : List ℕ). length l) (sym presolved.column_numbers) in
    joined-factors form work.column_numbers (length work.rows.box) (omega arith)
    ∙ ap (map (λ c. get_or form c (pos 0))) (take_all (length work.rows.box) work.column_numbers (omega arith) ∙ presolved.column_numbers)
    ∙ kept-columns model.box form long
